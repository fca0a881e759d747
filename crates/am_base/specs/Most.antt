-- The greatest numbers.
use Rattle.std.specs.Prelude.{ℕ}

-- of an entry, a round and a request
abbrev pub greatest_number : ℕ
greatest_number = 2000000000

-- of events in a run
abbrev pub most_events_of_run : ℕ
most_events_of_run = 100000

-- of entries above the base where one is numbered
abbrev pub greatest_window : ℕ
greatest_window = 1008

-- of bytes in a body
abbrev pub most_bytes_of_body : ℕ
most_bytes_of_body = 1024

-- of bytes in a packet
abbrev pub most_bytes_of_packet : ℕ
most_bytes_of_packet = 1152

-- of a number of 32 bits
abbrev pub greatest_word : ℕ
greatest_word = 4294967295
