use Rattle.am_safety.proofs.RangeBytes.{letters_stay_packets, letters_stay_read, runs_stay_of_bytes, short_runs_stay_in_range}
use Rattle.am_safety.proofs.parts.letters_stay_packets.Goals as goal

pub returns : goal.returns
returns c = record { packets = letters_stay_packets; read = letters_stay_read; bytes = runs_stay_of_bytes; short = short_runs_stay_in_range }
