-- How messages are put together from the entries of a list, one entry after the other.
use Rattle.std.specs.Prelude.{◌≡◌, ◌↔◌, ℕ, ◌+◌, ◌-◌, List, [], ◌∷◌, ◌++◌, replicate, slice_set, slice_index_or, fold, Option, Some, None, Bool, false, ◌&&◌}
use Rattle.std.specs.Prelude.{◌==◌, if◌then◌else◌}
use Rattle.am_base.specs.Names.{place_of_name}
use Rattle.am_base.specs.declared.entry.Entry.{Entry}
use Rattle.am_base.specs.declared.entry.Entry.TheVariants.{Data, Join, Leave, View}
use Rattle.am_service_defs.specs.declared.fed.Fed.{Fed}
use Rattle.am_service_defs.specs.declared.fed.Fed.TheVariants as feds
use Rattle.am_service_defs.specs.Parts.{Part, part_in}
use Rattle.am_service_defs.specs.Messages.{message_at}

-- a message of which some parts came: whose it is, which part comes next, how many it has, and what came
pub record Begun : Type 0 where
  pub from : ℕ
  pub next : ℕ
  pub count : ℕ
  pub bytes : List ℕ

-- what a Data comes to: it is no part; it goes on with nothing; it is a part of a message that isn't all there; it ends a message
pub data Taken : Type 0 where
  plain : Taken
  passed : Taken
  part : Begun → Taken
  whole : List ℕ → Taken

-- with one part more, after these bytes
abbrev pub with_part : ℕ → Part → List ℕ → Taken
with_part from p bytes = if p.index + 1 == p.count then whole (bytes ++ p.payload)
    else part (record { from = from; next = p.index + 1; count = p.count; bytes = bytes ++ p.payload })

-- a part goes on with what had begun: it is of the same name and of as many parts, and comes next
abbrev pub awaits : Option Begun → ℕ → Part → Bool
awaits None from p = false
awaits (Some begun) from p = ((begun.from == from) && (begun.next == p.index)) && (begun.count == p.count)

abbrev pub bytes_begun : Option Begun → List ℕ
bytes_begun None = []
bytes_begun (Some begun) = begun.bytes

abbrev pub take_part : Option Begun → ℕ → Option Part → Taken
take_part begun from None = plain
take_part begun from (Some p) =
    if p.index == 0 then with_part from p [] else if awaits begun from p then with_part from p (bytes_begun begun) else passed

-- what a Data of a name comes to, after what had begun at its place
abbrev pub taken_with : Option Begun → ℕ → List ℕ → Taken
taken_with begun from body = take_part begun from (part_in body)

abbrev pub begun_by : Taken → Option Begun
begun_by (part begun) = Some begun
begun_by plain = None
begun_by passed = None
begun_by (whole message) = None

abbrev pub ended_by : ℕ → Taken → Option (ℕ × List ℕ)
ended_by from (whole message) = Some (from, message)
ended_by from plain = None
ended_by from passed = None
ended_by from (part begun) = None

-- the message that a Data ends
abbrev pub whole_in : Taken → Option (List ℕ)
whole_in (whole message) = Some message
whole_in plain = None
whole_in passed = None
whole_in (part begun) = None

abbrev pub fed_by : ℕ → Taken → Fed
fed_by from plain = feds.Plain from
fed_by from passed = feds.Passed from
fed_by from (part begun) = feds.Part from (begun.next - 1)
fed_by from (whole message) = feds.Whole from

-- ---- all places together

-- what had begun at each of sixteen places, and the message that the last entry ended
pub record Assembly : Type 0 where
  pub begun : List (Option Begun)
  pub ended : Option (ℕ × List ℕ)

-- before any entry
abbrev pub no_parts : Assembly
no_parts = record { begun = replicate 16 None; ended = None }

abbrev pub taken_at : Assembly → ℕ → List ℕ → Taken
taken_at a from body = taken_with (slice_index_or a.begun (place_of_name from) None) from body

-- after a Data of a name
abbrev pub after_data : Assembly → ℕ → Taken → Assembly
after_data a from taken = record { begun = slice_set a.begun (place_of_name from) (begun_by taken); ended = ended_by from taken }

-- after one entry more
unfoldable pub after_entry : Assembly → Entry → Assembly
after_entry a (Data from req body) = after_data a from (taken_at a from body)
after_entry a (Join name) = record a { ended = None }
after_entry a (Leave name) = record a { ended = None }
after_entry a (View v) = record a { ended = None }

-- what an entry came to
unfoldable pub fed_with : Assembly → Entry → Fed
fed_with a (Data from req body) = fed_by from (taken_at a from body)
fed_with a (Join name) = feds.Other
fed_with a (Leave name) = feds.Other
fed_with a (View v) = feds.Other

-- the message that the last entry ended, whoever sent it
abbrev pub message_in : Option (ℕ × List ℕ) → Option (List ℕ)
message_in None = None
message_in (Some message) = Some message.1

-- the message of a name that the last entry ended
abbrev pub ended_from : ℕ → Option (ℕ × List ℕ) → Option (List ℕ)
ended_from name None = None
ended_from name (Some message) = if message.0 == name then Some message.1 else None

-- after all entries of a list, the first first
abbrev pub assembled : List Entry → Assembly
assembled list = fold after_entry no_parts list

-- ---- what is claimed of it

-- it finds the messages of the definition, and no others
pub record FindsMessages (list : List Entry) : Type 0 where
  -- after a list it has the message that ends with the last entry
  pub ended : (assembled list).ended ≡ message_at list
  -- one entry more is answered as whole exactly where a message of that name ends with it
  pub whole : (e : Entry) (name : ℕ) → (fed_with (assembled list) e ≡ feds.Whole name)
      ↔ ((message : List ℕ) × (message_at (list ++ e ∷ []) ≡ Some (name, message)))

abbrev pub MessagesAssemble : Type 0
MessagesAssemble = (list : List Entry) → FindsMessages list
