-- A caller's records are those of its calls, one after the other.
use Rattle.std.specs.Prelude.{ℕ, ◌+◌, ◌-◌, List, [], ◌∷◌, length, drop, take_while, Option, Some, None, is_some, Bool, true, false, not, ◌&&◌, ◌==◌, nat_lt}
use Rattle.std.specs.Prelude.{if◌then◌else◌}
use Rattle.std.specs.List.{list_all, list_any}
use Rattle.am_base.specs.declared.outcome.Outcome.{Outcome}
use Rattle.am_base.specs.Names.{place_of_name}
use Rattle.am_packet.specs.Boxes.{Letter}
use Rattle.am_group.specs.declared.event.Act.{Act}
use Rattle.am_group.specs.declared.event.Act.TheVariants as act
use Rattle.am_group.specs.declared.event.Record.{Record}
use Rattle.am_race_laws.specs.declared.answer.CallAnswer.{CallAnswer}
use Rattle.am_race_laws.specs.declared.answer.CallAnswer.TheVariants as answer
use Rattle.am_race_laws.specs.Tags.{is_own, is_turn_part, is_check}
use Rattle.am_race_laws.specs.Answers.{own_answer, answer_of, sent_request, is_take, is_end}
use Rattle.am_race_laws.specs.Ready.{round_in}

-- ---- one call

abbrev pub same_bytes : List ℕ → List ℕ → Bool
same_bytes [] [] = true
same_bytes (a ∷ more) (b ∷ others) = (a == b) && same_bytes more others
same_bytes _ _ = false

-- the acts that are calls
abbrev pub same_act : Act → Act → Bool
same_act (act.Send a) (act.Send b) = same_bytes a b
same_act act.Take act.Take = true
same_act act.Join act.Join = true
same_act act.Leave act.Leave = true
same_act (act.Reset a b) (act.Reset c d) = (a == c) && (b == d)
same_act act.Stop act.Stop = true
same_act _ _ = false

abbrev pub has_no_records : List Record → Bool
has_no_records [] = true
has_no_records (r ∷ rs) = false

-- what a call asks at its end
abbrev pub asks : Act → Outcome → List Letter → Act → Bool
asks (act.Send body) outcome letters (act.Done req) = req == sent_request outcome
asks act.Join outcome letters act.State = true
asks act.Leave outcome letters act.State = true
asks (act.Reset least resilience) outcome letters (act.Ask round) = round == round_in letters
asks _ outcome letters _ = false

abbrev pub checks : Record → Record → Bool
checks own r = is_check r.by.part && asks own.event.act own.outcome own.packets r.event.act

-- after a call's own act: so many turns at most, and then perhaps its check
unfoldable pub is_followed : ℕ → Record → List Record → Bool
is_followed turns own [] = true
is_followed turns own (r ∷ rs) = if is_turn_part r.by.part then nat_lt 0 turns && is_followed (turns - 1) own rs else checks own r && has_no_records rs

-- a receive: so many turns at most, and then perhaps its Take
unfoldable pub is_receive : ℕ → List Record → Bool
is_receive turns [] = true
is_receive turns (r ∷ rs) = if is_turn_part r.by.part then nat_lt 0 turns && is_receive (turns - 1) rs else is_own r.by.part
    && (is_take r.event.act && has_no_records rs)

-- another call: its own act, and nothing after it where that has an answer
abbrev pub is_other : ℕ → Act → List Record → Bool
is_other turns planned [] = true
is_other turns planned (own ∷ rs) =
    is_own own.by.part && (same_act planned own.event.act && (if is_some (own_answer planned own.outcome) then has_no_records rs else is_followed turns own rs))

abbrev pub is_one_call : ℕ → Act → List Record → Bool
is_one_call turns planned records = if is_take planned then is_receive turns records else is_other turns planned records

-- all at one place
abbrev pub at_one_place : List Record → Bool
at_one_place [] = true
at_one_place (r ∷ rs) = list_all (λ q. place_of_name q.event.node == place_of_name r.event.node) rs

-- ---- a caller

-- the records of the call of a number, which come first, and those after them
abbrev pub first_call : ℕ → List Record → List Record
first_call number records = take_while (λ r. r.by.call == number) records

abbrev pub records_behind : ℕ → List Record → List Record
records_behind number records = drop (length (first_call number records)) records

-- the records of the calls from a number on, one after the other
unfoldable pub are_calls : ℕ → ℕ → List Act → List Record → Bool
are_calls turns number [] records = has_no_records records
are_calls turns number (planned ∷ calls) records =
    is_one_call turns planned (first_call number records) && (at_one_place (first_call number records)
    && are_calls turns (number + 1) calls (records_behind number records))

abbrev pub is_callers : ℕ → List Act → List Record → Bool
is_callers turns calls records = are_calls turns 0 calls records

-- ---- a thread

-- a thread ends with an answer that its call used its turns for
abbrev pub is_last : CallAnswer → Bool
is_last (answer.Late turns) = true
is_last (answer.PutOff req base top) = true
is_last _ = false

-- by whether its node stopped, whether the call came to its end, and its answer: one without an answer came to no end, and is the last
abbrev pub caller_goes_on : Bool → Bool → Option CallAnswer → Bool → List Record → Bool
caller_goes_on stopped ended None others records = stopped && (not ended && has_no_records records)
caller_goes_on stopped ended (Some a) others records = if is_last a then has_no_records records else others

-- each call is finished, up to one that used its turns; only where the node stopped the thread may end before, at a call that came to no end
unfoldable pub are_finished : ℕ → Bool → ℕ → List Act → List Record → Bool
are_finished turns stopped number [] records = has_no_records records
are_finished turns stopped number (planned ∷ calls) records =
    caller_goes_on stopped (list_any is_end (first_call number records)) (answer_of turns (first_call number records))
    (are_finished turns stopped (number + 1) calls (records_behind number records)) (records_behind number records)
