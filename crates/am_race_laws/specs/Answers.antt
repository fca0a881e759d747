-- What a blocking call answers, by its records.
use Rattle.std.specs.Prelude.{ℕ, List, [], ◌∷◌, Option, Some, None, Bool, true, false, ◌==◌, ◌&&◌, ◌||◌, nat_le, if◌then◌else◌, count_by, fold}
use Rattle.std.specs.Prelude.{unwrap_or}
use Rattle.std.specs.List.{list_any}
use Rattle.am_base.specs.declared.outcome.Outcome.{Outcome}
use Rattle.am_base.specs.declared.outcome.Outcome.TheVariants as said
use Rattle.am_group.specs.declared.event.Act.{Act}
use Rattle.am_group.specs.declared.event.Act.TheVariants as act
use Rattle.am_group.specs.declared.event.Part.{Part}
use Rattle.am_group.specs.declared.event.Record.{Record}
use Rattle.am_race_laws.specs.declared.answer.CallAnswer.{CallAnswer}
use Rattle.am_race_laws.specs.declared.answer.CallAnswer.TheVariants as answer
use Rattle.am_race_laws.specs.Tags.{is_own, is_turn_part, is_check, own_of}

-- ---- outcomes that are answers

-- that refuses a call
abbrev pub refusal : Outcome → Option CallAnswer
refusal said.NotMember = Some answer.NotMember
refusal said.Leaving = Some answer.Leaving
refusal _ = None

-- of a ballot
abbrev pub ballot_answer : Outcome → Option CallAnswer
ballot_answer (said.Decided number members) = Some (answer.Decided number members)
ballot_answer (said.TooFew got least) = Some (answer.TooFew got least)
ballot_answer (said.Crowded base top) = Some (answer.Crowded base top)
ballot_answer (said.Overtaken by) = Some (answer.Overtaken by)
ballot_answer (said.NotIn best) = Some (answer.NotIn best)
ballot_answer outcome = refusal outcome

abbrev pub join_answer : Outcome → Option CallAnswer
join_answer (said.Joined number) = Some (answer.Joined number)
join_answer said.Departed = Some answer.NotMember
join_answer outcome = refusal outcome

abbrev pub leave_answer : Outcome → Option CallAnswer
leave_answer said.Departed = Some answer.Left
leave_answer (said.Busy queued) = Some (answer.Busy queued)
leave_answer outcome = refusal outcome

abbrev pub send_answer : Outcome → Option CallAnswer
send_answer (said.Sent req number) = Some (answer.Sent req number)
send_answer (said.Busy queued) = Some (answer.Busy queued)
send_answer outcome = refusal outcome

abbrev pub take_answer : Outcome → Option CallAnswer
take_answer (said.Took number entry) = Some (answer.Took number entry)
take_answer said.NotMember = Some answer.NotMember
take_answer _ = None

abbrev pub stop_answer : Outcome → Option CallAnswer
stop_answer said.Stopped = Some answer.StopDone
stop_answer _ = None

-- of a call's own act
unfoldable pub own_answer : Act → Outcome → Option CallAnswer
own_answer (act.Send body) = send_answer
own_answer act.Take = take_answer
own_answer act.Join = join_answer
own_answer act.Leave = leave_answer
own_answer (act.Reset least resilience) = ballot_answer
own_answer act.Stop = stop_answer
own_answer _ = λ outcome. None

-- that a leave goes on is no answer at its check
abbrev pub left_answer : Outcome → Option CallAnswer
left_answer said.Leaving = None
left_answer outcome = leave_answer outcome

-- of the check at a call's end, by the call's own act
unfoldable pub end_answer : Act → Outcome → Option CallAnswer
end_answer (act.Send body) = send_answer
end_answer act.Join = join_answer
end_answer act.Leave = left_answer
end_answer (act.Reset least resilience) = ballot_answer
end_answer _ = λ outcome. None

-- ---- the answer of a call

abbrev pub answer_or_else : Option CallAnswer → Option CallAnswer → Option CallAnswer
answer_or_else None other = other
answer_or_else (Some a) other = Some a

-- the request of a send
abbrev pub sent_request : Outcome → ℕ
sent_request (said.Queued req) = req
sent_request _ = 0

abbrev pub queued_request : Outcome → Option ℕ
queued_request (said.Queued req) = Some req
queued_request _ = None

abbrev pub request_of_act : Act → Outcome → Option ℕ
request_of_act (act.Send body) outcome = queued_request outcome
request_of_act _ outcome = None

-- the request of a send that was queued, by its own act
abbrev pub request_by : Option Record → Option ℕ
request_by None = None
request_by (Some own) = request_of_act own.event.act own.outcome

-- the sequencer had no room for this request
abbrev pub put_off_in : Option ℕ → Outcome → Option CallAnswer
put_off_in (Some req) (said.PutOff its base top) = if its == req then Some (answer.PutOff req base top) else None
put_off_in _ _ = None

-- a call that used its turns is put off by the last such outcome, and else late
abbrev pub late_after : Option ℕ → CallAnswer → Outcome → CallAnswer
late_after request late outcome = unwrap_or (put_off_in request outcome) late

abbrev pub late : ℕ → Option ℕ → List Record → CallAnswer
late turns request records = fold (λ a (r : Record). late_after request a r.outcome) (answer.Late turns) records

abbrev pub answer_in : Act → Record → Option CallAnswer
answer_in own r =
    if is_own r.by.part then own_answer r.event.act r.outcome
    else if is_check r.by.part then end_answer own r.outcome
    else None

-- the act of a call, which is a receive before it makes one
abbrev pub act_of_call : Option Record → Act
act_of_call None = act.Take
act_of_call (Some own) = own.event.act

abbrev pub first_answer : Act → List Record → Option CallAnswer
first_answer own [] = None
first_answer own (r ∷ rs) = answer_or_else (answer_in own r) (first_answer own rs)

abbrev pub is_take : Act → Bool
is_take act.Take = true
is_take _ = false

-- a call ends with its check, and a receive with its own act
abbrev pub is_end_of : Part → Act → Bool
is_end_of part a = is_check part || (is_own part && is_take a)

abbrev pub is_end : Record → Bool
is_end r = is_end_of r.by.part r.event.act

-- what the records of one call answer; None where it isn't finished
unfoldable pub answer_of : ℕ → List Record → Option CallAnswer
answer_of turns records =
    answer_or_else (first_answer (act_of_call (own_of records)) records)
    (if list_any is_end records && nat_le turns (count_by (λ r. is_turn_part r.by.part) records) then Some
    (late turns (request_by (own_of records)) records) else None)
