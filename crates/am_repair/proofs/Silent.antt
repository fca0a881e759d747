-- Who departs in a step sends nothing.
use Rattle.am_repair.proofs.RepairWords.{◌≡◌, ◌⊎◌, inl, inr, either, false, List, [], refl, sym, ap, ◌∙◌, Outcome, Letter, Status, BallotVerdict, StepResult, Node}
use Rattle.am_repair.proofs.RepairWords.{Ballot, node_with_report, has_departed, Cause, LooksAtBallot, Change, refreshes, settles, begins_list, departs, looks}
use Rattle.am_repair.proofs.RepairWords.{asks_to_join, closes, Effect, refresh_rests_with_list, end_refresh_rests_with_list, settle_changes_only_sends}
use Rattle.am_step_laws.specs.Looks.{finds_itself_out}
use Rattle.am_step_laws.specs.Courses.{IsPlainChange, PlainChangesInTurn, nothing_yet, used_report, and_then, ChangesWithLook, plainly, looked, EndOfStep, at_end}

abbrev Here : Node → Type 0
Here x = has_departed x.status ≡ false

here_change : (c : Cause) (o : Outcome) (x y : Node) (z : Change c o x y) → IsPlainChange z → Here x → Here y
here_change c o x y refreshes plain h = absurd plain
here_change c o x y settles plain h = ap (λ (n : Node). has_departed n.status) (settle_changes_only_sends x) ∙ h
here_change c o x y (begins_list s v base join image is says may) plain h = refl
here_change c o x y (departs s v number is heard leaves) plain h = absurd plain
here_change c o x y (looks b verdict over why look is) plain h = absurd plain
here_change c o x y (asks_to_join is was) plain h = refl
here_change c o x y (closes leads leaves alone room) plain h = absurd plain
here_change c o x y _ plain h = h

here_course : {c : Cause} {o : Outcome} (m x : Node) → PlainChangesInTurn c o m x → Here m → Here x
here_course m x nothing_yet h = h
here_course m x (used_report s v report brings may) h = ap has_departed (refresh_rests_with_list (node_with_report m s report)).rests.status ∙ h
here_course m x (and_then {n = y} course z plain) h = here_change _ _ y x z plain (here_course m y course h)

here_look : (x : Node) (b : Ballot) (v : BallotVerdict) → LooksAtBallot x b v → Here x → Here v.node
here_look x b v (finds_itself_out w) h = h
here_look x b v _ h = h

here_deeds : {c : Cause} {o : Outcome} (m x : Node) → ChangesWithLook c o m x → Here m → Here x
here_deeds m x (plainly course) h = here_course m x course h
here_deeds m x (looked {n = y} b verdict course over why look is) h = here_look y b verdict look (here_course m y course h)

pub step_sends_nothing_or_stays : {c : Cause} {o : Outcome} (m : Node) (letters : List Letter) (n : Node) → EndOfStep c o m letters n → Here m → (letters ≡ []) ⊎ Here n
step_sends_nothing_or_stays m letters n (at_end {x = x} deeds) h = inr (ap has_departed (end_refresh_rests_with_list x).rests.status ∙ here_deeds m x deeds h)
step_sends_nothing_or_stays m letters n _ h = inl refl

-- who is there after the step is who sent
pub sender_of_effect_is_node : (m : Node) (c : Cause) (step : StepResult) → (effect : Effect m c step) → Here step.node → effect.sender ≡ step.node
sender_of_effect_is_node m c step effect h = either effect.stays
    (λ same. sym (effect.is ∙ ap (λ (t : Status). record effect.sender { status = t }) same))
    (λ gone. absurd (let z = sym h ∙ ap has_departed gone in cc))
