-- In each run whoever is leaving has or had a list, and has no open ballot.
use Rattle.am_repair.proofs.RepairWords.{◌≡◌, ℕ, true, false, List, refl, sym, ap, ◌∙◌, Outcome, Rules, Event, Node, Ballot, has_log_by_status}
use Rattle.am_repair.proofs.RepairWords.{is_unfinished_ballot, BallotVerdict, run, Cause, LooksAtBallot, Change, refreshes, settles, begins_list, departs, promises, opens}
use Rattle.am_repair.proofs.RepairWords.{looks, asks_to_join, asks_to_leave, closes, refresh_rests_with_list, settle_changes_only_sends, welcomed_node_has_no_log}
use Rattle.am_step_laws.proofs.{Nodes.nodes_of_runs_keep, Rests.own_leave_rests, Tests.or_false_second_is_false}
use Rattle.am_step_laws.specs.Looks.{finds_itself_out}
use Rattle.am_repair.proofs.RepairLeading.{balloting_node_has_open_ballot}
use Rattle.am_repair.proofs.Nodes.{finished_ballot_is_not_open}
use Rattle.am_repair.proofs.Following.{overtake_without_open_ballot}

pub record LeaverHasLogNoBallot (m : Node) : Type 0 where
  pub log : has_log_by_status m.status ≡ true
  pub no_ballot : is_unfinished_ballot m.ballot ≡ false

abbrev pub LeavingNodeHasLogNoBallot : Node → Type 0
LeavingNodeHasLogNoBallot m = m.leaving ≡ true → LeaverHasLogNoBallot m

same_leaves : (x y : Node) → y.leaving ≡ x.leaving → y.status ≡ x.status → y.ballot ≡ x.ballot → LeavingNodeHasLogNoBallot x → LeavingNodeHasLogNoBallot y
same_leaves x y leaving status ballot h t =
    let k = h (sym leaving ∙ t) in
    record { log = ap has_log_by_status status ∙ k.log; no_ballot = ap is_unfinished_ballot ballot ∙ k.no_ballot }

looked_leaving : (x : Node) (b : Ballot) (v : BallotVerdict) → LooksAtBallot x b v → v.node.leaving ≡ x.leaving
looked_leaving x b v (finds_itself_out w) = refl
looked_leaving x b v _ = refl

change_leaves : {c : Cause} {o : Outcome} (x y : Node) → Change c o x y → LeavingNodeHasLogNoBallot x → LeavingNodeHasLogNoBallot y
change_leaves x y refreshes h = let r = (refresh_rests_with_list x).rests in same_leaves x y r.leaving r.status r.ballot h
change_leaves x y settles h = same_leaves x y (ap (λ (n : Node). n.leaving) (settle_changes_only_sends x)) (ap (λ (n : Node). n.status) (settle_changes_only_sends x))
    (ap (λ (n : Node). n.ballot) (settle_changes_only_sends x)) h
change_leaves x y (begins_list s v base join image is says may) h =
    λ t. absurd (let none = welcomed_node_has_no_log x s v base join image may in let log = (h t).log in cc)
change_leaves x y (departs s v number is heard leaves) h = λ t. record { log = refl; no_ballot = (h t).no_ballot }
change_leaves x y (promises v low why) h = λ t.
    (let same = overtake_without_open_ballot v x.ballot (h t).no_ballot in
    record { log = (h t).log; no_ballot = ap is_unfinished_ballot same ∙ (h t).no_ballot })
change_leaves x y (opens least resilience begins may) h = λ t. absurd (let f = may.stays in cc)
change_leaves {c = c} x y (looks b verdict over why look is) h = λ t. absurd
    (let k = balloting_node_has_open_ballot c x b why in finished_ballot_is_not_open x k.0 k.1 (h (sym (looked_leaving x b verdict look) ∙ t)).no_ballot)
change_leaves x y (asks_to_join is was) h = λ t. absurd (let log = (h t).log in cc)
change_leaves x y (asks_to_leave is was stays done) h = λ t. record { log = ap has_log_by_status was; no_ballot = or_false_second_is_false _ _ done }
change_leaves x y (closes leads leaves alone room) h =
    λ t. record { log = refl; no_ballot = ap is_unfinished_ballot (own_leave_rests x).ballot ∙ (h leaves).no_ballot }
change_leaves x y _ h = λ t. (let k = h t in record { log = k.log; no_ballot = k.no_ballot })

pub leavers_of_runs_have_log : (rules : Rules) (events : List Event) (name : ℕ) → LeavingNodeHasLogNoBallot ((run rules events).nodes name)
leavers_of_runs_have_log rules events name = nodes_of_runs_keep rules LeavingNodeHasLogNoBallot (record {
  founder_has = λ i t. absurd (cc);
  stranger_has = λ i t. absurd (cc);
  change_keeps = λ m n. change_leaves m n;
}) events name
