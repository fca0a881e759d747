-- What a sequencer knows of others to be taken, through a step that neither decides a view nor hears a request to join.
use Rattle.am_model.specs.Ballots.{decided_view}
use Rattle.am_repair.proofs.Repairable.RepairedWords.{◌≡◌, ℕ, ◌≤◌, ◌==◌, max, true, false, refl, sym, ap, ◌∙◌, subst, arith, nat_tests, Report, Leave, Outcome, Rules}
use Rattle.am_repair.proofs.Repairable.RepairedWords.{stamp_is_less, Node, Ballot, view, push_entry, BallotVerdict, trim_to_least_taken_by, need_set_without_given_up, need_set_of, split_on_bool, Cause, LooksAtBallot}
use Rattle.am_repair.proofs.Repairable.RepairedWords.{decides, Change, refreshes, settles, takes_report, admits, looks, stores_view, closes, Changes, unchanged, changed}
use Rattle.am_repair.proofs.Repairable.RepairedWords.{settle_changes_only_sends, refresh_rests_with_list, end_refresh_rests_with_list, stamp_not_below_itself, stamp_at_most_is_transitive, stamp_at_most_then_below, stamp_below_then_at_most, HeardStampsHaveNames, view_of_pushed_view}
use Rattle.am_repair.proofs.Repairable.RepairedWords.{NodeBallotFits, balloting_looks_at_open_ballot, HeardWelcomeImageIsUsed, TrimsOnlyTakenAlongStep, changes_trim_only_taken, CauseIsNoJoin, CauseReportsTaken, reported_taken_le_taken, refresh_keeps_reports_of_others, end_keeps_reports_of_others}
use Rattle.am_repair.proofs.Repairable.Came.{view_never_falls_by_change}

-- no more than before, or than was taken
abbrev Knew : (ℕ → Node) → Node → Node → Type 0
Knew nodes m y = (j : ℕ) → (j == m.core.who) ≡ false → (y.reports j).taken ≤ max (m.reports j).taken (nodes j).core.taken

pub data SequencerKnowsTaken (nodes : ℕ → Node) (m y : Node) : Type 0 where
  knew : y.core.who ≡ m.core.who → Knew nodes m y → SequencerKnowsTaken nodes m y
  anew : stamp_is_less (view m) (view y) ≡ true → SequencerKnowsTaken nodes m y

-- with reports that stay
same : (nodes : ℕ → Node) (x y : Node) → y.core.who ≡ x.core.who → ((j : ℕ) → (j == x.core.who) ≡ false → y.reports j ≡ x.reports j) → SequencerKnowsTaken nodes x y
same nodes x y who is = knew who (λ j other. let b = ap (λ (r : Report). r.taken) (is j other) in omega arith)

know_look : (nodes : ℕ → Node) (x : Node) (b : Ballot) (v : BallotVerdict) → LooksAtBallot x b v → stamp_is_less (view x) b.stamp ≡ true → SequencerKnowsTaken nodes x v.node
know_look nodes x b v (decides may) above =
    let is : view v.node ≡ b.stamp = view_of_pushed_view (trim_to_least_taken_by x b (need_set_without_given_up b (need_set_of x b))) (decided_view x b (need_set_without_given_up b (need_set_of x b))) in
    anew (ap (stamp_is_less (view x)) is ∙ above)
know_look nodes x b v _ above = same nodes x v.node refl (λ j other. refl)

know_change : (nodes : ℕ → Node) (c : Cause) (o : Outcome) (x y : Node) → CauseIsNoJoin c → CauseReportsTaken nodes c → NodeBallotFits x → Change c o x y → SequencerKnowsTaken nodes x y
know_change nodes c o x y none w k refreshes = same nodes x y ((refresh_rests_with_list x).rests.who) (refresh_keeps_reports_of_others x)
know_change nodes c o x y none w k settles = subst (SequencerKnowsTaken nodes x) (sym (settle_changes_only_sends x)) (same nodes x _ refl (λ j other. refl))
know_change nodes c o x y none w k (takes_report s v report brings may) =
    knew refl (λ j other. let a = reported_taken_le_taken nodes c s v report brings w in split_on_bool (j == s)
    (λ t. let e : j ≡ s = grind (arith, nat_tests) in rw (t, e) (omega arith))
    (λ f. rw f (omega arith)))
know_change nodes c o x y none w k (admits s v is leads fit) = absurd (none s v is)
know_change nodes c o x y none w k (looks b verdict over why look is) = know_look nodes x b verdict look (balloting_looks_at_open_ballot x b why k).open_.above
know_change nodes c o x y none w k (stores_view s base number v is heard own other promise below_ may) = same nodes x y refl (λ j other_. refl)
know_change nodes c o x y none w k (closes leads leaves alone room) =
    same nodes x y (end_refresh_rests_with_list (push_entry x (Leave x.core.who))).rests.who (end_keeps_reports_of_others (push_entry x (Leave x.core.who)))
know_change nodes c o x y none w k _ = same nodes x y refl (λ j other. refl)

then_know : (nodes : ℕ → Node) (m x y : Node) → stamp_is_less (view x) (view m) ≡ false → stamp_is_less (view y) (view x) ≡ false → SequencerKnowsTaken nodes m x → SequencerKnowsTaken nodes x y
    → SequencerKnowsTaken nodes m y
then_know nodes m x y low high (anew up) z = anew (stamp_below_then_at_most (view m) (view x) (view y) up high)
then_know nodes m x y low high (knew mine h) (anew up) = anew (stamp_at_most_then_below (view m) (view x) (view y) low up)
then_know nodes m x y low high (knew mine h) (knew his k) = knew (his ∙ mine) (λ j other.
    let o : (j == x.core.who) ≡ false = ap (λ i. j == i) mine ∙ other in
    omega arith)

know_along : (rules : Rules) (nodes : ℕ → Node) {c : Cause} {o : Outcome} (m x n : Node) → CauseIsNoJoin c → CauseReportsTaken nodes c → HeardStampsHaveNames c → HeardWelcomeImageIsUsed c
    → Changes c o x n → TrimsOnlyTakenAlongStep rules x → stamp_is_less (view x) (view m) ≡ false → SequencerKnowsTaken nodes m x → SequencerKnowsTaken nodes m n
know_along rules nodes m x n none w heard used unchanged a low h = h
know_along rules nodes m x n none w heard used (changed {n = y} one more) a low h =
    let up = view_never_falls_by_change x y a.blanked heard a.names a.balloted one in
    know_along rules nodes m y n none w heard used more (changes_trim_only_taken rules x y heard used (changed one unchanged) a)
    (stamp_at_most_is_transitive (view m) (view x) (view y) low up)
    (then_know nodes m x y low up h (know_change nodes _ _ x y none w a.balloted one))

pub sequencer_knows_taken_by_changes : (rules : Rules) (nodes : ℕ → Node) {c : Cause} {o : Outcome} (m n : Node) → CauseIsNoJoin c → CauseReportsTaken nodes c → HeardStampsHaveNames c → HeardWelcomeImageIsUsed c
    → Changes c o m n → TrimsOnlyTakenAlongStep rules m → SequencerKnowsTaken nodes m n
sequencer_knows_taken_by_changes rules nodes m n none w heard used all a =
    know_along rules nodes m m n none w heard used all a (stamp_not_below_itself (view m)) (same nodes m m refl (λ j other. refl))
