-- One change of a step after another, while none is a refresh: what is known within the step stays known.
use Rattle.am_refinement.proofs.Words.{◌≡◌, either, ℕ, ◌<◌, ◌≤◌, List, [], length, Some, slice_get, refl, sym, ap, subst, arith, append-nil, Outcome, Stamp, Rules}
use Rattle.am_refinement.proofs.Words.{name_of_view_is_byte, Group, Node, Ballot, view, lowest_name_or_zero, BallotVerdict, Decided, World, last_view_of, Cause, LooksAtBallot, finds_itself_out}
use Rattle.am_refinement.proofs.Words.{waits, fetches_from_best, finds_too_few, finds_no_room, decides, Change, refreshes, settles, begins_list, looks, unchanged}
use Rattle.am_refinement.proofs.Words.{changed, slice_get_after_push, settle_changes_only_sends, stamp_of, change_keeps_name, TrimsOnlyTakenAlongStep, changes_trim_only_taken, CauseCarriesSentBodies, change_keeps_sent_bodies, StandsBut, within, Needs}
use Rattle.am_refinement.proofs.Words.{after_change, after_look, SendsOnce, WasAsked, PlainChangesKeepStepping, IsPlainOnEnd, Next, NodeStandsKept, Stepping, ◌++◌, Option, None, true}
use Rattle.am_refinement.proofs.Words.{◌∙◌, IsBeginningOf, IsGoodList, is_stopped, NameStands, Reporting, LastStands, OwnTurn, OthersKeep}
use Rattle.am_step_laws.specs.Changes.{closes}
use Rattle.am_refinement.proofs.Carried.{changes_stand_as_moves}
use Rattle.am_refinement.proofs.Changes.{acting_name_stands}
use Rattle.am_refinement.proofs.Entries.{view_of_whole_list}
use Rattle.am_refinement.proofs.NodeKeeping.Keeping.{acting_name_may_move, each_change_has_its_needs, IsNoLastLeave}
use Rattle.am_refinement.proofs.NodeKeeping.Keeps.{plain_change_keeps_node}
use Rattle.am_refinement.proofs.Letters.{letters_stay_as_group_grows}
use Rattle.am_refinement.proofs.Onward.{GroupRunGoesOn, group_goes_on_by_moves}
use Rattle.am_refinement.proofs.Names.{take_of_longer_list}
use Rattle.am_refinement.proofs.NodeKeeping.Keeps.{trimmed_stands_as_group_grows, fetches_stand_as_group_grows}
use Rattle.am_refinement.proofs.{Reporting.reports_true_as_lists_grow, Shown.votes_stand_as_group_grows}
use Rattle.am_abstract_group.specs.Group as groups

-- ---- what a node keeps, while another name does a step, or stops

-- its list is the same, as its log is, and the group list only grows
list_same : (w v : World) (i : ℕ) (x : Node) (a b : groups.ChainNode) → NameStands w i x a → NameStands v i x b → IsBeginningOf w.group v.group → b.list ≡ a.list
list_same w v i x a b h k grows = k.list ∙ ap (λ l. l ++ x.core.log.entries) (take_of_longer_list x.core.log.start w.group v.group grows h.begins.within) ∙ sym h.list

last_stays : (w v : World) (ballot : Option Ballot) → ((j : ℕ) → is_stopped w j ≡ true → is_stopped v j ≡ true) → LastStands w ballot → LastStands v ballot
last_stays w v None stopped h = tt
last_stays w v (Some b) stopped h = record { given = λ j is. stopped j (h.given j is); names = λ j vote is. h.names j vote is }

-- in another world, where those that had stopped have stopped
pub node_keeps_as_others_stop : (w v : World) (s : Group) (i : ℕ) (x : Node) → ((j : ℕ) → is_stopped w j ≡ true → is_stopped v j ≡ true) → NodeStandsKept w s i x → NodeStandsKept v s i x
node_keeps_as_others_stop w v s i x stopped h = assumption (last_stays w v x.ballot stopped h.last)

pub other_nodes_keep_through_change : OthersKeep
other_nodes_keep_through_change w v s t i x stopped g h new grows k =
    let same = list_same w v i x (s.node i) (t.node i) h new grows in
    assumption (
      subst IsGoodList (sym same) k.good,
      votes_stand_as_group_grows s t x.ballot g k.votes,
      fetches_stand_as_group_grows w s t x.ballot g k.fetches,
      last_stays w v x.ballot stopped k.last,
      subst (λ l. Reporting t.node l x.core.base x.reports) (sym same)
          (reports_true_as_lists_grow s.node t.node (s.node i).list x.core.base x.reports (λ j. (g.each j).list) k.reports),
      trimmed_stands_as_group_grows w s t x.core.base g k.trimmed,
      subst (λ l. OwnTurn x.core.who l x.sends) (sym same) k.turn,
    )

-- ---- the world after a change: with the views that it noted

abbrev viewing : World → List Decided → World
viewing w views = record w { views = views }

asked_same : (w : World) (views : List Decided) (who req : ℕ) (body : List ℕ) → WasAsked (viewing w views) who req body → WasAsked w who req body
asked_same w views who req body k = record { index = k.index; done = k.done; there = k.there; is = k.is }

once_same : (w : World) (views : List Decided) → SendsOnce w → SendsOnce (viewing w views)
once_same w views h name req a b p q = h name req a b (asked_same w views name req a p) (asked_same w views name req b q)

looked_is : {m : Node} {b : Ballot} {v : BallotVerdict} (look : LooksAtBallot m b v) (w : World) → after_look look w ≡ viewing w (after_look look w).views
looked_is (finds_itself_out a) w = refl
looked_is _ w = refl

after_is : {c : Cause} {o : Outcome} {x y : Node} (z : Change c o x y) (w : World) → after_change z w ≡ viewing w (after_change z w).views
after_is (looks b verdict over why look is) w = looked_is look w
after_is _ w = refl

looked_noted : {m : Node} {b : Ballot} {v : BallotVerdict} (look : LooksAtBallot m b v) (w : World) → (view v.node).by < 256
    → ((k : ℕ) (d : Decided) → slice_get w.views k ≡ Some d → d.stamp.by < 256)
    → (k : ℕ) (d : Decided) → slice_get (after_look look w).views k ≡ Some d → d.stamp.by < 256
looked_noted (finds_itself_out a) w small h = h
looked_noted (waits a e) w small h = h
looked_noted (fetches_from_best a e f) w small h = h
looked_noted (finds_too_few a e) w small h = h
looked_noted (finds_no_room a) w small h = h
looked_noted {v = v} (decides may) w small h = λ k d is. either (slice_get_after_push w.views (last_view_of v.node) k d is)
    (λ z. h k d z)
    (λ z. subst (λ (q : Decided). q.stamp.by < 256) z.1 small)

noted_next : {c : Cause} {o : Outcome} {x y : Node} (z : Change c o x y) (w : World) → (view y).by < 256
    → ((k : ℕ) (d : Decided) → slice_get w.views k ≡ Some d → d.stamp.by < 256)
    → (k : ℕ) (d : Decided) → slice_get (after_change z w).views k ≡ Some d → d.stamp.by < 256
noted_next (looks b verdict over why look is) w small h = looked_noted look w small h
noted_next _ w small h = h

-- ---- how far its list is accepted

looked_acc : {m : Node} {b : Ballot} {v : BallotVerdict} (look : LooksAtBallot m b v) → v.node.core.acc ≡ m.core.acc
looked_acc (finds_itself_out a) = refl
looked_acc _ = refl

acc_next : (rules : Rules) (w : World) (name : ℕ) (c : Cause) (o : Outcome) (x y : Node) (s : Group) (z : Change c o x y) → IsPlainOnEnd z → Needs s name z
    → s.group ≡ w.group → x.core.acc ≤ length w.group → y.core.acc ≤ length w.group
acc_next rules w name c o x y s refreshes plain is group_ low = absurd plain
acc_next rules w name c o x y s settles plain is group_ low = (let same : y.core.acc ≡ x.core.acc = ap (λ (n : Node). n.core.acc) (settle_changes_only_sends x) in omega arith)
acc_next rules w name c o x y s (begins_list from v base join image was says_ may) plain is group_ low =
    (let most = is.within in let same = ap length group_ in omega arith)
acc_next rules w name c o x y s (looks b verdict over why look was) plain is group_ low = (let same = looked_acc look in omega arith)
acc_next rules w name c o x y s (closes leads leaves alone room) plain is group_ low = absurd plain
acc_next rules w name c o x y s _ plain is group_ low = low

-- a plain change ends nothing
no_close : {c : Cause} {o : Outcome} {x y : Node} (rules : Rules) (w : World) (name : ℕ) (s : Group) (h : Stepping rules w name c x s) (z : Change c o x y)
    → IsPlainOnEnd z → IsNoLastLeave rules w name c x s h z
no_close rules w name s h (closes leads leaves alone room) plain = absurd plain
no_close rules w name s h _ plain = tt

-- ---- one change

step_to : (rules : Rules) (w : World) (views : List Decided) (name : ℕ) (c : Cause) (o : Outcome) (x y : Node) (s t : Group) (z : Change c o x y) → IsPlainOnEnd z
    → (h : Stepping rules w name c x s) → CauseCarriesSentBodies w.records name o c → GroupRunGoesOn rules.founders (lowest_name_or_zero rules.founders) rules.resilience s t
    → StandsBut name (within (viewing w views) name y) t → ((k : ℕ) (d : Decided) → slice_get views k ≡ Some d → d.stamp.by < 256)
    → TrimsOnlyTakenAlongStep rules y → NodeStandsKept w t name y → Stepping rules (viewing w views) name c y t
step_to rules w views name c o x y s t z plain h sent_ on stands noted along keeps =
    let v = viewing w views in
    let g = on.grows in
    record {
      group = on.group_;
      stands = stands;
      by = h.by;
      who = change_keeps_name name x y z h.who;
      runs = h.runs;
      stopped = h.stopped;
      noted = noted;
      along = along;
      sent = change_keeps_sent_bodies w.records name c o x y sent_ z h.sent;
      once = once_same w views h.once;
      begun = λ p is. (let k = h.begun p is in let up = (g.each (stamp_of p).by).promise in let low = k.begun in
          record { small = k.small; begun = omega arith });
      heard = λ p is. (let k = h.heard p is in
          search (k.to, k, letters_stay_as_group_grows w v s t k.to p ([], sym (append-nil w.records)) g k.says));
      given = h.given;
      keeps = node_keeps_as_others_stop w (viewing w views) t name y (λ j z. z) keeps;
      accepted = acc_next rules w name c o x y s z plain (each_change_has_its_needs rules w name c x s h o y z (no_close rules w name s h z plain)) h.stands.group h.accepted;
    }

step_on : (rules : Rules) (w : World) (name : ℕ) (c : Cause) (o : Outcome) (x y : Node) (s : Group) (z : Change c o x y) → IsPlainOnEnd z
    → Stepping rules w name c x s → CauseCarriesSentBodies w.records name o c → Next rules w name c o x y s z
step_on rules w name c o x y s z plain h sent_ =
    let leads = changes_stand_as_moves w name c o x y s z (acting_name_may_move rules w name c x s h)
    (each_change_has_its_needs rules w name c x s h o y z (no_close rules w name s h z plain)) h.stands in
    let on = group_goes_on_by_moves rules.founders (lowest_name_or_zero rules.founders) rules.resilience s leads.to h.group leads.path in
    let along = changes_trim_only_taken rules x y h.names h.used (changed z unchanged) h.along in
    let same = after_is z w in
    let v = viewing w (after_change z w).views in
    let stands = subst (λ (q : World). StandsBut name (within q name y) leads.to) same leads.is.0 in
    let own = acting_name_stands v name y leads.to h.few stands in
    let keeps = plain_change_keeps_node rules w v name c o x y s leads.to z plain h on.grows on.group_ h.runs refl own along in
    let small = subst (λ (u : Stamp). u.by < 256) (view_of_whole_list v name y (leads.to.node name) own) (name_of_view_is_byte (leads.to.node name).list keeps.good) in
    let goes = subst (λ v. Stepping rules v name c y leads.to) (sym same)
    (step_to rules w (after_change z w).views name c o x y s leads.to z plain h sent_ on stands (noted_next z w small h.noted) along keeps) in
    search (leads.to, leads, on, goes, leads.is.1)

pub changes_keep_step_known : PlainChangesKeepStepping
changes_keep_step_known = step_on
