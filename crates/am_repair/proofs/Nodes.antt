-- Nodes that differ in nothing that a calm world speaks of.
use Rattle.am_repair.proofs.RepairWords.{not-false, stamp_eq_gives_equality, ◌≡◌, ℕ, ◌≤◌, ◌==◌, ◌&&◌, true, false, Option, Some, None, refl, sym, ap, ◌∙◌, subst, arith}
use Rattle.am_repair.proofs.RepairWords.{nat_tests, stamps_are_equal, Log, image_of_log, Node, Ballot, view, acts_in_its_view, is_member, is_sequencer, is_unfinished_ballot}
use Rattle.am_repair.proofs.RepairWords.{refresh, settle_waiting_send, World, split_on_bool, both_of_and, Cause, calls, hears, refuses, HasOpenBallot, HasSameStanding, with_sends_of, refresh_rests_with_list}
use Rattle.am_repair.proofs.RepairWords.{settle_changes_only_sends, stamp_not_below_itself, NodeBallotFits, OpenBallotIsPromised, IsAtRest, Repair, IsCalm}
use Rattle.am_base.specs.declared.event.NodeEvent.TheVariants as does

-- ---- what makes nodes do steps in a schedule

-- a tick, or a letter of the schedule
abbrev pub CalmCause : Repair → World → Cause → Type 0
CalmCause r w (calls does.Tick) = Unit {0}
CalmCause r w (calls event) = ⊥
CalmCause r w (hears p) = IsCalm r w p
CalmCause r w refuses = Unit {0}

-- ---- who acts

pub acting_member_promised_its_view : (m : Node) → acts_in_its_view m ≡ true → (is_member m.status ≡ true) × (m.core.promise ≡ view m)
acting_member_promised_its_view m a = let both = both_of_and (is_member m.status) (stamps_are_equal m.core.promise (view m)) a in (both.0, stamp_eq_gives_equality m.core.promise (view m) both.1)

pub sequencer_acts_by_own_view : (m : Node) → is_sequencer m ≡ true → (acts_in_its_view m ≡ true) × ((view m).by ≡ m.core.who)
sequencer_acts_by_own_view m t = let both = both_of_and (acts_in_its_view m) ((view m).by == m.core.who) t in let own = both.1 in (both.0, grind (arith, nat_tests))

-- in another's view nobody leads
pub other_name_is_not_sequencer : (m : Node) (by : ℕ) → (view m).by ≡ by → (m.core.who == by) ≡ false → is_sequencer m ≡ true → ⊥
other_name_is_not_sequencer m by is other t = let own = (sequencer_acts_by_own_view m t).1 in let z : ⊥ = grind (arith, nat_tests) in z

-- who acts has no open ballot: that would be above its view, and promised
closed_ballot : (m : Node) (o : Option Ballot) → OpenBallotIsPromised m.core.who m.core.promise (view m) o → acts_in_its_view m ≡ true → is_unfinished_ballot o ≡ false
closed_ballot m None h a = refl
closed_ballot m (Some b) h a = split_on_bool b.is_over (λ t. rw t refl)
    (λ f. absurd (
    let o = h f in
    let same = sym o.promised ∙ (acting_member_promised_its_view m a).1 in
    let z = stamp_not_below_itself (view m) in cc))

pub acting_node_has_no_ballot : (m : Node) → NodeBallotFits m → acts_in_its_view m ≡ true → is_unfinished_ballot m.ballot ≡ false
acting_node_has_no_ballot m h a = closed_ballot m m.ballot h.opened a

pub finished_ballot_is_not_open : (m : Node) (b : Ballot) → HasOpenBallot m b → is_unfinished_ballot m.ballot ≡ false → ⊥
finished_ballot_is_not_open m b o h = let f = subst (λ x. is_unfinished_ballot x ≡ false) o.last h in let over = not-false b.is_over f in let open_ = o.open_ in cc

-- ---- alike

pub record NodesStandAlike (m n : Node) : Type 0 where
  pub same : HasSameStanding m n
  pub open same use *
  pub log : n.core.log ≡ m.core.log
  pub acc : m.core.acc ≤ n.core.acc
  pub taken : m.core.taken ≤ n.core.taken

pub nodes_stand_alike_by_parts : (m n : Node) → n.core.log ≡ m.core.log → n.core.who ≡ m.core.who → n.core.promise ≡ m.core.promise → n.status ≡ m.status
    → n.leaving ≡ m.leaving → n.ballot ≡ m.ballot → m.core.acc ≤ n.core.acc → m.core.taken ≤ n.core.taken → NodesStandAlike m n
nodes_stand_alike_by_parts m n a b d e f g acc taken = assumption (acc, taken)

pub refreshed_node_stands_alike : (m : Node) → NodesStandAlike m (refresh m)
refreshed_node_stands_alike m = let h = refresh_rests_with_list m in let r = h.rests in record { same = r.same; log = h.log; acc = r.acc; taken = r.taken }

pub settled_node_stands_alike : (m : Node) → NodesStandAlike m (settle_waiting_send m)
settled_node_stands_alike m = subst (NodesStandAlike m) (sym (settle_changes_only_sends m))
    (nodes_stand_alike_by_parts m (with_sends_of m (settle_waiting_send m)) refl refl refl refl refl refl (omega arith) (omega arith))

pub views_of_alike_nodes : {m n : Node} → NodesStandAlike m n → view n ≡ view m
views_of_alike_nodes h = ap (λ (l : Log). (image_of_log l).view) h.log

pub acts_of_alike_nodes : {m n : Node} → NodesStandAlike m n → acts_in_its_view n ≡ acts_in_its_view m
acts_of_alike_nodes {m} {n} h = λ i. is_member (h.status i) && stamps_are_equal (h.promise i) (views_of_alike_nodes h i)

pub is_sequencer_of_alike_nodes : {m n : Node} → NodesStandAlike m n → is_sequencer n ≡ is_sequencer m
is_sequencer_of_alike_nodes {m} {n} h = λ i. acts_of_alike_nodes h i && ((views_of_alike_nodes h i).by == h.who i)

pub alike_node_is_at_rest : {m n : Node} → NodesStandAlike m n → IsAtRest m → IsAtRest n
alike_node_is_at_rest h k = record { stays = h.leaving ∙ k.stays; no_ballot = ap is_unfinished_ballot h.ballot ∙ k.no_ballot }
