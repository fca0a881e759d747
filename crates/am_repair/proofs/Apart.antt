-- What the changes of anybody else keep while a schedule runs.
use Rattle.am_repair.proofs.RepairWords.{eqb-true, ◌≡◌, ◌==◌, true, false, sym, ap, ◌∙◌, subst, Stamp, Outcome, Node, Ballot, view, is_member, is_sequencer}
use Rattle.am_repair.proofs.RepairWords.{has_departed, overtake_lower_ballot, World, Cause, HasOpenBallot, MayPromise, invited, overtaken_by, told_result, Change, refreshes}
use Rattle.am_repair.proofs.RepairWords.{settles, takes_report, admits, numbers, begins_list, departs, promises, opens, looks, queues, collects, takes}
use Rattle.am_repair.proofs.RepairWords.{asks_to_join, asks_to_leave, closes, Repair, IsApart}
use Rattle.am_repair.proofs.Nodes.{CalmCause, acting_member_promised_its_view, sequencer_acts_by_own_view, other_name_is_not_sequencer, NodesStandAlike, refreshed_node_stands_alike, settled_node_stands_alike}
use Rattle.am_repair.proofs.RepairLeading.{no_ballot_begins_in_calm, balloting_node_has_open_ballot}

-- somebody else that is there
pub record StaysApartFromRepair (r : Repair) (m x : Node) : Type 0 where
  pub who : x.core.who ≡ m.core.who
  pub there : has_departed x.status ≡ false
  pub apart : IsApart r x

apart_as : (r : Repair) (m x y : Node) → NodesStandAlike x y → StaysApartFromRepair r m x → StaysApartFromRepair r m y
apart_as r m x y a h = record {
  who = a.who ∙ h.who;
  there = ap has_departed a.status ∙ h.there;
  apart = record {
    no_ballot = a.ballot ∙ h.apart.no_ballot;
    stays = a.leaving ∙ h.apart.stays;
    promised = λ member. a.promise ∙ h.apart.promised (ap is_member (sym a.status) ∙ member);
  };
}

-- nobody of them leads: who acts is in another's view
no_leader : (r : Repair) (m x : Node) → r.view.by ≡ r.by → (m.core.who == r.by) ≡ false → StaysApartFromRepair r m x → is_sequencer x ≡ true → ⊥
no_leader r m x by other h t =
    let is = acting_member_promised_its_view x (sequencer_acts_by_own_view x t).0 in
    let view_ : (view x).by ≡ r.by = ap (λ (v : Stamp). v.by) (sym is.1 ∙ h.apart.promised is.0) ∙ by in
    other_name_is_not_sequencer x r.by view_ (ap (λ k. k == r.by) h.who ∙ other) t

not_open : (r : Repair) (m x : Node) → StaysApartFromRepair r m x → (b : Ballot) → HasOpenBallot x b → ⊥
not_open r m x h b o = let none = h.apart.no_ballot in let some = o.last in cc

promised_view : (r : Repair) (w : World) (c : Cause) (x : Node) (v : Stamp) → CalmCause r w c → MayPromise c x v → v ≡ r.view
promised_view r w c x v calm (invited s v_ is heard own) = absurd (subst (CalmCause r w) is calm)
promised_view r w c x v calm (overtaken_by s v_ vote is heard above) = absurd (subst (CalmCause r w) is calm)
promised_view r w c x v calm (told_result s base number u is heard own other) = (subst (CalmCause r w) is calm) (eqb-true v.by s own)

pub node_stays_apart_by_change : (r : Repair) (w : World) (c : Cause) (o : Outcome) (m x y : Node) → r.view.by ≡ r.by → (m.core.who == r.by) ≡ false → CalmCause r w c
    → Change c o x y → StaysApartFromRepair r m x → StaysApartFromRepair r m y
node_stays_apart_by_change r w c o m x y by other calm refreshes h = apart_as r m x y (refreshed_node_stands_alike x) h
node_stays_apart_by_change r w c o m x y by other calm settles h = apart_as r m x y (settled_node_stands_alike x) h
node_stays_apart_by_change r w c o m x y by other calm (takes_report s v report brings may) h = absurd (no_leader r m x by other h may.leads)
node_stays_apart_by_change r w c o m x y by other calm (admits s v is leads fit) h = absurd (no_leader r m x by other h leads)
node_stays_apart_by_change r w c o m x y by other calm (numbers e leads room why) h = absurd (no_leader r m x by other h leads)
node_stays_apart_by_change r w c o m x y by other calm (begins_list s v base join image is says may) h =
    assumption (subst (CalmCause r w) is calm)
node_stays_apart_by_change r w c o m x y by other calm (departs s v number is heard leaves) h = absurd (let a = h.apart.stays in cc)
node_stays_apart_by_change r w c o m x y by other calm (promises v low why) h =
    assumption (ap (overtake_lower_ballot v) h.apart.no_ballot, promised_view r w c x v calm why)
node_stays_apart_by_change r w c o m x y by other calm (opens least resilience begins may) h = absurd (no_ballot_begins_in_calm r w c x calm begins)
node_stays_apart_by_change r w c o m x y by other calm (looks b verdict over why look is) h = absurd (let k = balloting_node_has_open_ballot c x b why in not_open r m x h k.0 k.1)
node_stays_apart_by_change r w c o m x y by other calm (queues body is says member stays few) h = absurd (subst (CalmCause r w) is calm)
node_stays_apart_by_change r w c o m x y by other calm (collects req is) h = absurd (subst (CalmCause r w) is calm)
node_stays_apart_by_change r w c o m x y by other calm (takes e is says member some there) h = absurd (subst (CalmCause r w) is calm)
node_stays_apart_by_change r w c o m x y by other calm (asks_to_join is was) h = absurd (subst (CalmCause r w) is calm)
node_stays_apart_by_change r w c o m x y by other calm (asks_to_leave is was stays done) h = absurd (subst (CalmCause r w) is calm)
node_stays_apart_by_change r w c o m x y by other calm (closes leads leaves alone room) h = absurd (no_leader r m x by other h leads)
node_stays_apart_by_change r w c o m x y by other calm _ h =
    record { who = h.who; there = h.there; apart = record { no_ballot = h.apart.no_ballot; stays = h.apart.stays; promised = h.apart.promised } }
