-- What a leaver's changes keep while a schedule runs, once it has left the sequencer's list.
use Rattle.am_repair.proofs.RepairWords.{stamp_eq_gives_equality, both_of_and, ◌≡◌, ◌⊎◌, inr, ◌==◌, ◌&&◌, not, true, false, refl, sym, ap, ◌∙◌, subst, arith, nat_tests}
use Rattle.am_repair.proofs.RepairWords.{Stamp, Outcome, Entry, ℕ, Node, view, is_member, is_sequencer, has_log_by_status, is_unfinished_ballot, is_view, push_entry, World}
use Rattle.am_repair.proofs.RepairWords.{Cause, MayPromise, invited, overtaken_by, told_result, Change, refreshes, settles, takes_report, admits, numbers}
use Rattle.am_repair.proofs.RepairWords.{stores, begins_list, departs, promises, opens, looks, fetches, stores_view, queues, collects, takes, asks_to_join}
use Rattle.am_repair.proofs.RepairWords.{asks_to_leave, closes, welcomed_node_has_no_log, view_of_pushed_plain_entry, is_sequencer_after_pushed_entry, MayTellResult, leads, decided, Repair, IsLeaver, Status}
use Rattle.am_step_laws.specs.Changes.{MayStoreFetched, without_ballot, for_ballot}
use Rattle.am_repair.proofs.Nodes.{CalmCause, acting_member_promised_its_view, sequencer_acts_by_own_view, finished_ballot_is_not_open, NodesStandAlike, nodes_stand_alike_by_parts, refreshed_node_stands_alike, settled_node_stands_alike, views_of_alike_nodes, is_sequencer_of_alike_nodes}
use Rattle.am_repair.proofs.RepairLeading.{no_ballot_begins_in_calm, balloting_node_has_open_ballot}
use Rattle.am_repair.proofs.Following.{overtake_without_open_ballot}

-- a leaver that was another node before, which has promised nothing of its own since
pub record LeaverStaysLeft (r : Repair) (m x : Node) : Type 0 where
  pub who : x.core.who ≡ m.core.who
  pub left : IsLeaver r x
  pub promise : (x.core.promise ≡ m.core.promise) ⊎ ((x.core.promise.by == m.core.who) ≡ false)

pub leaver_is_not_sequencer : (r : Repair) (x : Node) → IsLeaver r x → is_sequencer x ≡ true → ⊥
leaver_is_not_sequencer r x h t = let is = sequencer_acts_by_own_view x t in h.tells (leads t) (ap (λ (v : Stamp). v.by) (acting_member_promised_its_view x is.0).1 ∙ is.1)

tells_as : (x y : Node) → NodesStandAlike x y → MayTellResult y → MayTellResult x
tells_as x y a (leads t) = leads (sym (is_sequencer_of_alike_nodes a) ∙ t)
tells_as x y a (decided b number names is answer same) = decided b number names (sym a.ballot ∙ is) answer (sym (views_of_alike_nodes a) ∙ same)

left_as : (r : Repair) (m x y : Node) → NodesStandAlike x y → LeaverStaysLeft r m x → LeaverStaysLeft r m y
left_as r m x y a h = record {
  who = a.who ∙ h.who;
  left = record {
    gone = ap r.gone a.who ∙ h.left.gone;
    leaves = a.leaving ∙ h.left.leaves;
    log = ap has_log_by_status a.status ∙ h.left.log;
    no_ballot = ap is_unfinished_ballot a.ballot ∙ h.left.no_ballot;
    tells = λ t mine. h.left.tells (tells_as x y a t) (ap (λ (v : Stamp). v.by) (sym a.promise) ∙ mine ∙ a.who);
  };
  promise = subst (λ (v : Stamp). (v ≡ m.core.promise) ⊎ ((v.by == m.core.who) ≡ false)) (sym a.promise) h.promise;
}

-- it stores an entry of its view
tells_pushed : (x y : Node) (e : Entry) → is_view e ≡ false → y.core ≡ (push_entry x e).core → y.status ≡ x.status → y.ballot ≡ x.ballot → MayTellResult y
    → MayTellResult x
tells_pushed x y e plain core status ballot (leads t) =
    leads (sym (is_sequencer_after_pushed_entry x e plain) ∙ subst (λ s. is_sequencer (record (push_entry x e) { status = s }) ≡ true) status
    (subst (λ c. is_sequencer (record y { core = c }) ≡ true) core t))
tells_pushed x y e plain core status ballot (decided b number names is answer same) = decided b number names (sym ballot ∙ is) answer
    (sym (view_of_pushed_plain_entry x e plain) ∙ subst (λ c. view (record y { core = c }) ≡ b.stamp) core same)

-- its promise is another's
raised : (r : Repair) (m x y : Node) → y.core.who ≡ x.core.who → y.leaving ≡ x.leaving → y.status ≡ x.status → is_unfinished_ballot y.ballot ≡ false
    → (y.core.promise.by == x.core.who) ≡ false → LeaverStaysLeft r m x → LeaverStaysLeft r m y
raised r m x y who leaving status ballot other h = record {
  who = who ∙ h.who;
  left = record {
    gone = ap r.gone who ∙ h.left.gone;
    leaves = leaving ∙ h.left.leaves;
    log = ap has_log_by_status status ∙ h.left.log;
    no_ballot = ballot;
    tells = λ t mine. (let same = mine ∙ who in let z : ⊥ = grind (arith, nat_tests) in z);
  };
  promise = inr (ap (λ k. y.core.promise.by == k) (sym h.who) ∙ other);
}

promised_other : (r : Repair) (w : World) (c : Cause) (x : Node) (v : Stamp) → CalmCause r w c → MayPromise c x v → (v.by == x.core.who) ≡ false
promised_other r w c x v calm (invited s v_ is heard own) = absurd (subst (CalmCause r w) is calm)
promised_other r w c x v calm (overtaken_by s v_ vote is heard above) = absurd (subst (CalmCause r w) is calm)
promised_other r w c x v calm (told_result s base number u is heard own other) = other

-- it fetches from another, without a ballot
fetched_other : (x : Node) (s : ℕ) (v : Stamp) (e : Entry) → MayStoreFetched x s v e → is_unfinished_ballot x.ballot ≡ false → (not (s == x.core.who) && is_member x.status) ≡ true
    → (v.by == x.core.who) ≡ false
fetched_other x s v e (without_ballot over by low) closed heard = let other = (both_of_and (not (s == x.core.who)) (is_member x.status) heard).0 in
    grind (arith, nat_tests)
fetched_other x s v e (for_ballot b open_ from low) closed heard = absurd (finished_ballot_is_not_open x b open_ closed)

-- who departs tells no more
gone_tells : (x : Node) → MayTellResult (record x { status = Status.Departed }) → MayTellResult x
gone_tells x (leads t) = absurd (cc)
gone_tells x (decided b number names is answer same) = decided b number names is answer same

pub leaver_stays_left_by_change : (r : Repair) (w : World) (c : Cause) (o : Outcome) (m x y : Node) → CalmCause r w c → Change c o x y → LeaverStaysLeft r m x → LeaverStaysLeft r m y
leaver_stays_left_by_change r w c o m x y calm refreshes h = left_as r m x y (refreshed_node_stands_alike x) h
leaver_stays_left_by_change r w c o m x y calm settles h = left_as r m x y (settled_node_stands_alike x) h
leaver_stays_left_by_change r w c o m x y calm (takes_report s v report brings may) h = absurd (leaver_is_not_sequencer r x h.left may.leads)
leaver_stays_left_by_change r w c o m x y calm (admits s v is leads_ fit) h = absurd (leaver_is_not_sequencer r x h.left leads_)
leaver_stays_left_by_change r w c o m x y calm (numbers e leads_ room why) h = absurd (leaver_is_not_sequencer r x h.left leads_)
leaver_stays_left_by_change r w c o m x y calm (stores s v base acc number e carries heard plain may) h =
    let tells : MayTellResult y → y.core.promise.by ≡ y.core.who → ⊥ = λ t mine. h.left.tells (tells_pushed x y e plain refl refl refl t) mine in
    assumption (tells)
leaver_stays_left_by_change r w c o m x y calm (begins_list s v base join image is says may) h =
    absurd (let none = welcomed_node_has_no_log x s v base join image may in let log = h.left.log in cc)
leaver_stays_left_by_change r w c o m x y calm (departs s v number is heard leaves) h =
    assumption (λ (t : MayTellResult (record x { status = Status.Departed })) (mine : x.core.promise.by ≡ x.core.who). h.left.tells (gone_tells x t) mine)
leaver_stays_left_by_change r w c o m x y calm (promises v low why) h =
    let same = overtake_without_open_ballot v x.ballot h.left.no_ballot in
    raised r m x y refl refl refl (ap is_unfinished_ballot same ∙ h.left.no_ballot) (promised_other r w c x v calm why) h
leaver_stays_left_by_change r w c o m x y calm (opens least resilience begins may) h = absurd (no_ballot_begins_in_calm r w c x calm begins)
leaver_stays_left_by_change r w c o m x y calm (looks b verdict over why look is) h = absurd
    (let k = balloting_node_has_open_ballot c x b why in finished_ballot_is_not_open x k.0 k.1 h.left.no_ballot)
leaver_stays_left_by_change r w c o m x y calm (fetches s v base number e is heard promise below why may) h =
    let same = stamp_eq_gives_equality v x.core.promise promise in
    raised r m x y refl refl refl h.left.no_ballot (ap (λ (u : Stamp). u.by == x.core.who) (sym same) ∙ fetched_other x s v e why h.left.no_ballot heard) h
leaver_stays_left_by_change r w c o m x y calm (stores_view s base number v is heard own other promise below may) h =
    raised r m x y refl refl refl h.left.no_ballot (ap (λ (u : Stamp). u.by == x.core.who) promise ∙ other) h
leaver_stays_left_by_change r w c o m x y calm (queues body is says member stays few) h = absurd (subst (CalmCause r w) is calm)
leaver_stays_left_by_change r w c o m x y calm (collects req is) h = absurd (subst (CalmCause r w) is calm)
leaver_stays_left_by_change r w c o m x y calm (takes e is says member some there) h = absurd (subst (CalmCause r w) is calm)
leaver_stays_left_by_change r w c o m x y calm (asks_to_join is was) h = absurd (subst (CalmCause r w) is calm)
leaver_stays_left_by_change r w c o m x y calm (asks_to_leave is was stays done) h = absurd (subst (CalmCause r w) is calm)
leaver_stays_left_by_change r w c o m x y calm (closes leads_ leaves alone room) h = absurd (leaver_is_not_sequencer r x h.left leads_)
leaver_stays_left_by_change r w c o m x y calm _ h = left_as r m x y (nodes_stand_alike_by_parts x y refl refl refl refl refl refl (omega arith) (omega arith)) h
