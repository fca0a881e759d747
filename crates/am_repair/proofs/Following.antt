-- What a member's changes keep while a schedule runs.
use Rattle.am_repair.proofs.RepairWords.{eqb-true, not-false, stamp_eq_gives_equality, ◌≡◌, ℕ, ◌+◌, ◌≤◌, ◌==◌, true, false, Option, Some, None, refl, sym, ap, ◌∙◌, subst}
use Rattle.am_repair.proofs.RepairWords.{arith, length-append, ◌≢◌, Stamp, Image, Entry, Data, Outcome, Log, top_of_log, image_of_log, log_entry_at, log_image_at, after}
use Rattle.am_repair.proofs.RepairWords.{image_at_next_number, Node, Ballot, top, image_of_node, is_sequencer, push_entry, is_unfinished_ballot, overtake_lower_ballot, node_with_promise, is_view}
use Rattle.am_repair.proofs.RepairWords.{bodies_after_stored_entry, World, Cause, hears, MayPromise, invited, overtaken_by, told_result, CarriesEntry, whole_entry, by_number}
use Rattle.am_repair.proofs.RepairWords.{Change, refreshes, settles, takes_report, admits, numbers, stores, begins_list, departs, promises, opens, looks}
use Rattle.am_repair.proofs.RepairWords.{fetches, stores_view, queues, collects, takes, asks_to_join, asks_to_leave, closes, image_of_pushed_entry, view_of_pushed_plain_entry, Packet}
use Rattle.am_repair.proofs.RepairWords.{acts_after_pushed_entry, Repair, FollowsView, SequencerHas}
use Rattle.am_repair.proofs.Nodes.{CalmCause, acting_member_promised_its_view, other_name_is_not_sequencer, finished_ballot_is_not_open, NodesStandAlike, nodes_stand_alike_by_parts, refreshed_node_stands_alike, settled_node_stands_alike, views_of_alike_nodes, acts_of_alike_nodes, alike_node_is_at_rest}
use Rattle.am_repair.proofs.RepairLists.{entry_at_is_within_log, after_data_of_any_body}
use Rattle.am_repair.proofs.RepairLeading.{no_ballot_begins_in_calm, balloting_node_has_open_ballot}
use Rattle.am_repair.proofs.RepairLeading.{acting_node_has_promised_view}

-- an entry that isn't the next above a number
abbrev pub CauseSkipsNumber : ℕ → Cause → Type 0
CauseSkipsNumber high (hears (Packet.Bcast s v base acc number e)) = number ≢ high + 1
CauseSkipsNumber high (hears (Packet.Order s v base acc number from req)) = number ≢ high + 1
CauseSkipsNumber high _ = Unit {0}

-- a member that was another node before, in a step of this cause
pub record MemberFollowsOn (r : Repair) (c : Cause) (q m x : Node) : Type 0 where
  pub who : x.core.who ≡ m.core.who
  pub follows : FollowsView r q x
  pub stored : top m ≤ top x
  pub taken : m.core.taken ≤ x.core.taken
  pub acc : m.core.acc ≤ x.core.acc
  pub skips : CauseSkipsNumber (top m) c → top x ≡ top m

follows_as : (r : Repair) (c : Cause) (q m x y : Node) → NodesStandAlike x y → MemberFollowsOn r c q m x → MemberFollowsOn r c q m y
follows_as r c q m x y a h =
    let f = h.follows in
    let same = ap (λ (l : Log). top_of_log l) a.log in
    let low = f.low in let within = f.within in let base = f.base in let reported = f.reported in let reached = f.reached in
    let stored = h.stored in let taken = h.taken in let acc = h.acc in
    let who = ap (λ k. (q.reports k).taken) a.who in
    record {
      who = a.who ∙ h.who;
      follows = record {
        acts_ = acts_of_alike_nodes a ∙ f.acts_;
        view_ = views_of_alike_nodes a ∙ f.view_;
        rest = alike_node_is_at_rest a f.rest;
        agrees = record {
          reached = omega arith;
          low = omega arith;
          within = omega arith;
          told_ = ap image_of_log a.log ∙ f.told_ ∙ ap (log_image_at q.core.log) (sym same);
          base = omega arith;
          reported = omega arith;
        };
      };
      stored = omega arith;
      taken = omega arith;
      acc = omega arith;
      skips = λ k. same ∙ h.skips k;
    }

-- it stores what comes next in the sequencer's list
follows_pushed : (r : Repair) (c : Cause) (q m x : Node) (e there : Entry) → (CauseSkipsNumber (top m) c → top x + 1 ≢ top m + 1) → is_view e ≡ false
    → log_entry_at q.core.log (top x + 1) ≡ Some there → ((image : Image) → after image (top x + 1) e ≡ after image (top x + 1) there)
    → MemberFollowsOn r c q m x → MemberFollowsOn r c q m (record (push_entry x e) { bodies = bodies_after_stored_entry x.bodies e })
follows_pushed r c q m x e there skips plain is same h =
    let f = h.follows in
    let low = f.low in let stored = h.stored in let reached = f.reached in
    let more : top (push_entry x e) ≡ top x + 1 = simp length-append (omega arith) in
    let within = (entry_at_is_within_log q.core.log (top x + 1) there is).1 in
    let next = image_at_next_number q.core.log (top x) there low is in
    let y = push_entry x e in
    let reached_ : r.at ≤ top y = omega arith in let low_ : q.core.log.start ≤ top y = omega arith in
    let within_ : top y ≤ top q = omega arith in let stored_ : top m ≤ top y = omega arith in
    let skips_ : CauseSkipsNumber (top m) c → top y ≡ top m = λ k. absurd (skips k (let same_top = h.skips k in omega arith)) in
    assumption (
      acts_after_pushed_entry x e plain ∙ f.acts_,
      view_of_pushed_plain_entry x e plain ∙ f.view_,
      image_of_pushed_entry x e ∙ same (image_of_node x) ∙ ap (λ (i : Image). after i (top x + 1) there) f.told_ ∙ sym next ∙ ap (log_image_at q.core.log) (sym more),
    )

-- what is carried stands above no number that it skips
carried_skips : (high : ℕ) (c : Cause) (x : Node) (s : ℕ) (v : Stamp) (base acc number : ℕ) (e : Entry) → CarriesEntry c x s v base acc number e → CauseSkipsNumber high c
    → number ≢ high + 1
carried_skips high c x s v base acc number e (whole_entry e_ is) k = subst (CauseSkipsNumber high) is k
carried_skips high c x s v base acc number e (by_number from req body is there) k = subst (CauseSkipsNumber high) is k

-- what is carried stands in the sequencer's list
carried : (r : Repair) (w : World) (c : Cause) (x : Node) (s : ℕ) (v : Stamp) (base acc number : ℕ) (e : Entry) → CalmCause r w c
    → CarriesEntry c x s v base acc number e
    → (there : Entry) × SequencerHas r w number there × ((image : Image) → after image number e ≡ after image number there)
carried r w c x s v base acc number e calm (whole_entry e_ is) = (e, subst (CalmCause r w) is calm, λ image. refl)
carried r w c x s v base acc number e calm (by_number from req body is there) =
    let k = subst (CalmCause r w) is calm in (Data from req k.0, k.1, λ image. after_data_of_any_body image number from req body k.0)

-- a promise of its own view changes nothing
pub overtake_without_open_ballot : (v : Stamp) (o : Option Ballot) → is_unfinished_ballot o ≡ false → overtake_lower_ballot v o ≡ o
overtake_without_open_ballot v None h = refl
overtake_without_open_ballot v (Some b) h = let over = not-false b.is_over h in rw over refl

promised_same : (r : Repair) (w : World) (c : Cause) (q x : Node) (v : Stamp) → CalmCause r w c → FollowsView r q x → MayPromise c x v → NodesStandAlike x (node_with_promise x v)
promised_same r w c q x v calm f (invited s v_ is heard own) = absurd (subst (CalmCause r w) is calm)
promised_same r w c q x v calm f (overtaken_by s v_ vote is heard above) = absurd (subst (CalmCause r w) is calm)
promised_same r w c q x v calm f (told_result s base number u is heard own other) =
    let same : v ≡ r.view = (subst (CalmCause r w) is calm) (eqb-true v.by s own) in
    let promise = same ∙ sym f.view_ ∙ sym (acting_member_promised_its_view x f.acts_).1 in
    nodes_stand_alike_by_parts x (node_with_promise x v) refl refl promise refl refl (overtake_without_open_ballot v x.ballot f.rest.no_ballot) (omega arith) (omega arith)

no_leader : (r : Repair) (c : Cause) (q m x : Node) → r.view.by ≡ r.by → (m.core.who == r.by) ≡ false → MemberFollowsOn r c q m x → is_sequencer x ≡ true → ⊥
no_leader r c q m x by other h t = other_name_is_not_sequencer x r.by (ap (λ (v : Stamp). v.by) h.follows.view_ ∙ by) (ap (λ k. k == r.by) h.who ∙ other) t

pub member_follows_on_by_change : (r : Repair) (w : World) (c : Cause) (o : Outcome) (m x y : Node) → r.view.by ≡ r.by → (m.core.who == r.by) ≡ false
    → CalmCause r w c → Change c o x y → MemberFollowsOn r c (w.nodes r.by) m x → MemberFollowsOn r c (w.nodes r.by) m y
member_follows_on_by_change r w c o m x y by other calm refreshes h = follows_as r c _ m x y (refreshed_node_stands_alike x) h
member_follows_on_by_change r w c o m x y by other calm settles h = follows_as r c _ m x y (settled_node_stands_alike x) h
member_follows_on_by_change r w c o m x y by other calm (takes_report s v report brings may) h = absurd (no_leader r c _ m x by other h may.leads)
member_follows_on_by_change r w c o m x y by other calm (admits s v is leads fit) h = absurd (no_leader r c _ m x by other h leads)
member_follows_on_by_change r w c o m x y by other calm (numbers e leads room why) h = absurd (no_leader r c _ m x by other h leads)
member_follows_on_by_change r w c o m x y by other calm (stores s v base acc number e carries heard plain may) h =
    let k = carried r w c x s v base acc number e calm carries in
    let next = may.next in
    follows_pushed r c _ m x e k.0 (λ skips same. carried_skips (top m) c x s v base acc number e carries skips (next ∙ same)) plain
    (subst (λ n. SequencerHas r w n k.0) next k.1) (subst (λ n. (image : Image) → after image n e ≡ after image n k.0) next k.2) h
member_follows_on_by_change r w c o m x y by other calm (begins_list s v base join image is says may) h = absurd
    (let a = (acting_member_promised_its_view x h.follows.acts_).0 in let b = may.no_member in cc)
member_follows_on_by_change r w c o m x y by other calm (departs s v number is heard leaves) h = absurd (let a = h.follows.rest.stays in cc)
member_follows_on_by_change r w c o m x y by other calm (promises v low why) h = follows_as r c _ m x y (promised_same r w c _ x v calm h.follows why) h
member_follows_on_by_change r w c o m x y by other calm (opens least resilience begins may) h = absurd (no_ballot_begins_in_calm r w c x calm begins)
member_follows_on_by_change r w c o m x y by other calm (looks b verdict over why look is) h = absurd
    (let k = balloting_node_has_open_ballot c x b why in finished_ballot_is_not_open x k.0 k.1 h.follows.rest.no_ballot)
member_follows_on_by_change r w c o m x y by other calm (fetches s v base number e is heard promise below why may) h = absurd
    (acting_node_has_promised_view x v h.follows.acts_ (stamp_eq_gives_equality v x.core.promise promise) below)
member_follows_on_by_change r w c o m x y by other calm (stores_view s base number v is heard own other_ promise below may) h = absurd
    (acting_node_has_promised_view x v.stamp h.follows.acts_ (sym promise) below)
member_follows_on_by_change r w c o m x y by other calm (queues body is says member stays few) h = absurd (subst (CalmCause r w) is calm)
member_follows_on_by_change r w c o m x y by other calm (collects req is) h = absurd (subst (CalmCause r w) is calm)
member_follows_on_by_change r w c o m x y by other calm (takes e is says member some there) h = absurd (subst (CalmCause r w) is calm)
member_follows_on_by_change r w c o m x y by other calm (asks_to_join is was) h = absurd (subst (CalmCause r w) is calm)
member_follows_on_by_change r w c o m x y by other calm (asks_to_leave is was stays done) h = absurd (subst (CalmCause r w) is calm)
member_follows_on_by_change r w c o m x y by other calm (closes leads leaves alone room) h = absurd (no_leader r c _ m x by other h leads)
member_follows_on_by_change r w c o m x y by other calm _ h = follows_as r c _ m x y
    (nodes_stand_alike_by_parts x y refl refl refl refl refl refl (omega arith) (omega arith)) h
