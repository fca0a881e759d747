-- What the ticks of a round bring about: a poll, and reports.
use Rattle.am_repair.proofs.RepairWords.{◌≡◌, ℕ, ◌+◌, ◌≤◌, ◌==◌, true, false, length, sym, ap, ◌∙◌, subst, arith, Contains, Stamp, Image, Rules, place_of_name, has}
use Rattle.am_repair.proofs.RepairWords.{members_of_image, log_members_at, Letter, letter_to, Event, is_for, letter_at, Node, top, view, members, other_members, Act}
use Rattle.am_repair.proofs.RepairWords.{is_sequencer, own_report_of, StepResult, accept_packet_of, step, event_at, running_places, ticks_of_places, World, is_stopped, world_with_step, happens, world_after_events}
use Rattle.am_repair.proofs.RepairWords.{split_on_bool, PacketIsReport, Repair, LeadsCalmly, FollowsView, IsSentAfter, Polled, Reported, IsOurs, our_ticks}
use Rattle.am_base.specs.declared.event.NodeEvent.TheVariants as does
use Rattle.am_repair.proofs.Fine.{WorldKeepsLawsAndCalm, member_of_repair_is_small, laws_and_calm_stay, world_grows_by_own_event, letter_stays_after_event, letters_grow_by_event, NameRunsNow, member_of_repair_runs_now, tick_of_running_name_steps, letter_sent_at_number, contained_letter_has_index}
use Rattle.am_repair.proofs.Fine.{node_after_own_step}
use Rattle.am_repair.proofs.Sets.{set_with_name_not_empty, without_name_has_others}
use Rattle.am_repair.proofs.Nodes.{acting_member_promised_its_view, sequencer_acts_by_own_view, other_name_is_not_sequencer}
use Rattle.am_repair.proofs.RepairLeading.{repair_member_is_member_now}
use Rattle.am_repair.proofs.Ticks.{sequencers_poll}
use Rattle.am_repair.proofs.Ticks.{members_report}
use Rattle.am_repair.proofs.Schedules.{IsInListOfPlaces, ActBringsProperty, acts_bring_property, running_place_is_in_list}

-- ---- letters stay

pub letter_stays_sent_by_event : (w : World) (e : Event) (after name : ℕ) (l : Letter) → IsSentAfter w after name l → IsSentAfter (happens w e) after name l
letter_stays_sent_by_event w e after name l h = record { number = h.number; late = h.late; there = letter_stays_after_event w e h.number l h.there; meant = h.meant }

polled_goes : (r : Repair) (i after accepted : ℕ) (w : World) (e : Event) → Polled r i after accepted w → Polled r i after accepted (happens w e)
polled_goes r i after accepted w e h = record { letter = h.letter; sent = letter_stays_sent_by_event w e after i h.letter h.sent; polls = h.polls }

reported_goes : (r : Repair) (i after stored : ℕ) (w : World) (e : Event) → Reported r i after stored w → Reported r i after stored (happens w e)
reported_goes r i after stored w e h = record { letter = h.letter; sent = letter_stays_sent_by_event w e after r.by h.letter h.sent; reports = h.reports }

-- a letter of a step that an event is
pub letter_of_step_is_sent : (w : World) (e : Event) (name other after : ℕ) (s : StepResult) (l : Letter) → happens w e ≡ world_with_step w e name s → Contains s.letters l
    → is_for l other ≡ true → after ≤ length w.letters → IsSentAfter (happens w e) after other l
letter_of_step_is_sent w e name other after s l is there meant low =
    let c = contained_letter_has_index s.letters l there in
    record {
      number = length w.letters + 1 + c.0;
      late = omega arith;
      there = ap (λ (v : World). letter_at v.letters (length w.letters + 1 + c.0)) is ∙ letter_sent_at_number w e name s c.0 l c.1;
      meant = meant;
    }

pub node_after_step_of_event : (w : World) (e : Event) (name : ℕ) (s : StepResult) → happens w e ≡ world_with_step w e name s → (happens w e).nodes name ≡ s.node
node_after_step_of_event w e name s is = ap (λ (v : World). v.nodes name) is ∙ node_after_own_step w e name s

-- ---- the poll

polled_tick : (rules : Rules) (r : Repair) (i after accepted : ℕ) (w : World) → WorldKeepsLawsAndCalm rules r w → has r.members i ≡ true → (i == r.by) ≡ false
    → after ≤ length w.letters
    → (let e = event_at (place_of_name r.by) Act.Tick in accepted ≤ ((happens w e).nodes r.by).core.acc → Polled r i after accepted (happens w e))
polled_tick rules r i after accepted w h there other low told_ =
    let e = event_at (place_of_name r.by) Act.Tick in
    let m = w.nodes r.by in
    let s = step m does.Tick in
    let is = tick_of_running_name_steps w r.by (member_of_repair_runs_now rules r w r.by h h.calm.listed) in
    let fine = laws_and_calm_stay rules r w e (our_ticks (place_of_name r.by)) h in
    let node = node_after_step_of_event w e r.by s is in
    let n = s.node in
    let l = subst (LeadsCalmly r) node fine.calm.leads in
    let who : n.core.who ≡ r.by = ap (λ (x : Node). x.core.who) (sym node) ∙ fine.calm.who r.by in
    let promise : n.core.promise ≡ r.view = (acting_member_promised_its_view n (sequencer_acts_by_own_view n l.leads).0).1 ∙ l.view_ in
    let meant : has (other_members n) i ≡ true = without_name_has_others (members n) n.core.who i (repair_member_is_member_now r n i l there) (ap (λ k. i == k) who ∙ other) in
    let letter = letter_to (other_members n) (accept_packet_of n true) in
    let polls = (sequencers_poll m h.calm.leads.leads h.calm.leads.rest).there (set_with_name_not_empty (other_members n) i meant) in
    let acc = ap (λ (x : Node). x.core.acc) node in
    record {
      letter = letter;
      sent = letter_of_step_is_sent w e r.by i after s letter is polls meant low;
      polls = record { base = n.core.base; acc = n.core.acc; high = top n; is = cc; far = l.high; told = omega arith };
    }

pub running_name_is_in_running : (w : World) (name : ℕ) → NameRunsNow w name → IsInListOfPlaces (place_of_name name) (running_places w)
running_name_is_in_running w name at = running_place_is_in_list w (place_of_name name) (omega arith) (ap (is_stopped w) at.current_ ∙ at.runs)

-- what is so of each world of a schedule, and what of it bounds what the sequencer accepts
pub record TickAcceptsAtLeast (rules : Rules) (r : Repair) (X : World → Type 0) (accepted : ℕ) : Type 0 where
  pub keeps : (w : World) (e : Event) → IsOurs r e → WorldKeepsLawsAndCalm rules r w → X w → X (happens w e)
  pub gives : (w : World) → WorldKeepsLawsAndCalm rules r w → X w → accepted ≤ ((happens w (event_at (place_of_name r.by) Act.Tick)).nodes r.by).core.acc

pub ticks_of_round_poll : (rules : Rules) (r : Repair) (X : World → Type 0) (i accepted : ℕ) (w : World) → TickAcceptsAtLeast rules r X accepted → WorldKeepsLawsAndCalm rules r w → X w
    → has r.members i ≡ true → (i == r.by) ≡ false → Polled r i (length w.letters) accepted (world_after_events w (ticks_of_places w))
ticks_of_round_poll rules r X i accepted w b h x there other =
    (acts_bring_property P (Polled r i (length w.letters) accepted) Act.Tick (place_of_name r.by) hits (running_places w) w
    (running_name_is_in_running w r.by (member_of_repair_runs_now rules r w r.by h h.calm.listed)) (h, x, omega arith)).1
  where
    P : World → Type 0
    P u = WorldKeepsLawsAndCalm rules r u × X u × (length w.letters ≤ length u.letters)

    keeps : (p : ℕ) (u : World) → P u → P (happens u (event_at p Act.Tick))
    keeps p u k =
        let e = event_at p Act.Tick in
        let more = letters_grow_by_event u e in
        (laws_and_calm_stay rules r u e (our_ticks p) k.0, b.keeps u e (our_ticks p) k.0 k.1, omega arith)

    hits : ActBringsProperty P (Polled r i (length w.letters) accepted) Act.Tick (place_of_name r.by)
    hits = record {
      keeps = keeps;
      hits = λ u k. polled_tick rules r i (length w.letters) accepted u k.0 there other k.2 (b.gives u k.0 k.1);
      stays = λ p u k q. polled_goes r i (length w.letters) accepted u (event_at p Act.Tick) q;
    }

-- ---- reports

-- the sequencer is a member by a member's own list, once that goes as far as the sequencer's did
lists_leader : (r : Repair) (q m : Node) → LeadsCalmly r q → has r.members r.by ≡ true → FollowsView r q m → r.high ≤ top m → r.view.by ≡ r.by
    → has (members m) (view m).by ≡ true
lists_leader r q m l listed f far own =
    let by : (view m).by ≡ r.by = ap (λ (v : Stamp). v.by) f.view_ ∙ own in
    ap (λ (i : Image). has (members_of_image i) (view m).by) f.told_ ∙ ap (has (log_members_at q.core.log (top m))) by ∙ l.members_ r.by (top m) listed far f.within

reported_tick : (rules : Rules) (r : Repair) (i after : ℕ) (w : World) → WorldKeepsLawsAndCalm rules r w → has r.members i ≡ true → (i == r.by) ≡ false
    → after ≤ length w.letters → r.high ≤ top (w.nodes i) → Reported r i after r.high (happens w (event_at (place_of_name i) Act.Tick))
reported_tick rules r i after w h there other low far =
    let e = event_at (place_of_name i) Act.Tick in
    let m = w.nodes i in
    let q = w.nodes r.by in
    let s = step m does.Tick in
    let is = tick_of_running_name_steps w i (member_of_repair_runs_now rules r w i h there) in
    let v = happens w e in
    let fine = laws_and_calm_stay rules r w e (our_ticks (place_of_name i)) h in
    let node = node_after_step_of_event w e i s is in
    let n = s.node in
    let before = h.calm.follows i there other in
    let f = fine.calm.follows i there other in
    let by : (view m).by ≡ r.by = ap (λ (x : Stamp). x.by) before.view_ ∙ h.calm.own in
    let own : (m.core.who == r.by) ≡ false = ap (λ k. k == r.by) (h.calm.who i) ∙ other in
    let follows : is_sequencer m ≡ false = split_on_bool (is_sequencer m) (λ t. absurd (other_name_is_not_sequencer m r.by by own t)) (λ g. g) in
    let says = members_report m before.acts_ follows before.rest (lists_leader r q m h.calm.leads h.calm.listed before far h.calm.own) in
    let who : n.core.who ≡ i = ap (λ (x : Node). x.core.who) (sym node) ∙ fine.calm.who i in
    let promise : n.core.promise ≡ r.view = ap (λ (x : Node). x.core.promise) (sym node) ∙ (acting_member_promised_its_view (v.nodes i) f.acts_).1 ∙ f.view_ in
    let grow = (world_grows_by_own_event rules r w e (our_ticks (place_of_name i)) h).stored i there in
    let top_ = ap (λ (x : Node). top x) node in
    let fronts = (fine.laws.each i (member_of_repair_is_small rules r v i fine there)).fronts in
    let taken = ap (λ (x : Node). x.core.taken) node in
    let meant : is_for says.letter r.by ≡ true = rw says.any (subst (λ k. has says.letter.to k ≡ true) by says.to) in
    record {
      letter = says.letter;
      sent = letter_of_step_is_sent w e i r.by after s says.letter is says.there meant low;
      reports = record {
        report = own_report_of n;
        is = subst (λ k. PacketIsReport says.letter.packet k r.view (own_report_of n)) who
            (subst (λ x. PacketIsReport says.letter.packet n.core.who x (own_report_of n)) promise says.says);
        fits = omega arith;
        much = omega arith;
      };
    }

pub ticks_of_round_report : (rules : Rules) (r : Repair) (i : ℕ) (w : World) → WorldKeepsLawsAndCalm rules r w → has r.members i ≡ true → (i == r.by) ≡ false
    → r.high ≤ top (w.nodes i) → Reported r i (length w.letters) r.high (world_after_events w (ticks_of_places w))
ticks_of_round_report rules r i w h there other far =
    (acts_bring_property P (Reported r i (length w.letters) r.high) Act.Tick (place_of_name i) hits (running_places w) w (running_name_is_in_running w i (member_of_repair_runs_now rules r w i h there))
    (h, far, omega arith)).1
  where
    P : World → Type 0
    P u = WorldKeepsLawsAndCalm rules r u × (r.high ≤ top (u.nodes i)) × (length w.letters ≤ length u.letters)

    keeps : (p : ℕ) (u : World) → P u → P (happens u (event_at p Act.Tick))
    keeps p u k =
        let e = event_at p Act.Tick in
        let more = letters_grow_by_event u e in
        let grow = (world_grows_by_own_event rules r u e (our_ticks p) k.0).stored i there in
        (laws_and_calm_stay rules r u e (our_ticks p) k.0, omega arith, omega arith)

    hits : ActBringsProperty P (Reported r i (length w.letters) r.high) Act.Tick (place_of_name i)
    hits = record {
      keeps = keeps;
      hits = λ u k. reported_tick rules r i (length w.letters) u k.0 there other k.2 k.1;
      stays = λ p u k q. reported_goes r i (length w.letters) r.high u (event_at p Act.Tick) q;
    }
