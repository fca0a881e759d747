-- In a quiet world whose sequencer's list is all trimmed, one round numbers one send more: a member's tick hands its waiting send in, and the
-- sequencer numbers it in the first wave, or another; the sequencer's own gets its number at its tick.
use Rattle.am_repair.proofs.RepairWords.{◌≡◌, ◌⊎◌, inl, inr, either, ℕ, ◌+◌, ◌<◌, ◌≤◌, ◌==◌, nat_lt, true, false, List, length, Option, Some, None, refl, sym, ap, ◌∙◌, subst, arith}
use Rattle.am_repair.proofs.RepairWords.{split_on_bool, eqb-true, nat_tests, cases_lt, Stamp, Report, Image, Rules, place_of_name, has, Packet, Letter, Event, is_for, letter_at, OwnSend}
use Rattle.am_repair.proofs.RepairWords.{IsOurs, Node, top, view, image_of_node, acts_in_its_view, is_sequencer, has_room, waiting_send_of, own_report_of, would_emit_send, step, hear_packet, event_at, running_places}
use Rattle.am_repair.proofs.RepairWords.{hearings, World, happens, world_after_events, Act, told_image_is_used, image_at_top_is_told, log_image_at, PacketIsReport, Repair, IsSentAfter, our_ticks, hears_}
use Rattle.std.specs.Prelude.{is_some}
use Rattle.am_base.specs.Lists.{row_of_name}
use Rattle.am_base.specs.declared.event.NodeEvent.TheVariants as does
use Rattle.am_node_defs.specs.Sends as own
use Rattle.am_node_defs.proofs.Lines.{next_in_line_is_waiting}
use Rattle.am_model.specs.Node.{own_row}
use Rattle.am_repair.specs.Rows as reports
use Rattle.am_repair.proofs.Answered.Lined.{next_request_if_none_waits}
use Rattle.am_repair.proofs.Nodes.{acting_member_promised_its_view, sequencer_acts_by_own_view, other_name_is_not_sequencer}
use Rattle.am_repair.proofs.RepairLeading.{repair_member_is_member_now}
use Rattle.am_repair.proofs.Ticking.{letter_stays_sent_by_event, letter_of_step_is_sent, node_after_step_of_event, running_name_is_in_running}
use Rattle.am_repair.proofs.Schedules.{acts_bring_property, WaveBringsProperty, wave_brings_property}
use Rattle.am_repair.proofs.Fine.{world_grows_by_own_event, letters_grow_by_event, member_of_repair_is_small, member_of_repair_runs_now}
use Rattle.am_repair.proofs.Fine.{tick_of_running_name_steps, hearing_of_running_name_steps}
use Rattle.am_repair.proofs.FirstWave.{sequencer_hears_its_members, member_name_is_not_unknown, LettersStayInWorld, letters_stay_in_same_world, letters_stay_by_event, sent_letter_is_heard}
use Rattle.am_repair.proofs.FirstWave.{report_of_calm_packet, calm_report_fits_list}
use Rattle.am_repair.proofs.Rounds.{world_after_ticks, world_after_waves, StaysThroughSchedule, property_stays_through_wave, property_stays_through_later_waves}
use Rattle.am_repair_takes.specs.Taking.{IsTaking, ours}
use Rattle.am_repair_takes.specs.Numbering.{PacketIsSend, request, spread}
use Rattle.am_repair_takes.proofs.Quiet.{QuietRun, fine_of, laws_of, numbered_of, quiet_goes, kept_goes}
use Rattle.am_repair_takes.proofs.Stands.{member_stays}
use Rattle.am_repair_takes.proofs.TakenWaves.{lists_leader}
use Rattle.am_repair_takes.proofs.Numbering.{members_hand_in, next_sends_are_numbered, own_sends_are_numbered}

-- ---- what is settled

-- what stays so through a schedule in which applications take, and tells that a member that has accepted its whole list has settled all of its
-- own sends that its own row counts
pub record SettlesRows (rules : Rules) (r : Repair) (last : ℕ → ℕ) (total : ℕ) (S : World → Type 0) : Type 0 where
  pub stays : (u : World) (e : Event) → IsTaking r e → QuietRun rules r last total u → S u → S (happens u e)
  pub gives : (u : World) → QuietRun rules r last total u → S u → (name : ℕ) → has r.members name ≡ true → r.high ≤ top (u.nodes name)
      → top (u.nodes name) ≤ (u.nodes name).core.acc → (own_row (u.nodes name)).last < own.next_request (u.nodes name).sends

-- ---- the send that waits

no_left : (left : ℕ) → nat_lt 0 left ≡ false → left ≡ 0
no_left left stays = grind (arith, nat_tests)

-- a node's waiting send, if not all that it sent is settled
waits_by : (m : Node) (o : Option OwnSend) → waiting_send_of m ≡ o → own.next_request m.sends ≤ m.sends.last
    → (s : OwnSend) × (waiting_send_of m ≡ Some s) × (s.req ≡ own.next_request m.sends)
waits_by m None is low = absurd (let none = next_request_if_none_waits m (ap is_some is) in omega arith)
waits_by m (Some s) is low = (s, is, sym (next_in_line_is_waiting m.sends.last m.sends.queue s is))

-- ---- a world that waits for one number more

-- the sequencer has trimmed all that it had, and a name has stored and accepted that, and has sent more
record Waits (rules : Rules) (r : Repair) (last : ℕ → ℕ) (total : ℕ) (S : World → Type 0) (i after : ℕ) (image : Image) (u : World) : Type 0 where
  quiet : QuietRun rules r last total u
  settles : S u
  base : r.high ≤ (u.nodes r.by).core.base
  stored : r.high ≤ top (u.nodes i)
  accepted : r.high ≤ (u.nodes i).core.acc
  told : log_image_at (u.nodes r.by).core.log r.high ≡ image
  long : after ≤ length u.letters

-- ---- a list that has gone on

-- a quiet world whose sequencer's list has gone on
unfoldable pub GoneOn : Rules → Repair → (ℕ → ℕ) → ℕ → World → Type 0
GoneOn rules r last total u = QuietRun rules r last total u × (r.high + 1 ≤ top (u.nodes r.by))

gone_on_goes : (rules : Rules) (r : Repair) (last : ℕ → ℕ) (total : ℕ) (u : World) (e : Event) → IsOurs r e → GoneOn rules r last total u → GoneOn rules r last total (happens u e)
unfolding GoneOn
gone_on_goes rules r last total u e is h =
    let grow = (world_grows_by_own_event rules r u e is (fine_of rules r last total u h.0)).log.top in
    let had = h.1 in
    (quiet_goes rules r last total u e (ours e is) h.0, omega arith)

gone_on_stable : (rules : Rules) (r : Repair) (last : ℕ → ℕ) (total : ℕ) → StaysThroughSchedule r (GoneOn rules r last total)
gone_on_stable rules r last total = record { keeps = λ w e is h. gone_on_goes rules r last total w e is h }

-- ---- one name

module _ (rules : Rules) (r : Repair) (last : ℕ → ℕ) (total : ℕ) (S : World → Type 0) (keep : SettlesRows rules r last total S) (i after : ℕ) (image : Image)
    (there : has r.members i ≡ true) (more : (row_of_name image i).last < last i) where
  waits_goes : (u : World) (e : Event) → IsOurs r e → Waits rules r last total S i after image u → Waits rules r last total S i after image (happens u e)
  waits_goes u e is h =
      let grow = world_grows_by_own_event rules r u e is (fine_of rules r last total u h.quiet) in
      let kept = (kept_goes rules r last total u e (ours e is) h.quiet).base in
      let stored_ = grow.stored i there in
      let acc = grow.acc i there in
      let more_ = letters_grow_by_event u e in
      let base_ = h.base in
      let far = h.stored in
      let had = h.accepted in
      let long_ = h.long in
      record {
        quiet = quiet_goes rules r last total u e (ours e is) h.quiet;
        settles = keep.stays u e (ours e is) h.quiet h.settles;
        base = omega arith;
        stored = omega arith;
        accepted = omega arith;
        told = grow.log.image r.high h.quiet.calm.leads.high ∙ h.told;
        long = omega arith;
      }

  -- a member's list is the sequencer's, as long as that hasn't gone on
  same_list : (u : World) → Waits rules r last total S i after image u → top (u.nodes r.by) ≤ r.high → image_of_node (u.nodes i) ≡ image
  same_list u h low = split_on_bool (i == r.by)
      (λ t.
      let same = eqb-true i r.by t in
      let far = h.quiet.calm.leads.high in
      let at : top (u.nodes r.by) ≡ r.high = omega arith in
      ap (λ j. image_of_node (u.nodes j)) same ∙ sym (image_at_top_is_told (u.nodes r.by).core.log) ∙ ap (log_image_at (u.nodes r.by).core.log) at ∙ h.told)
      (λ f.
      let g = h.quiet.calm.follows i there f in
      let within = g.within in
      let far = h.stored in
      let at : top (u.nodes i) ≡ r.high = omega arith in
      g.told_ ∙ ap (log_image_at (u.nodes r.by).core.log) at ∙ h.told)

  same_top : (u : World) → Waits rules r last total S i after image u → top (u.nodes r.by) ≤ r.high → top (u.nodes i) ≡ r.high
  same_top u h low = split_on_bool (i == r.by)
      (λ t.
      let same = eqb-true i r.by t in
      let far = h.quiet.calm.leads.high in
      let at : top (u.nodes r.by) ≡ r.high = omega arith in
      ap (λ j. top (u.nodes j)) same ∙ at)
      (λ f.
      let g = h.quiet.calm.follows i there f in
      let within = g.within in
      let far = h.stored in
      omega arith)

  -- so its waiting send is the next of its row
  record NextWaits (m : Node) : Type 0 where
    send : OwnSend
    waits : waiting_send_of m ≡ Some send
    would : would_emit_send m (Some send) ≡ true
    next : send.req ≡ (row_of_name image i).last + 1

  next_waits : (u : World) → Waits rules r last total S i after image u → top (u.nodes r.by) ≤ r.high → acts_in_its_view (u.nodes i) ≡ true → NextWaits (u.nodes i)
  next_waits u h low acting =
      let m = u.nodes i in
      let at = same_top u h low in
      let acc = h.accepted in
      let row : (own_row m).last ≡ (row_of_name image i).last = ap (λ k. (row_of_name (image_of_node m) k).last) (h.quiet.calm.who i) ∙ ap (λ (x : Image). (row_of_name x i).last) (same_list u h low) in
      let above = keep.gives u h.quiet h.settles i there h.stored (omega arith) in
      let under = (numbered_of rules r last total u i h.quiet (member_of_repair_is_small rules r u i (fine_of rules r last total u h.quiet) there)).next in
      let sent = h.quiet.lasts i in
      let w = waits_by m (waiting_send_of m) refl (omega arith) in
      let req = w.2 in
      let less : nat_lt (own_row m).last w.0.req ≡ true = grind (arith, nat_tests) in
      record { send = w.0; waits = w.1; would = rw (acting, less) refl; next = omega arith }

  -- ---- its tick

  -- a letter to the sequencer that brings the send
  record HandedIn (u : World) : Type 0 where
    letter : Letter
    sent : IsSentAfter u after r.by letter
    report : Report
    req : ℕ
    body : List ℕ
    says : PacketIsSend letter.packet i r.view report req body
    fits : report.taken ≤ report.stored
    next : req ≡ (row_of_name image i).last + 1

  Comes : World → Type 0
  Comes u = (r.high + 1 ≤ top (u.nodes r.by)) ⊎ HandedIn u

  comes_goes : (u : World) (e : Event) → IsOurs r e → Waits rules r last total S i after image u → Comes u → Comes (happens u e)
  unfolding Comes
  comes_goes u e is h c = either c
      (λ up. let grow = (world_grows_by_own_event rules r u e is (fine_of rules r last total u h.quiet)).log.top in inl (omega arith))
      (λ d. inr (record {
        letter = d.letter;
        sent = letter_stays_sent_by_event u e after r.by d.letter d.sent;
        report = d.report;
        req = d.req;
        body = d.body;
        says = d.says;
        fits = d.fits;
        next = d.next;
      }))

  handed_tick : (u : World) → Waits rules r last total S i after image u → (i == r.by) ≡ false → top (u.nodes r.by) ≤ r.high
      → HandedIn (happens u (event_at (place_of_name i) Act.Tick))
  handed_tick u h other low =
      let e = event_at (place_of_name i) Act.Tick in
      let fine = fine_of rules r last total u h.quiet in
      let m = u.nodes i in
      let s = step m does.Tick in
      let is = tick_of_running_name_steps u i (member_of_repair_runs_now rules r u i fine there) in
      let v = happens u e in
      let later = fine_of rules r last total v (quiet_goes rules r last total u e (ours e (our_ticks (place_of_name i))) h.quiet) in
      let node = node_after_step_of_event u e i s is in
      let n = s.node in
      let before = fine.calm.follows i there other in
      let f = later.calm.follows i there other in
      let by : (view m).by ≡ r.by = ap (λ (x : Stamp). x.by) before.view_ ∙ fine.calm.own in
      let own : (m.core.who == r.by) ≡ false = ap (λ k. k == r.by) (fine.calm.who i) ∙ other in
      let follows : is_sequencer m ≡ false = split_on_bool (is_sequencer m) (λ t. absurd (other_name_is_not_sequencer m r.by by own t)) (λ g. g) in
      let w = next_waits u h low before.acts_ in
      let says = members_hand_in m w.send before.acts_ follows before.rest (lists_leader r (u.nodes r.by) m fine.calm.leads fine.calm.listed before h.stored fine.calm.own) w.waits w.would in
      let who : n.core.who ≡ i = ap (λ (x : Node). x.core.who) (sym node) ∙ later.calm.who i in
      let promise : n.core.promise ≡ r.view = ap (λ (x : Node). x.core.promise) (sym node) ∙ (acting_member_promised_its_view (v.nodes i) f.acts_).1 ∙ f.view_ in
      let fronts = (later.laws.each i (member_of_repair_is_small rules r v i later there)).fronts in
      let given = fronts.given in
      let accepted = fronts.accepted in
      let top_ = ap (λ (x : Node). top x) node in
      let same = ap (λ (x : Node). x.core.taken) node in
      let meant : is_for says.letter r.by ≡ true = rw says.any (subst (λ k. has says.letter.to k ≡ true) by says.to) in
      record {
        letter = says.letter;
        sent = letter_of_step_is_sent u e i r.by after s says.letter is says.there meant h.long;
        report = own_report_of n;
        req = w.send.req;
        body = w.send.body;
        says = subst (λ k. PacketIsSend says.letter.packet k r.view (own_report_of n) w.send.req w.send.body) who
            (subst (λ x. PacketIsSend says.letter.packet n.core.who x (own_report_of n) w.send.req w.send.body) promise says.says);
        fits = omega arith;
        next = w.next;
      }

  comes_tick : (u : World) → Waits rules r last total S i after image u → (i == r.by) ≡ false → Comes (happens u (event_at (place_of_name i) Act.Tick))
  unfolding Comes
  comes_tick u h other = either (cases_lt r.high (top (u.nodes r.by)))
      (λ up.
      let e = event_at (place_of_name i) Act.Tick in
      let grow = (world_grows_by_own_event rules r u e (our_ticks (place_of_name i)) (fine_of rules r last total u h.quiet)).log.top in inl (omega arith))
      (λ low. inr (handed_tick u h other low))

  ticks_hand_in : (w : World) → Waits rules r last total S i after image w → (i == r.by) ≡ false
      → Waits rules r last total S i after image (world_after_ticks w) × Comes (world_after_ticks w)
  ticks_hand_in w h other =
      acts_bring_property (Waits rules r last total S i after image) Comes Act.Tick (place_of_name i) (record {
        keeps = λ p u k. waits_goes u (event_at p Act.Tick) (our_ticks p) k;
        hits = λ u k. comes_tick u k other;
        stays = λ p u k c. comes_goes u (event_at p Act.Tick) (our_ticks p) k c;
      }) (running_places w) w (running_name_is_in_running w i (member_of_repair_runs_now rules r w i (fine_of rules r last total w h.quiet) there)) h

  -- ---- the sequencer hears it

  -- there is room for one entry more
  room_now : (u : World) → Waits rules r last total S i after image u → top (u.nodes r.by) ≤ r.high → has_room (u.nodes r.by) ≡ true
  room_now u h low =
      let q = u.nodes r.by in
      let window = ap (λ (x : Rules). x.window) ((laws_of rules r last total u h.quiet).kept r.by).founding in
      let least = h.quiet.may.window_least in
      let base = h.base in
      grind (arith, nat_tests)

  send_reports : (p : Packet) (s : ℕ) (v : Stamp) (report : Report) (req : ℕ) (body : List ℕ) → PacketIsSend p s v report req body → PacketIsReport p s v report
  send_reports p s v report req body (request s_ v_ report_ req_ body_) = reports.PacketIsReport.request s v report req body
  send_reports p s v report req body (spread s_ v_ report_ req_ body_) = reports.PacketIsReport.spread s v report req body

  numbered_hear : (u : World) (k : ℕ) (l : Letter) (report : Report) (req : ℕ) (body : List ℕ) → Waits rules r last total S i after image u → (i == r.by) ≡ false
      → top (u.nodes r.by) ≤ r.high → r.sent < k → letter_at u.letters k ≡ Some l → is_for l r.by ≡ true → PacketIsSend l.packet i r.view report req body
      → report.taken ≤ report.stored → req ≡ (row_of_name image i).last + 1
      → r.high + 1 ≤ top ((happens u (event_at (place_of_name r.by) (Act.Hear k))).nodes r.by)
  numbered_hear u k l report req body h other low late letter meant says fits_ next =
      let e = event_at (place_of_name r.by) (Act.Hear k) in
      let fine = fine_of rules r last total u h.quiet in
      let q = u.nodes r.by in
      let s = hear_packet q l.packet in
      let is = hearing_of_running_name_steps u r.by k l (member_of_repair_runs_now rules r u r.by fine fine.calm.listed) letter meant in
      let node = node_after_step_of_event u e r.by s is in
      let heard = sequencer_hears_its_members r q i fine.calm.leads (fine.calm.who r.by) other in
      let used = told_image_is_used q (fine.laws.each r.by (member_of_repair_is_small rules r u r.by fine fine.calm.listed)).fronts in
      let member = repair_member_is_member_now r q i fine.calm.leads there in
      let known = member_name_is_not_unknown q i used member in
      let calm = report_of_calm_packet r u l.packet i r.view report (send_reports l.packet i r.view report req body says) (fine.calm.letters k l late letter) in
      let fits = calm_report_fits_list r u i report fine.calm there other calm fits_ in
      let stays = member_stays (image_of_node q) i used.places member in
      let far = fine.calm.leads.high in
      let at : top q ≡ r.high = omega arith in
      let list : image_of_node q ≡ image = sym (image_at_top_is_told q.core.log) ∙ ap (log_image_at q.core.log) at ∙ h.told in
      let row : (row_of_name (image_of_node q) i).last ≡ (row_of_name image i).last = ap (λ (x : Image). (row_of_name x i).last) list in
      let left = no_left (row_of_name (image_of_node q) i).left stays in
      let up = next_sends_are_numbered q l.packet i r.view report req body says heard known fits left (next ∙ ap (λ n. n + 1) (sym row)) (room_now u h low) in
      let same = ap (λ (x : Node). top x) node in
      omega arith

  wave_numbers : (a : World) → r.sent ≤ after → (i == r.by) ≡ false → Waits rules r last total S i after image a → Comes a
      → GoneOn rules r last total (world_after_events a (hearings a after))
  unfolding Comes GoneOn
  wave_numbers a low other h c = either c
      (λ up. property_stays_through_wave r (GoneOn rules r last total) (gone_on_stable rules r last total) after low a (h.quiet, up))
      (λ d.
      let fine = fine_of rules r last total a h.quiet in
      let z = wave_brings_property P Q a after d.sent.number (place_of_name r.by) (sent_letter_is_heard rules r a after r.by d.letter fine fine.calm.listed d.sent) (hits d)
      (h, letters_stay_in_same_world a) in
      (z.0.0.quiet, z.1))
    where
      P : World → Type 0
      P u = Waits rules r last total S i after image u × LettersStayInWorld a u

      Q : World → Type 0
      Q u = r.high + 1 ≤ top (u.nodes r.by)

      hear_goes : (u : World) (e : Event) → IsOurs r e → Waits rules r last total S i after image u → Q u → Q (happens u e)
      hear_goes u e is k up = let grow = (world_grows_by_own_event rules r u e is (fine_of rules r last total u k.quiet)).log.top in omega arith

      hits : (d : HandedIn a) → WaveBringsProperty P Q after (length a.letters) d.sent.number (place_of_name r.by)
      hits d = record {
        keeps = λ p n u late within k. (
          waits_goes u (event_at p (Act.Hear n)) (hears_ p n (omega arith)) k.0,
          letters_stay_by_event a u (event_at p (Act.Hear n)) k.1,
        );
        hits = λ u k.
            (let late = d.sent.late in
            either (cases_lt r.high (top (u.nodes r.by)))
            (λ up. hear_goes u (event_at (place_of_name r.by) (Act.Hear d.sent.number)) (hears_ (place_of_name r.by) d.sent.number (omega arith)) k.0 (omega arith))
            (λ under. numbered_hear u d.sent.number d.letter d.report d.req d.body k.0 other under (omega arith) (k.1.letters d.sent.number d.letter d.sent.there) d.sent.meant
            d.says d.fits d.next));
        stays = λ p n u late within k up. hear_goes u (event_at p (Act.Hear n)) (hears_ p n (omega arith)) k.0 up;
      }

  -- ---- the sequencer's own

  own_tick : (u : World) → Waits rules r last total S i after image u → i ≡ r.by → r.high + 1 ≤ top ((happens u (event_at (place_of_name r.by) Act.Tick)).nodes r.by)
  own_tick u h same =
      let e = event_at (place_of_name r.by) Act.Tick in
      let fine = fine_of rules r last total u h.quiet in
      let q = u.nodes r.by in
      either (cases_lt r.high (top q))
      (λ up. let grow = (world_grows_by_own_event rules r u e (our_ticks (place_of_name r.by)) fine).log.top in omega arith)
      (λ under.
      let far = fine.calm.leads.high in
      let acting = (sequencer_acts_by_own_view q fine.calm.leads.leads).0 in
      let w = subst (λ j. NextWaits (u.nodes j)) same (next_waits u h under (subst (λ j. acts_in_its_view (u.nodes j) ≡ true) (sym same) acting)) in
      let up = own_sends_are_numbered q w.send fine.calm.leads.leads fine.calm.leads.rest w.waits w.would (room_now u h under) in
      let is = tick_of_running_name_steps u r.by (member_of_repair_runs_now rules r u r.by fine fine.calm.listed) in
      let node = ap (λ (x : Node). top x) (node_after_step_of_event u e r.by (step q does.Tick) is) in
      omega arith)

  own_ticks : (w : World) → Waits rules r last total S i after image w → i ≡ r.by → GoneOn rules r last total (world_after_ticks w)
  unfolding GoneOn
  own_ticks w h same =
      let fine = fine_of rules r last total w h.quiet in
      let z = acts_bring_property (Waits rules r last total S i after image) (λ u. r.high + 1 ≤ top (u.nodes r.by)) Act.Tick (place_of_name r.by) (record {
        keeps = λ p u k. waits_goes u (event_at p Act.Tick) (our_ticks p) k;
        hits = λ u k. own_tick u k same;
        stays = λ p u k up. (let grow = (world_grows_by_own_event rules r u (event_at p Act.Tick) (our_ticks p) (fine_of rules r last total u k.quiet)).log.top in omega arith);
      }) (running_places w) w (running_name_is_in_running w r.by (member_of_repair_runs_now rules r w r.by fine fine.calm.listed)) h in
      (z.0.quiet, z.1)

  -- ---- the round

  round_goes_on : (w : World) → after ≡ length w.letters → Waits rules r last total S i after image w → GoneOn rules r last total (world_after_waves w)
  round_goes_on w at h =
      let low = h.quiet.sent in
      let a = world_after_ticks w in
      property_stays_through_later_waves r (GoneOn rules r last total) (gone_on_stable rules r last total) w h.quiet.sent
      (split_on_bool (i == r.by)
      (λ t. property_stays_through_wave r (GoneOn rules r last total) (gone_on_stable rules r last total) (length w.letters) h.quiet.sent a (own_ticks w h (eqb-true i r.by t)))
      (λ f.
      let z = ticks_hand_in w h f in
      subst (λ n. GoneOn rules r last total (world_after_events a (hearings a n))) at (wave_numbers a (omega arith) f z.0 z.1)))

-- where a name has sent more than its row in the sequencer's list counts, and all that stands there is trimmed, and accepted by it
pub round_numbers : (rules : Rules) (r : Repair) (last : ℕ → ℕ) (total : ℕ) (S : World → Type 0) → SettlesRows rules r last total S → (i : ℕ) (w : World)
    → has r.members i ≡ true → QuietRun rules r last total w → S w → r.high ≤ (w.nodes r.by).core.base → r.high ≤ top (w.nodes i) → r.high ≤ (w.nodes i).core.acc
    → (row_of_name (log_image_at (w.nodes r.by).core.log r.high) i).last < last i → GoneOn rules r last total (world_after_waves w)
round_numbers rules r last total S keep i w there quiet settles base stored accepted more =
    round_goes_on rules r last total S keep i (length w.letters) (log_image_at (w.nodes r.by).core.log r.high) there more w refl (record {
      quiet = quiet;
      settles = settles;
      base = base;
      stored = stored;
      accepted = accepted;
      told = refl;
      long = omega arith;
    })
