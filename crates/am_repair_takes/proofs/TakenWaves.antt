-- What a member has taken its sequencer knows after a round: the member's tick reports it, and the sequencer hears that in the first wave.
use Rattle.am_repair.proofs.RepairWords.{◌≡◌, ℕ, ◌<◌, ◌≤◌, ◌==◌, true, false, [], length, Some, refl, sym, ap, ◌∙◌, subst, arith, split_on_bool, Stamp, Report, Image, Rules}
use Rattle.am_repair.proofs.RepairWords.{place_of_name, has, members_of_image, log_members_at, Packet, Letter, Event, is_for, letter_at, Node, top, view, members, is_sequencer, own_report_of}
use Rattle.am_repair.proofs.RepairWords.{step, hear_packet, event_at, running_places, ticks_of_places, hearings, World, run, happens, world_after_events, Act, told_image_is_used, PacketIsReport, Repair, LeadsCalmly}
use Rattle.am_repair.proofs.RepairWords.{FollowsView, IsSentAfter, our_ticks, hears_}
use Rattle.am_base.specs.declared.event.NodeEvent.TheVariants as does
use Rattle.am_repair.proofs.Nodes.{acting_member_promised_its_view, other_name_is_not_sequencer}
use Rattle.am_repair.proofs.RepairLeading.{repair_member_is_member_now}
use Rattle.am_repair.proofs.Ticks.{members_report}
use Rattle.am_repair.proofs.Ticking.{letter_stays_sent_by_event, letter_of_step_is_sent, node_after_step_of_event, running_name_is_in_running}
use Rattle.am_repair.proofs.Schedules.{ActBringsProperty, acts_bring_property, WaveBringsProperty, wave_brings_property}
use Rattle.am_repair.proofs.Fine.{WorldKeepsLawsAndCalm, laws_and_calm_stay, world_grows_by_own_event, letters_grow_by_event, member_of_repair_is_small, member_of_repair_runs_now}
use Rattle.am_repair.proofs.Fine.{tick_of_running_name_steps, hearing_of_running_name_steps}
use Rattle.am_repair.proofs.FirstWave.{sequencer_hears_its_members, member_name_is_not_unknown, LettersStayInWorld, letters_stay_in_same_world, letters_stay_by_event, sent_letter_is_heard}
use Rattle.am_repair.proofs.FirstWave.{report_of_calm_packet, calm_report_fits_list}
use Rattle.am_repair.proofs.Rounds.{world_after_ticks, world_after_waves, round_world_is_after_waves, StaysThroughSchedule, property_stays_through_ticks, property_stays_through_later_waves}
use Rattle.am_repair_takes.specs.Taking.{ours}
use Rattle.am_repair_takes.specs.Quiet.{RoundsTellTaken}
use Rattle.am_repair_takes.proofs.Quiet.{QuietRun, fine_of, quiet_goes, kept_goes}
use Rattle.am_repair_takes.proofs.TakenReports.{taken_is_known}

-- ---- a report on its way

-- a member's report, of at least so much taken
record TellsTaken (r : Repair) (i taken : ℕ) (p : Packet) : Type 0 where
  report : Report
  is : PacketIsReport p i r.view report
  fits : report.taken ≤ report.stored
  much : taken ≤ report.taken

record IsTold (r : Repair) (i after taken : ℕ) (w : World) : Type 0 where
  letter : Letter
  sent : IsSentAfter w after r.by letter
  tells : TellsTaken r i taken letter.packet

told_goes : (r : Repair) (i after taken : ℕ) (w : World) (e : Event) → IsTold r i after taken w → IsTold r i after taken (happens w e)
told_goes r i after taken w e h = record { letter = h.letter; sent = letter_stays_sent_by_event w e after r.by h.letter h.sent; tells = h.tells }

-- the sequencer is a member by a member's own list, once that goes as far as the sequencer's did
pub lists_leader : (r : Repair) (q m : Node) → LeadsCalmly r q → has r.members r.by ≡ true → FollowsView r q m → r.high ≤ top m → r.view.by ≡ r.by
    → has (members m) (view m).by ≡ true
lists_leader r q m l listed f far own =
    let by : (view m).by ≡ r.by = ap (λ (v : Stamp). v.by) f.view_ ∙ own in
    ap (λ (i : Image). has (members_of_image i) (view m).by) f.told_ ∙ ap (has (log_members_at q.core.log (top m))) by ∙ l.members_ r.by (top m) listed far f.within

told_tick : (rules : Rules) (r : Repair) (i after taken : ℕ) (w : World) → WorldKeepsLawsAndCalm rules r w → has r.members i ≡ true → (i == r.by) ≡ false
    → after ≤ length w.letters → r.high ≤ top (w.nodes i) → taken ≤ (w.nodes i).core.taken → IsTold r i after taken (happens w (event_at (place_of_name i) Act.Tick))
told_tick rules r i after taken w h there other low far has_ =
    let e = event_at (place_of_name i) Act.Tick in
    let m = w.nodes i in
    let q = w.nodes r.by in
    let s = step m does.Tick in
    let is = tick_of_running_name_steps w i (member_of_repair_runs_now rules r w i h there) in
    let v = happens w e in
    let fine = laws_and_calm_stay rules r w e (our_ticks (place_of_name i)) h in
    let node = node_after_step_of_event w e i s is in
    let n = s.node in
    let before = h.calm.follows i there other in
    let f = fine.calm.follows i there other in
    let by : (view m).by ≡ r.by = ap (λ (x : Stamp). x.by) before.view_ ∙ h.calm.own in
    let own : (m.core.who == r.by) ≡ false = ap (λ k. k == r.by) (h.calm.who i) ∙ other in
    let follows : is_sequencer m ≡ false = split_on_bool (is_sequencer m) (λ t. absurd (other_name_is_not_sequencer m r.by by own t)) (λ g. g) in
    let says = members_report m before.acts_ follows before.rest (lists_leader r q m h.calm.leads h.calm.listed before far h.calm.own) in
    let who : n.core.who ≡ i = ap (λ (x : Node). x.core.who) (sym node) ∙ fine.calm.who i in
    let promise : n.core.promise ≡ r.view = ap (λ (x : Node). x.core.promise) (sym node) ∙ (acting_member_promised_its_view (v.nodes i) f.acts_).1 ∙ f.view_ in
    let grow = (world_grows_by_own_event rules r w e (our_ticks (place_of_name i)) h).taken i there in
    let top_ = ap (λ (x : Node). top x) node in
    let fronts = (fine.laws.each i (member_of_repair_is_small rules r v i fine there)).fronts in
    let given = fronts.given in
    let same = ap (λ (x : Node). x.core.taken) node in
    let meant : is_for says.letter r.by ≡ true = rw says.any (subst (λ k. has says.letter.to k ≡ true) by says.to) in
    record {
      letter = says.letter;
      sent = letter_of_step_is_sent w e i r.by after s says.letter is says.there meant low;
      tells = record {
        report = own_report_of n;
        is = subst (λ k. PacketIsReport says.letter.packet k r.view (own_report_of n)) who
            (subst (λ x. PacketIsReport says.letter.packet n.core.who x (own_report_of n)) promise says.says);
        fits = omega arith;
        much = omega arith;
      };
    }

-- after the ticks of a round
ticks_tell : (rules : Rules) (r : Repair) (i taken : ℕ) (w : World) → WorldKeepsLawsAndCalm rules r w → has r.members i ≡ true → (i == r.by) ≡ false
    → r.high ≤ top (w.nodes i) → taken ≤ (w.nodes i).core.taken → IsTold r i (length w.letters) taken (world_after_events w (ticks_of_places w))
ticks_tell rules r i taken w h there other far has_ =
    (acts_bring_property P (IsTold r i (length w.letters) taken) Act.Tick (place_of_name i) hits (running_places w) w
    (running_name_is_in_running w i (member_of_repair_runs_now rules r w i h there)) (h, far, has_, omega arith)).1
  where
    P : World → Type 0
    P u = WorldKeepsLawsAndCalm rules r u × (r.high ≤ top (u.nodes i)) × (taken ≤ (u.nodes i).core.taken) × (length w.letters ≤ length u.letters)

    keeps : (p : ℕ) (u : World) → P u → P (happens u (event_at p Act.Tick))
    keeps p u k =
        let e = event_at p Act.Tick in
        let more = letters_grow_by_event u e in
        let grows = world_grows_by_own_event rules r u e (our_ticks p) k.0 in
        let stored = grows.stored i there in
        let took = grows.taken i there in
        let far_ = k.1 in
        let had = k.2 in
        let long = k.3 in
        (laws_and_calm_stay rules r u e (our_ticks p) k.0, omega arith, omega arith, omega arith)

    hits : ActBringsProperty P (IsTold r i (length w.letters) taken) Act.Tick (place_of_name i)
    hits = record {
      keeps = keeps;
      hits = λ u k. told_tick rules r i (length w.letters) taken u k.0 there other k.3 k.1 k.2;
      stays = λ p u k q. told_goes r i (length w.letters) taken u (event_at p Act.Tick) q;
    }

-- ---- the sequencer hears it

knows_hear : (rules : Rules) (r : Repair) (i k taken : ℕ) (l : Letter) (report : Report) (u : World) → WorldKeepsLawsAndCalm rules r u → has r.members i ≡ true
    → (i == r.by) ≡ false → r.sent < k → letter_at u.letters k ≡ Some l → is_for l r.by ≡ true → PacketIsReport l.packet i r.view report
    → report.taken ≤ report.stored → taken ≤ report.taken → taken ≤ (((happens u (event_at (place_of_name r.by) (Act.Hear k))).nodes r.by).reports i).taken
knows_hear rules r i k taken l report u h there other late letter meant is_ fits much =
    let e = event_at (place_of_name r.by) (Act.Hear k) in
    let q = u.nodes r.by in
    let s = hear_packet q l.packet in
    let is = hearing_of_running_name_steps u r.by k l (member_of_repair_runs_now rules r u r.by h h.calm.listed) letter meant in
    let node = node_after_step_of_event u e r.by s is in
    let heard = sequencer_hears_its_members r q i h.calm.leads (h.calm.who r.by) other in
    let used = told_image_is_used q (h.laws.each r.by (member_of_repair_is_small rules r u r.by h h.calm.listed)).fronts in
    let known = member_name_is_not_unknown q i used (repair_member_is_member_now r q i h.calm.leads there) in
    let calm = report_of_calm_packet r u l.packet i r.view report is_ (h.calm.letters k l late letter) in
    let kept = taken_is_known q l.packet i r.view report is_ heard known (calm_report_fits_list r u i report h.calm there other calm fits) in
    let same = ap (λ (x : Node). (x.reports i).taken) node in
    omega arith

-- a quiet world whose sequencer knows so much of a name
Knows : Rules → Repair → (ℕ → ℕ) → ℕ → ℕ → ℕ → World → Type 0
Knows rules r last total i taken u = QuietRun rules r last total u × (taken ≤ ((u.nodes r.by).reports i).taken)

wave_knows : (rules : Rules) (r : Repair) (last : ℕ → ℕ) (total i after taken : ℕ) (w : World) → r.sent ≤ after → QuietRun rules r last total w
    → IsTold r i after taken w → has r.members i ≡ true → (i == r.by) ≡ false → Knows rules r last total i taken (world_after_events w (hearings w after))
unfolding Knows
wave_knows rules r last total i after taken w low h x there other =
    let fine = fine_of rules r last total w h in
    let z = wave_brings_property P Q w after x.sent.number (place_of_name r.by) (sent_letter_is_heard rules r w after r.by x.letter fine fine.calm.listed x.sent) hits
    (h, letters_stay_in_same_world w) in
    (z.0.0, z.1)
  where
    P : World → Type 0
    P u = QuietRun rules r last total u × LettersStayInWorld w u

    Q : World → Type 0
    Q u = taken ≤ ((u.nodes r.by).reports i).taken

    hits : WaveBringsProperty P Q after (length w.letters) x.sent.number (place_of_name r.by)
    hits = record {
      keeps = λ p n u late within k. (
        quiet_goes rules r last total u (event_at p (Act.Hear n)) (ours (event_at p (Act.Hear n)) (hears_ p n (omega arith))) k.0,
        letters_stay_by_event w u
            (event_at p (Act.Hear n)) k.1,
      );
      hits = λ u k. knows_hear rules r i x.sent.number taken x.letter x.tells.report u (fine_of rules r last total u k.0) there other (let late = x.sent.late in omega arith)
          (k.1.letters x.sent.number x.letter x.sent.there) x.sent.meant x.tells.is x.tells.fits x.tells.much;
      stays = λ p n u late within k q.
          (let kept = (kept_goes rules r last total u (event_at p (Act.Hear n)) (ours (event_at p (Act.Hear n)) (hears_ p n (omega arith))) k.0).taken i in
          omega arith);
    }

-- ---- the round

pub quiet_stable : (rules : Rules) (r : Repair) (last : ℕ → ℕ) (total : ℕ) → StaysThroughSchedule r (QuietRun rules r last total)
quiet_stable rules r last total = record { keeps = λ w e is h. quiet_goes rules r last total w e (ours e is) h }

knows_stable : (rules : Rules) (r : Repair) (last : ℕ → ℕ) (total i taken : ℕ) → StaysThroughSchedule r (Knows rules r last total i taken)
unfolding Knows
knows_stable rules r last total i taken = record {
  keeps = λ w e is h.
      (let kept = (kept_goes rules r last total w e (ours e is) h.0).taken i in
      let had = h.1 in
      (quiet_goes rules r last total w e (ours e is) h.0, omega arith));
}

pub round_tells_taken : (rules : Rules) (r : Repair) (last : ℕ → ℕ) (total i : ℕ) (w : World) → QuietRun rules r last total w → has r.members i ≡ true
    → (i == r.by) ≡ false → r.high ≤ top (w.nodes i) → (w.nodes i).core.taken ≤ (((world_after_waves w).nodes r.by).reports i).taken
unfolding Knows
round_tells_taken rules r last total i w h there other far =
    let a = world_after_ticks w in
    let taken = (w.nodes i).core.taken in
    let told_ = ticks_tell rules r i taken w (fine_of rules r last total w h) there other far (omega arith) in
    let quiet_ = property_stays_through_ticks r (QuietRun rules r last total) (quiet_stable rules r last total) w h in
    (property_stays_through_later_waves r (Knows rules r last total i taken) (knows_stable rules r last total i taken) w h.sent
    (wave_knows rules r last total i (length w.letters) taken a h.sent quiet_ told_ there other)).1

pub rounds_tell_taken : RoundsTellTaken
rounds_tell_taken rules events r last total name may h there other far =
    let w = run rules events in
    let is = round_world_is_after_waves (record { world = w; events = [] }) in
    subst (λ (v : World). (w.nodes name).core.taken ≤ ((v.nodes r.by).reports name).taken) (sym is)
    (round_tells_taken rules r last total name w (record { may = may; events = events; run_ = refl; world_is_quiet = h }) there other far)
