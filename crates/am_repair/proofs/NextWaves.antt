-- What the second and the third wave of a round bring about: what is missing is sent again, and stored.
use Rattle.am_repair.proofs.RepairWords.{◌≡◌, ℕ, zero, suc, ◌+◌, ◌-◌, ◌<◌, ◌≤◌, ◌==◌, min, true, false, List, [], ◌∷◌, length, drop, Some, slice_get, refl, sym, ap}
use Rattle.am_repair.proofs.RepairWords.{◌∙◌, subst, arith, length-drop, nat_tests, length-take, Stamp, Report, Entry, Packet, Rules, place_of_name, has, Log, top_of_log}
use Rattle.am_repair.proofs.RepairWords.{log_entry_at, fits, Bcast, Nack, Letter, letter_to, slice_get-drop, Event, is_for, letter_at, Node, top, set_of_one_name, Act}
use Rattle.am_repair.proofs.RepairWords.{node_with_report, StepResult, bcast_packet_of, entries_to_serve, hear_packet, event_at, hearings, take_report, World, happens, world_after_events, Cause}
use Rattle.am_repair.proofs.RepairWords.{hears, CauseHasReport, with_send, by_request, by_spread, by_ack, by_nack, by_leave_ask, IsCause, slice_get_of_take}
use Rattle.am_repair.proofs.RepairWords.{slice_get_of_front, NodeTrimFronts, lower_own_report_keeps_fronts, told_image_is_used, bcasts, Serves, Repair, LeadsCalmly, IsCalm, IsServed, Served, IsOurs, hears_}
use Rattle.am_repair.specs.Rows as rows
use Rattle.am_repair.proofs.RepairLeading.{TrustsReportsTaken, CauseTellsTaken, told_report_is_of_sender, repair_member_is_member_now, alike_node_leads_repair, trusts_reports_with_report, trusts_reports_after_refresh}
use Rattle.am_repair.proofs.FirstWave.{sequencer_hears_its_members, member_name_is_not_unknown, report_of_calm_packet, calm_report_fits_list, LettersStayInWorld, letters_stay_in_same_world, letters_stay_by_event, letter_is_of_earlier_world, sent_letter_is_heard}
use Rattle.am_repair.proofs.FirstWave.{HasAskedForMissing}
use Rattle.am_repair.proofs.Nodes.{acting_member_promised_its_view, sequencer_acts_by_own_view, nodes_stand_alike_by_parts}
use Rattle.am_repair.proofs.RepairLists.{entry_at_in_grown_log, entry_at_is_within_log}
use Rattle.am_repair.proofs.Saying.{entry_at_of_list_item}
use Rattle.am_repair.proofs.Sequencers.{nacks_are_served}
use Rattle.am_repair.proofs.Steps.{sequencer_goes_on_from_itself, reports_stay_trusted_by_event}
use Rattle.am_repair.proofs.Memberships.{slice_get_below_length}
use Rattle.am_repair.proofs.Schedules.{WaveBringsProperty, wave_brings_property}
use Rattle.am_repair.proofs.Fine.{WorldKeepsLawsAndCalm, laws_and_calm_stay, member_of_repair_is_small, world_grows_by_own_event, letter_stays_after_event, member_of_repair_runs_now, hearing_of_running_name_steps, letter_sent_at_number}
use Rattle.am_repair.proofs.Ticking.{node_after_step_of_event}

-- ---- what a Nack is answered with

bcasts_get : (n : Node) (to : List ℕ) (number : ℕ) (es : List Entry) (k : ℕ) (e : Entry) → slice_get es k ≡ Some e
    → slice_get (bcasts n to number es) k ≡ Some (letter_to to (bcast_packet_of n (number + k) e))
unfolding bcasts
bcasts_get n to number [] k e there = absurd (cc)
bcasts_get n to number (x ∷ es) zero e there =
    let same : x ≡ e = cc in
    let at : number ≡ number + 0 = omega arith in
    ap (λ y. Some (letter_to to (bcast_packet_of n number y))) same ∙ ap (λ j. Some (letter_to to (bcast_packet_of n j e))) at
bcasts_get n to number (x ∷ es) (suc k) e there =
    let at : number + 1 + k ≡ number + suc k = omega arith in
    bcasts_get n to (number + 1) es k e there ∙ ap (λ j. Some (letter_to to (bcast_packet_of n j e))) at

-- the entries above a number
served_long : (q : Node) (stored : ℕ) → q.core.log.start ≤ stored → length (entries_to_serve q stored) ≡ min 8 (top q - stored)
served_long q stored low =
    let entries = q.core.log.entries in
    let skip = stored - q.core.log.start in
    let a = length-take 8 (drop skip entries) in
    let b = length-drop skip entries in
    omega arith

served_get : (q : Node) (stored k : ℕ) (e : Entry) → q.core.log.start ≤ stored → slice_get (entries_to_serve q stored) k ≡ Some e
    → log_entry_at q.core.log (stored + 1 + k) ≡ Some e
served_get q stored k e low there =
    let entries = q.core.log.entries in
    let skip = stored - q.core.log.start in
    let at = slice_get_of_take 8 (drop skip entries) k e there in
    entry_at_of_list_item q.core.log (skip + k) (stored + 1 + k) e (sym (slice_get-drop skip k entries) ∙ at) (omega arith)

-- the sequencer trims no more than was taken, with a member's report
report_trims : (rules : Rules) (r : Repair) (taken : ℕ → ℕ) (q : Node) (i : ℕ) (report : Report) → LeadsCalmly r q → q.core.who ≡ r.by → NodeTrimFronts q
    → TrustsReportsTaken r taken q → has r.members i ≡ true → (i == r.by) ≡ false → report.taken ≤ taken i → (take_report q i report).core.base ≤ taken i
report_trims rules r taken q i report l who f t there other low =
    let p = node_with_report q i report in
    let own : (q.core.who == i) ≡ false = grind (arith, nat_tests) in
    let lp = alike_node_leads_repair r q p (nodes_stand_alike_by_parts q p refl refl refl refl refl refl (omega arith) (omega arith)) l in
    let fp : NodeTrimFronts p = lower_own_report_keeps_fronts _ (rw own f.reported) f in
    (trusts_reports_after_refresh r taken p who lp fp (trusts_reports_with_report r taken q i report (λ here. low) t)).base i there other

-- ---- entries on their way

pub served_entry_stays_by_event : (rules : Rules) (r : Repair) (i letter number : ℕ) (u : World) (e : Event) → IsOurs r e → WorldKeepsLawsAndCalm rules r u → has r.members i ≡ true
    → IsServed rules r i letter number u → IsServed rules r i letter number (happens u e)
served_entry_stays_by_event rules r i letter number u e ours h there s =
    let grow = world_grows_by_own_event rules r u e ours h in
    record {
      base = s.base;
      acc = s.acc;
      entry = s.entry;
      there = letter_stays_after_event u e letter _ s.there;
      stands = entry_at_in_grown_log (u.nodes r.by).core.log ((happens u e).nodes r.by).core.log number s.entry grow.log s.stands;
      taken = omega arith;
      within = s.within;
    }

served_goes : (rules : Rules) (r : Repair) (i after stored : ℕ) (u : World) (e : Event) → IsOurs r e → WorldKeepsLawsAndCalm rules r u → has r.members i ≡ true
    → Served rules r i after stored u → Served rules r i after stored (happens u e)
served_goes rules r i after stored u e ours h there s = record {
  first = s.first;
  late = s.late;
  many = s.many;
  enough = s.enough;
  each = λ k low. served_entry_stays_by_event rules r i (s.first + 1 + k) (stored + 1 + k) u e ours h there (s.each k low);
}

-- ---- the sequencer hears what is missing

same_bcast : (n : Node) (s : ℕ) (v : Stamp) (number : ℕ) (e : Entry) → n.core.who ≡ s → n.core.promise ≡ v
    → bcast_packet_of n number e ≡ Bcast s v n.core.base n.core.acc number e
same_bcast n s v number e a b = cc

-- the world after it, where it serves
served_by : (rules : Rules) (r : Repair) (i stored : ℕ) (u v : World) (s : StepResult) → WorldKeepsLawsAndCalm rules r u → WorldKeepsLawsAndCalm rules r v → has r.members i ≡ true
    → (i == r.by) ≡ false → (u.nodes r.by).core.log.start ≤ stored → v.nodes r.by ≡ s.node → Serves (u.nodes r.by) i stored s
    → ((j : ℕ) (l : Letter) → slice_get s.letters j ≡ Some l → letter_at v.letters (length u.letters + 1 + j) ≡ Some l)
    → Served rules r i (length u.letters) stored v
served_by rules r i stored u v s h fine there other low node serves sent =
    let q = u.nodes r.by in
    let n = s.node in
    let l = subst (LeadsCalmly r) node fine.calm.leads in
    let who : n.core.who ≡ r.by = ap (λ (x : Node). x.core.who) (sym node) ∙ fine.calm.who r.by in
    let promise : n.core.promise ≡ r.view = (acting_member_promised_its_view n (sequencer_acts_by_own_view n l.leads).0).1 ∙ l.view_ in
    let long = served_long q stored low in
    let few = (fine.laws.kept r.by).few in
    let base = ap (λ (x : Node). x.core.base) node in
    let top_ = ap (λ (x : Node). top x) node ∙ ap (λ (x : Log). top_of_log x) serves.same in
    let trims = (fine.calm.follows i there other).base in
    record {
      first = length u.letters;
      late = omega arith;
      many = length (entries_to_serve q stored);
      enough = omega arith;
      each = λ k below.
          (let some = slice_get_below_length (entries_to_serve q stored) k below in
          let e = some.0 in
          let stands = served_get q stored k e low some.1 in
          let within = (entry_at_is_within_log q.core.log (stored + 1 + k) e stands).1 in
          let letter = ap (λ ls. slice_get ls k) serves.letters ∙ slice_get_of_front _ serves.more k _
          (bcasts_get n (set_of_one_name i) (stored + 1) (entries_to_serve q stored) k e some.1) in
          record {
            base = n.core.base;
            acc = n.core.acc;
            entry = e;
            there = sent k _ letter ∙ ap (λ p. Some (letter_to (set_of_one_name i) p)) (same_bcast n r.by r.view (stored + 1 + k) e who promise);
            stands = ap (λ (x : Node). log_entry_at x.core.log (stored + 1 + k)) node ∙ ap (λ (x : Log). log_entry_at x (stored + 1 + k)) serves.same ∙ stands;
            taken = omega arith;
            within = omega arith;
          });
    }

nack_hear : (rules : Rules) (r : Repair) (taken : ℕ → ℕ) (i stored k : ℕ) (l : Letter) (report : Report) (u : World) → WorldKeepsLawsAndCalm rules r u
    → TrustsReportsTaken r taken (u.nodes r.by) → taken i ≤ stored → has r.members i ≡ true → (i == r.by) ≡ false → r.sent < k → letter_at u.letters k ≡ Some l
    → is_for l r.by ≡ true → l.packet ≡ Nack i r.view report → report.taken ≤ report.stored → report.taken ≤ taken i → report.stored ≡ stored
    → Served rules r i (length u.letters) stored (happens u (event_at (place_of_name r.by) (Act.Hear k)))
nack_hear rules r taken i stored k l report u h t bound there other late letter meant is_ fits low exact =
    let e = event_at (place_of_name r.by) (Act.Hear k) in
    let q = u.nodes r.by in
    let s = hear_packet q l.packet in
    let is = hearing_of_running_name_steps u r.by k l (member_of_repair_runs_now rules r u r.by h h.calm.listed) letter meant in
    let fine = laws_and_calm_stay rules r u e (hears_ (place_of_name r.by) k late) h in
    let node = node_after_step_of_event u e r.by s is in
    let few = member_of_repair_is_small rules r u r.by h h.calm.listed in
    let fronts = (h.laws.each r.by few).fronts in
    let heard = sequencer_hears_its_members r q i h.calm.leads (h.calm.who r.by) other in
    let used = told_image_is_used q fronts in
    let known = member_name_is_not_unknown q i used (repair_member_is_member_now r q i h.calm.leads there) in
    let calm = report_of_calm_packet r u (Nack i r.view report) i r.view report (rows.nack i r.view report)
    (subst (λ p. IsCalm r u p) is_ (h.calm.letters k l late letter)) in
    let trims = report_trims rules r taken q i report h.calm.leads (h.calm.who r.by) fronts t there other low in
    let serves = nacks_are_served q i r.view report heard known (calm_report_fits_list r u i report h.calm there other calm fits) (omega arith) in
    served_by rules r i stored u (happens u e) s h fine there other (omega arith) node
    (subst (λ p. Serves q i stored (hear_packet q p)) (sym is_) (subst (λ x. Serves q i x (hear_packet q (Nack i r.view report))) exact serves))
    (λ j x there_. ap (λ (v : World). letter_at v.letters (length u.letters + 1 + j)) is ∙ letter_sent_at_number u e r.by s j x there_)

-- a report is heard
heard_report : {c : Cause} {s : ℕ} {v : Stamp} {report : Report} → CauseHasReport c s v report → (p : Packet) × (c ≡ hears p)
heard_report (with_send s v report req body (by_request s1 v1 report1 req1 body1)) = (_, refl)
heard_report (with_send s v report req body (by_spread s1 v1 report1 req1 body1)) = (_, refl)
heard_report (by_ack s v report) = (_, refl)
heard_report (by_nack s v report) = (_, refl)
heard_report (by_leave_ask s v report) = (_, refl)

-- what the reports of a wave tell was taken by the wave's beginning
wave_tells : (rules : Rules) (r : Repair) (w u : World) (after k name : ℕ) → WorldKeepsLawsAndCalm rules r w → LettersStayInWorld w u → r.sent ≤ after → after < k → k ≤ length w.letters
    → (c : Cause) → IsCause u name (Act.Hear k) c → CauseTellsTaken r (λ i. (w.nodes i).core.taken) c
wave_tells rules r w u after k name h stays low late within (hears p) is s v report brings there =
    let letter = letter_is_of_earlier_world w u k is.letter stays (omega arith) within is.there in
    let calm = subst (IsCalm r w) is.is (h.calm.letters k is.letter (omega arith) letter) in
    (told_report_is_of_sender r w (hears p) s v report brings calm).taken there
wave_tells rules r w u after k name h stays low late within _ is s v report brings there = absurd (let heard = (heard_report brings).1 in cc)

-- the second wave's end
pub record SequencerServesMissing (rules : Rules) (r : Repair) (i after stored : ℕ) (u : World) : Type 0 where
  pub fine : WorldKeepsLawsAndCalm rules r u
  pub served_ : Served rules r i after stored u

pub second_wave_serves : (rules : Rules) (r : Repair) (i after stored : ℕ) (w : World) → r.sent ≤ after → HasAskedForMissing rules r i after stored w
    → has r.members i ≡ true → (i == r.by) ≡ false → SequencerServesMissing rules r i (length w.letters) stored (world_after_events w (hearings w after))
second_wave_serves rules r i after stored w low x there other =
    let z = wave_brings_property P (Served rules r i (length w.letters) stored) w after x.asked.sent.number (place_of_name r.by)
    (sent_letter_is_heard rules r w after r.by x.asked.letter x.fine x.fine.calm.listed x.asked.sent) hits (x.fine, trusts_first, letters_stay_in_same_world w) in
    record { fine = z.0.0; served_ = z.1 }
  where
    taken : ℕ → ℕ
    taken name = (w.nodes name).core.taken

    trusts_first : TrustsReportsTaken r taken (w.nodes r.by)
    trusts_first = (sequencer_goes_on_from_itself r w x.fine.calm).trusts

    P : World → Type 0
    P u = WorldKeepsLawsAndCalm rules r u × TrustsReportsTaken r taken (u.nodes r.by) × LettersStayInWorld w u

    keeps : (p n : ℕ) (u : World) → after < n → n ≤ length w.letters → P u → P (happens u (event_at p (Act.Hear n)))
    keeps p n u late within k =
        let e = event_at p (Act.Hear n) in
        let ours = hears_ p n (omega arith) in (
          laws_and_calm_stay rules r u e ours k.0,
          reports_stay_trusted_by_event rules r taken u e ours k.0.laws k.0.calm
              (λ c is. wave_tells rules r w u after n _ x.fine k.2 low late within c is) k.1,
          letters_stay_by_event w u e k.2,
        )

    low_taken : taken i ≤ stored
    low_taken =
        let fronts = (x.fine.laws.each i (member_of_repair_is_small rules r w i x.fine there)).fronts in
        omega arith

    tells : x.asked.report.taken ≤ taken i
    tells =
        let s = x.asked.sent in
        let calm = subst (λ p. IsCalm r w p) x.asked.is (x.fine.calm.letters s.number x.asked.letter (omega arith) s.there) in
        calm.taken there

    later : (u : World) → length w.letters ≤ length u.letters → (v : World) → Served rules r i (length u.letters) stored v
        → Served rules r i (length w.letters) stored v
    later u long v s = let late = s.late in record { first = s.first; late = omega arith; many = s.many; enough = s.enough; each = s.each }

    hits : WaveBringsProperty P (Served rules r i (length w.letters) stored) after (length w.letters) x.asked.sent.number (place_of_name r.by)
    hits = record {
      keeps = keeps;
      hits = λ u k. (let s = x.asked.sent in let late = s.late in
          later u k.2.long _ (nack_hear rules r taken i stored s.number x.asked.letter x.asked.report u k.0 k.1 low_taken there other (omega arith)
          (k.2.letters s.number x.asked.letter s.there) s.meant x.asked.is x.asked.fits tells x.asked.exact));
      stays = λ p n u late within k q. served_goes rules r i (length w.letters) stored u (event_at p (Act.Hear n)) (hears_ p n (omega arith)) k.0 there q;
    }
