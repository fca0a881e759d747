-- What the first wave of a round brings about: a member asks for what is missing, the sequencer keeps reports, and a member accepts.
use Rattle.am_repair.proofs.RepairWords.{and_from, stamp_eq_of_itself, has_member_is_in_row, ◌≡◌, ℕ, zero, suc, ◌<◌, ◌≤◌, ◌==◌, not, nat_le, true, false, List, length, Some, refl, sym}
use Rattle.am_repair.proofs.RepairWords.{ap, ◌∙◌, subst, arith, Contains, nat_tests, Stamp, Report, Rules, place_of_name, life_of_name, has, stamps_are_equal, row_at_place, Packet}
use Rattle.am_repair.proofs.RepairWords.{Accept, Letter, letter_to, Event, is_for, letter_at, Node, top, image_of_node, view, members, set_of_one_name, own_report_of, Act}
use Rattle.am_repair.proofs.RepairWords.{report_fits, nack_packet_of, hear_packet, event_at, hearings, has_no_join, hears_packet_of_sequencer, sequencer_hears_packet, World, is_stopped}
use Rattle.am_repair.proofs.RepairWords.{happens, world_after_events, UnusedPlacesHaveNoLife, Cause, hears, IsCause, told_image_is_used, PacketIsReport, ack, nack, request, spread, Asks}
use Rattle.am_repair.proofs.RepairWords.{HearsFront, Repair, LeadsCalmly, FollowsView, ReportIs, IsCalm, Calm, IsSentAfter, Polled, Reported, MissingIsAsked, hears_}
use Rattle.am_repair.proofs.Sets.{only_name_has_name}
use Rattle.am_repair.proofs.Nodes.{acting_member_promised_its_view, sequencer_acts_by_own_view}
use Rattle.am_repair.proofs.RepairLeading.{repair_member_is_member_now}
use Rattle.am_repair.proofs.Following.{CauseSkipsNumber}
use Rattle.am_repair.proofs.Members.{fronts_are_heard}
use Rattle.am_repair.proofs.Members.{gaps_are_asked}
use Rattle.am_repair.proofs.Sequencers.{reports_are_taken}
use Rattle.am_repair.proofs.Steps.{skipped_cause_keeps_top}
use Rattle.am_repair.proofs.Memberships.{slice_get_below_length, member_has_no_own_leave}
use Rattle.am_repair.proofs.Schedules.{LetterIsHeardInWave, WaveBringsProperty, wave_brings_property}
use Rattle.am_repair.proofs.Skipping.{AllLettersSkipNumber, MemberWaitsForNumber}
use Rattle.am_repair.proofs.Fine.{WorldKeepsLawsAndCalm, laws_and_calm_stay}
use Rattle.am_repair.proofs.Fine.{member_of_repair_is_small, world_grows_by_own_event, letter_stays_after_event, letters_grow_by_event, member_of_repair_runs_now, hearing_of_running_name_steps}
use Rattle.am_repair.proofs.Ticking.{letter_stays_sent_by_event}
use Rattle.am_repair.proofs.Ticking.{letter_of_step_is_sent, node_after_step_of_event}

same_stamp_test : (a b : Stamp) → a ≡ b → stamps_are_equal a b ≡ true
same_stamp_test a b same = ap (stamps_are_equal a) (sym same) ∙ stamp_eq_of_itself a

other_test : (a b : ℕ) → (a == b) ≡ false → not (b == a) ≡ true
other_test a b f = let g : (b == a) ≡ false = grind (arith, nat_tests) in rw g refl

-- ---- who is heard

pub member_hears_its_sequencer : (r : Repair) (q m : Node) (i : ℕ) → r.view.by ≡ r.by → FollowsView r q m → m.core.who ≡ i → (i == r.by) ≡ false
    → hears_packet_of_sequencer m r.by r.view ≡ true
member_hears_its_sequencer r q m i own f who other =
    let t : not (r.by == m.core.who) ≡ true = other_test m.core.who r.by (ap (λ k. k == r.by) who ∙ other) in
    let member = (acting_member_promised_its_view m f.acts_).0 in
    let view_ = same_stamp_test r.view (view m) (sym f.view_) in
    let by : (r.view.by == r.by) ≡ true = grind (arith, nat_tests) in
    and_from _ _ (and_from _ _ (and_from _ _ t member) (and_from _ _ f.acts_ view_)) by

pub sequencer_hears_its_members : (r : Repair) (q : Node) (i : ℕ) → LeadsCalmly r q → q.core.who ≡ r.by → (i == r.by) ≡ false → sequencer_hears_packet q i r.view ≡ true
sequencer_hears_its_members r q i l who other =
    let acts_ = (sequencer_acts_by_own_view q l.leads).0 in
    let differs : (i == q.core.who) ≡ false = ap (λ k. i == k) who ∙ other in
    let t : not (i == q.core.who) ≡ true = rw differs refl in
    let member = (acting_member_promised_its_view q acts_).0 in
    let view_ = same_stamp_test r.view (view q) (sym l.view_) in
    and_from _ _ (and_from _ _ (and_from _ _ t member) (and_from _ _ acts_ view_)) l.leads

-- a member's Join stands in the sequencer's list
pub member_name_is_not_unknown : (m : Node) (i : ℕ) → UnusedPlacesHaveNoLife (image_of_node m) → has (members m) i ≡ true → has_no_join m i ≡ false
member_name_is_not_unknown m i used there =
    let k = has_member_is_in_row (image_of_node m) i used.places there in
    let same : ((row_at_place (image_of_node m) i).life == life_of_name i) ≡ true = grind (arith, nat_tests) in
    rw same (grind (arith, nat_tests))

-- ---- a wave's letters

-- what was sent before a wave is there in it
pub record LettersStayInWorld (w u : World) : Type 0 where
  pub letters : (k : ℕ) (l : Letter) → letter_at w.letters k ≡ Some l → letter_at u.letters k ≡ Some l
  pub long : length w.letters ≤ length u.letters

pub letters_stay_in_same_world : (w : World) → LettersStayInWorld w w
letters_stay_in_same_world w = record { letters = λ k l there. there; long = omega arith }

pub letters_stay_by_event : (w u : World) (e : Event) → LettersStayInWorld w u → LettersStayInWorld w (happens u e)
letters_stay_by_event w u e h = let a = h.long in let b = letters_grow_by_event u e in record {
  letters = λ k l there. letter_stays_after_event u e k l (h.letters k l there);
  long = omega arith;
}

pub letter_is_of_earlier_world : (w u : World) (k : ℕ) (l : Letter) → LettersStayInWorld w u → 0 < k → k ≤ length w.letters → letter_at u.letters k ≡ Some l
    → letter_at w.letters k ≡ Some l
letter_is_of_earlier_world w u zero l h low high there = absurd (omega arith)
letter_is_of_earlier_world w u (suc before) l h low high there =
    let some = slice_get_below_length w.letters before (omega arith) in
    let same = h.letters (suc before) some.0 some.1 in
    let is : some.0 ≡ l = cc in
    some.1 ∙ ap Some is

-- a hearing of one of them
heard_cause : (w u : World) (high after k name : ℕ) → LettersStayInWorld w u → AllLettersSkipNumber high after w → after < k → k ≤ length w.letters → (c : Cause)
    → IsCause u name (Act.Hear k) c → CauseSkipsNumber high c
heard_cause w u high after k name h skips late within (hears p) is = subst (λ x. CauseSkipsNumber high (hears x)) is.is
    (skips k is.letter late (letter_is_of_earlier_world w u k is.letter h (omega arith) within is.there))
heard_cause w u high after k name h skips late within _ is = tt

-- ---- a member asks for what is missing

asked_goes : (r : Repair) (i after stored : ℕ) (w : World) (e : Event) → MissingIsAsked r i after stored w → MissingIsAsked r i after stored (happens w e)
asked_goes r i after stored w e h = record { letter = h.letter; sent = letter_stays_sent_by_event w e after r.by h.letter h.sent; asks = h.asks }

-- what a member's node is after an event
record IsMember (r : Repair) (i : ℕ) (n : Node) : Type 0 where
  pub who : n.core.who ≡ i
  pub promise : n.core.promise ≡ r.view
  pub given : n.core.taken ≤ top n

member_node : (rules : Rules) (r : Repair) (i : ℕ) (v : World) (n : Node) → WorldKeepsLawsAndCalm rules r v → has r.members i ≡ true → (i == r.by) ≡ false
    → v.nodes i ≡ n → IsMember r i n
member_node rules r i v n fine there other node =
    let f = fine.calm.follows i there other in
    let fronts = (fine.laws.each i (member_of_repair_is_small rules r v i fine there)).fronts in
    let given = fronts.given in
    let top_ = ap (λ (x : Node). top x) node in
    let taken = ap (λ (x : Node). x.core.taken) node in
    record {
      who = ap (λ (x : Node). x.core.who) (sym node) ∙ fine.calm.who i;
      promise = ap (λ (x : Node). x.core.promise) (sym node) ∙ (acting_member_promised_its_view (v.nodes i) f.acts_).1 ∙ f.view_;
      given = omega arith;
    }

asked_hear : (rules : Rules) (r : Repair) (i after stored k : ℕ) (l : Letter) (base acc high : ℕ) (u : World) → WorldKeepsLawsAndCalm rules r u
    → has r.members i ≡ true → (i == r.by) ≡ false → r.sent < k → after ≤ length u.letters → top (u.nodes i) ≡ stored → stored < r.high
    → letter_at u.letters k ≡ Some l → is_for l i ≡ true → l.packet ≡ Accept r.by r.view base acc high true → r.high ≤ high
    → MissingIsAsked r i after stored (happens u (event_at (place_of_name i) (Act.Hear k)))
asked_hear rules r i after stored k l base acc high u h there other late low at short letter meant is_ far =
    let e = event_at (place_of_name i) (Act.Hear k) in
    let m = u.nodes i in
    let q = u.nodes r.by in
    let s = hear_packet m l.packet in
    let is = hearing_of_running_name_steps u i k l (member_of_repair_runs_now rules r u i h there) letter meant in
    let v = happens u e in
    let fine = laws_and_calm_stay rules r u e (hears_ (place_of_name i) k late) h in
    let node = node_after_step_of_event u e i s is in
    let n = s.node in
    let f = h.calm.follows i there other in
    let heard = member_hears_its_sequencer r q m i h.calm.own f (h.calm.who i) other in
    let used = (h.laws.each r.by (member_of_repair_is_small rules r u r.by h h.calm.listed)).fronts.used in
    let here = subst (λ j. has r.members j ≡ true) (sym (h.calm.who i)) there in
    let asks = subst (λ p. Asks m r.by (hear_packet m p)) (sym is_) (gaps_are_asked m r.by r.view base acc high true heard (omega arith)
    (member_has_no_own_leave r q m h.calm.leads used f here (omega arith))) in
    let mine = member_node rules r i v n fine there other node in
    let answer = letter_to (set_of_one_name r.by) (nack_packet_of n) in
    record {
      letter = answer;
      sent = letter_of_step_is_sent u e i r.by after s answer is (subst (λ (ls : List Letter). Contains ls answer) (sym asks.letters) (0, omega arith, refl))
          (only_name_has_name r.by) low;
      asks = record {
        report = own_report_of n;
        is = cc;
        fits = mine.given;
        exact = asks.stored ∙ at;
      };
    }

pub sent_letter_is_heard : (rules : Rules) (r : Repair) (w : World) (after name : ℕ) (l : Letter) → WorldKeepsLawsAndCalm rules r w → has r.members name ≡ true
    → (s : IsSentAfter w after name l) → LetterIsHeardInWave w after s.number (place_of_name name)
sent_letter_is_heard rules r w after name l h there s =
    let at = member_of_repair_runs_now rules r w name h there in
    record {
      late = s.late;
      letter = l;
      there = s.there;
      low = omega arith;
      runs = ap (is_stopped w) at.current_ ∙ at.runs;
      meant = ap (is_for l) at.current_ ∙ s.meant;
    }

-- the first wave's end, for a member that has less
pub record HasAskedForMissing (rules : Rules) (r : Repair) (i after stored : ℕ) (u : World) : Type 0 where
  pub fine : WorldKeepsLawsAndCalm rules r u
  pub stored_ : top (u.nodes i) ≡ stored
  pub asked : MissingIsAsked r i after stored u

pub first_wave_asks : (rules : Rules) (r : Repair) (i after stored accepted : ℕ) (w : World) → r.sent ≤ after → MemberWaitsForNumber rules r i after stored w
    → Polled r i after accepted w → has r.members i ≡ true → (i == r.by) ≡ false → stored < r.high
    → HasAskedForMissing rules r i (length w.letters) stored (world_after_events w (hearings w after))
first_wave_asks rules r i after stored accepted w low x poll there other short =
    let z = wave_brings_property P (MissingIsAsked r i (length w.letters) stored) w after poll.sent.number (place_of_name i)
    (sent_letter_is_heard rules r w after i poll.letter x.fine there poll.sent) hits (x.fine, x.stored, letters_stay_in_same_world w) in
    record { fine = z.0.0; stored_ = z.0.1; asked = z.1 }
  where
    P : World → Type 0
    P u = WorldKeepsLawsAndCalm rules r u × (top (u.nodes i) ≡ stored) × LettersStayInWorld w u

    keeps : (p n : ℕ) (u : World) → after < n → n ≤ length w.letters → P u → P (happens u (event_at p (Act.Hear n)))
    keeps p n u late within k =
        let e = event_at p (Act.Hear n) in
        let ours = hears_ p n (omega arith) in (
          laws_and_calm_stay rules r u e ours k.0,
          skipped_cause_keeps_top r u e i ours k.0.calm there other (λ c is. subst (λ high. CauseSkipsNumber high c) (sym k.1)
              (heard_cause w u stored after n _ k.2 x.skips late within c is)) ∙ k.1,
          letters_stay_by_event w u e k.2,
        )

    hits : WaveBringsProperty P (MissingIsAsked r i (length w.letters) stored) after (length w.letters) poll.sent.number (place_of_name i)
    hits = record {
      keeps = keeps;
      hits = λ u k. asked_hear rules r i (length w.letters) stored poll.sent.number poll.letter poll.base poll.acc poll.high u k.0 there other
          (let late = poll.sent.late in omega arith) k.2.long k.1 short
          (k.2.letters poll.sent.number poll.letter poll.sent.there) poll.sent.meant poll.is poll.far;
      stays = λ p n u late within k q. asked_goes r i (length w.letters) stored u (event_at p (Act.Hear n)) q;
    }

-- ---- the sequencer hears a report

pub report_of_calm_packet : (r : Repair) (w : World) (p : Packet) (s : ℕ) (v : Stamp) (report : Report) → PacketIsReport p s v report → IsCalm r w p
    → ReportIs r w s report
report_of_calm_packet r w p s v report (ack s_ v_ report_) h = h
report_of_calm_packet r w p s v report (nack s_ v_ report_) h = h
report_of_calm_packet r w p s v report (request s_ v_ report_ req body) h = h
report_of_calm_packet r w p s v report (spread s_ v_ report_ req body) h = h

-- a report of a member fits the sequencer's list
pub calm_report_fits_list : (r : Repair) (u : World) (i : ℕ) (report : Report) → Calm r u → has r.members i ≡ true → (i == r.by) ≡ false → ReportIs r u i report
    → report.taken ≤ report.stored → report_fits (u.nodes r.by) report ≡ true
calm_report_fits_list r u i report h there other is fits =
    let a : nat_le report.taken report.stored ≡ true = grind (arith, nat_tests) in
    let b : nat_le report.stored (top (u.nodes r.by)) ≡ true = grind (arith, nat_tests) in
    and_from _ _ a b

report_hear : (rules : Rules) (r : Repair) (i k high : ℕ) (l : Letter) (report : Report) (u : World) → WorldKeepsLawsAndCalm rules r u → has r.members i ≡ true
    → (i == r.by) ≡ false → r.sent < k → letter_at u.letters k ≡ Some l → is_for l r.by ≡ true → PacketIsReport l.packet i r.view report
    → report.taken ≤ report.stored → high ≤ report.stored → high ≤ (((happens u (event_at (place_of_name r.by) (Act.Hear k))).nodes r.by).reports i).stored
report_hear rules r i k high l report u h there other late letter meant is_ fits much =
    let e = event_at (place_of_name r.by) (Act.Hear k) in
    let q = u.nodes r.by in
    let s = hear_packet q l.packet in
    let is = hearing_of_running_name_steps u r.by k l (member_of_repair_runs_now rules r u r.by h h.calm.listed) letter meant in
    let node = node_after_step_of_event u e r.by s is in
    let heard = sequencer_hears_its_members r q i h.calm.leads (h.calm.who r.by) other in
    let used = told_image_is_used q (h.laws.each r.by (member_of_repair_is_small rules r u r.by h h.calm.listed)).fronts in
    let known = member_name_is_not_unknown q i used (repair_member_is_member_now r q i h.calm.leads there) in
    let calm = report_of_calm_packet r u l.packet i r.view report is_ (h.calm.letters k l late letter) in
    let kept = reports_are_taken q l.packet i r.view report is_ heard known (calm_report_fits_list r u i report h.calm there other calm fits) in
    let same = ap (λ (x : Node). (x.reports i).stored) node in
    omega arith

-- a number of the world is as high as the sequencer's list went
pub record ReachesHighNumber (rules : Rules) (r : Repair) (number : World → ℕ) (u : World) : Type 0 where
  pub fine : WorldKeepsLawsAndCalm rules r u
  pub high : r.high ≤ number u

-- the sequencer knows that a member has stored so much
abbrev pub SequencerKnowsStored : Rules → Repair → ℕ → World → Type 0
SequencerKnowsStored rules r i = ReachesHighNumber rules r (λ u. ((u.nodes r.by).reports i).stored)

pub first_wave_reports : (rules : Rules) (r : Repair) (i after : ℕ) (w : World) → r.sent ≤ after → WorldKeepsLawsAndCalm rules r w → Reported r i after r.high w
    → has r.members i ≡ true → (i == r.by) ≡ false → SequencerKnowsStored rules r i (world_after_events w (hearings w after))
first_wave_reports rules r i after w low h x there other =
    let z = wave_brings_property P Q w after x.sent.number (place_of_name r.by) (sent_letter_is_heard rules r w after r.by x.letter h h.calm.listed x.sent) hits
    (h, letters_stay_in_same_world w) in
    record { fine = z.0.0; high = z.1 }
  where
    P : World → Type 0
    P u = WorldKeepsLawsAndCalm rules r u × LettersStayInWorld w u

    Q : World → Type 0
    Q u = r.high ≤ ((u.nodes r.by).reports i).stored

    hits : WaveBringsProperty P Q after (length w.letters) x.sent.number (place_of_name r.by)
    hits = record {
      keeps = λ p n u late within k. (
        laws_and_calm_stay rules r u (event_at p (Act.Hear n)) (hears_ p n (omega arith)) k.0,
        letters_stay_by_event w u
            (event_at p (Act.Hear n)) k.1,
      );
      hits = λ u k. report_hear rules r i x.sent.number r.high x.letter x.report u k.0 there other (let late = x.sent.late in omega arith)
          (k.1.letters x.sent.number x.letter x.sent.there) x.sent.meant x.is x.fits x.much;
      stays = λ p n u late within k q. (let kept = (world_grows_by_own_event rules r u (event_at p (Act.Hear n))
          (hears_ p n (omega arith)) k.0).kept i there in omega arith);
    }

-- ---- a member accepts

front_hear : (rules : Rules) (r : Repair) (i k : ℕ) (l : Letter) (base acc high : ℕ) (u : World) → WorldKeepsLawsAndCalm rules r u → has r.members i ≡ true
    → (i == r.by) ≡ false → letter_at u.letters k ≡ Some l → is_for l i ≡ true → l.packet ≡ Accept r.by r.view base acc high true → r.high ≤ acc
    → r.high ≤ top (u.nodes i) → r.high ≤ ((happens u (event_at (place_of_name i) (Act.Hear k))).nodes i).core.acc
front_hear rules r i k l base acc high u h there other letter meant is_ far stored =
    let e = event_at (place_of_name i) (Act.Hear k) in
    let m = u.nodes i in
    let s = hear_packet m l.packet in
    let is = hearing_of_running_name_steps u i k l (member_of_repair_runs_now rules r u i h there) letter meant in
    let node = node_after_step_of_event u e i s is in
    let heard = member_hears_its_sequencer r (u.nodes r.by) m i h.calm.own (h.calm.follows i there other) (h.calm.who i) other in
    let hears_ = subst (λ p. HearsFront m acc (hear_packet m p).node) (sym is_) (fronts_are_heard m r.by r.view base acc high true heard) in
    let same = ap (λ (x : Node). x.core.acc) node in
    omega arith

-- a member has accepted so much
abbrev pub MemberAcceptsHigh : Rules → Repair → ℕ → World → Type 0
MemberAcceptsHigh rules r i = ReachesHighNumber rules r (λ u. (u.nodes i).core.acc)

pub first_wave_accepts : (rules : Rules) (r : Repair) (i after : ℕ) (w : World) → r.sent ≤ after → WorldKeepsLawsAndCalm rules r w → Polled r i after r.high w
    → has r.members i ≡ true → (i == r.by) ≡ false → r.high ≤ top (w.nodes i) → MemberAcceptsHigh rules r i (world_after_events w (hearings w after))
first_wave_accepts rules r i after w low h poll there other stored =
    let z = wave_brings_property P Q w after poll.sent.number (place_of_name i) (sent_letter_is_heard rules r w after i poll.letter h there poll.sent) hits
    (h, stored, letters_stay_in_same_world w) in
    record { fine = z.0.0; high = z.1 }
  where
    P : World → Type 0
    P u = WorldKeepsLawsAndCalm rules r u × (r.high ≤ top (u.nodes i)) × LettersStayInWorld w u

    Q : World → Type 0
    Q u = r.high ≤ (u.nodes i).core.acc

    hits : WaveBringsProperty P Q after (length w.letters) poll.sent.number (place_of_name i)
    hits = record {
      keeps = λ p n u late within k.
          (let grow = (world_grows_by_own_event rules r u (event_at p (Act.Hear n)) (hears_ p n (omega arith)) k.0).stored i there in
          (laws_and_calm_stay rules r u (event_at p (Act.Hear n)) (hears_ p n (omega arith)) k.0, omega arith, letters_stay_by_event w u (event_at p (Act.Hear n)) k.2));
      hits = λ u k. front_hear rules r i poll.sent.number poll.letter poll.base poll.acc poll.high u k.0 there other
          (k.2.letters poll.sent.number poll.letter poll.sent.there) poll.sent.meant poll.is poll.told k.1;
      stays = λ p n u late within k q. (let grow = (world_grows_by_own_event rules r u (event_at p (Act.Hear n))
          (hears_ p n (omega arith)) k.0).acc i there in omega arith);
    }
