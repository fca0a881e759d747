-- What the third wave of a round brings about: what was sent again is stored.
use Rattle.am_repair.proofs.RepairWords.{◌≡◌, inl, inr, ℕ, ◌+◌, ◌-◌, ◌<◌, ◌≤◌, ◌==◌, min, true, false, List, length, Some, sym, ap, ◌∙◌, subst, arith, filter}
use Rattle.am_repair.proofs.RepairWords.{cases_lt, Image, Rules, place_of_name, has, log_image_at, fits, Bcast, Letter, letter_to, is_for, letter_at, Node, top, set_of_one_name}
use Rattle.am_repair.proofs.RepairWords.{hear_packet, event_at, running_places, hearings_of, hearings, World, current, is_stopped, happens, world_after_events, ComesNext, Repair, IsServed}
use Rattle.am_repair.proofs.RepairWords.{Served, IsOurs, hears_, Act}
use Rattle.am_repair.proofs.Schedules.{property_stays_through_acts, acts_bring_property, hearing_place_is_in_list, property_walks_through_wave, letter_number_le_length}
use Rattle.am_repair.proofs.Sets.{only_name_has_name}
use Rattle.am_repair.proofs.Members.{entries_are_stored}
use Rattle.am_repair.proofs.Memberships.{member_has_no_own_leave, entry_above_last_view}
use Rattle.am_repair.proofs.Fine.{WorldKeepsLawsAndCalm, laws_and_calm_stay}
use Rattle.am_repair.proofs.Fine.{member_of_repair_is_small, world_grows_by_own_event, member_of_repair_runs_now, hearing_of_running_name_steps}
use Rattle.am_repair.proofs.Ticking.{node_after_step_of_event}
use Rattle.am_repair.proofs.FirstWave.{member_hears_its_sequencer, LettersStayInWorld}
use Rattle.am_repair.proofs.FirstWave.{letters_stay_in_same_world, letters_stay_by_event}
use Rattle.am_repair.proofs.NextWaves.{served_entry_stays_by_event}

-- ---- one entry

-- what comes next is stored
entry_hear : (rules : Rules) (r : Repair) (i k number : ℕ) (u : World) → WorldKeepsLawsAndCalm rules r u → has r.members i ≡ true → (i == r.by) ≡ false
    → IsServed rules r i k number u → number ≡ top (u.nodes i) + 1 → number ≤ r.high
    → top ((happens u (event_at (place_of_name i) (Act.Hear k))).nodes i) ≡ number
entry_hear rules r i k number u h there other s next low =
    let e = event_at (place_of_name i) (Act.Hear k) in
    let m = u.nodes i in
    let q = u.nodes r.by in
    let p = Bcast r.by r.view s.base s.acc number s.entry in
    let is = hearing_of_running_name_steps u i k (letter_to (set_of_one_name i) p) (member_of_repair_runs_now rules r u i h there) s.there (only_name_has_name i) in
    let node = node_after_step_of_event u e i (hear_packet m p) is in
    let f = h.calm.follows i there other in
    let l = h.calm.leads in
    let heard = member_hears_its_sequencer r q m i h.calm.own f (h.calm.who i) other in
    let used = (h.laws.each r.by (member_of_repair_is_small rules r u r.by h h.calm.listed)).fronts.used in
    let here = subst (λ j. has r.members j ≡ true) (sym (h.calm.who i)) there in
    let founding = ap (λ (x : Rules). x.window) (h.laws.kept i).founding in
    let within = s.within in
    let before : number - 1 ≡ top m = omega arith in
    let comes : ComesNext m s.base number s.entry = record {
      next = next;
      stays = member_has_no_own_leave r q m l used f here (omega arith);
      taken = s.taken;
      plain = entry_above_last_view q.core.log number s.entry (omega arith) s.stands;
      fits = ap (λ (x : Image). fits x s.entry) (f.told_ ∙ ap (log_image_at q.core.log) (sym before)) ∙ l.fit number s.entry low s.stands;
      within = omega arith;
    } in
    ap (λ (x : Node). top x) node ∙ entries_are_stored m r.by r.view s.base s.acc number s.entry heard comes

-- whatever it had, it has one entry more of those up to a number
entry_hits : (rules : Rules) (r : Repair) (i k stored : ℕ) (u : World) → r.sent < k → WorldKeepsLawsAndCalm rules r u → has r.members i ≡ true → (i == r.by) ≡ false
    → IsServed rules r i k (stored + 1) u → min stored r.high ≤ top (u.nodes i)
    → min (stored + 1) r.high ≤ top ((happens u (event_at (place_of_name i) (Act.Hear k))).nodes i)
entry_hits rules r i k stored u late h there other s have = elim (cases_lt (top (u.nodes i)) (min (stored + 1) r.high)) [
  | inl short ↦ (let one = entry_hear rules r i k (stored + 1) u h there other s (omega arith) (omega arith) in omega arith)
  | inr enough ↦ (let grow = (world_grows_by_own_event rules r u (event_at (place_of_name i) (Act.Hear k)) (hears_ (place_of_name i) k late) h).stored i there in omega arith)
]

-- ---- all of them

-- on the way through the wave, before the letter of this number: of the entries that were sent it has those whose letters were heard
record IsOnWay (rules : Rules) (r : Repair) (i after stored first many : ℕ) (w : World) (n : ℕ) (u : World) : Type 0 where
  fine : WorldKeepsLawsAndCalm rules r u
  stays : LettersStayInWorld w u
  each : (k : ℕ) → k < many → IsServed rules r i (first + 1 + k) (stored + 1 + k) u
  have : min (stored + min (n - (first + 1)) many) r.high ≤ top (u.nodes i)

way_goes : (rules : Rules) (r : Repair) (i after stored first many n p k : ℕ) (w u : World) → r.sent ≤ after → after < k → has r.members i ≡ true
    → IsOnWay rules r i after stored first many w n u → IsOnWay rules r i after stored first many w n (happens u (event_at p (Act.Hear k)))
way_goes rules r i after stored first many n p k w u low late there h =
    let e = event_at p (Act.Hear k) in
    let ours : IsOurs r e = hears_ p k (omega arith) in
    let have = h.have in
    let grow = (world_grows_by_own_event rules r u e ours h.fine).stored i there in
    record {
      fine = laws_and_calm_stay rules r u e ours h.fine;
      stays = letters_stay_by_event w u e h.stays;
      each = λ j below. served_entry_stays_by_event rules r i (first + 1 + j) (stored + 1 + j) u e ours h.fine there (h.each j below);
      have = omega arith;
    }

-- all hear a letter
way_on : (rules : Rules) (r : Repair) (i after stored first many n : ℕ) (l : Letter) (w u : World) → r.sent ≤ after → after < n
    → letter_at w.letters n ≡ Some l → has r.members i ≡ true → (i == r.by) ≡ false → WorldKeepsLawsAndCalm rules r w
    → IsOnWay rules r i after stored first many w n u → IsOnWay rules r i after stored first many w (n + 1) (world_after_events u (hearings_of w n l))
way_on rules r i after stored first many n l w u low late letter there other fine h = elim (cases_lt n (first + 1)) [
  | inl before ↦ plainly (omega arith)
  | inr from ↦ elim (cases_lt n (first + 1 + many)) [
    | inl within ↦ one (n - (first + 1)) (omega arith) (omega arith)
    | inr behind ↦ plainly (omega arith)
  ]
]
  where
    places : List ℕ
    places = filter (λ p. is_for l (current w p)) (running_places w)

    kept : IsOnWay rules r i after stored first many w n (world_after_events u (hearings_of w n l))
    kept = property_stays_through_acts (IsOnWay rules r i after stored first many w n) (Act.Hear n)
        (λ p y k. way_goes rules r i after stored first many n p n w y low late there k) places u h

    -- one that isn't among them
    plainly : min (n + 1 - (first + 1)) many ≡ min (n - (first + 1)) many
        → IsOnWay rules r i after stored first many w (n + 1) (world_after_events u (hearings_of w n l))
    plainly same = let have = kept.have in record { fine = kept.fine; stays = kept.stays; each = kept.each; have = omega arith }

    -- one of them, which it hears
    one : (j : ℕ) → n ≡ first + 1 + j → j < many → IsOnWay rules r i after stored first many w (n + 1) (world_after_events u (hearings_of w n l))
    one j at below =
        let at_w = member_of_repair_runs_now rules r w i fine there in
        let served_ = h.each j below in
        let same : letter_to (set_of_one_name i) (Bcast r.by r.view served_.base served_.acc (stored + 1 + j) served_.entry) ≡ l =
        (let a = ap (letter_at u.letters) at ∙ served_.there in let b = h.stays.letters n l letter in cc) in
        let meant : is_for l (current w (place_of_name i)) ≡ true = ap (is_for l) at_w.current_ ∙ subst (λ x. is_for x i ≡ true) same (only_name_has_name i) in
        let among = hearing_place_is_in_list w l (place_of_name i) (omega arith) (ap (is_stopped w) at_w.current_ ∙ at_w.runs) meant in
        let z = acts_bring_property (IsOnWay rules r i after stored first many w n) (λ y. min (stored + j + 1) r.high ≤ top (y.nodes i)) (Act.Hear n) (place_of_name i)
        (record {
          keeps = λ p y k. way_goes rules r i after stored first many n p n w y low late there k;
          hits = λ y k. (let have = k.have in let next : stored + 1 + j ≡ stored + j + 1 = omega arith in
              entry_hits rules r i n (stored + j) y (omega arith) k.fine there other
              (subst (λ x. IsServed rules r i x (stored + j + 1) y) (sym at)
              (subst (λ x. IsServed rules r i (first + 1 + j) x y) next (k.each j below))) (omega arith));
          stays = λ p y k q. (let grow = (world_grows_by_own_event rules r y (event_at p (Act.Hear n)) (hears_ p n (omega arith)) k.fine).stored i there in omega arith);
        }) places u among h in
        let have = z.1 in
        record { fine = z.0.fine; stays = z.0.stays; each = z.0.each; have = omega arith }

served_within : (rules : Rules) (r : Repair) (i k number : ℕ) (w : World) → IsServed rules r i k number w → k ≤ length w.letters
served_within rules r i k number w s = letter_number_le_length w.letters k (letter_to (set_of_one_name i) (Bcast r.by r.view s.base s.acc number s.entry)) s.there

-- a member has so much
pub record MemberHasStored (rules : Rules) (r : Repair) (i stored : ℕ) (u : World) : Type 0 where
  pub fine : WorldKeepsLawsAndCalm rules r u
  pub stored_ : stored ≤ top (u.nodes i)

pub third_wave_stores : (rules : Rules) (r : Repair) (i after stored : ℕ) (w : World) → r.sent ≤ after → after ≤ length w.letters → WorldKeepsLawsAndCalm rules r w
    → Served rules r i after stored w → stored ≤ top (w.nodes i) → has r.members i ≡ true → (i == r.by) ≡ false
    → MemberHasStored rules r i (min (stored + 8) r.high) (world_after_events w (hearings w after))
third_wave_stores rules r i after stored w low long h x have there other =
    let z = property_walks_through_wave (IsOnWay rules r i after stored x.first x.many w) w after long
    (λ k l u later letter y. way_on rules r i after stored x.first x.many k l w u low later letter there other h y)
    (record { fine = h; stays = letters_stay_in_same_world w; each = x.each; have = omega arith }) in
    record {
      fine = z.fine;
      stored_ = elim (cases_lt 0 x.many) [
        | inl some ↦ (let last = served_within rules r i (x.first + 1 + (x.many - 1)) (stored + 1 + (x.many - 1)) w
            (x.each (x.many - 1) (omega arith)) in omega arith)
        | inr none ↦ omega arith
      ];
    }
