-- Many rounds: all is stored, then reported, then accepted.
use Rattle.am_repair.proofs.RepairWords.{eqb-true, ◌≡◌, ℕ, zero, suc, ◌+◌, ◌*◌, ◌/◌, ◌≤◌, ◌==◌, min, true, false, List, [], length, refl, sym, ap, ◌∙◌, subst}
use Rattle.am_repair.proofs.RepairWords.{arith, Rules, has, Event, Settling, settle_then, ticks_of_places, hearings, settle_waves, round, settle_rounds, round_count, settle_events, World}
use Rattle.am_repair.proofs.RepairWords.{world_after_events, HasCaughtUp, split_on_bool, runs_go_on, Repair}
use Rattle.am_repair.proofs.Fine.{WorldKeepsLawsAndCalm, laws_and_calm_stay, letters_grow_by_event}
use Rattle.am_repair.proofs.ThirdWave.{MemberHasStored}
use Rattle.am_repair.proofs.Rounds.{world_after_waves, round_world_is_after_waves, StaysThroughSchedule}
use Rattle.am_repair.proofs.Rounds.{property_stays_through_round, round_stores_eight_more}
use Rattle.am_repair.proofs.Accepting.{AllMembersAreKnown, round_makes_storage_known, round_accepts_what_is_known}
use Rattle.am_repair.proofs.Accepting.{sequencer_accepts_after_waves}

-- ---- the schedule's worlds

many : ℕ → World → World
many zero w = w
many (suc k) w = many k (world_after_waves w)

many_more : (k : ℕ) (w : World) → many (suc k) w ≡ world_after_waves (many k w)
unfolding many
many_more zero w = refl
many_more (suc k) w = many_more k (world_after_waves w)

rounds_are : (k : ℕ) (s : Settling) → (settle_rounds k s).world ≡ many k s.world
unfolding settle_rounds many
rounds_are zero s = refl
rounds_are (suc k) s = rounds_are k (round s) ∙ ap (many k) (round_world_is_after_waves s)

-- a settling world is that of its events
abbrev Settles : World → Settling → Type 0
Settles w s = s.world ≡ world_after_events w s.events

settles_then : (w : World) (s : Settling) (events : List Event) → Settles w s → Settles w (settle_then s events)
settles_then w s events h = ap (λ u. world_after_events u events) h ∙ sym (runs_go_on w s.events events)

settles_waves : (k after : ℕ) (w : World) (s : Settling) → Settles w s → Settles w (settle_waves k after s)
unfolding settle_waves
settles_waves zero after w s h = h
settles_waves (suc k) after w s h = settles_waves k (length s.world.letters) w (settle_then s (hearings s.world after))
    (settles_then w s (hearings s.world after) h)

settles_rounds : (k : ℕ) (w : World) (s : Settling) → Settles w s → Settles w (settle_rounds k s)
unfolding settle_rounds
settles_rounds zero w s h = h
settles_rounds (suc k) w s h = settles_rounds k w (round s) (settles_waves 5 (length s.world.letters) w (settle_then s (ticks_of_places s.world))
    (settles_then w s (ticks_of_places s.world) h))

settled_is : (rules : Rules) (w : World) → world_after_events w (settle_events rules w) ≡ many (round_count rules) w
unfolding settle_events world_after_events
settled_is rules w =
    let s : Settling = record { world = w; events = [] } in
    sym (settles_rounds (round_count rules) w s refl) ∙ rounds_are (round_count rules) s

-- ---- rounds

-- after some rounds each member has so much
pub record AllMembersHaveStored (rules : Rules) (r : Repair) (stored : ℕ) (w : World) : Type 0 where
  pub fine : WorldKeepsLawsAndCalm rules r w
  pub sent : r.sent ≤ length w.letters
  pub each : (i : ℕ) → has r.members i ≡ true → (i == r.by) ≡ false → MemberHasStored rules r i (min stored r.high) w

fine_stable : (rules : Rules) (r : Repair) → StaysThroughSchedule r (λ w. WorldKeepsLawsAndCalm rules r w × (r.sent ≤ length w.letters))
fine_stable rules r = record { keeps = λ w e is h. (let more = letters_grow_by_event w e in let low = h.1 in (laws_and_calm_stay rules r w e is h.0, omega arith)) }

one_round : (rules : Rules) (r : Repair) (stored : ℕ) (w : World) → AllMembersHaveStored rules r stored w → AllMembersHaveStored rules r (stored + 8) (world_after_waves w)
one_round rules r stored w h =
    let f = property_stays_through_round r (λ u. WorldKeepsLawsAndCalm rules r u × (r.sent ≤ length u.letters)) (fine_stable rules r) w h.sent (h.fine, h.sent) in
    record { fine = f.0; sent = f.1; each = λ i there other. round_stores_eight_more rules r i stored w h.sent there other (h.each i there other) }

many_rounds : (k : ℕ) (rules : Rules) (r : Repair) (stored : ℕ) (w : World) → AllMembersHaveStored rules r stored w → AllMembersHaveStored rules r (stored + 8 * k) (many k w)
unfolding many
many_rounds zero rules r stored w h = let same : stored ≡ stored + 8 * 0 = omega arith in subst (λ n. AllMembersHaveStored rules r n w) same h
many_rounds (suc k) rules r stored w h =
    let same : stored + 8 + 8 * k ≡ stored + 8 * suc k = omega arith in
    subst (λ n. AllMembersHaveStored rules r n (many k (world_after_waves w))) same (many_rounds k rules r (stored + 8) (world_after_waves w) (one_round rules r stored w h))

-- all have all
all_high : (rules : Rules) (r : Repair) (stored : ℕ) (w : World) → r.high ≤ stored → AllMembersHaveStored rules r stored w → (i : ℕ) → has r.members i ≡ true
    → (i == r.by) ≡ false → MemberHasStored rules r i r.high w
all_high rules r stored w far h i there other = let x = h.each i there other in let have = x.stored_ in record { fine = x.fine; stored_ = omega arith }

-- ---- the end

last_rounds : (rules : Rules) (r : Repair) (stored : ℕ) (w : World) → r.high ≤ stored → AllMembersHaveStored rules r stored w → (i : ℕ) → has r.members i ≡ true
    → HasCaughtUp ((world_after_waves (world_after_waves w)).nodes i) r.high
last_rounds rules r stored w far h i there =
    let v = world_after_waves w in
    let known : AllMembersAreKnown r v = λ j here other. (round_makes_storage_known rules r j w h.sent here other (all_high rules r stored w far h j here other)).high in
    let one = one_round rules r stored w h in
    let two = one_round rules r (stored + 8) v one in
    split_on_bool (i == r.by)
    (λ t.
    let same = eqb-true i r.by t in
    subst (λ j. HasCaughtUp ((world_after_waves v).nodes j) r.high) (sym same)
    (record { stored = two.fine.calm.leads.high; accepted = (sequencer_accepts_after_waves rules r v one.sent one.fine known).high }))
    (λ f. record {
      stored = (all_high rules r (stored + 8 + 8) (world_after_waves v) (omega arith) two i there f).stored_;
      accepted = (round_accepts_what_is_known rules r i v one.sent there f (all_high rules r (stored + 8) v (omega arith) one i there f) known).high;
    })

-- from a calm world in which each member has at least what leaves no more than the window and 15
pub all_members_catch_up : (rules : Rules) (r : Repair) (base : ℕ) (w : World) → r.high ≤ base + (rules.window + 15) → AllMembersHaveStored rules r base w → (i : ℕ)
    → has r.members i ≡ true → HasCaughtUp ((world_after_events w (settle_events rules w)).nodes i) r.high
all_members_catch_up rules r base w near h i there =
    let k = (rules.window + 22) / 8 in
    let enough : r.high ≤ base + 8 * k = omega arith in
    let count : round_count rules ≡ suc (suc k) = omega arith in
    let is : world_after_events w (settle_events rules w) ≡ world_after_waves (world_after_waves (many k w)) = settled_is rules w ∙ ap (λ n. many n w) count ∙ many_more (suc k) w
    ∙ ap world_after_waves (many_more k w) in
    subst (λ v. HasCaughtUp (v.nodes i) r.high) (sym is) (last_rounds rules r (base + 8 * k) (many k w) enough (many_rounds k rules r base w h) i there)
