-- Rounds in which applications take: all is stored, then reported, then accepted, then given.
use Rattle.am_repair_takes.proofs.Words.{◌≡◌, ℕ, zero, suc, ◌+◌, ◌*◌, ◌≤◌, ◌==◌, true, false, [], length, refl, sym, ap, ◌∙◌, subst, arith, split_on_bool, eqb-true}
use Rattle.am_repair_takes.proofs.Words.{Rules, has, top, Settling, settle_then, World, run, happens, world_after_events, run_trims_only_taken, event_at, Act, Repair}
use Rattle.am_repair_takes.proofs.Words.{WorldKeepsLawsAndCalm, laws_and_calm_stay, letters_grow_by_event, takes, taking_round, taking_rounds, after_rounds, HasAll, TakingRepairs, HasCaughtUp}
use Rattle.am_repair_takes.proofs.Words.{world_after_waves, round_world_is_after_waves, StaysThroughSchedule, property_stays_through_round, round_stores_eight_more, MemberHasStored, AllMembersHaveStored, AllMembersAreKnown, round_makes_storage_known, round_accepts_what_is_known}
use Rattle.am_repair_takes.proofs.Words.{sequencer_accepts_after_waves, ◌-◌, ◌/◌, repair_of_place, repairable_run_is_calm, repairable_lists_agree, round_count, RepairedByTaking, current}
use Rattle.am_repair.specs.Claim.{MayRepair}
use Rattle.am_repair.specs.Standing.{Agree}
use Rattle.am_base.specs.Founding.{MayFound}
use Rattle.am_model.specs.Node.{members}
use Rattle.am_repair_takes.proofs.Words.{List, Event, ◌<◌}
use Rattle.am_repair_takes.proofs.Calm.{take_goes, take_fine}
use Rattle.am_repair_takes.proofs.Given.{takes_keep, takes_give}

-- ---- the schedule's worlds

abbrev pub after_takes : World → World
after_takes w = world_after_events w (takes w)

unfoldable pub many_rounds : ℕ → World → World
many_rounds zero w = w
many_rounds (suc k) w = many_rounds k (world_after_waves (after_takes w))

pub more_rounds : (k : ℕ) (w : World) → many_rounds (suc k) w ≡ world_after_waves (after_takes (many_rounds k w))
unfolding many_rounds
more_rounds zero w = refl
more_rounds (suc k) w = more_rounds k (world_after_waves (after_takes w))

pub rounds_are : (k : ℕ) (s : Settling) → (taking_rounds k s).world ≡ many_rounds k s.world
unfolding taking_rounds many_rounds
rounds_are zero s = refl
rounds_are (suc k) s = rounds_are k (taking_round s) ∙ ap (many_rounds k) (round_world_is_after_waves (settle_then s (takes s.world)))

-- ---- takes take nothing away

stored_takes : (rules : Rules) (r : Repair) (stored : ℕ) (p : ℕ) (u : World) → AllMembersHaveStored rules r stored u
    → AllMembersHaveStored rules r stored (happens u (event_at p Act.Take))
stored_takes rules r stored p u h =
    let g = (take_goes rules r u p h.fine).1 in
    let more = letters_grow_by_event u (event_at p Act.Take) in
    let sent = h.sent in
    let fine = take_fine rules r u p h.fine in
    record {
      fine = fine;
      sent = omega arith;
      each = λ i there other.
          (let up = g.stored i there in
          let have = (h.each i there other).stored_ in
          record { fine = fine; stored_ = omega arith });
    }

known_takes : (rules : Rules) (r : Repair) (p : ℕ) (u : World) → WorldKeepsLawsAndCalm rules r u × AllMembersAreKnown r u
    → WorldKeepsLawsAndCalm rules r (happens u (event_at p Act.Take)) × AllMembersAreKnown r (happens u (event_at p Act.Take))
known_takes rules r p u h =
    let g = (take_goes rules r u p h.0).1 in
    (take_fine rules r u p h.0, λ i there other. (let up = g.kept i there in let have = h.1 i there other in omega arith))

-- ---- rounds

fine_stable : (rules : Rules) (r : Repair) → StaysThroughSchedule r (λ w. WorldKeepsLawsAndCalm rules r w × (r.sent ≤ length w.letters))
fine_stable rules r = record { keeps = λ w e is h. (let more = letters_grow_by_event w e in let low = h.1 in (laws_and_calm_stay rules r w e is h.0, omega arith)) }

waves_store : (rules : Rules) (r : Repair) (stored : ℕ) (w : World) → AllMembersHaveStored rules r stored w → AllMembersHaveStored rules r (stored + 8) (world_after_waves w)
waves_store rules r stored w h =
    let f = property_stays_through_round r (λ u. WorldKeepsLawsAndCalm rules r u × (r.sent ≤ length u.letters)) (fine_stable rules r) w h.sent (h.fine, h.sent) in
    record { fine = f.0; sent = f.1; each = λ i there other. round_stores_eight_more rules r i stored w h.sent there other (h.each i there other) }

takes_store : (rules : Rules) (r : Repair) (stored : ℕ) (w : World) → AllMembersHaveStored rules r stored w → AllMembersHaveStored rules r stored (after_takes w)
takes_store rules r stored w h = takes_keep (AllMembersHaveStored rules r stored) (stored_takes rules r stored) w h

rounds_store : (k : ℕ) (rules : Rules) (r : Repair) (stored : ℕ) (w : World) → AllMembersHaveStored rules r stored w
    → AllMembersHaveStored rules r (stored + 8 * k) (many_rounds k w)
unfolding many_rounds
rounds_store zero rules r stored w h = let same : stored ≡ stored + 8 * 0 = omega arith in subst (λ n. AllMembersHaveStored rules r n w) same h
rounds_store (suc k) rules r stored w h =
    let same : stored + 8 + 8 * k ≡ stored + 8 * suc k = omega arith in
    subst (λ n. AllMembersHaveStored rules r n (many_rounds k (world_after_waves (after_takes w)))) same
    (rounds_store k rules r (stored + 8) (world_after_waves (after_takes w)) (waves_store rules r stored (after_takes w) (takes_store rules r stored w h)))

all_high : (rules : Rules) (r : Repair) (stored : ℕ) (w : World) → r.high ≤ stored → AllMembersHaveStored rules r stored w → (i : ℕ) → has r.members i ≡ true
    → (i == r.by) ≡ false → MemberHasStored rules r i r.high w
all_high rules r stored w far h i there other = let x = h.each i there other in let have = x.stored_ in record { fine = x.fine; stored_ = omega arith }

-- ---- the last two

-- each member has all, and the sequencer knows it
record AreKnown (rules : Rules) (r : Repair) (w : World) : Type 0 where
  stored : AllMembersHaveStored rules r r.high w
  known : AllMembersAreKnown r w

lower : (rules : Rules) (r : Repair) (stored : ℕ) (w : World) → r.high ≤ stored → AllMembersHaveStored rules r stored w → AllMembersHaveStored rules r r.high w
lower rules r stored w far h = record {
  fine = h.fine;
  sent = h.sent;
  each = λ i there other. (let x = all_high rules r stored w far h i there other in let have = x.stored_ in record { fine = x.fine; stored_ = omega arith });
}

round_known : (rules : Rules) (r : Repair) (w : World) → AllMembersHaveStored rules r r.high w → AreKnown rules r (world_after_waves (after_takes w))
round_known rules r w h =
    let u = after_takes w in
    let k = takes_store rules r r.high w h in
    record {
      stored = lower rules r (r.high + 8) (world_after_waves u) (omega arith) (waves_store rules r r.high u k);
      known = λ i there other. (round_makes_storage_known rules r i u k.sent there other (all_high rules r r.high u (omega arith) k i there other)).high;
    }

round_caught : (rules : Rules) (r : Repair) (w : World) → AreKnown rules r w → (i : ℕ) → has r.members i ≡ true
    → HasCaughtUp ((world_after_waves (after_takes w)).nodes i) r.high
round_caught rules r w h i there =
    let u = after_takes w in
    let k = takes_store rules r r.high w h.stored in
    let known = (takes_keep (λ v. WorldKeepsLawsAndCalm rules r v × AllMembersAreKnown r v) (known_takes rules r) w (h.stored.fine, h.known)).1 in
    let two = waves_store rules r r.high u k in
    split_on_bool (i == r.by)
    (λ t.
    let same = eqb-true i r.by t in
    subst (λ j. HasCaughtUp ((world_after_waves u).nodes j) r.high) (sym same)
    (record { stored = two.fine.calm.leads.high; accepted = (sequencer_accepts_after_waves rules r u k.sent k.fine known).high }))
    (λ f. record {
      stored = (all_high rules r (r.high + 8) (world_after_waves u) (omega arith) two i there f).stored_;
      accepted = (round_accepts_what_is_known rules r i u k.sent there f (all_high rules r r.high u (omega arith) k i there f) known).high;
    })

-- ---- all of them

pub all_have : (rules : Rules) (r : Repair) (many stored : ℕ) (w : World) → r.high ≤ stored + 8 * many → AllMembersHaveStored rules r stored w → (i : ℕ)
    → has r.members i ≡ true → HasAll (after_rounds (many + 2) w) i r.high
all_have rules r many stored w near h i there =
    let a = many_rounds many w in
    let b = world_after_waves (after_takes a) in
    let c = world_after_waves (after_takes b) in
    let all = lower rules r (stored + 8 * many) a near (rounds_store many rules r stored w h) in
    let known = round_known rules r a all in
    let caught = round_caught rules r b known i there in
    let count : many + 2 ≡ suc (suc many) = omega arith in
    let is : after_rounds (many + 2) w ≡ c = rounds_are (many + 2) (record { world = w; events = [] }) ∙ ap (λ n. many_rounds n w) count
    ∙ more_rounds (suc many) w ∙ ap (λ v. world_after_waves (after_takes v)) (more_rounds many w) in
    let fine = (waves_store rules r r.high (after_takes b) (takes_store rules r r.high b known.stored)).fine in
    let gives = takes_give rules r i c fine there in
    let accepted = caught.accepted in
    subst (λ v. HasAll v i r.high) (sym is) (record { caught = caught; given = omega arith })

pub taking_repairs : TakingRepairs
taking_repairs rules events r many may calm sent near name there =
    let w = run rules events in
    let fine : WorldKeepsLawsAndCalm rules r w = record { laws = run_trims_only_taken rules events may; calm = calm } in
    all_have rules r many (r.high - 8 * many) w (omega arith) (record {
      fine = fine;
      sent = sent;
      each = λ i here other. (let have = near i here in record { fine = fine; stored_ = omega arith });
    }) name there

-- where lists agree
pub repaired_by_taking_where_lists_agree : (rules : Rules) (events : List Event) (place more : ℕ) → MayFound rules → place < 16 → MayRepair (run rules events) place
    → (let w = run rules events in let q = current w place in Agree w (w.nodes q) → (name : ℕ) → has (members (w.nodes q)) name ≡ true
    → HasAll (after_rounds (round_count rules + more) w) name (top (w.nodes q)))
repaired_by_taking_where_lists_agree rules events place more may low repair agree name there =
    let w = run rules events in
    let q = current w place in
    let k = (rules.window + 22) / 8 + more in
    let b = repairable_run_is_calm rules events place may low repair agree in
    let behind = b.1 in
    let enough : top (w.nodes q) ≤ (w.nodes q).core.base + 8 * k = omega arith in
    let count : round_count rules + more ≡ k + 2 = omega arith in
    subst (λ n. HasAll (after_rounds n w) name (top (w.nodes q))) (sym count)
    (all_have rules (repair_of_place w q) k (w.nodes q).core.base w enough b.0 name there)

pub repaired_by_taking : RepairedByTaking
repaired_by_taking rules events place more may low lawful repair =
    repaired_by_taking_where_lists_agree rules events place more may low repair (repairable_lists_agree rules events place may low lawful repair)
