-- What a round brings about, and what is kept by all of its events.
use Rattle.am_repair.proofs.RepairWords.{◌≡◌, inl, inr, ℕ, ◌+◌, ◌≤◌, ◌==◌, min, true, false, length, refl, ap, ◌∙◌, arith, length-append, cases_lt, Rules, has}
use Rattle.am_repair.proofs.RepairWords.{Event, top, Settling, event_at, running_places, ticks_of_places, hearings, settle_waves, round, World, happens, world_after_events, world_begins_after_events, Repair}
use Rattle.am_repair.proofs.RepairWords.{IsOurs, our_ticks, hears_, Act}
use Rattle.am_repair.proofs.Schedules.{property_stays_through_acts, property_stays_through_hearings}
use Rattle.am_repair.proofs.Fine.{laws_and_calm_stay, world_grows_by_own_event}
use Rattle.am_repair.proofs.Ticking.{ticks_of_round_poll}
use Rattle.am_repair.proofs.Skipping.{member_waits_after_ticks}
use Rattle.am_repair.proofs.FirstWave.{first_wave_asks}
use Rattle.am_repair.proofs.NextWaves.{second_wave_serves}
use Rattle.am_repair.proofs.ThirdWave.{MemberHasStored, third_wave_stores}

-- ---- the world after a round

abbrev pub world_after_ticks : World → World
world_after_ticks w = world_after_events w (ticks_of_places w)

abbrev after_wave : ℕ → World → World
after_wave after w = world_after_events w (hearings w after)

-- after the third of five waves, each of what the wave before it sent
abbrev after_third : World → World
after_third w =
    let a = world_after_ticks w in
    let b = after_wave (length w.letters) a in
    let c = after_wave (length a.letters) b in
    after_wave (length b.letters) c

-- and after all of them
abbrev pub world_after_waves : World → World
world_after_waves w =
    let n = length w.letters in
    let a = world_after_ticks w in
    let b = after_wave n a in
    let c = after_wave (length a.letters) b in
    let d = after_wave (length b.letters) c in
    let e = after_wave (length c.letters) d in
    after_wave (length d.letters) e

pub round_world_is_after_waves : (s : Settling) → (round s).world ≡ world_after_waves s.world
unfolding settle_waves
round_world_is_after_waves s = refl

-- ---- what all events keep

pub record StaysThroughSchedule (r : Repair) (P : World → Type 0) : Type 0 where
  pub keeps : (w : World) (e : Event) → IsOurs r e → P w → P (happens w e)

pub property_stays_through_ticks : (r : Repair) (P : World → Type 0) → StaysThroughSchedule r P → (w : World) → P w → P (world_after_ticks w)
property_stays_through_ticks r P s w h = property_stays_through_acts P Act.Tick (λ p u k. s.keeps u (event_at p Act.Tick) (our_ticks p) k) (running_places w) w h

pub property_stays_through_wave : (r : Repair) (P : World → Type 0) → StaysThroughSchedule r P → (after : ℕ) → r.sent ≤ after → (w : World) → P w → P (after_wave after w)
property_stays_through_wave r P s after low w h = property_stays_through_hearings P w after (λ p k u late x. s.keeps u (event_at p (Act.Hear k)) (hears_ p k (omega arith)) x) h

long_ticks : (w : World) → length w.letters ≤ length (world_after_ticks w).letters
long_ticks w = let more = (world_begins_after_events w (ticks_of_places w)).letters in let long = ap length more.1 ∙ length-append w.letters more.0 in omega arith

long_wave : (after : ℕ) (w : World) → length w.letters ≤ length (after_wave after w).letters
long_wave after w = let more = (world_begins_after_events w (hearings w after)).letters in let long = ap length more.1 ∙ length-append w.letters more.0 in omega arith

-- the waves after the third
last_waves : (r : Repair) (P : World → Type 0) → StaysThroughSchedule r P → (w : World) → r.sent ≤ length w.letters → P (after_third w) → P (world_after_waves w)
last_waves r P s w low h =
    let a = world_after_ticks w in
    let b = after_wave (length w.letters) a in
    let c = after_wave (length a.letters) b in
    let d = after_wave (length b.letters) c in
    let e = after_wave (length c.letters) d in
    let la = long_ticks w in
    let lb = long_wave (length w.letters) a in
    let lc = long_wave (length a.letters) b in
    let ld = long_wave (length b.letters) c in
    property_stays_through_wave r P s (length d.letters) (omega arith) e (property_stays_through_wave r P s (length c.letters) (omega arith) d h)

-- those after the first
pub property_stays_through_later_waves : (r : Repair) (P : World → Type 0) → StaysThroughSchedule r P → (w : World) → r.sent ≤ length w.letters
    → (let a = world_after_ticks w in P (after_wave (length w.letters) a) → P (world_after_waves w))
property_stays_through_later_waves r P s w low h =
    let a = world_after_ticks w in
    let b = after_wave (length w.letters) a in
    let c = after_wave (length a.letters) b in
    let la = long_ticks w in
    let lb = long_wave (length w.letters) a in
    last_waves r P s w low (property_stays_through_wave r P s (length b.letters) (omega arith) c (property_stays_through_wave r P s (length a.letters) (omega arith) b h))

pub property_stays_through_round : (r : Repair) (P : World → Type 0) → StaysThroughSchedule r P → (w : World) → r.sent ≤ length w.letters → P w → P (world_after_waves w)
property_stays_through_round r P s w low h = property_stays_through_later_waves r P s w low (property_stays_through_wave r P s (length w.letters) low (world_after_ticks w) (property_stays_through_ticks r P s w h))

-- ---- a member has stored more

pub stored_entries_stay_in_schedule : (rules : Rules) (r : Repair) (i stored : ℕ) → has r.members i ≡ true → StaysThroughSchedule r (MemberHasStored rules r i stored)
stored_entries_stay_in_schedule rules r i stored there = record {
  keeps = λ w e is h.
      (let grow = (world_grows_by_own_event rules r w e is h.fine).stored i there in
      record { fine = laws_and_calm_stay rules r w e is h.fine; stored_ = omega arith });
}

-- with eight entries more, or all
pub round_stores_eight_more : (rules : Rules) (r : Repair) (i stored : ℕ) (w : World) → r.sent ≤ length w.letters → has r.members i ≡ true → (i == r.by) ≡ false
    → MemberHasStored rules r i (min stored r.high) w → MemberHasStored rules r i (min (stored + 8) r.high) (world_after_waves w)
round_stores_eight_more rules r i stored w low there other h = elim (cases_lt (top (w.nodes i)) r.high) [
  | inl short ↦
      (let have = top (w.nodes i) in
      let a = world_after_ticks w in
      let b = after_wave (length w.letters) a in
      let c = after_wave (length a.letters) b in
      let la = long_ticks w in
      let lb = long_wave (length w.letters) a in
      let lc = long_wave (length a.letters) b in
      let waits = member_waits_after_ticks rules r i w h.fine there other short in
      let poll = ticks_of_round_poll rules r (λ u. Unit {0}) i 0 w (record { keeps = λ w e is h x. tt; gives = λ w h x. omega arith }) h.fine tt there other in
      let asked = first_wave_asks rules r i (length w.letters) have 0 a low waits poll there other short in
      let serving = second_wave_serves rules r i (length a.letters) have b (omega arith) asked there other in
      let kept = property_stays_through_wave r (MemberHasStored rules r i have) (stored_entries_stay_in_schedule rules r i have there) (length a.letters) (omega arith) b
      (record { fine = asked.fine; stored_ = (let same = asked.stored_ in omega arith) }) in
      let stores = third_wave_stores rules r i (length b.letters) have c (omega arith) lc serving.fine serving.served_ kept.stored_ there other in
      let more = last_waves r (MemberHasStored rules r i (min (have + 8) r.high)) (stored_entries_stay_in_schedule rules r i (min (have + 8) r.high) there) w low stores in
      record { fine = more.fine; stored_ = omega arith })
  | inr all ↦
      (let kept = property_stays_through_round r (MemberHasStored rules r i r.high) (stored_entries_stay_in_schedule rules r i r.high there) w low (record { fine = h.fine; stored_ = all }) in
      record { fine = kept.fine; stored_ = omega arith })
]
