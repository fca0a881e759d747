-- A taking round of a quiet world keeps it quiet; and where the sequencer has accepted all, and knows that each member has taken it, a round
-- trims its list up to there.
use Rattle.am_repair.proofs.RepairWords.{◌≡◌, ℕ, ◌≤◌, ◌==◌, true, false, length, ap, arith, has, place_of_name, Rules, event_at, Act}
use Rattle.am_repair.proofs.RepairWords.{World, happens, world_after_events, running_places, ticks_of_places, step, Repair, our_ticks}
use Rattle.am_base.specs.declared.event.NodeEvent.TheVariants as does
use Rattle.am_repair.proofs.Schedules.{ActBringsProperty, acts_bring_property}
use Rattle.am_repair.proofs.Ticking.{node_after_step_of_event, running_name_is_in_running}
use Rattle.am_repair.proofs.Fine.{member_of_repair_runs_now, tick_of_running_name_steps, world_grows_by_own_event}
use Rattle.am_repair.proofs.Rounds.{world_after_ticks, world_after_waves, StaysThroughSchedule, property_stays_through_round, property_stays_through_ticks, property_stays_through_wave, property_stays_through_later_waves}
use Rattle.am_repair_takes.specs.Taking.{takes, ours, takes_one}
use Rattle.am_repair_takes.proofs.Given.{takes_keep}
use Rattle.am_repair_takes.proofs.Quiet.{QuietRun, fine_of, quiet_goes, kept_goes}
use Rattle.am_repair_takes.proofs.TakenWaves.{quiet_stable}
use Rattle.am_repair_takes.proofs.Trims.{tick_trims}

-- ---- what stays quiet

pub quiet_takes : (rules : Rules) (r : Repair) (last : ℕ → ℕ) (total : ℕ) (w : World) → QuietRun rules r last total w
    → QuietRun rules r last total (world_after_events w (takes w))
quiet_takes rules r last total w h =
    takes_keep (QuietRun rules r last total) (λ p u k. quiet_goes rules r last total u (event_at p Act.Take) (takes_one p) k) w h

pub quiet_round : (rules : Rules) (r : Repair) (last : ℕ → ℕ) (total : ℕ) (w : World) → QuietRun rules r last total w
    → QuietRun rules r last total (world_after_waves w)
quiet_round rules r last total w h = property_stays_through_round r (QuietRun rules r last total) (quiet_stable rules r last total) w h.sent h

-- ---- the base

-- a quiet world whose sequencer has trimmed up to a number
unfoldable pub Trimmed : Rules → Repair → (ℕ → ℕ) → ℕ → ℕ → World → Type 0
Trimmed rules r last total number u = QuietRun rules r last total u × (number ≤ (u.nodes r.by).core.base)

pub trimmed_stable : (rules : Rules) (r : Repair) (last : ℕ → ℕ) (total number : ℕ) → StaysThroughSchedule r (Trimmed rules r last total number)
unfolding Trimmed
trimmed_stable rules r last total number = record {
  keeps = λ w e is h.
      (let kept = (kept_goes rules r last total w e (ours e is) h.0).base in
      let had = h.1 in
      (quiet_goes rules r last total w e (ours e is) h.0, omega arith));
}

-- where the sequencer has accepted and taken so much, and knows that each member has taken it
pub record MayTrim (rules : Rules) (r : Repair) (last : ℕ → ℕ) (total number : ℕ) (w : World) : Type 0 where
  pub quiet : QuietRun rules r last total w
  pub accepted : r.high ≤ (w.nodes r.by).core.acc
  pub known : (name : ℕ) → has r.members name ≡ true → (name == r.by) ≡ false → number ≤ ((w.nodes r.by).reports name).taken
  pub taken : number ≤ (w.nodes r.by).core.taken

may_trim_goes : (rules : Rules) (r : Repair) (last : ℕ → ℕ) (total number p : ℕ) (u : World) → MayTrim rules r last total number u
    → MayTrim rules r last total number (happens u (event_at p Act.Tick))
may_trim_goes rules r last total number p u h =
    let e = event_at p Act.Tick in
    let grow = world_grows_by_own_event rules r u e (our_ticks p) (fine_of rules r last total u h.quiet) in
    let kept = kept_goes rules r last total u e (ours e (our_ticks p)) h.quiet in
    let acc = grow.acc r.by h.quiet.calm.listed in
    let took = grow.taken r.by h.quiet.calm.listed in
    let had = h.accepted in
    let own = h.taken in
    record {
      quiet = quiet_goes rules r last total u e (ours e (our_ticks p)) h.quiet;
      accepted = omega arith;
      known = λ name there other. (let a = h.known name there other in let b = kept.taken name in omega arith);
      taken = omega arith;
    }

ticks_trim_base : (rules : Rules) (r : Repair) (last : ℕ → ℕ) (total number : ℕ) (w : World) → MayTrim rules r last total number w
    → number ≤ ((world_after_events w (ticks_of_places w)).nodes r.by).core.base
ticks_trim_base rules r last total number w h =
    let fine = fine_of rules r last total w h.quiet in
    (acts_bring_property (MayTrim rules r last total number) Q Act.Tick (place_of_name r.by) hits (running_places w) w
    (running_name_is_in_running w r.by (member_of_repair_runs_now rules r w r.by fine fine.calm.listed)) h).1
  where
    Q : World → Type 0
    Q u = number ≤ (u.nodes r.by).core.base

    hits : ActBringsProperty (MayTrim rules r last total number) Q Act.Tick (place_of_name r.by)
    hits = record {
      keeps = may_trim_goes rules r last total number;
      hits = λ u k.
          (let e = event_at (place_of_name r.by) Act.Tick in
          let fine = fine_of rules r last total u k.quiet in
          let low = tick_trims rules r last total number u k.quiet k.accepted k.known k.taken in
          let is = tick_of_running_name_steps u r.by (member_of_repair_runs_now rules r u r.by fine fine.calm.listed) in
          let same = ap (λ x. x.core.base) (node_after_step_of_event u e r.by (step (u.nodes r.by) does.Tick) is) in
          omega arith);
      stays = λ p u k q.
          (let kept = (kept_goes rules r last total u (event_at p Act.Tick) (ours (event_at p Act.Tick) (our_ticks p)) k.quiet).base in
          omega arith);
    }

pub round_trims : (rules : Rules) (r : Repair) (last : ℕ → ℕ) (total number : ℕ) (w : World) → MayTrim rules r last total number w
    → Trimmed rules r last total number (world_after_waves w)
unfolding Trimmed
round_trims rules r last total number w h =
    let a = world_after_ticks w in
    let base = ticks_trim_base rules r last total number w h in
    let quiet_ = property_stays_through_ticks r (QuietRun rules r last total) (quiet_stable rules r last total) w h.quiet in
    property_stays_through_later_waves r (Trimmed rules r last total number) (trimmed_stable rules r last total number) w h.quiet.sent
    (property_stays_through_wave r (Trimmed rules r last total number) (trimmed_stable rules r last total number) (length w.letters) h.quiet.sent a (quiet_, base))
