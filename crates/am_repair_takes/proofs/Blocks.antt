-- So many taking rounds of a quiet world: each member stores, accepts and takes all that its sequencer had, the sequencer trims it, and numbers
-- one send more, if there is one.
use Rattle.am_repair.proofs.RepairWords.{◌≡◌, ℕ, zero, suc, ◌+◌, ◌-◌, ◌*◌, ◌<◌, ◌≤◌, ◌==◌, true, false, [], length, sym, ap, ◌∙◌, subst, arith, Image, Rules, has, Event, top, log_image_at}
use Rattle.am_repair.proofs.RepairWords.{World, happens, event_at, Act, Repair, HasCaughtUp}
use Rattle.am_base.specs.Lists.{row_of_name}
use Rattle.am_repair.proofs.Fine.{WorldKeepsLawsAndCalm, world_grows_by_own_event}
use Rattle.am_repair.proofs.Saying.{RepairWorldGrows}
use Rattle.am_repair.proofs.Repaired.{AllMembersHaveStored}
use Rattle.am_repair.proofs.Rounds.{world_after_waves, property_stays_through_round}
use Rattle.am_repair_takes.specs.Taking.{IsTaking, ours, takes_one, after_rounds, HasAll}
use Rattle.am_repair_takes.proofs.Calm.{take_goes}
use Rattle.am_repair_takes.proofs.Given.{takes_keep, takes_give}
use Rattle.am_repair_takes.proofs.Rounds.{after_takes, many_rounds, rounds_are, all_have}
use Rattle.am_repair_takes.proofs.Quiet.{QuietRun, fine_of, quiet_goes, kept_goes}
use Rattle.am_repair_takes.proofs.TakenWaves.{round_tells_taken}
use Rattle.am_repair_takes.proofs.RoundTrims.{Trimmed, round_trims}
use Rattle.am_repair_takes.proofs.RoundNumbers.{GoneOn, round_numbers}
use Rattle.am_repair_takes.proofs.Starts.{Starts, starts_settle_rows}

-- ---- what stays so through taking rounds

pub record StaysThroughTaking (r : Repair) (P : World → Type 0) : Type 0 where
  pub keeps : (u : World) (e : Event) → IsTaking r e → P u → P (happens u e)
  pub sent : (u : World) → P u → r.sent ≤ length u.letters

stays_takes : (r : Repair) (P : World → Type 0) → StaysThroughTaking r P → (w : World) → P w → P (after_takes w)
stays_takes r P s w h = takes_keep P (λ p u k. s.keeps u (event_at p Act.Take) (takes_one p) k) w h

stays_waves : (r : Repair) (P : World → Type 0) → StaysThroughTaking r P → (w : World) → P w → P (world_after_waves w)
stays_waves r P s w h = property_stays_through_round r P (record { keeps = λ u e is k. s.keeps u e (ours e is) k }) w (s.sent w h) h

pub stays_rounds : (r : Repair) (P : World → Type 0) → StaysThroughTaking r P → (k : ℕ) (w : World) → P w → P (many_rounds k w)
unfolding many_rounds
stays_rounds r P s zero w h = h
stays_rounds r P s (suc k) w h = stays_rounds r P s k (world_after_waves (after_takes w)) (stays_waves r P s (after_takes w) (stays_takes r P s w h))

taking_grows : (rules : Rules) (r : Repair) (u : World) (e : Event) → IsTaking r e → WorldKeepsLawsAndCalm rules r u → RepairWorldGrows r u (happens u e)
taking_grows rules r u e (ours e_ is) h = world_grows_by_own_event rules r u e is h
taking_grows rules r u e (takes_one place) h = (take_goes rules r u place h).1

module _ (rules : Rules) (r : Repair) (last : ℕ → ℕ) (total : ℕ) (image : Image) where
  -- a quiet world, and what the sequencer's list tells up to where it stood
  pub record Stands (u : World) : Type 0 where
    pub quiet : QuietRun rules r last total u
    pub starts : Starts r u
    pub told : log_image_at (u.nodes r.by).core.log r.high ≡ image

  pub stands_stays : StaysThroughTaking r Stands
  stands_stays = record {
    keeps = λ u e is h. (let grow = taking_grows rules r u e is (fine_of rules r last total u h.quiet) in record {
      quiet = quiet_goes rules r last total u e is h.quiet;
      starts = (starts_settle_rows rules r last total).stays u e is h.quiet h.starts;
      told = grow.log.image r.high h.quiet.calm.leads.high ∙ h.told;
    });
    sent = λ u h. h.quiet.sent;
  }

  -- in which each member has stored and accepted all up to there
  pub record Caught (u : World) : Type 0 where
    pub stands : Stands u
    pub caught : (name : ℕ) → has r.members name ≡ true → HasCaughtUp (u.nodes name) r.high

  caught_stays : StaysThroughTaking r Caught
  caught_stays = record {
    keeps = λ u e is h. (let grow = taking_grows rules r u e is (fine_of rules r last total u h.stands.quiet) in record {
      stands = stands_stays.keeps u e is h.stands;
      caught = λ name there. (let c = h.caught name there in
          let stored = c.stored in
          let accepted = c.accepted in
          let more = grow.stored name there in
          let up = grow.acc name there in
          record { stored = omega arith; accepted = omega arith });
    });
    sent = λ u h. h.stands.quiet.sent;
  }

  -- and has taken it
  record Given (u : World) : Type 0 where
    caught : Caught u
    given : (name : ℕ) → has r.members name ≡ true → r.high ≤ (u.nodes name).core.taken

  given_stays : StaysThroughTaking r Given
  given_stays = record {
    keeps = λ u e is h. (let grow = taking_grows rules r u e is (fine_of rules r last total u h.caught.stands.quiet) in record {
      caught = caught_stays.keeps u e is h.caught;
      given = λ name there. (let had = h.given name there in let up = grow.taken name there in omega arith);
    });
    sent = λ u h. h.caught.stands.quiet.sent;
  }

  -- as the sequencer knows
  record Known (u : World) : Type 0 where
    given : Given u
    known : (name : ℕ) → has r.members name ≡ true → (name == r.by) ≡ false → r.high ≤ ((u.nodes r.by).reports name).taken

  known_stays : StaysThroughTaking r Known
  known_stays = record {
    keeps = λ u e is h. (let kept = kept_goes rules r last total u e is h.given.caught.stands.quiet in record {
      given = given_stays.keeps u e is h.given;
      known = λ name there other. (let had = h.known name there other in let up = kept.taken name in omega arith);
    });
    sent = λ u h. h.given.caught.stands.quiet.sent;
  }

  -- and has trimmed
  record Based (u : World) : Type 0 where
    known : Known u
    base : r.high ≤ (u.nodes r.by).core.base

  based_stays : StaysThroughTaking r Based
  based_stays = record {
    keeps = λ u e is h. (let kept = (kept_goes rules r last total u e is h.known.given.caught.stands.quiet).base in let had = h.base in record {
      known = known_stays.keeps u e is h.known;
      base = omega arith;
    });
    sent = λ u h. h.known.given.caught.stands.quiet.sent;
  }

  -- ---- the rounds

  -- no member is more than eight times so many entries behind: two rounds more, and all have all
  pub caught_after : (many k : ℕ) (w : World) → many + 2 ≤ k → ((name : ℕ) → has r.members name ≡ true → r.high ≤ top (w.nodes name) + 8 * many) → Stands w
      → Caught (many_rounds k w)
  caught_after many k w enough near h =
      let more = k - 2 in
      let fine = fine_of rules r last total w h.quiet in
      let count : more + 2 ≡ k = omega arith in
      let all : AllMembersHaveStored rules r (r.high - 8 * more) w = record {
        fine = fine;
        sent = h.quiet.sent;
        each = λ i there other. (let have = near i there in record { fine = fine; stored_ = omega arith });
      } in
      let is : after_rounds (more + 2) w ≡ many_rounds k w = rounds_are (more + 2) (record { world = w; events = [] }) ∙ ap (λ n. many_rounds n w) count in
      record {
        stands = stays_rounds r Stands stands_stays k w h;
        caught = λ name there. (subst (λ v. HasAll v name r.high) is (all_have rules r more (r.high - 8 * more) w (omega arith) all name there)).caught;
      }

  given_takes : (w : World) → Caught w → Given (after_takes w)
  given_takes w h = record {
    caught = stays_takes r Caught caught_stays w h;
    given = λ name there.
        (let up = takes_give rules r name w (fine_of rules r last total w h.stands.quiet) there in
        let accepted = (h.caught name there).accepted in
        omega arith);
  }

  known_round : (w : World) → Caught w → Known (world_after_waves (after_takes w))
  known_round w h =
      let u = after_takes w in
      let g = given_takes w h in
      record {
        given = stays_waves r Given given_stays u g;
        known = λ name there other.
            (let tells = round_tells_taken rules r last total name u g.caught.stands.quiet there other (g.caught.caught name there).stored in
            let had = g.given name there in
            omega arith);
      }

  based_round : (w : World) → Known w → Based (world_after_waves (after_takes w))
  unfolding Trimmed
  based_round w h =
      let u = after_takes w in
      let k = stays_takes r Known known_stays w h in
      let quiet = k.given.caught.stands.quiet in
      let z = round_trims rules r last total r.high u (record {
        quiet = quiet;
        accepted = (k.given.caught.caught r.by quiet.calm.listed).accepted;
        known = k.known;
        taken = k.given.given r.by quiet.calm.listed;
      }) in
      record { known = stays_waves r Known known_stays u k; base = z.1 }

  -- a name's send that isn't numbered yet, or another, is
  numbered_round : (i : ℕ) (w : World) → has r.members i ≡ true → (row_of_name image i).last < last i → Based w
      → Caught (world_after_waves (after_takes w)) × (r.high + 1 ≤ top ((world_after_waves (after_takes w)).nodes r.by))
  unfolding GoneOn
  numbered_round i w there more h =
      let u = after_takes w in
      let k = stays_takes r Based based_stays w h in
      let stands_ = k.known.given.caught.stands in
      let c = k.known.given.caught.caught i there in
      let less : (row_of_name (log_image_at (u.nodes r.by).core.log r.high) i).last < last i = subst (λ (x : Image). (row_of_name x i).last < last i) (sym stands_.told) more in
      let z = round_numbers rules r last total (Starts r) (starts_settle_rows rules r last total) i u there stands_.quiet stands_.starts k.base c.stored c.accepted less in
      (stays_waves r Caught caught_stays u k.known.given.caught, z.1)

  pub three_rounds : (i : ℕ) (w : World) → has r.members i ≡ true → (row_of_name image i).last < last i → Caught w
      → Caught (many_rounds 3 w) × (r.high + 1 ≤ top ((many_rounds 3 w).nodes r.by))
  unfolding many_rounds
  three_rounds i w there more h =
      let a = world_after_waves (after_takes w) in
      let b = world_after_waves (after_takes a) in
      let count : 3 ≡ suc (suc (suc zero)) = omega arith in
      let is : many_rounds 3 w ≡ world_after_waves (after_takes b) = ap (λ n. many_rounds n w) count in
      subst (λ v. Caught v × (r.high + 1 ≤ top (v.nodes r.by))) (sym is) (numbered_round i b there more (based_round a (known_round w h)))

-- ---- rounds in turn

pub rounds_in_turn : (j k : ℕ) (w : World) → many_rounds (j + k) w ≡ many_rounds k (many_rounds j w)
unfolding many_rounds
rounds_in_turn zero k w = let same : zero + k ≡ k = omega arith in ap (λ n. many_rounds n w) same
rounds_in_turn (suc j) k w =
    let same : suc j + k ≡ suc (j + k) = omega arith in
    ap (λ n. many_rounds n w) same ∙ rounds_in_turn j k (world_after_waves (after_takes w))
