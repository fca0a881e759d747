-- A member resets again and again, until nobody has promised more than it has.
use Rattle.am_reset_runs.proofs.Words.{◌≡◌, inl, inr, ℕ, zero, suc, ◌+◌, ◌<◌, ◌≤◌, ◌==◌, nat_lt, true, false, List, [], ◌∷◌, ◌++◌, None, refl, sym, ap, ◌∙◌, subst, arith, nat_tests, All, All-nil, All-cons, All-append}
use Rattle.am_reset_runs.proofs.Words.{split_on_bool, eqb-true, place_of_name, has, size, Event, Node, Ballot, Log, image_of_log, members_of_image, members, is_member, stamp_is_less, node_with_promise, next_stamp, step, refresh_at_end}
use Rattle.am_reset_runs.proofs.Words.{end_refresh_rests_with_list, World, current, is_stopped, run, start, world_after_events, runs_go_on, event_at, need_set_of, is_waited_for, new_ballot, names_that_pass, decide}
use Rattle.am_reset_runs.proofs.Words.{IsCurrent, MayVoteFor, MayReset, IsOfReset, resets, ResetEnds}
use Rattle.std.specs.Prelude.{max, min}
unfoldable use Rattle.am_group_defs.specs.World.{happens, world_after_events as world_after}
use Rattle.am_base.specs.declared.event.NodeEvent.TheVariants as does
use Rattle.am_group.specs.declared.event.Act.TheVariants as act
unfoldable use Rattle.am_model.specs.Ballots.{best_vote_for_ballot}
unfoldable use Rattle.am_base.specs.Votes.{best_vote_from}
use Rattle.am_base.specs.Votes.{NamedVote, all_names}
use Rattle.am_model.specs.Ballots.{own_vote}
use Rattle.am_model.specs.Emit.{StepResult}
use Rattle.am_model.proofs.Sets.{set_with_name_has_size, passing_name_is_in_those}
use Rattle.am_step_laws.specs.Looks.{MayBegin}
use Rattle.am_ballot_laws.proofs.Voting.{resets_look}
use Rattle.am_repair.proofs.Repairable.RepairedWords.{names_hold_in_runs}
use Rattle.am_repair.proofs.RepairWords.{append_assoc}
use Rattle.am_step_laws.proofs.Stamps.{stamp_not_below_itself}
use Rattle.am_trim_laws.specs.Trims.{HasComeToJoin}
use Rattle.am_lawful_runs.proofs.Spared.{lawful_is_until_last_stop, goes_on_without_stops}
use Rattle.am_fetch_runs.proofs.Events.{IsThereNow, OneMoved}
use Rattle.am_repair_takes.specs.Resting.{NobodyAsks}
use Rattle.am_reset_runs.specs.Resetting.{MayVote, MayResetAgain, RepeatedResetsAreAnswered}
use Rattle.am_reset_runs.proofs.Come.{come_stays}
use Rattle.am_fetch_runs.proofs.Ticks.{TicksAtMost, no_events_tick, then_no_tick, ticks_in_turn}
use Rattle.std.specs.Prelude.{◌/◌}
use Rattle.am_reset_runs.proofs.Quieter.{reset_stops_nobody, nobody_asks_after_reset}
use Rattle.am_reset_runs.proofs.Resetting.{resets_are_answered_until_last_stop}
use Rattle.am_reset_runs.proofs.Voting.{more_rounds_are_not_less}
use Rattle.am_reset_runs.proofs.Votes.{reset_moves}

-- ---- a ballot without votes

-- its best vote is the coordinator's own
best_of_none : (best : NamedVote) (names : List ℕ) → best_vote_from (λ name. None) best names ≡ best
unfolding best_vote_from
best_of_none best [] = refl
best_of_none best (name ∷ names) = best_of_none best names

module _ (m : Node) (b : Ballot) (none : b.votes ≡ (λ name. None)) (given : b.given_up ≡ (λ name. false)) where
  own_is_best : best_vote_for_ballot m b ≡ record { by = m.core.who; vote = own_vote m }
  unfolding best_vote_for_ballot
  own_is_best = ap (λ f. best_vote_from f (record { by = m.core.who; vote = own_vote m }) all_names) none ∙ best_of_none (record { by = m.core.who; vote = own_vote m }) all_names

  needs_members : need_set_of m b ≡ members m
  needs_members = ap (λ (v : NamedVote). v.vote.members) own_is_best

  -- so it waits, if its list has another name
  waits_for_other : (other : ℕ) → (other == m.core.who) ≡ false → has (members m) m.core.who ≡ true → has (members m) other ≡ true
      → (decide m b).node.core ≡ m.core × ((decide m b).node.status ≡ m.status) × ((decide m b).node.leaving ≡ m.leaving)
  unfolding decide
  waits_for_other other differs itself listed =
      let needed : has (need_set_of m b) m.core.who ≡ true = ap (λ set. has set m.core.who) needs_members ∙ itself in
      let unheard : is_waited_for m.core.who b other ≡ true = waited other differs in
      let some = set_with_name_has_size (names_that_pass (is_waited_for m.core.who b) (need_set_of m b)) other
      (passing_name_is_in_those (is_waited_for m.core.who b) (need_set_of m b) other (ap (λ set. has set other) needs_members ∙ listed) unheard) in
      let waiting : nat_lt 0 (size (names_that_pass (is_waited_for m.core.who b) (need_set_of m b))) ≡ true = grind (arith, nat_tests) in
      (rw (needed, waiting) refl, rw (needed, waiting) refl, rw (needed, waiting) refl)
    where
      waited : (k : ℕ) → (k == m.core.who) ≡ false → is_waited_for m.core.who b k ≡ true
      waited k f =
          let v = ap (λ g. g k) none in
          let g = ap (λ h. h k) given in
          rw (f, v, g) refl

-- ---- resets alone

-- nothing has come of so many resets but that the coordinator has promised as many rounds more
record ResetSoOften (w x : World) (c many : ℕ) : Type 0 where
  log : (x.nodes c).core.log ≡ (w.nodes c).core.log
  who : (x.nodes c).core.who ≡ c
  status : (x.nodes c).status ≡ (w.nodes c).status
  leaving : (x.nodes c).leaving ≡ (w.nodes c).leaving
  rounds : (x.nodes c).core.promise.round ≡ (w.nodes c).core.promise.round + many
  others : (name : ℕ) → (name == c) ≡ false → x.nodes name ≡ w.nodes name
  lives : x.lives ≡ w.lives
  stopped : x.stopped ≡ w.stopped

module _ (w : World) (c resilience : ℕ) (may : MayResetAgain w c) where
  abbrev e : Event
  e = event_at (place_of_name c) (act.Reset 1 resilience)

  module _ (x : World) (many : ℕ) (h : ResetSoOften w x c many) where
    abbrev m : Node
    m = x.nodes c

    abbrev s : StepResult
    s = step m (does.Reset 1 resilience)

    abbrev p : Node
    p = node_with_promise m (next_stamp m)

    abbrev b : Ballot
    b = new_ballot (next_stamp m) 1 (min resilience 15)

    there : IsThereNow x c
    there = record {
      now = ap (λ (f : ℕ → ℕ). current (record w { lives = f }) (place_of_name c)) h.lives ∙ may.itself.current_.now;
      runs = ap (λ (xs : List ℕ). is_stopped (record w { stopped = xs }) c) h.stopped ∙ may.itself.current_.runs;
      who = h.who;
    }

    same_members : members m ≡ members (w.nodes c)
    same_members = ap (λ (l : Log). members_of_image (image_of_log l)) h.log

    may_begin : MayBegin m
    may_begin = record {
      member = ap is_member h.status ∙ may.itself.member_;
      listed = (λ i. has (same_members i) (h.who i)) ∙ may.listed;
      stays = h.leaving ∙ may.itself.stays;
    }

    moved : OneMoved x (happens x e) c s.node s.letters
    moved = reset_moves x c resilience there

    once_more : ResetSoOften w (happens x e) c (many + 1)
    once_more =
        let waits = waits_for_other p b refl refl may.other (ap (λ i. may.other == i) h.who ∙ may.differs) may_begin.listed (ap (λ set. has set may.other) same_members ∙ may.listed_too) in
        let r = end_refresh_rests_with_list (decide p b).node in
        let is : (happens x e).nodes c ≡ refresh_at_end (decide p b).node = moved.node ∙ resets_look m 1 resilience may_begin in
        let round : ((happens x e).nodes c).core.promise.round ≡ m.core.promise.round + 1 = ap (λ (n : Node). n.core.promise.round) is ∙ (λ i. (r.rests.promise i).round) ∙ (λ i. (waits.0 i).promise.round) in
        let before = h.rounds in
        record {
          log = ap (λ (n : Node). n.core.log) is ∙ r.log ∙ (λ i. (waits.0 i).log) ∙ h.log;
          who = ap (λ (n : Node). n.core.who) is ∙ r.rests.who ∙ (λ i. (waits.0 i).who) ∙ h.who;
          status = ap (λ (n : Node). n.status) is ∙ r.rests.status ∙ waits.1 ∙ h.status;
          leaving = ap (λ (n : Node). n.leaving) is ∙ r.rests.leaving ∙ waits.2 ∙ h.leaving;
          rounds = omega arith;
          others = λ name f. moved.others name f ∙ h.others name f;
          lives = moved.lives ∙ h.lives;
          stopped = moved.stopped ∙ h.stopped;
        }

  -- so many of them
  record Resets (many : ℕ) : Type 0 where
    more : List Event
    such : All (IsOfReset (place_of_name c)) more
    ticks : TicksAtMost (place_of_name c) more 0
    come : ResetSoOften w (world_after_events w more) c many

  reset_often : (whose : (w.nodes c).core.who ≡ c) (many : ℕ) → Resets many
  unfolding world_after
  reset_often whose zero = record {
    more = [];
    such = All-nil (IsOfReset (place_of_name c));
    ticks = no_events_tick (place_of_name c);
    come = record { log = refl; who = whose; status = refl; leaving = refl; rounds = omega arith; others = λ name f. refl; lives = refl; stopped = refl };
  }
  reset_often whose (suc many) =
      let h = reset_often whose many in
      let x = world_after_events w h.more in
      let whole : world_after_events w (h.more ++ e ∷ []) ≡ happens x e = runs_go_on w h.more (e ∷ []) in
      let count : many + 1 ≡ suc many = omega arith in
      record {
        more = h.more ++ e ∷ [];
        such = All-append (IsOfReset (place_of_name c)) h.more (e ∷ []) h.such (All-cons (IsOfReset (place_of_name c)) e [] (resets resilience) (All-nil (IsOfReset (place_of_name c))));
        ticks = ticks_in_turn (place_of_name c) h.more (e ∷ []) 0 0 h.ticks (then_no_tick (place_of_name c) e [] 0 refl (no_events_tick (place_of_name c)));
        come = subst (λ (u : World). ResetSoOften w u c (suc many)) (sym whole) (subst (ResetSoOften w (happens x e) c) count (once_more x many h.come));
      }

-- ---- nobody has promised more then

-- the most rounds that a name below a number has promised
most_rounds : World → ℕ → ℕ
most_rounds w zero = 0
most_rounds w (suc n) = max (w.nodes n).core.promise.round (most_rounds w n)

no_more_rounds : (w : World) (n name : ℕ) → name < n → (w.nodes name).core.promise.round ≤ most_rounds w n
unfolding most_rounds
no_more_rounds w zero name low = absurd (omega arith)
no_more_rounds w (suc n) name low = split_on_bool (name == n)
    (λ t. let same = ap (λ i. (w.nodes i).core.promise.round) (eqb-true name n t) in omega arith)
    (λ f. let differs = unequal name n f in let h = no_more_rounds w n name (omega arith) in omega arith)
  where
    unequal : (a b : ℕ) → (a == b) ≡ false → (a ≡ b → ⊥)
    unequal a b f = grind (arith, nat_tests)

module _ (w x : World) (c many : ℕ) (may : MayResetAgain w c) (h : ResetSoOften w x c many) (above : most_rounds w 256 < many)
    (come : HasComeToJoin (x.nodes c)) where
  votes_then : (name : ℕ) → MayVote w name → MayVote x name
  votes_then name v = split_on_bool (name == c)
      (λ t. subst (MayVote x) (sym (eqb-true name c t)) (record {
        current_ = current_then c may.itself.current_;
        member_ = ap is_member h.status ∙ may.itself.member_;
        stays = h.leaving ∙ may.itself.stays;
        come = come;
      }))
      (λ f. let same = h.others name f in
      record {
        current_ = current_then name v.current_;
        member_ = ap (λ (n : Node). is_member n.status) same ∙ v.member_;
        stays = ap (λ (n : Node). n.leaving) same ∙ v.stays;
        come = subst HasComeToJoin (sym same) v.come;
      })
    where
      current_then : (k : ℕ) → IsCurrent w k → IsCurrent x k
      current_then k v_ = record {
        small = v_.small;
        now = ap (λ (f : ℕ → ℕ). current (record w { lives = f }) (place_of_name k)) h.lives ∙ v_.now;
        runs = ap (λ (xs : List ℕ). is_stopped (record w { stopped = xs }) k) h.stopped ∙ v_.runs;
      }

  -- who votes then could vote before
  votes_before : (name : ℕ) → MayVote x name → MayVote w name
  votes_before name v = split_on_bool (name == c)
      (λ t. subst (MayVote w) (sym (eqb-true name c t)) may.itself)
      (λ f. let same = sym (h.others name f) in
      record {
        current_ = record {
          small = v.current_.small;
          now = ap (λ (g : ℕ → ℕ). current (record x { lives = g }) (place_of_name name)) (sym h.lives) ∙ v.current_.now;
          runs = ap (λ (xs : List ℕ). is_stopped (record x { stopped = xs }) name) (sym h.stopped) ∙ v.current_.runs;
        };
        member_ = ap (λ (n : Node). is_member n.status) same ∙ v.member_;
        stays = ap (λ (n : Node). n.leaving) same ∙ v.stays;
        come = subst HasComeToJoin (sym same) v.come;
      })

  promised_less : (name : ℕ) → MayVote w name → stamp_is_less (x.nodes c).core.promise (x.nodes name).core.promise ≡ false
  promised_less name v = split_on_bool (name == c)
      (λ t. ap (λ i. stamp_is_less (x.nodes c).core.promise (x.nodes i).core.promise) (eqb-true name c t) ∙ stamp_not_below_itself (x.nodes c).core.promise)
      (λ f.
      let low = no_more_rounds w 256 name v.current_.small in
      let rounds = h.rounds in
      let same = ap (λ (n : Node). n.core.promise.round) (h.others name f) in
      more_rounds_are_not_less (x.nodes name).core.promise (x.nodes c).core.promise (omega arith))

  votes_for_it : (name : ℕ) → MayVote w name → MayVoteFor x c name
  votes_for_it name v = record { votes = votes_then name v; promised = promised_less name v }

  same_list : (name : ℕ) → members (x.nodes name) ≡ members (w.nodes name)
  same_list name = split_on_bool (name == c)
      (λ t. let same = eqb-true name c t in ap (λ i. members (x.nodes i)) same ∙ ap (λ (l : Log). members_of_image (image_of_log l)) h.log ∙ ap (λ i. members (w.nodes i)) (sym same))
      (λ f. ap (λ (n : Node). members n) (h.others name f))

  may_reset_then : MayReset x c
  may_reset_then = record {
    itself = votes_for_it c may.itself;
    listed = ap (λ set. has set c) (same_list c) ∙ may.listed;
    each = λ voter name v there.
        (elim (may.each voter name (votes_before voter v.votes) (ap (λ set. has set name) (sym (same_list voter)) ∙ there)) [
          | inl goes ↦ inl (ap (λ (xs : List ℕ). is_stopped (record w { stopped = xs }) name) h.stopped ∙ goes)
          | inr v_ ↦ inr (votes_for_it name v_)
        ]);
  }

-- ---- in every lawful run

pub repeated_resets_are_answered : RepeatedResetsAreAnswered
repeated_resets_are_answered rules events place resilience may low lawful reset asks =
    let w = run rules events in
    let c = current w place in
    let place_is : place_of_name c ≡ place = omega arith in
    let z = reset_often w c resilience reset ((names_hold_in_runs rules events may).who c) (most_rounds w 256 + 1) in
    let such : All (IsOfReset place) z.more = subst (λ k. All (IsOfReset k) z.more) place_is z.such in
    let x = world_after_events w z.more in
    let goes_on : run rules (events ++ z.more) ≡ x = runs_go_on (start rules) events z.more in
    let spared = goes_on_without_stops rules events z.more (lawful_is_until_last_stop rules events lawful) (reset_stops_nobody place z.more such) in
    let same : current x place ≡ c = ap (λ (f : ℕ → ℕ). current (record w { lives = f }) place) z.come.lives in
    let may_then : MayReset x c = may_reset_then w x c (most_rounds w 256 + 1) reset z.come (omega arith) (come_stays z.more w c reset.itself.member_ reset.itself.come) in
    let may_now : MayReset (run rules (events ++ z.more)) (current (run rules (events ++ z.more)) place) =
    subst (λ (u : World). MayReset u (current u place)) (sym goes_on) (subst (MayReset x) (sym same) may_then) in
    let quiet : NobodyAsks (run rules (events ++ z.more)) = subst NobodyAsks (sym goes_on) (nobody_asks_after_reset place z.more w such asks) in
    let last = resets_are_answered_until_last_stop rules (events ++ z.more) place resilience may low spared may_now quiet in
    let whole : (events ++ z.more) ++ last.0 ≡ events ++ (z.more ++ last.0) = append_assoc events z.more last.0 in
    let first = subst (λ k. TicksAtMost k z.more 0) place_is z.ticks in
    let both = ticks_in_turn place z.more last.0 0 (16 + (rules.window + 22) / 8) first (record { few = last.2.few; others = last.2.others }) in
    (z.more ++ last.0, All-append (IsOfReset place) z.more last.0 such last.1, record { few = (let most = both.few in omega arith); others = both.others }, subst (λ es. ResetEnds rules es place) whole last.3)
