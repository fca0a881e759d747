-- Each run in which nobody began a ballot keeps what a world keeps.
use Rattle.am_model.specs.Node.{founding_view}
use Rattle.am_run_laws.proofs.UnballotedWords.{◌≡◌, ℕ, ◌<◌, ◌≤◌, ◌==◌, nat_le, true, false, List, [], ◌∷◌, None, refl, ap, ◌∙◌, subst, arith, nat_tests, All-nil}
use Rattle.am_run_laws.proofs.UnballotedWords.{Entry, Rules, MayFound, has, image_after_entries, AllEntriesFit, fits, top_of_log, CoreState, Event, Node, map_with_value, founder, stranger_node}
use Rattle.am_run_laws.proofs.UnballotedWords.{founders_entry, World, start, record_of, world_with_record, world_with_step, run, NoBallot, split_on_bool, acting_name, idles, stops, returns}
use Rattle.am_run_laws.proofs.UnballotedWords.{steps, EventsKeep, runs_keep_what_events_keep, IsGoodList, AllViewNamesAreBytes, is_member_at_end, name_in_view_is_member, lowest_founder_founds, WorldBodiesWereSent, start_has_all_bodies_sent}
use Rattle.am_run_laws.proofs.SentRuns as sent
use Rattle.am_run_laws.proofs.{Lists.whole_list_is_within_itself, Lists.no_entries_are_within_whole, UnballotedKept.first_founder_of, UnballotedKept.UnballotedFrontsAreInOrder, UnballotedKept.unballoted_fronts_are_in_order}
use Rattle.am_run_laws.proofs.{UnballotedKept.UnballotedNodeKeeps, First.FirstFounderStaysMember, Turns.UnsettledSendsAreInTurn, Chains.no_ballot_after_none_before, Worlds.GivenAreListEntries, Worlds.start_of_joined_list, Worlds.WorldKeepsWholeList, Worlds.UnballotedWorldHolds}
use Rattle.am_run_laws.proofs.{Goes.idle_event_keeps_unballoted_world, Actors.other_step_keeps_unballoted_world, Actors.founder_step_keeps_unballoted_world}

-- ---- each event

-- as long as nobody began a ballot
pub record UnballotedWorldKeeps (rules : Rules) (w : World) : Type 0 where
  pub sent : WorldBodiesWereSent w
  pub ok : NoBallot w → UnballotedWorldHolds rules w

-- nobody had begun one before
pub acting_name_had_no_ballot : (nodes : ℕ → Node) (i : ℕ) (n : Node) → ((j : ℕ) → (map_with_value nodes i n j).ballot ≡ None) → n.ballot ≡ None
acting_name_had_no_ballot nodes i n h =
    let t : (i == i) ≡ true = grind (arith, nat_tests) in
    rw t at (h i)

pub no_name_had_a_ballot : (nodes : ℕ → Node) (i : ℕ) (n : Node) → ((j : ℕ) → (map_with_value nodes i n j).ballot ≡ None) → (nodes i).ballot ≡ None → (j : ℕ)
    → (nodes j).ballot ≡ None
no_name_had_a_ballot nodes i n h own j = split_on_bool (j == i)
    (λ t. let e : j ≡ i = grind (arith, nat_tests) in ap (λ x. (nodes x).ballot) e ∙ own)
    (λ f. rw f at (h j))

pub events_keep_unballoted_worlds : (rules : Rules) → EventsKeep (UnballotedWorldKeeps rules)
unfolding world_with_record world_with_step
events_keep_unballoted_worlds rules w e v (idles o idle) h = record {
  sent = sent.events_keep_world_bodies_sent w e v (idles o idle) h.sent;
  ok = λ none. idle_event_keeps_unballoted_world rules w _ (record_of w e o []) refl refl refl refl idle (h.ok none);
}
events_keep_unballoted_worlds rules w e v (stops runs) h = record {
  sent = sent.events_keep_world_bodies_sent w e v (stops runs) h.sent;
  ok = λ none. idle_event_keeps_unballoted_world rules w _ (record_of w e _ []) refl refl refl refl tt (h.ok none);
}
events_keep_unballoted_worlds rules w e v (returns place is gone more) h = record {
  sent = sent.events_keep_world_bodies_sent w e v (returns place is gone more) h.sent;
  ok = λ none. idle_event_keeps_unballoted_world rules w _ (record_of w e _ []) refl refl refl refl tt (h.ok none);
}
events_keep_unballoted_worlds rules w e v (steps c s runs cause effect) h = record {
  sent = sent.events_keep_world_bodies_sent w e v (steps c s runs cause effect) h.sent;
  ok = λ none.
      (let own = acting_name_had_no_ballot w.nodes (acting_name w e) s.node none in
      let before : NoBallot w = no_name_had_a_ballot w.nodes (acting_name w e) s.node none (no_ballot_after_none_before effect.changes own) in
      split_on_bool (acting_name w e == first_founder_of rules)
      (λ t. let is : acting_name w e ≡ first_founder_of rules = grind (arith, nat_tests) in founder_step_keeps_unballoted_world rules w e c s (h.ok before) is cause effect own)
      (λ f. other_step_keeps_unballoted_world rules w e c s (h.ok before) h.sent (λ q. let z : ⊥ = grind (arith, nat_tests) in z) cause effect own));
}

-- ---- the start

abbrev founders_list : Rules → List Entry
founders_list rules = founders_entry rules ∷ []

first_founds : (rules : Rules) → MayFound rules → has rules.founders (first_founder_of rules) ≡ true
first_founds rules may = (lowest_founder_founds rules may).founds

first_low : (rules : Rules) → MayFound rules → first_founder_of rules < 256
first_low rules may = let low = (lowest_founder_founds rules may).few in omega arith

good_start : (rules : Rules) → MayFound rules → IsGoodList (founders_list rules)
unfolding AllEntriesFit fits AllViewNamesAreBytes
good_start rules may =
    let a = first_founds rules may in
    let b : nat_le 0 rules.resilience ≡ true = grind (arith, nat_tests) in
    record { fit = (rw (a, b) refl, tt); small = (first_low rules may, tt) }

-- at the start nobody has anything to pass over
start_fronts : (rules : Rules) (i : ℕ) (core : CoreState) → core.acc ≤ 1 → core.acc ≤ top_of_log core.log → core.taken ≤ core.acc → core.log.start ≤ core.base
    → core.told ≤ 1 → core.start ≤ 1 → UnballotedFrontsAreInOrder (first_founder_of rules) 1 i core
start_fronts rules i core accepted within taken base told start =
    unballoted_fronts_are_in_order (first_founder_of rules) 1 i core accepted within taken base (λ d. told) (λ b. absurd (omega arith))

founder_ok : (rules : Rules) (i : ℕ) → has rules.founders i ≡ true → UnballotedNodeKeeps rules (founders_list rules) 1 i (founder rules i)
unfolding image_after_entries
founder_ok rules i there = record {
  who = refl;
  log = record { start = omega arith; image = refl; within = whole_list_is_within_itself (founders_list rules) };
  fronts = start_fronts rules i (founder rules i).core (omega arith) (omega arith) (omega arith) (omega arith) (omega arith) (omega arith);
  status = record {
    promise = λ t. refl;
    founder = λ t. refl;
    blank = λ t. absurd (cc);
    begins = λ t. record { some = omega arith; founder = λ z. refl; joiner = λ z. absurd (cc) };
  };
  sends = All-nil _;
}

stranger_ok : (rules : Rules) (i : ℕ) → has rules.founders i ≡ false → UnballotedNodeKeeps rules (founders_list rules) 1 i (stranger_node rules i)
unfolding image_after_entries
stranger_ok rules i none = record {
  who = refl;
  log = record { start = omega arith; image = refl; within = no_entries_are_within_whole (founders_list rules) 0 (omega arith) };
  fronts = start_fronts rules i (stranger_node rules i).core (omega arith) (omega arith) (omega arith) (omega arith) (omega arith) (omega arith);
  status = record { promise = λ t. absurd (cc); founder = λ t. absurd (cc); blank = λ t. (refl, refl); begins = λ t. absurd (cc) };
  sends = All-nil _;
}

by_founding : (rules : Rules) (P : ℕ → Node → Type 0) → ((i : ℕ) → has rules.founders i ≡ true → P i (founder rules i))
    → ((i : ℕ) → has rules.founders i ≡ false → P i (stranger_node rules i)) → (i : ℕ) → P i ((start rules).nodes i)
by_founding rules P f g i = split_on_bool (has rules.founders i) (λ t. rw t (f i t)) (λ h. rw h (g i h))

start_kept : (rules : Rules) → WorldKeepsWholeList rules (founders_list rules) 1 (start rules)
start_kept rules = record {
  each = by_founding rules (λ i n. UnballotedNodeKeeps rules (founders_list rules) 1 i n) (founder_ok rules) (stranger_ok rules);
  group = refl;
  letters = All-nil _;
  given = by_founding rules (λ i n. GivenAreListEntries (founders_list rules) 1 n []) (λ i t. record { count = omega arith; each = λ k number e is. absurd (cc) })
      (λ i t. record { count = omega arith; each = λ k number e is. absurd (cc) });
  welcomed = by_founding rules (λ i n. has rules.founders i ≡ false → [] ≡ start_of_joined_list n) (λ i t f. absurd (cc)) (λ i t f. refl);
  heard = All-nil _;
  accepted = All-nil _;
}

first_start : (rules : Rules) → MayFound rules → FirstFounderStaysMember rules (founder rules (first_founder_of rules))
unfolding UnsettledSendsAreInTurn is_member_at_end
first_start rules may =
    let there = first_founds rules may in
    let good = good_start rules may in
    record {
      base = record {
        node = founder_ok rules (first_founder_of rules) there;
        start = refl;
        group = record { rest = []; is = refl; plain = All-nil _ };
        good = good;
        log = refl;
        own = record { next = 1; turn = refl; low = omega arith };
      };
      member = λ t. name_in_view_is_member [] (founding_view rules) (first_founder_of rules) good there;
    }

start_ok : (rules : Rules) → MayFound rules → UnballotedWorldHolds rules (start rules)
start_ok rules may =
    let there = first_founds rules may in
    let is : founder rules (first_founder_of rules) ≡ (start rules).nodes (first_founder_of rules) = rw there refl in
    record {
      first = subst (FirstFounderStaysMember rules) is (first_start rules may);
      kept = subst (λ (n : Node). WorldKeepsWholeList rules n.core.log.entries n.core.acc (start rules)) is (start_kept rules);
      asked = record { low = λ k r name req body there is. absurd (cc); once = λ k l r s name req body other a b is also. absurd (cc) };
    }

-- ---- runs

pub unballoted_runs_keep_world : (rules : Rules) (events : List Event) → MayFound rules → UnballotedWorldKeeps rules (run rules events)
unballoted_runs_keep_world rules events may = runs_keep_what_events_keep (UnballotedWorldKeeps rules) (events_keep_unballoted_worlds rules) (start rules) events
    (record { sent = start_has_all_bodies_sent rules; ok = λ z. start_ok rules may })

pub run_without_ballot_keeps_world : (rules : Rules) (events : List Event) → MayFound rules → NoBallot (run rules events) → UnballotedWorldHolds rules (run rules events)
run_without_ballot_keeps_world rules events may none = (unballoted_runs_keep_world rules events may).ok none
