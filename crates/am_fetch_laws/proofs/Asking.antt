-- What a member that is behind asks for at its tick.
use Rattle.am_fetch_laws.proofs.Words.{◌≡◌, ℕ, ◌==◌, true, false, [], ◌∷◌, Option, Some, None, refl, sym, ap, ◌∙◌, subst, arith, nat_tests, size}
use Rattle.am_fetch_laws.proofs.Words.{Outcome, Stamp, stamps_are_equal, top_of_log, letter_to, Fetch, Node, Ballot, Status, top, view, set_of_one_name, is_member, is_sequencer, acts_in_its_view}
use Rattle.am_fetch_laws.proofs.Words.{plan_with_letter, fetch_packet_of, finish, step, row, tick_row, tick_by_status, tick_by_ballot, tick_of_acting_member}
use Rattle.am_fetch_laws.proofs.Words.{is_unfinished_ballot, refresh_at_end, end_refresh_rests_with_list, is_sequencer_after_rest, occupied_place_counts_in_size}
use Rattle.am_fetch_laws.proofs.Words.{not-false, IsBehind, Fetches, MembersFetch}
use Rattle.am_base.specs.Names.{place_of_name, life_of_name, has}
use Rattle.am_fetch_laws.proofs.Words.{List}
use Rattle.std.specs.Prelude.{slice_index}
use Rattle.am_base.specs.declared.event.NodeEvent.TheVariants as does
use Rattle.am_base.specs.declared.outcome.Outcome.TheVariants as said

-- ---- a plan that fetches

pub one_name_is_there : (name : ℕ) → has (set_of_one_name name) name ≡ true
one_name_is_there name = grind (arith, nat_tests)

place_of_name_is_taken : (set : List ℕ) (name : ℕ) → has set name ≡ true → slice_index set (place_of_name name) ≡ life_of_name name
place_of_name_is_taken set name h = grind (arith, nat_tests)

pub one_name_is_somebody : (name : ℕ) → (size (set_of_one_name name) == 0) ≡ false
one_name_is_somebody name =
    let taken = place_of_name_is_taken (set_of_one_name name) name (one_name_is_there name) in
    let some = occupied_place_counts_in_size (set_of_one_name name) (place_of_name name) (omega arith) in
    grind (arith, nat_tests)

-- it sends one Fetch, of what the node had promised and stored
pub fetching_plan_sends_fetch : (m p : Node) (o : Outcome) (from : ℕ) → is_sequencer p ≡ false
    → (finish m (plan_with_letter p o (set_of_one_name from) fetch_packet_of)).letters ≡ letter_to (set_of_one_name from) (Fetch p.core.who p.core.promise (top p)) ∷ []
unfolding finish
fetching_plan_sends_fetch m p o from follows =
    let r = end_refresh_rests_with_list p in
    let leads : is_sequencer (refresh_at_end p) ≡ false = is_sequencer_after_rest r.rests ∙ follows in
    rw (leads, one_name_is_somebody from) (λ i. letter_to (set_of_one_name from) (Fetch (r.rests.who i) (r.rests.promise i) (top_of_log (r.log i))) ∷ [])

-- ---- a tick

pub status_of_member : (s : Status) → is_member s ≡ true → s ≡ Status.Member
status_of_member Status.Member h = refl
status_of_member _ h = absurd (cc)

tick_without_open_ballot : (m : Node) (o : Option Ballot) → is_unfinished_ballot o ≡ false → tick_by_ballot m o ≡ tick_of_acting_member m
tick_without_open_ballot m None h = refl
tick_without_open_ballot m (Some b) h = let over = not-false b.is_over h in rw over refl

pub stamps_differ_either_way : (a b : Stamp) → stamps_are_equal a b ≡ false → stamps_are_equal b a ≡ false
stamps_differ_either_way a b differ = grind (arith, nat_tests)

-- who is behind doesn't act
pub behind_acts_not : (m : Node) → IsBehind m → acts_in_its_view m ≡ false
behind_acts_not m h =
    let listed = h.listed in
    let differ = stamps_differ_either_way (view m) m.core.promise h.below in
    rw (listed, differ) refl

pub behind_leads_not : (m : Node) → IsBehind m → is_sequencer m ≡ false
behind_leads_not m h = let acts = behind_acts_not m h in rw acts refl

tick_of_behind : (m : Node) → IsBehind m → tick_row m ≡ plan_with_letter m said.Ticked (set_of_one_name m.core.promise.by) fetch_packet_of
unfolding tick_row
tick_of_behind m h =
    let acts = behind_acts_not m h in
    let other = h.other in
    let fetches : tick_of_acting_member m ≡ plan_with_letter m said.Ticked (set_of_one_name m.core.promise.by) fetch_packet_of = rw (acts, other) refl in
    ap (tick_by_status m) (status_of_member m.status h.listed) ∙ (tick_without_open_ballot m m.ballot h.no_ballot ∙ fetches)

-- the step of a tick
pub step_of_behind : (m : Node) → IsBehind m → step m does.Tick ≡ finish m (plan_with_letter m said.Ticked (set_of_one_name m.core.promise.by) fetch_packet_of)
unfolding step row
step_of_behind m h = ap (finish m) (tick_of_behind m h)

pub members_fetch : MembersFetch
unfolding finish
members_fetch m h =
    subst (Fetches m) (sym (step_of_behind m h)) (record {
      node = refl;
      letters = fetching_plan_sends_fetch m m said.Ticked m.core.promise.by (behind_leads_not m h);
    })
