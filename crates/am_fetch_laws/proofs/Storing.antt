-- What a member that is behind stores.
use Rattle.am_fetch_laws.proofs.Words.{◌≡◌, ℕ, ◌+◌, ◌-◌, ◌==◌, max, nat_lt, nat_le, true, false, Option, Some, None, refl, sym, ap, ◌∙◌, subst, arith, nat_tests}
use Rattle.am_fetch_laws.proofs.Words.{Entry, View, GroupView, Stamp, stamps_are_equal, Piece, Result, Node, Ballot, top, view}
use Rattle.am_fetch_laws.proofs.Words.{push_entry, trim_node_up_to, node_with_promise, is_sequencer, Plan, finish, hear_packet, hear_row, piece_row, piece_for, piece_promised}
use Rattle.am_fetch_laws.proofs.Words.{push_fetched, catch_up, result_row, is_unfetchable_view, is_unfinished_ballot, refresh_at_end, end_refresh_rests_with_list}
use Rattle.am_fetch_laws.proofs.Words.{stamp_eq_of_itself, not-false, after, image_of_pushed_entry, IsBehind, MayBeStored, PiecesAreStored, StoresView, HearsResult, ResultsAreStored, ResultsAreFetched}
use Rattle.am_base.specs.declared.outcome.Outcome.TheVariants as said
use Rattle.am_fetch_laws.proofs.Asking.{fetching_plan_sends_fetch, stamps_differ_either_way}
use Rattle.am_fetch_laws.proofs.Words.{Image}
use Rattle.am_step_laws.proofs.Rests.{acts_after_rest}

-- ---- the tests of a node

-- what a node tests of the numbers of an entry before it stores it
pub record Tests (m : Node) (base number : ℕ) : Type 0 where
  pub new : nat_le number (top m) ≡ false
  pub next : nat_lt (top m + 1) number ≡ false
  pub taken : nat_lt m.core.taken base ≡ false
  pub within : nat_le (number - max m.core.base base) (m.core.rules.window + 15) ≡ true

-- an entry that may be stored passes them
pub tests_of_next_entry : (m : Node) (base number : ℕ) (e : Entry) → MayBeStored m base number e → Tests m base number
tests_of_next_entry m base number e h =
    let next = h.next in
    let taken = h.taken in
    let within = h.within in
    record {
      new = grind (arith, nat_tests);
      next = grind (arith, nat_tests);
      taken = grind (arith, nat_tests);
      within = grind (arith, nat_tests);
    }

-- ---- a Piece

-- the node with this entry above this base
abbrev pub with_fetched_entry : Node → ℕ → Entry → Node
with_fetched_entry m base e = push_entry (trim_node_up_to m base) e

piece_without_open_ballot : (m : Node) (s : ℕ) (v : Stamp) (base number : ℕ) (e : Entry) (o : Option Ballot) → is_unfinished_ballot o ≡ false
    → piece_for m s v base number e o ≡ piece_promised m s v base number e
piece_without_open_ballot m s v base number e None h = refl
piece_without_open_ballot m s v base number e (Some b) h = let over = not-false b.is_over h in rw over refl

-- what comes next is pushed
fetched_is_pushed : (m : Node) (v : Stamp) (base number : ℕ) (e : Entry) (then_ : Node → Plan) → MayBeStored m base number e → is_unfetchable_view v false e ≡ false
    → push_fetched m v base number e false then_ ≡ then_ (with_fetched_entry m base e)
fetched_is_pushed m v base number e then_ h may =
    let p = tests_of_next_entry m base number e h in
    rw (p.new, h.stays, p.next, p.taken, h.fits, may, p.within) refl

pub piece_leaves : (m : Node) (base number : ℕ) (e : Entry) → IsBehind m → MayBeStored m base number e → is_unfetchable_view m.core.promise false e ≡ false
    → (hear_packet m (Piece m.core.promise.by m.core.promise base number e)).node ≡ refresh_at_end (with_fetched_entry m base e)
unfolding hear_packet hear_row piece_row finish
piece_leaves m base number e h may fetched =
    let v = m.core.promise in
    let other = h.other in
    let listed = h.listed in
    let below = h.below in
    let same = stamp_eq_of_itself v in
    let own : (v.by == v.by) ≡ true = grind (arith, nat_tests) in
    let is : piece_for m v.by v base number e m.ballot ≡ catch_up v.by v number (with_fetched_entry m base e) = piece_without_open_ballot m v.by v base number e m.ballot h.no_ballot
    ∙ rw own (fetched_is_pushed m v base number e (catch_up v.by v number) may fetched) in
    rw (other, listed, same, below, is) refl

pub pieces_are_stored : PiecesAreStored
pieces_are_stored m base number e h may fetched =
    ap (λ (n : Node). n.core.log) (piece_leaves m base number e h may fetched) ∙ (end_refresh_rests_with_list (with_fetched_entry m base e)).log

-- ---- a Result

-- once it is promised, who may store its View does
result_leaves : (m : Node) (base number : ℕ) (v : GroupView) → HearsResult m v → MayBeStored m base number (View v)
    → (hear_packet m (Result v.stamp.by base number v)).node ≡ refresh_at_end (with_fetched_entry (node_with_promise m v.stamp) base (View v))
unfolding hear_packet hear_row result_row finish
result_leaves m base number v h may =
    let other = h.other in
    let listed = h.listed in
    let lower = h.may in
    let new = h.new in
    let own : (v.stamp.by == v.stamp.by) ≡ true = grind (arith, nat_tests) in
    let p = tests_of_next_entry m base number (View v) may in
    rw (other, listed, own, lower, new, p.new, may.stays, p.next, p.taken, may.fits, p.within) refl

view_of_pushed : (m : Node) (v : GroupView) → view (push_entry m (View v)) ≡ v.stamp
unfolding after
view_of_pushed m v = ap (λ (i : Image). i.view) (image_of_pushed_entry m (View v))

pub results_are_stored : ResultsAreStored
results_are_stored m base number v h may =
    let p = with_fetched_entry (node_with_promise m v.stamp) base (View v) in
    let r = end_refresh_rests_with_list p in
    let viewed : view p ≡ v.stamp = view_of_pushed (trim_node_up_to (node_with_promise m v.stamp) base) v in
    let equal : stamps_are_equal v.stamp (view p) ≡ true = rw viewed (stamp_eq_of_itself v.stamp) in
    let listed = h.listed in
    subst (StoresView m v) (sym (result_leaves m base number v h may)) (record {
      log = r.log;
      acts = acts_after_rest r.rests ∙ rw (listed, equal) refl;
      view_ = r.rests.view ∙ viewed;
    })

pub results_are_fetched : ResultsAreFetched
unfolding hear_packet hear_row result_row
results_are_fetched m base number v h stays gap =
    let other = h.other in
    let listed = h.listed in
    let lower = h.may in
    let new = h.new in
    let own : (v.stamp.by == v.stamp.by) ≡ true = grind (arith, nat_tests) in
    let a : nat_le number (top m) ≡ false = grind (arith, nat_tests) in
    let b : nat_lt (top m + 1) number ≡ true = grind (arith, nat_tests) in
    let p = node_with_promise m v.stamp in
    let follows : is_sequencer p ≡ false = (let equal : stamps_are_equal v.stamp (view m) ≡ false = stamps_differ_either_way (view m) v.stamp new in rw (listed, equal) refl) in
    rw (other, listed, own, lower, new, a, stays, b) (fetching_plan_sends_fetch m p (said.Catching (top m + 1)) v.stamp.by follows)
