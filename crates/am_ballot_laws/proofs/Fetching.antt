-- What a coordinator whose ballot fetches asks for and stores, and what the voter serves.
use Rattle.am_fetch_laws.proofs.Words.{◌≡◌, ℕ, ◌≤◌, ◌==◌, nat_lt, true, false, Some, refl, sym, ap, ◌∙◌, subst, arith, nat_tests}
use Rattle.am_fetch_laws.proofs.Words.{Entry, Stamp, stamps_are_equal, Node, Ballot, Plan, top, view, set_of_one_name, is_member, is_sequencer, finish, step, row, tick_row, tick_by_ballot, tick_by_status}
use Rattle.am_fetch_laws.proofs.Words.{hear_packet, hear_row, piece_row, piece_for, push_fetched, fetch_row, serve_pieces, is_unfetchable_view, refresh_at_end, stamp_eq_of_itself, plan_with_letter, fetch_packet_of}
use Rattle.am_fetch_laws.proofs.Words.{Fetch, MayBeStored, letters_with_accept, split_on_bool}
use Rattle.am_base.specs.declared.event.NodeEvent.TheVariants as does
use Rattle.std.specs.Prelude.{Bool, not, if◌then◌else◌}
use Rattle.am_fetch_laws.proofs.Words.{piece_promised}
use Rattle.am_model.specs.Emit.{plan_without_letters}
use Rattle.am_base.specs.declared.outcome.Outcome.TheVariants as said
use Rattle.am_model.specs.Resets.{look_at_ballot_anew, fetches_from}
use Rattle.am_model.specs.Ticks.{tick_of_coordinator}
use Rattle.am_fetch_laws.proofs.Asking.{fetching_plan_sends_fetch, stamps_differ_either_way, status_of_member}
use Rattle.am_fetch_laws.proofs.Storing.{tests_of_next_entry}
use Rattle.am_fetch_laws.proofs.Serving.{served_letters_are_pieces}
use Rattle.am_fetch_laws.proofs.Words.{end_refresh_rests_with_list, is_sequencer_after_rest}
use Rattle.am_ballot_laws.specs.Fetching.{FetchesFor, AsksFor, BallotsFetch, with_entry_above, PiecesAreLookedAt, HasPromised, ServesVoted, VotersServe}

-- ---- a tick

-- who has promised another view leads not
pub promised_leads_not : (m : Node) → stamps_are_equal (view m) m.core.promise ≡ false → is_sequencer m ≡ false
promised_leads_not m below =
    let differ = stamps_differ_either_way (view m) m.core.promise below in
    split_on_bool (is_member m.status) (λ t. rw (t, differ) refl) (λ f. rw f refl)

tick_fetches : (m : Node) (b : Ballot) (from : ℕ) → FetchesFor m b from → tick_row m ≡ plan_with_letter m said.Ticked (set_of_one_name from) fetch_packet_of
unfolding tick_row
tick_fetches m b from h =
    let open_ = h.open_ in
    ap (tick_by_status m) (status_of_member m.status h.listed) ∙ ap (tick_by_ballot m) h.last ∙ rw open_ (ap (tick_of_coordinator m) h.answer)

pub ballots_fetch : BallotsFetch
unfolding step row finish
ballots_fetch m b from h =
    let is : step m does.Tick ≡ finish m (plan_with_letter m said.Ticked (set_of_one_name from) fetch_packet_of) = ap (finish m) (tick_fetches m b from h) in
    subst (AsksFor m from) (sym is) (record { node = refl; letters = fetching_plan_sends_fetch m m said.Ticked from (promised_leads_not m h.below) })

-- ---- a Piece

-- what comes next is pushed, also in a ballot
fetched_in_ballot : (m : Node) (v : Stamp) (base number : ℕ) (e : Entry) (then_ : Node → Plan) → MayBeStored m base number e → is_unfetchable_view v true e ≡ false
    → push_fetched m v base number e true then_ ≡ then_ (with_entry_above m base e)
fetched_in_ballot m v base number e then_ h may =
    let p = tests_of_next_entry m base number e h in
    rw (p.new, h.stays, p.next, p.taken, h.fits, may, p.within) refl

third : (over fetches : Bool) (x y z : Plan) → over ≡ false → fetches ≡ true → (if over then x else if not fetches then y else z) ≡ z
third false true x y z a b = refl
third false false x y z a b = absurd (cc)
third true fetches x y z a b = absurd (cc)

piece_in_open_ballot : (m : Node) (s : ℕ) (v : Stamp) (base number : ℕ) (e : Entry) (b : Ballot) → b.is_over ≡ false → fetches_from b.answer s ≡ true
    → piece_for m s v base number e (Some b) ≡ push_fetched m v base number e true (look_at_ballot_anew b)
piece_in_open_ballot m s v base number e b open_ from_it =
    third b.is_over (fetches_from b.answer s) (piece_promised m s v base number e) (plan_without_letters m said.Elsewhere) (push_fetched m v base number e true (look_at_ballot_anew b)) open_ from_it

pub pieces_are_looked_at : PiecesAreLookedAt
unfolding hear_packet hear_row piece_row finish
pieces_are_looked_at m b from base number e h may fetched =
    let v = m.core.promise in
    let other = h.other in
    let listed = h.listed in
    let below = h.below in
    let open_ = h.open_ in
    let same = stamp_eq_of_itself v in
    let from_it : fetches_from b.answer from ≡ true = ap (λ o. fetches_from o from) h.answer ∙ itself from in
    let is : piece_for m from v base number e m.ballot ≡ look_at_ballot_anew b (with_entry_above m base e) = ap (piece_for m from v base number e) h.last
    ∙ piece_in_open_ballot m from v base number e b open_ from_it ∙ fetched_in_ballot m v base number e (look_at_ballot_anew b) may fetched in
    rw (other, listed, same, below, is) refl
  where
    itself : (n : ℕ) → (n == n) ≡ true
    itself n = grind (arith, nat_tests)

-- ---- a Fetch

fetch_of_promised : (m : Node) (v : Stamp) (stored : ℕ) → HasPromised m v → m.core.base ≤ stored → stored ≤ top m → hear_row m (Fetch v.by v stored) ≡ serve_pieces m v.by stored
unfolding hear_row fetch_row
fetch_of_promised m v stored h low within =
    let other = h.other in
    let listed = h.listed in
    let same : stamps_are_equal v m.core.promise ≡ true = ap (stamps_are_equal v) h.promised ∙ stamp_eq_of_itself v in
    let by : (v.by == v.by) ≡ true = grind (arith, nat_tests) in
    let a : nat_lt stored m.core.base ≡ false = grind (arith, nat_tests) in
    let b : nat_lt (top m) stored ≡ false = grind (arith, nat_tests) in
    rw (other, listed, same, by, a, b) refl

pub voters_serve : VotersServe
unfolding hear_packet finish
voters_serve m v stored h low within =
    let n = refresh_at_end m in
    let p = serve_pieces m v.by stored in
    let below : stamps_are_equal (view m) m.core.promise ≡ false = ap (stamps_are_equal (view m)) h.promised ∙ h.below in
    let leads : is_sequencer n ≡ false = is_sequencer_after_rest (end_refresh_rests_with_list m).rests ∙ promised_leads_not m below in
    let sent = served_letters_are_pieces m v.by stored in
    let quiet : letters_with_accept m p n (p.letters n) ≡ p.letters n = rw leads refl in
    subst (λ (q : Plan). ServesVoted m v.by stored (finish m q)) (sym (fetch_of_promised m v stored h low within)) (record { node = refl; letters = quiet ∙ sent })
