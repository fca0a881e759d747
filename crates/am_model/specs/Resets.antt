-- Hearing what belongs to ballots, and catching up with a view that was decided.
use Rattle.std.specs.Prelude.{ℕ, ◌+◌, [], length, Option, Some, None, Bool, true, false, not, ◌&&◌, ◌||◌, ◌==◌, nat_lt, nat_le, if◌then◌else◌, max}
use Rattle.am_base.specs.declared.entry.GroupView.{GroupView}
use Rattle.am_base.specs.declared.image.Vote.{Vote}
use Rattle.am_base.specs.declared.name.Stamp.{Stamp}
use Rattle.am_base.specs.declared.entry.Entry.{Entry}
use Rattle.am_base.specs.declared.entry.Entry.TheVariants.{Data, Join, Leave, View}
use Rattle.am_base.specs.declared.outcome.Outcome.{Outcome}
use Rattle.am_base.specs.declared.outcome.Outcome.TheVariants as said
use Rattle.am_base.specs.Stamps.{stamp_is_less, stamps_are_equal}
use Rattle.am_base.specs.Lists.{fits}
use Rattle.am_model.specs.Node.{Node, Ballot, top, image_of_node, view, has_own_leave, set_of_one_name, number_is_within_bound, push_entry, trim_node_up_to}
use Rattle.am_model.specs.Emit.{Plan, plan_without_letters, plan_with_letter, with_letter_where, ack_packet_of, fetch_packet_of, piece_packet_of, entries_to_serve, letters_of_entries}
use Rattle.am_model.specs.Ballots.{node_with_promise, vote_packet_of, decide, plan_of_verdict, keep_vote_in_ballot}

-- ---- votes

unfoldable pub invite_row : Node → ℕ → Stamp → Plan
invite_row m s v =
    if stamp_is_less v m.core.promise then plan_with_letter m (said.Newer m.core.promise) (set_of_one_name s) vote_packet_of
    else plan_with_letter (node_with_promise m v) said.Voted (set_of_one_name s) vote_packet_of

-- an unfinished ballot of this stamp
abbrev pub is_open_ballot : Stamp → Ballot → Bool
is_open_ballot v b = not b.is_over && stamps_are_equal b.stamp v

abbrev pub take_vote : Node → ℕ → Stamp → Vote → Option Ballot → Plan
take_vote m s v vote None = plan_without_letters m said.Elsewhere
take_vote m s v vote (Some b) =
    if stamp_is_less v m.core.promise || not (is_open_ballot v b) then plan_without_letters m said.Elsewhere
    else if b.given_up s then plan_without_letters m said.Known
    else keep_vote_in_ballot m b s vote

unfoldable pub vote_row : Node → ℕ → Stamp → Vote → Plan
vote_row m s v vote =
    if stamp_is_less m.core.promise v then plan_without_letters (node_with_promise m v) (said.Overtaken v)
    else take_vote m s v vote m.ballot

-- ---- fetching

-- who is promised may fetch, and in a view everybody from its own name
abbrev pub may_fetch : Node → ℕ → Stamp → Bool
may_fetch m s v = stamps_are_equal v m.core.promise && ((v.by == s) || ((v.by == m.core.who) && stamps_are_equal (view m) v))

abbrev pub serve_pieces : Node → ℕ → ℕ → Plan
serve_pieces m s stored = record (plan_without_letters m (said.Served (length (entries_to_serve m stored)))) {
  letters =
      λ n. letters_of_entries (piece_packet_of n) (set_of_one_name s) (stored + 1) (entries_to_serve m stored) [];
}

unfoldable pub fetch_row : Node → ℕ → Stamp → ℕ → Plan
fetch_row m s v stored =
    if not (may_fetch m s v) then plan_without_letters m said.Elsewhere
    else if nat_lt stored m.core.base || nat_lt (top m) stored then plan_without_letters m said.Behind
    else serve_pieces m s stored

-- a View that can't come by fetching: one above the stamp, or in a ballot of it
abbrev pub is_unfetchable_view : Stamp → Bool → Entry → Bool
is_unfetchable_view v in_ballot (Data from req body) = false
is_unfetchable_view v in_ballot (Join name) = false
is_unfetchable_view v in_ballot (Leave name) = false
is_unfetchable_view v in_ballot (View w) = stamp_is_less v w.stamp || (in_ballot && stamps_are_equal w.stamp v)

-- a fetched entry that comes next is pushed above this base; nobody follows a list past its own Leave
abbrev pub push_fetched : Node → Stamp → ℕ → ℕ → Entry → Bool → (Node → Plan) → Plan
push_fetched m v base number e in_ballot then_ =
    if nat_le number (top m) then plan_without_letters m said.Known
    else if has_own_leave m then plan_without_letters m said.Behind
    else if nat_lt (top m + 1) number then plan_without_letters m (said.Gap (top m + 1))
    else if nat_lt m.core.taken base then plan_without_letters m said.Behind
    else if not (fits (image_of_node m) e) || (is_unfetchable_view v in_ballot e || not (number_is_within_bound m (max m.core.base base) number)) then plan_without_letters m said.Unfit
    else then_ (push_entry (trim_node_up_to m base) e)

-- without a ballot it is stored, and reported where the view is reached
abbrev pub catch_up : ℕ → Stamp → ℕ → Node → Plan
catch_up s v number m = with_letter_where (λ n. stamps_are_equal (view n) v) (plan_without_letters m (said.Stored number)) (set_of_one_name s) ack_packet_of

-- with one, the ballot is looked at anew
abbrev pub look_at_ballot_anew : Ballot → Node → Plan
look_at_ballot_anew b m = plan_of_verdict (decide m b) (λ n. [])

-- the ballot fetches from this name
abbrev pub fetches_from : Outcome → ℕ → Bool
fetches_from (said.Fetching from want) s = from == s
fetches_from _ s = false

abbrev pub piece_promised : Node → ℕ → Stamp → ℕ → ℕ → Entry → Plan
piece_promised m s v base number e =
    if not (v.by == s) then plan_without_letters m said.Elsewhere
    else push_fetched m v base number e false (catch_up s v number)

abbrev pub piece_for : Node → ℕ → Stamp → ℕ → ℕ → Entry → Option Ballot → Plan
piece_for m s v base number e None = piece_promised m s v base number e
piece_for m s v base number e (Some b) =
    if b.is_over then piece_promised m s v base number e
    else if not (fetches_from b.answer s) then plan_without_letters m said.Elsewhere
    else push_fetched m v base number e true (look_at_ballot_anew b)

unfoldable pub piece_row : Node → ℕ → Stamp → ℕ → ℕ → Entry → Plan
piece_row m s v base number e =
    if not (stamps_are_equal v m.core.promise) || stamps_are_equal (view m) v then plan_without_letters m said.Elsewhere
    else piece_for m s v base number e m.ballot

-- ---- a decided view

-- once it is promised
abbrev pub row_of_promised_result : Node → ℕ → ℕ → ℕ → GroupView → Plan
row_of_promised_result m s base number v =
    if stamps_are_equal (view m) v.stamp then plan_with_letter m said.Known (set_of_one_name s) ack_packet_of
    else if nat_le number (top m) then plan_without_letters m said.Unfit
    else if has_own_leave m then plan_without_letters m said.Behind
    else if nat_lt (top m + 1) number then plan_with_letter m (said.Catching (top m + 1)) (set_of_one_name s) fetch_packet_of
    else if nat_lt m.core.taken base then plan_without_letters m said.Behind
    else if not (fits (image_of_node m) (View v)) || not (number_is_within_bound m (max m.core.base base) number) then plan_without_letters m said.Unfit
    else plan_with_letter (push_entry (trim_node_up_to m base) (View v)) (said.Stored number) (set_of_one_name s) ack_packet_of

unfoldable pub result_row : Node → ℕ → ℕ → ℕ → GroupView → Plan
result_row m s base number v =
    if (v.stamp.by == m.core.who) || stamp_is_less v.stamp m.core.promise then plan_without_letters m said.Elsewhere
    else row_of_promised_result (node_with_promise m v.stamp) s base number v
