-- What the row of a Fetch comes to.
use Rattle.am_resetting.proofs.CatchingWords.{◌≡◌, ℕ, ◌≤◌, true, false, ◌||◌, nat_lt, length, refl, ap, arith, nat_tests, Stamp, Node, top, fetch_row, may_fetch}
use Rattle.am_resetting.proofs.CatchingWords.{serve_pieces, entries_to_serve, Replies, reply_without_letters, reply_with_telling, reply_quiet_with_outcome, reply_says_and_tells, equal_reply_of_plan, untrimmed_node_ends_itself}
use Rattle.am_base.specs.declared.outcome.Outcome.TheVariants as said
use Rattle.am_node_parts.specs.declared.reply.Telling.TheVariants as tell
use Rattle.am_node_parts.specs.Replies.{Ends, HasEntriesAbove}

pub fetch_row_is_elsewhere : (m n : Node) (s : ℕ) (v : Stamp) (stored : ℕ) → may_fetch m s v ≡ false → Ends m n
    → Replies (fetch_row m s v stored) (reply_without_letters said.Elsewhere) n
unfolding fetch_row
fetch_row_is_elsewhere m n s v stored f end = rw f (reply_quiet_with_outcome m n said.Elsewhere end)

pub fetch_row_is_behind : (m n : Node) (s : ℕ) (v : Stamp) (stored : ℕ) → may_fetch m s v ≡ true → (nat_lt stored m.core.base || nat_lt (top m) stored) ≡ true
    → Ends m n → Replies (fetch_row m s v stored) (reply_without_letters said.Behind) n
unfolding fetch_row
fetch_row_is_behind m n s v stored t u end = rw (t, u) (reply_quiet_with_outcome m n said.Behind end)

-- what is in reach
pub stored_number_may_be_given : (m : Node) (stored : ℕ) → (nat_lt stored m.core.base || nat_lt (top m) stored) ≡ false → HasEntriesAbove stored m
stored_number_may_be_given m stored f = record {
  low = let x : m.core.base ≤ stored = grind (arith, nat_tests) in x;
  high = let x : stored ≤ top m = grind (arith, nat_tests) in x;
}

pub fetch_row_serves_entries : (m : Node) (s : ℕ) (v : Stamp) (stored count : ℕ) → may_fetch m s v ≡ true
    → (nat_lt stored m.core.base || nat_lt (top m) stored) ≡ false → count ≡ length (entries_to_serve m stored)
    → Replies (fetch_row m s v stored) (reply_with_telling (said.Served count) (tell.Entries s stored true)) m
unfolding fetch_row
fetch_row_serves_entries m s v stored count t f is = rw (t, f) (equal_reply_of_plan (serve_pieces m s stored) (reply_with_telling (said.Served count) (tell.Entries s stored true))
    (reply_with_telling (said.Served (length (entries_to_serve m stored))) (tell.Entries s stored true)) m
    (ap (λ k. reply_with_telling (said.Served k) (tell.Entries s stored true)) is)
    (reply_says_and_tells m m (said.Served (length (entries_to_serve m stored))) (tell.Entries s stored true) refl (stored_number_may_be_given m stored f) tt (untrimmed_node_ends_itself m)))
