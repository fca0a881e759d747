-- What a view's sequencer sends to a member that fetches.
use Rattle.am_fetch_laws.proofs.Words.{◌≡◌, ℕ, ◌+◌, ◌≤◌, ◌==◌, ◌&&◌, ◌||◌, nat_lt, nat_le, Bool, true, false, List, [], ◌∷◌, ◌++◌, length, take, drop, refl, sym, ap, ◌∙◌}
use Rattle.am_fetch_laws.proofs.Words.{subst, arith, nat_tests, All, All-nil, All-head, All-tail, size, split_on_bool, both_of_and, Entry, Stamp, stamps_are_equal, Packet, Letter, letter_to}
use Rattle.am_fetch_laws.proofs.Words.{place_for, with_letter, Fetch, Node, top, view, set_of_one_name, other_members, is_member, is_sequencer, acts_in_its_view, Plan, finish, hear_packet, hear_row, fetch_row}
use Rattle.am_fetch_laws.proofs.Words.{may_fetch, serve_pieces, letters_of_entries, piece_packet_of, accept_packet_of, entries_to_serve, letters_with_accept, sends_accept, refresh_at_end}
use Rattle.am_fetch_laws.proofs.Words.{stamp_eq_gives_equality, stamp_eq_of_itself, pieces, ServesPieces, FetchesAreServed, inl, inr}
use Rattle.am_fetch_laws.specs.Fetching.{IsAcceptAtMost}
use Rattle.std.proofs.Common.{append_assoc, append-nil}
use Rattle.std.proofs.lemmas.List.{take_all, drop_all}
use Rattle.std.proofs.lemmas.List.Elements.{All-push}
use Rattle.std.specs.List.{prefix_len}
use Rattle.am_packet.specs.Kinds.{kind_of}
use Rattle.am_fetch_laws.proofs.Asking.{one_name_is_somebody}

-- ---- letters in their order

-- a letter of this kind or a lower one
abbrev IsNoHigher : ℕ → Letter → Type 0
IsNoHigher kind l = nat_le (kind_of l.packet) kind ≡ true

all_are_before : (kind : ℕ) (letters : List Letter) → All (IsNoHigher kind) letters → prefix_len (λ l. nat_le (kind_of l.packet) kind) letters ≡ length letters
all_are_before kind [] h = refl
all_are_before kind (l ∷ ls) h =
    let first = All-head (IsNoHigher kind) l ls h in
    let rest = all_are_before kind ls (All-tail (IsNoHigher kind) l ls h) in
    rw first (omega arith)

-- a letter comes after those of its own kind and of lower ones
highest_letter_is_last : (to : List ℕ) (p : Packet) (letters : List Letter) → All (IsNoHigher (kind_of p)) letters → (size to == 0) ≡ false
    → with_letter to p letters ≡ letters ++ letter_to to p ∷ []
highest_letter_is_last to p letters low some =
    let n = place_for (kind_of p) letters in
    let whole = all_are_before (kind_of p) letters low in
    let all = ap (λ k. take k letters) whole ∙ take_all (length letters) letters (omega arith) in
    let at : n ≡ length letters = ap length all in
    rw some (ap (λ k. take k letters ++ letter_to to p ∷ drop k letters) at
    ∙ ap (λ ls. ls ++ letter_to to p ∷ drop (length letters) letters) (take_all (length letters) letters (omega arith))
    ∙ ap (λ ls. letters ++ letter_to to p ∷ ls) (drop_all (length letters) letters (omega arith)))

-- Pieces come in the order of their entries
pieces_come_in_order : (n : Node) (to : List ℕ) (number : ℕ) (es : List Entry) (letters : List Letter) → All (IsNoHigher 16) letters → (size to == 0) ≡ false
    → letters_of_entries (piece_packet_of n) to number es letters ≡ letters ++ pieces n to number es
unfolding letters_of_entries pieces
pieces_come_in_order n to number [] letters low some = sym (append-nil letters)
pieces_come_in_order n to number (e ∷ es) letters low some =
    let l = letter_to to (piece_packet_of n number e) in
    ap (letters_of_entries (piece_packet_of n) to (number + 1) es) (highest_letter_is_last to (piece_packet_of n number e) letters low some)
    ∙ pieces_come_in_order n to (number + 1) es (letters ++ l ∷ []) (All-push (IsNoHigher 16) letters l low refl) some
    ∙ append_assoc letters (l ∷ []) (pieces n to (number + 1) es)

-- an Accept comes before them
accept_is_first : (n : Node) (polls : Bool) (to names : List ℕ) (number : ℕ) (es : List Entry) → (size names == 0) ≡ false
    → with_letter names (accept_packet_of n polls) (pieces n to number es) ≡ letter_to names (accept_packet_of n polls) ∷ pieces n to number es
unfolding pieces
accept_is_first n polls to names number [] some = rw some refl
accept_is_first n polls to names number (e ∷ es) some = rw some refl

-- what a step sends that serves
served : (m : Node) (p : Plan) (n : Node) (to : List ℕ) (number : ℕ) (es : List Entry)
    → (first : List Letter) × (IsAcceptAtMost n first) × (letters_with_accept m p n (pieces n to number es) ≡ first ++ pieces n to number es)
served m p n to number es = split_on_bool (sends_accept m p n)
    (λ t. split_on_bool (size (other_members n) == 0)
    (λ none. ([], inl refl, rw (t, none) refl))
    (λ some. (
      letter_to (other_members n) (accept_packet_of n p.polls) ∷ [],
      inr (other_members n, p.polls, refl),
      rw t (accept_is_first n p.polls to (other_members n) number es some),
    )))
    (λ f. ([], inl refl, rw f refl))

-- ---- a Fetch

-- who leads hears it, and may be fetched from
fetch_is_served : (m : Node) (s stored : ℕ) → is_sequencer m ≡ true → (s == m.core.who) ≡ false → m.core.base ≤ stored → stored ≤ top m
    → hear_row m (Fetch s (view m) stored) ≡ serve_pieces m s stored
unfolding hear_row fetch_row
fetch_is_served m s stored leads other low within =
    let both = both_of_and (acts_in_its_view m) ((view m).by == m.core.who) leads in
    let acts = both_of_and (is_member m.status) _ both.0 in
    let listed = acts.0 in
    let own = both.1 in
    let same = stamp_eq_gives_equality m.core.promise (view m) acts.1 in
    let itself = stamp_eq_of_itself (view m) in
    let may : may_fetch m s (view m) ≡ true = ap (λ (p : Stamp). stamps_are_equal (view m) p && (((view m).by == s) || (((view m).by == m.core.who) && stamps_are_equal (view m) (view m)))) same
    ∙ may_by (stamps_are_equal (view m) (view m)) ((view m).by == s) ((view m).by == m.core.who) itself own in
    let a : nat_lt stored m.core.base ≡ false = grind (arith, nat_tests) in
    let b : nat_lt (top m) stored ≡ false = grind (arith, nat_tests) in
    rw (other, listed, may, a, b) refl
  where
    may_by : (same by own : Bool) → same ≡ true → own ≡ true → (same && (by || (own && same))) ≡ true
    may_by true true own a b = refl
    may_by true false true a b = refl
    may_by true false false a b = absurd (cc)
    may_by false by own a b = absurd (cc)

-- what is served goes out in the order of the entries
pub served_letters_are_pieces : (m : Node) (s stored : ℕ) → (serve_pieces m s stored).letters (refresh_at_end m)
    ≡ pieces (refresh_at_end m) (set_of_one_name s) (stored + 1) (entries_to_serve m stored)
served_letters_are_pieces m s stored =
    pieces_come_in_order (refresh_at_end m) (set_of_one_name s) (stored + 1) (entries_to_serve m stored) [] (All-nil (IsNoHigher 16)) (one_name_is_somebody s)

pub fetches_are_served : FetchesAreServed
unfolding hear_packet finish
fetches_are_served m s stored leads other low within =
    let p = serve_pieces m s stored in
    let n = refresh_at_end m in
    let first = served m p n (set_of_one_name s) (stored + 1) (entries_to_serve m stored) in
    subst (λ (q : Plan). ServesPieces m s stored (finish m q)) (sym (fetch_is_served m s stored leads other low within)) (record {
      node = refl;
      first = first.0;
      accept = first.1;
      letters = ap (letters_with_accept m p n) (served_letters_are_pieces m s stored) ∙ first.2;
    })
