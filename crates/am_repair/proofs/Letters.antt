-- Letters among those of a step.
use Rattle.am_repair.proofs.RepairWords.{◌≡◌, ℕ, ◌+◌, ◌==◌, true, false, nat_le, List, [], ◌∷◌, ◌++◌, length, take, drop, refl, sym, ap, ◌∙◌, append_assoc}
use Rattle.am_repair.proofs.RepairWords.{append-nil, arith, All, Contains, prefix_len, take_all, drop_all, All-nil, All-cons, All-head, All-tail, All-push}
use Rattle.am_repair.proofs.RepairWords.{All-weaker, Contains-append_right, Entry, size, Packet, Letter, letter_to, place_for, with_letter, kind_of, Node, other_members}
use Rattle.am_repair.proofs.RepairWords.{Plan, bcast_packet_of, accept_packet_of, letters_of_entries, sends_accept, letters_with_accept, nat_tests, split_on_bool, bcasts}

-- ---- one letter more

pub with_letter_contains_letter : (to : List ℕ) (p : Packet) (letters : List Letter) → (size to == 0) ≡ false → Contains (with_letter to p letters) (letter_to to p)
with_letter_contains_letter to p letters some =
    let n = place_for (kind_of p) letters in
    rw some (Contains-append_right (take n letters) (letter_to to p ∷ drop n letters) (letter_to to p) (0, omega arith, refl))

-- ---- a letter after those of its own kind and of lower ones

abbrev IsLow : ℕ → Letter → Type 0
IsLow kind l = nat_le (kind_of l.packet) kind ≡ true

all_low : (kind : ℕ) (letters : List Letter) → All (IsLow kind) letters → prefix_len (λ l. nat_le (kind_of l.packet) kind) letters ≡ length letters
all_low kind [] h = refl
all_low kind (l ∷ ls) h =
    let first = All-head (IsLow kind) l ls h in
    let rest = all_low kind ls (All-tail (IsLow kind) l ls h) in
    rw first (omega arith)

put_last : (to : List ℕ) (p : Packet) (letters : List Letter) → All (IsLow (kind_of p)) letters → (size to == 0) ≡ false
    → with_letter to p letters ≡ letters ++ letter_to to p ∷ []
put_last to p letters low some =
    let n = place_for (kind_of p) letters in
    let whole = all_low (kind_of p) letters low in
    let all = ap (λ k. take k letters) whole ∙ take_all (length letters) letters (omega arith) in
    let at : n ≡ length letters = ap length all in
    rw some (ap (λ k. take k letters ++ letter_to to p ∷ drop k letters) at
    ∙ ap (λ ls. ls ++ letter_to to p ∷ drop (length letters) letters) (take_all (length letters) letters (omega arith))
    ∙ ap (λ ls. letters ++ letter_to to p ∷ ls) (drop_all (length letters) letters (omega arith)))

-- entries are sent in their order
pub put_all_appends_bcasts : (n : Node) (to : List ℕ) (number : ℕ) (es : List Entry) (letters : List Letter) → All (IsLow 3) letters → (size to == 0) ≡ false
    → letters_of_entries (bcast_packet_of n) to number es letters ≡ letters ++ bcasts n to number es
unfolding letters_of_entries bcasts
put_all_appends_bcasts n to number [] letters low some = sym (append-nil letters)
put_all_appends_bcasts n to number (e ∷ es) letters low some =
    let l = letter_to to (bcast_packet_of n number e) in
    ap (letters_of_entries (bcast_packet_of n) to (number + 1) es) (put_last to (bcast_packet_of n number e) letters low some)
    ∙ put_all_appends_bcasts n to (number + 1) es (letters ++ l ∷ []) (All-push (IsLow 3) letters l low refl) some
    ∙ append_assoc letters (l ∷ []) (bcasts n to (number + 1) es)

pub bcasts_are_low_packets : (n : Node) (to : List ℕ) (number : ℕ) (es : List Entry) → All (IsLow 3) (bcasts n to number es)
unfolding bcasts
bcasts_are_low_packets n to number [] = All-nil (IsLow 3)
bcasts_are_low_packets n to number (e ∷ es) = All-cons (IsLow 3) _ _ refl (bcasts_are_low_packets n to (number + 1) es)

lower : (l : Letter) → IsLow 3 l → IsLow 5 l
lower l h = grind (arith, nat_tests)

-- and how far the list is accepted comes after them
pub with_accept_appends_letters : (m : Node) (p : Plan) (n : Node) (letters : List Letter) → All (IsLow 3) letters
    → (more : List Letter) × (letters_with_accept m p n letters ≡ letters ++ more)
with_accept_appends_letters m p n letters low = split_on_bool (sends_accept m p n)
    (λ t. split_on_bool (size (other_members n) == 0)
    (λ none. ([], rw (t, none) (sym (append-nil letters))))
    (λ some. (
      letter_to (other_members n) (accept_packet_of n p.polls) ∷ [],
      rw t (put_last (other_members n) (accept_packet_of n p.polls) letters
          (All-weaker (IsLow 3) (IsLow 5) lower letters low) some),
    )))
    (λ f. ([], rw f (sym (append-nil letters))))
