-- Bytes that are written piece by piece.
use Rattle.std.proofs.Common.{◌≡◌, ℕ, ◌+◌, ◌*◌, ◌<◌, ◌≤◌, List, [], ◌∷◌, ◌++◌, length, take, get_or, refl, sym, ap, ◌∙◌, append_assoc, length-append, arith}
use Rattle.std.proofs.lemmas.List.{append-nil, length-take, take_more}
use Rattle.am_base.specs.Most.{most_bytes_of_packet}
use Rattle.am_base.specs.declared.image.Row.{Row}
use Rattle.am_packet.specs.Spelling.{row_bytes, rows_bytes}
use Rattle.am_packet.proofs.Lengths.{length-rows_bytes}

-- one piece after what was written
pub bytes_after_two_pieces : (old middle new a b : List ℕ) → new ≡ middle ++ b → middle ≡ old ++ a → new ≡ old ++ (a ++ b)
bytes_after_two_pieces old middle new a b second first = second ∙ ap (λ xs. xs ++ b) first ∙ append_assoc old a b

pub bytes_after_no_piece : (old : List ℕ) → old ≡ old ++ []
bytes_after_no_piece old = sym (append-nil old)

pub bytes_after_three_pieces : (old one two new a b c : List ℕ) → one ≡ old ++ a → two ≡ one ++ b → new ≡ two ++ c → new ≡ old ++ (a ++ b ++ c)
bytes_after_three_pieces old one two new a b c e1 e2 e3 = bytes_after_two_pieces old two new (a ++ b) c e3 (bytes_after_two_pieces old one two a b e2 e1)

-- four pieces one after the other
pub bytes_after_four_pieces : (old one two three new a b c d : List ℕ) → one ≡ old ++ a → two ≡ one ++ b → three ≡ two ++ c → new ≡ three ++ d → new ≡ old ++ (a ++ b ++ c ++ d)
bytes_after_four_pieces old one two three new a b c d e1 e2 e3 e4 = bytes_after_two_pieces old three new (a ++ b ++ c) d e4 (bytes_after_two_pieces old two three (a ++ b) c e3 (bytes_after_two_pieces old one two a b e2 e1))

rows_bytes-append : (xs : List Row) (row : Row) → rows_bytes (xs ++ row ∷ []) ≡ rows_bytes xs ++ row_bytes row
unfolding rows_bytes
rows_bytes-append [] row = refl
rows_bytes-append (x ∷ xs) row = ap (λ bytes. row_bytes x ++ bytes) (rows_bytes-append xs row)
    ∙ sym (append_assoc (row_bytes x) (rows_bytes xs) (row_bytes row))

-- no row is written yet
pub bytes_after_no_rows : (old : List ℕ) → old ≡ old ++ rows_bytes []
unfolding rows_bytes
bytes_after_no_rows old = sym (append-nil old)

-- one row more
pub rows_bytes_with_next_row : (rows : List Row) (d : Row) (i : ℕ) (old middle new : List ℕ) → i < length rows → middle ≡ old ++ rows_bytes (take i rows)
    → new ≡ middle ++ row_bytes (get_or rows i d) → new ≡ old ++ rows_bytes (take (i + 1) rows)
rows_bytes_with_next_row rows d i old middle new lt before now = rw (
  take_more rows i d lt,
  rows_bytes-append (take i rows) (get_or rows i d),
) (bytes_after_two_pieces old middle new (rows_bytes (take i rows)) (row_bytes (get_or rows i d)) now before)

-- so many rows leave room for another
pub packet_has_room_for_row : (rows : List Row) (i : ℕ) (old middle : List ℕ) → i < 16 → middle ≡ old ++ rows_bytes (take i rows) → length old + 208 ≤ most_bytes_of_packet
    → length middle + 13 ≤ most_bytes_of_packet
packet_has_room_for_row rows i old middle lt before h =
    let long = length-append old (rows_bytes (take i rows)) in
    let each = length-rows_bytes (take i rows) in
    let few = length-take i rows in
    rw before (omega (arith, long, each, few))

pub length_of_rows_bytes : (rows : List Row) (n : ℕ) → length rows ≡ n → 13 * n ≡ length (rows_bytes rows)
length_of_rows_bytes rows n h = omega (arith, length-rows_bytes rows, h)
