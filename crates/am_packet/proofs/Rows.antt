-- Reading the rows of an image one after the other.
use Rattle.std.proofs.Common.{◌≡◌, ℕ, suc, ◌+◌, ◌-◌, ◌*◌, ◌<◌, ◌≤◌, List, [], ◌∷◌, ◌++◌, length, take, set, sym, ◌∙◌, append_assoc, arith}
use Rattle.std.proofs.lemmas.List.{append-nil, take_all, take_more_set}
use Rattle.am_base.specs.declared.image.Row.{Row}
use Rattle.am_packet.specs.Images.{row_in, rows_in}

pub rows_read_with_next_row : (rows : List Row) (i : ℕ) (bytes : List ℕ) (at : ℕ) (all : List Row) → i < 16 → length rows ≡ 16
    → take i rows ++ rows_in (16 - i) bytes (at + 13 * i) ≡ all
    → take (i + 1) (set rows i (row_in bytes (at + 13 * i))) ++ rows_in (16 - (i + 1)) bytes (at + 13 * (i + 1)) ≡ all
unfolding rows_in
rows_read_with_next_row rows i bytes at all lt long so_far =
    let k : 16 - i ≡ suc (16 - (i + 1)) = omega arith in
    let next : at + 13 * (i + 1) ≡ at + 13 * i + 13 = omega arith in
    let row = row_in bytes (at + 13 * i) in
    let rest = rows_in (16 - (i + 1)) bytes (at + 13 * i + 13) in
    let one : take i rows ++ rows_in (16 - i) bytes (at + 13 * i) ≡ (take i rows ++ row ∷ []) ++ rest =
    rw k (sym (append_assoc (take i rows) (row ∷ []) rest)) in
    rw (take_more_set rows i row (omega (arith, long)), next) (sym one ∙ so_far)

pub rows_read_up_to_sixteen : (rows : List Row) (i : ℕ) (bytes : List ℕ) (at : ℕ) (all : List Row) → 16 ≤ i → length rows ≡ 16
    → take i rows ++ rows_in (16 - i) bytes (at + 13 * i) ≡ all → rows ≡ all
unfolding rows_in
rows_read_up_to_sixteen rows i bytes at all le long so_far =
    let k : 16 - i ≡ 0 = omega arith in
    let one : take i rows ++ rows_in (16 - i) bytes (at + 13 * i) ≡ rows = rw (k, take_all i rows (omega (arith, long))) (append-nil rows) in
    sym one ∙ so_far
