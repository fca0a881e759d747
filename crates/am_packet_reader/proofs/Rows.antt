-- Reading the rows of an image one after the other.
use Rattle.std.proofs.Common.{◌≡◌, ℕ, suc, ◌+◌, ◌-◌, ◌*◌, ◌<◌, ◌≤◌, List, [], ◌∷◌, ◌++◌, length, take, set, Ok, Err, refl, sym, ap, ◌∙◌, append_assoc, arith}
use Rattle.std.proofs.lemmas.List.{append-nil, take_all, take_more_set}
use Rattle.am_base.specs.declared.image.Row.{Row}
use Rattle.am_packet.specs.declared.refusal.PacketRefusal.{PacketRefusal}
use Rattle.am_packet.specs.Reading.{Read, ◌>>=◌, read_row_at, rows_at}

-- what is read, with these rows before it
abbrev pub read_of_rows_after_front : List Row → Read (List Row) → Read (List Row)
read_of_rows_after_front front read = read >>= λ rows. Ok (front ++ rows)

regroup : (front : List Row) (row : Row) (read : Read (List Row)) → read_of_rows_after_front front (read >>= λ rows. Ok (row ∷ rows)) ≡ read_of_rows_after_front (front ++ row ∷ []) read
regroup front row (Ok rows) = ap (λ (rs : List Row). Ok rs) (sym (append_assoc front (row ∷ []) rows))
regroup front row (Err e) = refl

pub rows_at_with_next_row : (rows : List Row) (i : ℕ) (bytes : List ℕ) (at : ℕ) (row : Row) (total : Read (List Row)) → i < 16 → length rows ≡ 16
    → read_row_at bytes (at + 13 * i) ≡ Ok row
    → read_of_rows_after_front (take i rows) (rows_at (16 - i) bytes (at + 13 * i)) ≡ total
    → read_of_rows_after_front (take (i + 1) (set rows i row)) (rows_at (16 - (i + 1)) bytes (at + 13 * (i + 1))) ≡ total
unfolding rows_at
rows_at_with_next_row rows i bytes at row total lt long h so_far =
    let k : 16 - i ≡ suc (16 - (i + 1)) = omega arith in
    let next : at + 13 * (i + 1) ≡ at + 13 * i + 13 = omega arith in
    let one : read_of_rows_after_front (take i rows) (rows_at (16 - i) bytes (at + 13 * i))
    ≡ read_of_rows_after_front (take i rows ++ row ∷ []) (rows_at (16 - (i + 1)) bytes (at + 13 * i + 13)) =
    rw (k, h) (regroup (take i rows) row (rows_at (16 - (i + 1)) bytes (at + 13 * i + 13))) in
    rw (take_more_set rows i row (omega (arith, long)), next) (sym one ∙ so_far)

pub rows_at_with_wrong_row : (front : List Row) (i : ℕ) (bytes : List ℕ) (at : ℕ) (e : PacketRefusal) (total : Read (List Row)) → i < 16 → read_row_at bytes (at + 13 * i) ≡ Err e
    → read_of_rows_after_front front (rows_at (16 - i) bytes (at + 13 * i)) ≡ total → Err e ≡ total
unfolding rows_at
rows_at_with_wrong_row front i bytes at e total lt h so_far =
    let k : 16 - i ≡ suc (16 - (i + 1)) = omega arith in
    let one : read_of_rows_after_front front (rows_at (16 - i) bytes (at + 13 * i)) ≡ Err e = rw (k, h) refl in
    sym one ∙ so_far

pub rows_at_up_to_sixteen : (rows : List Row) (i : ℕ) (bytes : List ℕ) (at : ℕ) (total : Read (List Row)) → 16 ≤ i → length rows ≡ 16
    → read_of_rows_after_front (take i rows) (rows_at (16 - i) bytes (at + 13 * i)) ≡ total → Ok rows ≡ total
unfolding rows_at
rows_at_up_to_sixteen rows i bytes at total le long so_far =
    let k : 16 - i ≡ 0 = omega arith in
    let one : read_of_rows_after_front (take i rows) (rows_at (16 - i) bytes (at + 13 * i)) ≡ Ok rows =
    rw (k, take_all i rows (omega (arith, long))) (ap (λ (rs : List Row). Ok rs) (append-nil rows)) in
    sym one ∙ so_far
