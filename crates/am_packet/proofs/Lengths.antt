-- How many bytes rows take.
use Rattle.std.proofs.Common.{◌≡◌, ◌*◌, List, [], ◌∷◌, length, refl, length-append, arith}
use Rattle.am_base.specs.declared.image.Row.{Row}
use Rattle.am_packet.specs.Spelling.{row_bytes, rows_bytes}

pub length-rows_bytes : (xs : List Row) → length (rows_bytes xs) ≡ 13 * length xs
unfolding rows_bytes
length-rows_bytes [] = refl
length-rows_bytes (x ∷ xs) = omega (arith, length-rows_bytes xs, length-append (row_bytes x) (rows_bytes xs))
