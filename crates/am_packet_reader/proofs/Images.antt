-- What is read as an image is the image that stands there.
use Rattle.std.proofs.Common.{◌≡◌, ℕ, zero, suc, ◌+◌, List, [], Ok, Err, slice_index, refl, sym, subst}
use Rattle.am_base.specs.declared.name.Stamp.{Stamp}
use Rattle.am_base.specs.declared.image.Row.{Row}
use Rattle.am_base.specs.declared.image.Image.{Image}
use Rattle.am_packet.specs.Images.{number_in_bytes, row_in, rows_in, image_in}
use Rattle.am_packet.specs.Reading.{Read, ◌>>=◌, number_at, stamp_at, resilience_at, life_at, read_row_at, rows_at, read_image_at}
use Rattle.am_packet.proofs.Fields.{read_that_is_done, done_read_is_injective, number_read_is_big_number, resilience_read_is_byte}
use Rattle.am_packet.proofs.Parts.{life_read_is_byte}

-- what comes of a value that is known, where it was read
then : {A B : Type 0} (r : Read A) (x : A) (f : A → Read B) (y : B) → ((v : A) → r ≡ Ok v → x ≡ v) → (r >>= f) ≡ Ok y → f x ≡ Ok y
then (Ok v) x f y is e = subst (λ w. f w ≡ read_that_is_done y) (sym (is v refl)) e
then (Err d) x f y is e = absurd cc

stamp_is : (bytes : List ℕ) (at : ℕ) (stamp : Stamp) → stamp_at bytes at ≡ Ok stamp
    → record { round = number_in_bytes bytes at; by = slice_index bytes (at + 4) } ≡ stamp
unfolding stamp_at
stamp_is bytes at stamp read = done_read_is_injective _ stamp (then (number_at bytes at) (number_in_bytes bytes at) _ stamp (number_read_is_big_number bytes at) read)

row_is : (bytes : List ℕ) (at : ℕ) (row : Row) → read_row_at bytes at ≡ Ok row → row_in bytes at ≡ row
unfolding read_row_at
row_is bytes at row read =
    let joined = number_in_bytes bytes (at + 1) in
    let a = then (number_at bytes (at + 1)) joined _ row (number_read_is_big_number bytes (at + 1)) read in
    let b = then (life_at bytes at joined) (slice_index bytes at) _ row (λ life e. (life_read_is_byte bytes at joined life e).0) a in
    let c = then (number_at bytes (at + 5)) (number_in_bytes bytes (at + 5)) _ row (number_read_is_big_number bytes (at + 5)) b in
    done_read_is_injective _ row (then (number_at bytes (at + 9)) (number_in_bytes bytes (at + 9)) _ row (number_read_is_big_number bytes (at + 9)) c)

rows_are : (n : ℕ) (bytes : List ℕ) (at : ℕ) (rows : List Row) → rows_at n bytes at ≡ Ok rows → rows_in n bytes at ≡ rows
unfolding rows_at rows_in
rows_are zero bytes at rows read = done_read_is_injective [] rows read
rows_are (suc n) bytes at rows read =
    let a = then (read_row_at bytes at) (row_in bytes at) _ rows (row_is bytes at) read in
    done_read_is_injective _ rows (then (rows_at n bytes (at + 13)) (rows_in n bytes (at + 13)) _ rows (rows_are n bytes (at + 13)) a)

pub image_at_is_image_in : (bytes : List ℕ) (at : ℕ) (image : Image) → read_image_at bytes at ≡ Ok image → image_in bytes at ≡ image
unfolding read_image_at
image_at_is_image_in bytes at image read =
    let a = then (stamp_at bytes at) (record { round = number_in_bytes bytes at; by = slice_index bytes (at + 4) }) _ image (stamp_is bytes at) read in
    let b = then (number_at bytes (at + 5)) (number_in_bytes bytes (at + 5)) _ image (number_read_is_big_number bytes (at + 5)) a in
    let c = then (resilience_at bytes (at + 9)) (slice_index bytes (at + 9)) _ image (resilience_read_is_byte bytes (at + 9)) b in
    done_read_is_injective _ image (then (rows_at 16 bytes (at + 10)) (rows_in 16 bytes (at + 10)) _ image (rows_are 16 bytes (at + 10)) c)
