-- The digits of bytes, by the table of the library and by the definition.
use Rattle.std.proofs.Common.{◌≡◌, ℕ, zero, suc, ◌/◌, ◌%◌, ◌<◌, List, [], ◌∷◌, false, refl, ap, ◌∙◌, slice_index, arith}
use Rattle.std.specs.List.{flat_map}
use Rattle.std.specs.Fmt.{digit_glyph}
use Rattle.hex.specs.Hex.{encode_lower, encode_with, lower_digits}
use Rattle.am_group_defs.specs.Text.{hex_byte}

digit_is : (d : ℕ) → d < 16 → slice_index lower_digits d ≡ digit_glyph false d
digit_is zero h = refl
digit_is (suc zero) h = refl
digit_is (suc (suc zero)) h = refl
digit_is (suc (suc (suc zero))) h = refl
digit_is (suc (suc (suc (suc zero)))) h = refl
digit_is (suc (suc (suc (suc (suc zero))))) h = refl
digit_is (suc (suc (suc (suc (suc (suc zero)))))) h = refl
digit_is (suc (suc (suc (suc (suc (suc (suc zero))))))) h = refl
digit_is (suc (suc (suc (suc (suc (suc (suc (suc zero)))))))) h = refl
digit_is (suc (suc (suc (suc (suc (suc (suc (suc (suc zero))))))))) h = refl
digit_is (suc (suc (suc (suc (suc (suc (suc (suc (suc (suc zero)))))))))) h = refl
digit_is (suc (suc (suc (suc (suc (suc (suc (suc (suc (suc (suc zero))))))))))) h = refl
digit_is (suc (suc (suc (suc (suc (suc (suc (suc (suc (suc (suc (suc zero)))))))))))) h = refl
digit_is (suc (suc (suc (suc (suc (suc (suc (suc (suc (suc (suc (suc (suc zero))))))))))))) h = refl
digit_is (suc (suc (suc (suc (suc (suc (suc (suc (suc (suc (suc (suc (suc (suc zero)))))))))))))) h = refl
digit_is (suc (suc (suc (suc (suc (suc (suc (suc (suc (suc (suc (suc (suc (suc (suc zero))))))))))))))) h = refl
digit_is (suc (suc (suc (suc (suc (suc (suc (suc (suc (suc (suc (suc (suc (suc (suc (suc d)))))))))))))))) h = absurd (omega arith)

pub encode_lower_is_hex_bytes : (bytes : List ℕ) → ((i : ℕ) → slice_index bytes i < 256) → encode_lower bytes ≡ flat_map hex_byte bytes
unfolding encode_with
encode_lower_is_hex_bytes [] h = refl
encode_lower_is_hex_bytes (b ∷ bytes) h =
    let low = h 0 in
    let high : b / 16 < 16 = omega arith in
    let rest = encode_lower_is_hex_bytes bytes (λ i. h (suc i)) in
    ap (λ (d : ℕ). d ∷ slice_index lower_digits (b % 16) ∷ encode_lower bytes) (digit_is (b / 16) high)
    ∙ ap (λ (d : ℕ). digit_glyph false (b / 16) ∷ d ∷ encode_lower bytes) (digit_is (b % 16) (omega arith))
    ∙ ap (λ (ds : List ℕ). digit_glyph false (b / 16) ∷ digit_glyph false (b % 16) ∷ ds) rest
