-- The digits of bytes as text, and of bytes part by part.
use Rattle.std.proofs.Common.{◌≡◌, ℕ, ◌<◌, List, ◌++◌, sym, ap, ◌∙◌, subst, slice_index, rules}
use Rattle.std.specs.Str.{IsUtf8}
use Rattle.std.proofs.lemmas.Str.{IsUtf8-from_ascii}
use Rattle.hex.proofs.HexLemmas.{IsAscii-encode_with}
use Rattle.std.specs.List.{flat_map}
use Rattle.std.proofs.lemmas.Grind.{flat_map-append}
use Rattle.hex.specs.Hex.{encode_lower, lower_digits}
use Rattle.am_group_defs.specs.Text.{hex_byte}

-- they are ASCII
digits_low : (i : ℕ) → slice_index lower_digits i < 128
digits_low i = search rules

pub hex_digits_are_utf8 : (bytes text : List ℕ) → text ≡ encode_lower bytes → IsUtf8 text
hex_digits_are_utf8 bytes text is = subst IsUtf8 (sym is) (IsUtf8-from_ascii (encode_lower bytes) (IsAscii-encode_with lower_digits bytes digits_low))

-- a first part and the others
pub hex_digits_of_split_bytes : (bytes first others : List ℕ) → bytes ≡ first ++ others → flat_map hex_byte bytes ≡ flat_map hex_byte first ++ flat_map hex_byte others
hex_digits_of_split_bytes bytes first others is = ap (flat_map hex_byte) is ∙ flat_map-append hex_byte first others
