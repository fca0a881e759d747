-- The parts of a message, one after the other.
use Rattle.std.proofs.Common.{◌≡◌, ℕ, zero, suc, ◌+◌, ◌-◌, ◌<◌, ◌≤◌, List, [], ◌∷◌, ◌++◌, length, map, refl, sym, ap, ◌∙◌, append_assoc, append-nil, arith}
use Rattle.std.specs.List.{range_with_len, flat_map}
use Rattle.am_service_defs.specs.Parts.{part_count, part_of, parts_of}

-- those from one on
abbrev pub parts_of_message_left : List ℕ → ℕ → List (List ℕ)
parts_of_message_left message index = map (part_of message) (range_with_len index (part_count (length message) - index))

left_more : (message : List ℕ) (index n : ℕ) → n ≡ part_count (length message) - index → index < part_count (length message)
    → map (part_of message) (range_with_len index n) ≡ part_of message index ∷ parts_of_message_left message (index + 1)
left_more message index zero is low = absurd (omega arith)
left_more message index (suc n) is low =
    let e : n ≡ part_count (length message) - (index + 1) = omega arith in
    ap (λ k. part_of message index ∷ map (part_of message) (range_with_len (index + 1) k)) e

part_more : (line : List ℕ → List ℕ) (message : List ℕ) (index : ℕ) → index < part_count (length message)
    → flat_map line (parts_of_message_left message index) ≡ line (part_of message index) ++ flat_map line (parts_of_message_left message (index + 1))
part_more line message index low = ap (flat_map line) (left_more message index (part_count (length message) - index) refl low)

part_end : (line : List ℕ → List ℕ) (message : List ℕ) (index : ℕ) → part_count (length message) ≤ index
    → flat_map line (parts_of_message_left message index) ≡ []
part_end line message index high =
    let none : part_count (length message) - index ≡ 0 = omega arith in
    ap (λ n. flat_map line (map (part_of message) (range_with_len index n))) none

all_parts : (message : List ℕ) → parts_of_message_left message 0 ≡ parts_of message
unfolding parts_of
all_parts message =
    let whole : part_count (length message) - 0 ≡ part_count (length message) = omega arith in
    ap (λ n. map (part_of message) (range_with_len 0 n)) whole

-- a text that has the parts before one, and then that one too
pub lines_told_with_next_part : (line : List ℕ → List ℕ) (message : List ℕ) (index : ℕ) (out next whole : List ℕ) → index < part_count (length message)
    → next ≡ out ++ line (part_of message index) → out ++ flat_map line (parts_of_message_left message index) ≡ whole
    → next ++ flat_map line (parts_of_message_left message (index + 1)) ≡ whole
lines_told_with_next_part line message index out next whole low is so_far =
    let rest = flat_map line (parts_of_message_left message (index + 1)) in
    ap (λ t. t ++ rest) is ∙ append_assoc out (line (part_of message index)) rest ∙ ap (λ t. out ++ t) (sym (part_more line message index low)) ∙ so_far

-- and all of them
pub lines_told_of_all_parts : (line : List ℕ → List ℕ) (message : List ℕ) (index : ℕ) (out start : List ℕ) → part_count (length message) ≤ index
    → out ++ flat_map line (parts_of_message_left message index) ≡ start ++ flat_map line (parts_of_message_left message 0) → out ≡ start ++ flat_map line (parts_of message)
lines_told_of_all_parts line message index out start over so_far =
    sym (append-nil out) ∙ ap (λ t. out ++ t) (sym (part_end line message index over)) ∙ so_far
    ∙ ap (λ ps. start ++ flat_map line ps) (all_parts message)
