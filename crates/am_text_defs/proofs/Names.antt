-- Sets of names, part by part.
use Rattle.std.proofs.Common.{◌≡◌, ℕ, ◌+◌, List, Option, Result, Err, if◌then◌else◌, nat_lt, sym, ap, ◌∙◌}
use Rattle.am_base.specs.Names.{place_of_name, with_name}
use Rattle.am_text_defs.specs.declared.fault.FieldFault.{FieldFault}
use Rattle.am_text_defs.specs.declared.fault.FieldFault.TheVariants.{Form}
use Rattle.am_text_defs.specs.Fields.{cut_of, split_text, and_then, name_in_text, names_onto}
use Rattle.am_text_defs.proofs.Cuts.{parts_of_rest_of_cut, parts_of_by_first_cut}

-- what a name goes on to
abbrev onto_next : ℕ → List ℕ → List (List ℕ) → Result ℕ FieldFault → Result (List ℕ) FieldFault
onto_next least set parts r = and_then r (λ name. if nat_lt (place_of_name name) least then Err Form else names_onto (place_of_name name + 1) (with_name set name) parts)

pub names_onto_by_parts : (least : ℕ) (set text first : List ℕ) (left : Option (List ℕ)) (r : Result ℕ FieldFault) → first ≡ (cut_of 44 text).0 → left ≡ (cut_of 44 text).1
    → r ≡ name_in_text first → onto_next least set (parts_of_rest_of_cut 44 left) r ≡ names_onto least set (split_text 44 text)
names_onto_by_parts least set text first left r one more read =
    ap (onto_next least set (parts_of_rest_of_cut 44 left)) (read ∙ ap name_in_text one)
    ∙ ap (λ l. onto_next least set (parts_of_rest_of_cut 44 l) (name_in_text (cut_of 44 text).0)) more
    ∙ ap (names_onto least set) (sym (parts_of_by_first_cut 44 text))
