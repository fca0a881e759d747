-- What is read as a set of names is what texts print of it.
use Rattle.std.proofs.Common.{◌≡◌, ℕ, zero, suc, ◌+◌, ◌-◌, ◌/◌, ◌<◌, ◌≤◌, List, [], ◌∷◌, ◌++◌, length, map, replicate, Bool, true, false, nat_lt}
use Rattle.std.proofs.Common.{if◌then◌else◌, refl, sym, ap, ap₂, ◌∙◌, arith}
use Rattle.std.proofs.Common.{Result, Ok, Err, append-nil, append_assoc, length-append, add-zero, add-one, zero-add}
use Rattle.std.specs.Prelude.{codes, slice_set}
use Rattle.std.specs.List.{join_with_byte}
use Rattle.std.specs.Cmp.Lexicographic.{same_text}
use Rattle.std.proofs.lemmas.List.Splits.{join_with_byte-slice_split}
use Rattle.std.proofs.lemmas.Bool.Decides.{nat_tests}
use Rattle.am_base.specs.Names.{place_of_name, life_of_name, name_of_place_and_life, names_from, with_name, empty_set_of_names}
use Rattle.am_text_defs.specs.declared.fault.FieldFault.{FieldFault}
use Rattle.am_text_defs.specs.declared.fault.FieldFault.TheVariants.{Form}
use Rattle.am_text_defs.specs.Fields.{split_text, cut_of, name_in_text, names_onto, names_in_text, same}
use Rattle.am_text_defs.proofs.Cuts.{parts_of_rest_of_cut, parts_of_by_first_cut}
use Rattle.am_group_defs.specs.Text.{name_text, list_text, names_text}
use Rattle.am_text_laws.proofs.Printed.{slice_set_after_front}
use Rattle.am_text_laws.proofs.Reread.{and_then_ok_gives_parts, name_of_gives_name_text}

order_by : (b : Bool) (r : Result (List ℕ) FieldFault) (out : List ℕ) → (if b then Err Form else r) ≡ Ok out → (b ≡ false) × (r ≡ Ok out)
order_by true r out is = cc
order_by false r out is = (refl, is)

abbrev zeros : ℕ → List ℕ
zeros n = replicate n 0

zeros_more : (n : ℕ) (rest : List ℕ) (place : ℕ) → names_from place (zeros n ++ rest) ≡ names_from (place + n) rest
zeros_more zero rest place = ap (λ (p : ℕ). names_from p rest) (sym (add-zero place))
zeros_more (suc n) rest place =
    let same : place + 1 + n ≡ place + suc n = omega arith in
    zeros_more n rest (place + 1) ∙ ap (λ (p : ℕ). names_from p rest) same

zeros_split : (n m : ℕ) → zeros (n + m) ≡ zeros n ++ zeros m
zeros_split zero m = ap (λ (k : ℕ). zeros k) (zero-add m)
zeros_split (suc n) m = let e : suc n + m ≡ suc (n + m) = omega arith in ap (λ (k : ℕ). zeros k) e ∙ ap (λ (xs : List ℕ). 0 ∷ xs) (zeros_split n m)

zeros_long : (n : ℕ) → length (zeros n) ≡ n
zeros_long zero = refl
zeros_long (suc n) = let more = zeros_long n in omega arith

-- the set with a name of a place after the front
named : (front : List ℕ) (least name : ℕ) → length front ≡ least → least ≤ place_of_name name
    → with_name (front ++ zeros (16 - least)) name ≡ ((front ++ zeros (place_of_name name - least)) ++ life_of_name name ∷ []) ++ zeros (16 - (place_of_name name + 1))
named front least name long above =
    let p = place_of_name name in
    let low : p < 16 = omega arith in
    let some : 16 - least ≡ (p - least) + suc (16 - (p + 1)) = omega arith in
    let more = zeros (16 - (p + 1)) in
    let zs = zeros (p - least) in
    let whole : front ++ zeros (16 - least) ≡ (front ++ zs) ++ 0 ∷ more =
    ap (λ (k : ℕ). front ++ zeros k) some ∙ ap (λ (xs : List ℕ). front ++ xs) (zeros_split (p - least) (suc (16 - (p + 1))))
    ∙ sym (append_assoc front zs (0 ∷ more)) in
    ap (λ (xs : List ℕ). slice_set xs p (life_of_name name)) whole
    ∙ slice_set_after_front (front ++ zs) more 0 (life_of_name name) p (omega (arith, long, length-append front zs, zeros_long (p - least)))
    ∙ sym (append_assoc (front ++ zs) (life_of_name name ∷ []) more)

-- its names from there on
listed : (least name : ℕ) (tail : List ℕ) → least ≤ place_of_name name → name < 256
    → names_from least (zeros (place_of_name name - least) ++ life_of_name name ∷ tail) ≡ name ∷ names_from (place_of_name name + 1) tail
listed least name tail above low =
    let p = place_of_name name in
    let at : least + (p - least) ≡ p = omega arith in
    let its : name_of_place_and_life p (suc (name / 16)) ≡ name = omega arith in
    zeros_more (p - least) (life_of_name name ∷ tail) least
    ∙ ap (λ (k : ℕ). names_from k (life_of_name name ∷ tail)) at
    ∙ ap (λ (life : ℕ). names_from p (life ∷ tail)) (add-one (name / 16))
    ∙ ap (λ (n : ℕ). n ∷ names_from (p + 1) tail) its

-- names that were read onto a front are those of what comes after it
onto_is : (parts : List (List ℕ)) (least : ℕ) (front out : List ℕ) → length front ≡ least → least ≤ 16
    → names_onto least (front ++ zeros (16 - least)) parts ≡ Ok out
    → (tail : List ℕ) × (out ≡ front ++ tail) × (map name_text (names_from least tail) ≡ parts)
onto_is [] least front out long low is =
    let none : names_from least (zeros (16 - least)) ≡ [] =
    ap (names_from least) (sym (append-nil (zeros (16 - least)))) ∙ zeros_more (16 - least) [] least in
    let same : front ++ zeros (16 - least) ≡ out = cc in
    (zeros (16 - least), sym same, ap (map name_text) none)
onto_is (part ∷ parts) least front out long low is =
    let set = front ++ zeros (16 - least) in
    let one = and_then_ok_gives_parts (name_in_text part) (λ name. if nat_lt (place_of_name name) least then Err Form else names_onto (place_of_name name + 1)
    (with_name set name) parts) out is in
    let name = one.0 in
    let printed = name_of_gives_name_text part name one.1 in
    let two = order_by (nat_lt (place_of_name name) least) (names_onto (place_of_name name + 1) (with_name set name) parts) out one.2 in
    let above : least ≤ place_of_name name = let h = two.0 in grind (arith, nat_tests) in
    let p = place_of_name name in
    let zs = zeros (p - least) in
    let next = (front ++ zs) ++ life_of_name name ∷ [] in
    let read : names_onto (p + 1) (next ++ zeros (16 - (p + 1))) parts ≡ Ok out =
    ap (λ (s : List ℕ). names_onto (p + 1) s parts) (sym (named front least name long above)) ∙ two.1 in
    let far : length next ≡ p + 1 = omega (arith, long, length-append (front ++ zs) (life_of_name name ∷ []), length-append front zs, zeros_long (p - least)) in
    let more = onto_is parts (p + 1) next out far (omega arith) read in (
      zs ++ life_of_name name ∷ more.0,
      more.1 ∙ append_assoc (front ++ zs) (life_of_name name ∷ []) more.0 ∙ append_assoc front zs (life_of_name name ∷ more.0),
      ap (map name_text) (listed least name more.0 above printed.1) ∙ ap₂ (λ (t : List ℕ) (ts : List (List ℕ)). t ∷ ts) printed.0 more.2,
    )

-- a list's text is its names' texts with commas between them
list_join : (first : ℕ) (others : List ℕ) → list_text (first ∷ others) ≡ join_with_byte 44 (map name_text (first ∷ others))
list_join first [] = append-nil (name_text first)
list_join first (second ∷ others) = ap (λ (t : List ℕ). name_text first ++ 44 ∷ t) (list_join second others)

join_is : (names : List ℕ) (word : List ℕ) → map name_text names ≡ split_text 44 word → list_text names ≡ word
join_is [] word is = let some : [] ≡ (cut_of 44 word).0 ∷ parts_of_rest_of_cut 44 (cut_of 44 word).1 = is ∙ parts_of_by_first_cut 44 word in cc
join_is (first ∷ others) word is = list_join first others ∙ ap (join_with_byte 44) is ∙ join_with_byte-slice_split 44 word

nobody_text : names_text empty_set_of_names ≡ codes "-"
unfolding names_text
nobody_text = refl

set_by : (b : Bool) (word set : List ℕ) → same word (codes "-") ≡ b → (if b then Ok empty_set_of_names else names_onto 0 empty_set_of_names (split_text 44 word)) ≡ Ok set
    → names_text set ≡ word
unfolding names_text
set_by true word set dash is = let its : empty_set_of_names ≡ set = cc in ap (λ (s : List ℕ). names_text s) (sym its) ∙ nobody_text
    ∙ sym (same_text word (codes "-") (sym dash))
set_by false word set dash is =
    let all = onto_is (split_text 44 word) 0 [] set refl (omega arith) is in
    join_is (names_from 0 set) word (ap (λ (s : List ℕ). map name_text (names_from 0 s)) all.1 ∙ all.2)

-- a set of names that is read is printed so
pub names_of_gives_names_text : (word set : List ℕ) → names_in_text word ≡ Ok set → names_text set ≡ word
unfolding names_in_text
names_of_gives_names_text word set is = set_by (same word (codes "-")) word set refl is
