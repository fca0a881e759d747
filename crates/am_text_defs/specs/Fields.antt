-- What texts are made of, read again: numbers, names, sets of names, stamps and bodies, each as it is printed.
use Rattle.std.specs.Prelude.{ℕ, ◌+◌, ◌-◌, ◌*◌, ◌/◌, ◌%◌, min, Bool, false, not, ◌&&◌, ◌||◌, ◌==◌, nat_eq, nat_le, nat_lt, if◌then◌else◌}
use Rattle.std.specs.Prelude.{List, [], ◌∷◌, length, slice_index, Option, Some, None, Result, Ok, Err, codes}
use Rattle.std.specs.List.{list_all, slice_split}
use Rattle.std.specs.Char.{is_ascii_digit}
use Rattle.std.specs.Str.Parse.{digits_value}
use Rattle.std.specs.Cmp.Lexicographic.{pointwise}
use Rattle.am_base.specs.Most.{greatest_number}
use Rattle.am_base.specs.Names.{name_of_place_and_life, place_of_name, empty_set_of_names, with_name}
use Rattle.am_base.specs.declared.name.Stamp.{Stamp}
use Rattle.am_text_defs.specs.declared.fault.FieldFault.{FieldFault}
use Rattle.am_text_defs.specs.declared.fault.FieldFault.TheVariants.{Form, Limit}

-- ---- parts

-- a part with one byte more before it
abbrev pub onto_cut : ℕ → (List ℕ × Option (List ℕ)) → (List ℕ × Option (List ℕ))
onto_cut c cut = (c ∷ cut.0, cut.1)

-- what stands before the first separator, and what stands after it
abbrev pub cut_of : ℕ → List ℕ → (List ℕ × Option (List ℕ))
cut_of separator [] = ([], None)
cut_of separator (c ∷ cs) = if c == separator then ([], Some cs) else onto_cut c (cut_of separator cs)

-- the parts of a text between separators
abbrev pub split_text : ℕ → List ℕ → List (List ℕ)
split_text separator text = slice_split (λ c. c == separator) text

-- whether two texts are the same, byte by byte
abbrev pub same : List ℕ → List ℕ → Bool
same text other = pointwise nat_eq text other

-- what a read part goes on to, or its fault
abbrev pub and_then : {A B : Type 0} → Result A FieldFault → (A → Result B FieldFault) → Result B FieldFault
and_then (Ok x) next = next x
and_then (Err fault) next = Err fault

-- ---- numbers

-- decimal digits, without leading zeros
abbrev pub is_numeral : List ℕ → Bool
is_numeral word = if length word == 0 then false else (if slice_index word 0 == 48 then length word == 1 else list_all is_ascii_digit word)

-- the number that digits write, or one more than the greatest where it is above that
abbrev pub capped_value : ℕ → List ℕ → ℕ
capped_value most word = min (digits_value 10 word) (most + 1)

-- a number up to a greatest one
unfoldable pub number_up_to : ℕ → List ℕ → Result ℕ FieldFault
number_up_to most word = if is_numeral word then (if nat_le (digits_value 10 word) most then Ok (digits_value 10 word) else Err Limit) else Err Form

-- a number of an entry, a round or a request
abbrev pub number_in_text : List ℕ → Result ℕ FieldFault
number_in_text word = number_up_to greatest_number word

-- ---- names

-- a life that is spelled after a place is 2 to 16
abbrev pub life_of_word : List ℕ → Result ℕ FieldFault
life_of_word word = and_then (number_up_to 16 word) (λ life. if nat_lt life 2 then Err Limit else Ok life)

-- a place's first life, or a later one
abbrev pub name_with : ℕ → Option (List ℕ) → Result ℕ FieldFault
name_with place None = Ok (name_of_place_and_life place 1)
name_with place (Some life) = and_then (life_of_word life) (λ n. Ok (name_of_place_and_life place n))

-- a name: its place, and a life other than the first after a slash
unfoldable pub name_in_text : List ℕ → Result ℕ FieldFault
name_in_text word = and_then (number_up_to 15 (cut_of 47 word).0) (λ place. name_with place (cut_of 47 word).1)

-- a round's stamp with a name
abbrev pub stamp_with : ℕ → Option (List ℕ) → Result Stamp FieldFault
stamp_with round None = Err Form
stamp_with round (Some name) = and_then (name_in_text name) (λ by. Ok (record { round = round; by = by }))

-- a stamp: its round and its name, with a dot between them
unfoldable pub stamp_in_text : List ℕ → Result Stamp FieldFault
stamp_in_text word = and_then (number_in_text (cut_of 46 word).0) (λ round. stamp_with round (cut_of 46 word).1)

-- a set with the names of parts, each of a place from one on, and above those before it
abbrev pub names_onto : ℕ → List ℕ → List (List ℕ) → Result (List ℕ) FieldFault
names_onto least set [] = Ok set
names_onto least set (part ∷ parts) = and_then (name_in_text part)
    (λ name. if nat_lt (place_of_name name) least then Err Form else names_onto (place_of_name name + 1) (with_name set name) parts)

-- a set of names: ascending by place, with commas between them; or a dash for nobody
unfoldable pub names_in_text : List ℕ → Result (List ℕ) FieldFault
names_in_text word = if same word (codes "-") then Ok empty_set_of_names else names_onto 0 empty_set_of_names (split_text 44 word)

-- ---- bytes

-- a hexadecimal digit in lower case
abbrev pub is_pair_digit : ℕ → Bool
is_pair_digit c = is_ascii_digit c || (nat_le 97 c && nat_le c 102)

abbrev pub digit_value : ℕ → ℕ
digit_value c = if nat_le c 57 then c - 48 else c - 97 + 10

-- a pair of digits, or more, and nothing else
abbrev pub are_pairs : List ℕ → Bool
are_pairs word = if (length word == 0) || not (length word % 2 == 0) then false else list_all is_pair_digit word

-- the bytes of pairs of digits
unfoldable pub bytes_in : List ℕ → List ℕ
bytes_in [] = []
bytes_in (digit ∷ []) = []
bytes_in (high ∷ low ∷ rest) = (16 * digit_value high + digit_value low) ∷ bytes_in rest

-- bytes, so many at most, as lower-case digit pairs; or a dash for none
unfoldable pub bytes_of : ℕ → List ℕ → Result (List ℕ) FieldFault
bytes_of most word =
    if same word (codes "-") then Ok []
    else if are_pairs word then (if nat_le (length word / 2) most then Ok (bytes_in word) else Err Limit)
    else Err Form
