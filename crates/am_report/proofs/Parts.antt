-- Lines one after another.
use Rattle.std.proofs.Common.{◌≡◌, ℕ, ◌+◌, ◌<◌, ◌≤◌, List, [], ◌∷◌, ◌++◌, length, drop, slice_index_or, decimal, codes, sym, ap, ◌∙◌, length-append, append-nil}
use Rattle.std.proofs.lemmas.List.{drop_more, drop_all}
use Rattle.am_base.specs.declared.entry.Entry.{Entry}
use Rattle.am_base.specs.Founding.{Rules}
use Rattle.am_group.specs.declared.event.Record.{Record}
use Rattle.am_group.specs.Journals.{letters_of_records}
use Rattle.am_packet.specs.Boxes.{Letter}
use Rattle.am_group_defs.specs.Text.{numbers_text, letter_text, letters_text, lines_from, record_line, group_from, group_line}

pub lines_from_with_next_record : (rules : Rules) (number before next : ℕ) (records : List Record) (i : ℕ) (item : Record) → i < length records
    → item ≡ slice_index_or records i item → next ≡ before + length item.packets
    → lines_from rules number before (drop i records)
    ≡ record_line rules number before item ++ lines_from rules (number + 1) next (drop (i + 1) records)
lines_from_with_next_record rules number before next records i item h is after =
    ap (lines_from rules number before) (drop_more records i item h)
    ∙ (λ k. record_line rules number before (sym is k) ++ lines_from rules (number + 1) (before + length (sym is k).packets) (drop (i + 1) records))
    ∙ ap (λ n. record_line rules number before item ++ lines_from rules (number + 1) n (drop (i + 1) records)) (sym after)

pub lines_from_past_last_record : (rules : Rules) (number before : ℕ) (records : List Record) (i : ℕ) → length records ≤ i → lines_from rules number before (drop i records) ≡ []
lines_from_past_last_record rules number before records i h = ap (lines_from rules number before) (drop_all i records h)

pub letters_of_records_left : (records : List Record) (i : ℕ) (item : Record) → i < length records → item ≡ slice_index_or records i item
    → length (letters_of_records (drop i records)) ≡ length item.packets + length (letters_of_records (drop (i + 1) records))
letters_of_records_left records i item h is =
    ap (λ rs. length (letters_of_records rs)) (drop_more records i item h)
    ∙ ap (λ (r : Record). length (letters_of_records (r ∷ drop (i + 1) records))) (sym is)
    ∙ length-append item.packets (letters_of_records (drop (i + 1) records))

pub group_from_with_next_entry : (rules : Rules) (number : ℕ) (group : List Entry) (i : ℕ) (entry : Entry) → i < length group → entry ≡ slice_index_or group i entry
    → group_from rules number (drop i group) ≡ group_line rules number entry ++ group_from rules (number + 1) (drop (i + 1) group)
group_from_with_next_entry rules number group i entry h is =
    ap (group_from rules number) (drop_more group i entry h)
    ∙ ap (λ e. group_line rules number e ++ group_from rules (number + 1) (drop (i + 1) group)) (sym is)

pub group_from_past_last_entry : (rules : Rules) (number : ℕ) (group : List Entry) (i : ℕ) → length group ≤ i → group_from rules number (drop i group) ≡ []
group_from_past_last_entry rules number group i h = ap (group_from rules number) (drop_all i group h)

-- the number that is printed is that of the letter
pub letters_text_with_next_letter : (place number shown next : ℕ) (letters : List Letter) (i : ℕ) (letter : Letter) → i < length letters
    → letter ≡ slice_index_or letters i letter → shown ≡ number → next ≡ number + 1
    → letters_text place number (drop i letters) ≡ letter_text place shown letter ++ letters_text place next (drop (i + 1) letters)
letters_text_with_next_letter place number shown next letters i letter h is same later =
    ap (letters_text place number) (drop_more letters i letter h)
    ∙ (λ k. letter_text place (sym same k) (sym is k) ++ letters_text place (sym later k) (drop (i + 1) letters))

pub letters_text_past_last_letter : (place number : ℕ) (letters : List Letter) (i : ℕ) → length letters ≤ i → letters_text place number (drop i letters) ≡ []
letters_text_past_last_letter place number letters i h = ap (letters_text place number) (drop_all i letters h)

-- two numbers with a blank before each, and three
pub numbers_text_of_two_numbers : (a b first second : ℕ) (numbers : List ℕ) → a ≡ first → b ≡ second → first ∷ second ∷ [] ≡ numbers
    → (codes " " ++ decimal a) ++ (codes " " ++ decimal b) ≡ numbers_text numbers
numbers_text_of_two_numbers a b first second numbers one two all =
    (λ k. (codes " " ++ decimal (one k)) ++ (codes " " ++ decimal (two k)))
    ∙ ap (λ t. (codes " " ++ decimal first) ++ t) (sym (append-nil (codes " " ++ decimal second))) ∙ ap numbers_text all

pub numbers_text_of_three_numbers : (a b c first second third : ℕ) (numbers : List ℕ) → a ≡ first → b ≡ second → c ≡ third → first ∷ second ∷ third ∷ [] ≡ numbers
    → (codes " " ++ decimal a) ++ ((codes " " ++ decimal b) ++ (codes " " ++ decimal c)) ≡ numbers_text numbers
numbers_text_of_three_numbers a b c first second third numbers one two three all =
    (λ k. (codes " " ++ decimal (one k)) ++ ((codes " " ++ decimal (two k)) ++ (codes " " ++ decimal (three k))))
    ∙ ap (λ t. (codes " " ++ decimal first) ++ ((codes " " ++ decimal second) ++ t)) (sym (append-nil (codes " " ++ decimal third))) ∙ ap numbers_text all
