-- What is told of what a name was given, record by record, and name by name.
use Rattle.std.proofs.Common.{◌≡◌, ℕ, ◌+◌, ◌<◌, ◌≤◌, List, [], ◌∷◌, ◌++◌, length, drop, slice_index_or, refl, sym, ap, ◌∙◌, append-nil, append_assoc}
use Rattle.std.specs.List.{fold, flat_map}
use Rattle.std.proofs.lemmas.List.{drop_more, drop_all}
use Rattle.std.proofs.lemmas.List.Sums.{fold-append}
use Rattle.am_base.specs.declared.entry.Entry.{Entry}
use Rattle.am_group.specs.declared.event.Record.{Record}
use Rattle.am_group.specs.Deliveries.{deliveries, entries_given_to}
use Rattle.am_report.specs.Logs.{logs_for}
use Rattle.am_report.proofs.Logs.{deliveries_with_next_record, deliveries_past_last_record}
use Rattle.am_services.specs.Telling.{told}

-- ---- what comes of it

pub fold_deliveries_with_next : {B : Type 0} (next : B → ℕ × Entry → B) (b : B) (records : List Record) (name i : ℕ) (d : Record) → i < length records
    → fold next b (deliveries (drop i records) name)
    ≡ fold next (fold next b (entries_given_to name (slice_index_or records i d))) (deliveries (drop (i + 1) records) name)
fold_deliveries_with_next next b records name i d within = ap (fold next b) (deliveries_with_next_record records name i d within)
    ∙ fold-append next b (entries_given_to name (slice_index_or records i d)) (deliveries (drop (i + 1) records) name)

pub fold_deliveries_past_last : {B : Type 0} (next : B → ℕ × Entry → B) (b : B) (records : List Record) (name i : ℕ) → length records ≤ i
    → fold next b (deliveries (drop i records) name) ≡ b
fold_deliveries_past_last next b records name i over = ap (fold next b) (deliveries_past_last_record records name i over)

-- ---- lines

told_append : {S : Type 0} (next : S → ℕ × Entry → S) (line : ℕ × Entry → S → List ℕ) (s : S) (xs ys : List (ℕ × Entry))
    → told next line s (xs ++ ys) ≡ told next line s xs ++ told next line (fold next s xs) ys
told_append next line s [] ys = refl
told_append next line s (x ∷ xs) ys = ap (λ rest. line x (next s x) ++ rest) (told_append next line (next s x) xs ys)
    ∙ sym (append_assoc (line x (next s x)) (told next line (next s x) xs) (told next line (fold next (next s x) xs) ys))

pub told_deliveries_with_next : {S : Type 0} (next : S → ℕ × Entry → S) (line : ℕ × Entry → S → List ℕ) (s : S) (records : List Record) (name i : ℕ) (d : Record)
    → i < length records → told next line s (deliveries (drop i records) name) ≡ told next line s (entries_given_to name (slice_index_or records i d))
    ++ told next line (fold next s (entries_given_to name (slice_index_or records i d))) (deliveries (drop (i + 1) records) name)
told_deliveries_with_next next line s records name i d within = ap (told next line s) (deliveries_with_next_record records name i d within)
    ∙ told_append next line s (entries_given_to name (slice_index_or records i d)) (deliveries (drop (i + 1) records) name)

pub told_deliveries_past_last : {S : Type 0} (next : S → ℕ × Entry → S) (line : ℕ × Entry → S → List ℕ) (s : S) (records : List Record) (name i : ℕ)
    → length records ≤ i → told next line s (deliveries (drop i records) name) ≡ []
told_deliveries_past_last next line s records name i over = ap (told next line s) (deliveries_past_last_record records name i over)

-- ---- name by name

pub logs_text_with_next_log : (text : ℕ × List (ℕ × Entry) → List ℕ) (records : List Record) (names : List ℕ) (i name : ℕ) → i < length names
    → name ≡ slice_index_or names i name → flat_map text (logs_for records (drop i names))
    ≡ text (name, deliveries records name) ++ flat_map text (logs_for records (drop (i + 1) names))
logs_text_with_next_log text records names i name within is = ap (λ ns. flat_map text (logs_for records ns)) (drop_more names i name within)
    ∙ ap (λ n. text (n, deliveries records n) ++ flat_map text (logs_for records (drop (i + 1) names))) (sym is)

pub logs_text_past_last_log : (text : ℕ × List (ℕ × Entry) → List ℕ) (records : List Record) (names : List ℕ) (i : ℕ) → length names ≤ i
    → flat_map text (logs_for records (drop i names)) ≡ []
logs_text_past_last_log text records names i over = ap (λ ns. flat_map text (logs_for records ns)) (drop_all i names over)

-- a text that has what was told so far, and what comes next
pub text_written_with_next_part : (out next start this rest whole : List ℕ) → next ≡ out ++ this → out ++ (this ++ rest) ≡ start ++ whole → next ++ rest ≡ start ++ whole
text_written_with_next_part out next start this rest whole more so_far = ap (λ t. t ++ rest) more ∙ append_assoc out this rest ∙ so_far

-- and where nothing is left, all of it
pub text_written_without_rest : (out start rest whole : List ℕ) → rest ≡ [] → out ++ rest ≡ start ++ whole → out ≡ start ++ whole
text_written_without_rest out start rest whole none so_far = sym (append-nil out) ∙ ap (λ t. out ++ t) (sym none) ∙ so_far

pub ruleset given_entries_rules = (told_deliveries_with_next, told_deliveries_past_last, text_written_with_next_part, text_written_without_rest)

pub ruleset folded_entries_rules = (fold_deliveries_with_next, fold_deliveries_past_last)

pub ruleset logs_of_names_rules = (logs_text_with_next_log, logs_text_past_last_log, text_written_with_next_part, text_written_without_rest)
