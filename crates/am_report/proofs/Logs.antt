-- What names were given, record by record and name by name.
use Rattle.std.proofs.Common.{◌≡◌, ℕ, ◌+◌, ◌<◌, ◌≤◌, List, [], ◌∷◌, ◌++◌, length, drop, slice_index_or, ◌||◌, nat_lt, Bool, true, false, cond, filter, refl, sym, ap, ◌∙◌}
use Rattle.std.proofs.Common.{length-append, arith}
use Rattle.std.specs.List.{flat_map}
use Rattle.std.proofs.lemmas.Bool.Decides.{nat_tests}
use Rattle.std.proofs.lemmas.Grind.{flat_map-append}
use Rattle.std.proofs.lemmas.List.{drop_more, drop_all}
use Rattle.am_base.specs.declared.entry.Entry.{Entry}
use Rattle.am_base.specs.Founding.{Rules}
use Rattle.am_base.specs.Votes.{all_names}
use Rattle.am_group.specs.declared.event.Record.{Record}
use Rattle.am_group.specs.Deliveries.{deliveries, entries_given_to}
use Rattle.am_model.specs.Node.{has_log_by_status}
use Rattle.am_group_defs.specs.Group.{logs}
use Rattle.am_group_defs.specs.World.{World}
use Rattle.am_group_defs.specs.Text.{log_line, log_text, logs_text, empty_log_line}
use Rattle.am_report.specs.Logs.{logs_for, given_lines}

-- what is left to be given
pub deliveries_with_next_record : (records : List Record) (name i : ℕ) (d : Record) → i < length records
    → deliveries (drop i records) name ≡ entries_given_to name (slice_index_or records i d) ++ deliveries (drop (i + 1) records) name
deliveries_with_next_record records name i d h = ap (λ rs. deliveries rs name) (drop_more records i d h)

-- the same by the record that comes next
given_next : (records : List Record) (name i : ℕ) (item : Record) → i < length records → item ≡ slice_index_or records i item
    → deliveries (drop i records) name ≡ entries_given_to name item ++ deliveries (drop (i + 1) records) name
given_next records name i item h is =
    deliveries_with_next_record records name i item h ∙ ap (λ r. entries_given_to name r ++ deliveries (drop (i + 1) records) name) (sym is)

pub given_lines_with_next_record : (rules : Rules) (name : ℕ) (records : List Record) (i : ℕ) (item : Record) → i < length records → item ≡ slice_index_or records i item
    → given_lines rules name (deliveries (drop i records) name)
    ≡ given_lines rules name (entries_given_to name item) ++ given_lines rules name (deliveries (drop (i + 1) records) name)
given_lines_with_next_record rules name records i item h is =
    ap (λ given. given_lines rules name given) (given_next records name i item h is)
    ∙ flat_map-append (λ pair. log_line rules name pair.0 pair.1) (entries_given_to name item) (deliveries (drop (i + 1) records) name)

pub deliveries_past_last_record : (records : List Record) (name i : ℕ) → length records ≤ i → deliveries (drop i records) name ≡ []
deliveries_past_last_record records name i h = ap (λ rs. deliveries rs name) (drop_all i records h)

-- whether something was given so far, one record later
none_given : (given : List (ℕ × Entry)) → false ≡ nat_lt 0 (length given) → given ≡ []
none_given [] is = refl
none_given (pair ∷ pairs) is = absurd (grind (arith, nat_tests))

some_given : (given : List (ℕ × Entry)) → true ≡ nat_lt 0 (length given) → 0 < length given
some_given [] is = absurd (grind (arith, nat_tests))
some_given (pair ∷ pairs) is = omega arith

pub deliveries_of_other_record : (records : List Record) (name i : ℕ) (item : Record) (some given : Bool) → i < length records → item ≡ slice_index_or records i item
    → given ≡ nat_lt 0 (length (entries_given_to name item)) → (some ≡ false → deliveries (drop i records) name ≡ deliveries records name)
    → (some || given) ≡ false → deliveries (drop (i + 1) records) name ≡ deliveries records name
deliveries_of_other_record records name i item true given within at is before none = absurd (cc none)
deliveries_of_other_record records name i item false true within at is before none = absurd (cc none)
deliveries_of_other_record records name i item false false within at is before none =
    ap (λ given. given ++ deliveries (drop (i + 1) records) name) (sym (none_given _ is)) ∙ sym (given_next records name i item within at) ∙ before refl

pub deliveries_some_by_record : (records : List Record) (name i : ℕ) (item : Record) (some given : Bool) → i < length records → item ≡ slice_index_or records i item
    → given ≡ nat_lt 0 (length (entries_given_to name item)) → (some ≡ false → deliveries (drop i records) name ≡ deliveries records name)
    → (some ≡ true → 0 < length (deliveries records name)) → (some || given) ≡ true → 0 < length (deliveries records name)
deliveries_some_by_record records name i item true given within at is before some now = some refl
deliveries_some_by_record records name i item false false within at is before some now = absurd (cc now)
deliveries_some_by_record records name i item false true within at is before some now =
    let first = some_given _ is in
    let all = ap length (sym (before refl) ∙ given_next records name i item within at) ∙ length-append (entries_given_to name item) _ in
    omega arith

-- a log with lines, and one without
pub log_text_of_given_entries : (rules : Rules) (name : ℕ) (given : List (ℕ × Entry)) → 0 < length given → log_text rules name given ≡ given_lines rules name given
unfolding log_text
log_text_of_given_entries rules name [] h = absurd (omega arith)
log_text_of_given_entries rules name (pair ∷ pairs) h = refl

pub log_text_of_nothing_given : (rules : Rules) (name : ℕ) (given : List (ℕ × Entry)) → length given ≡ 0 → log_text rules name given ≡ empty_log_line name
unfolding log_text
log_text_of_nothing_given rules name [] h = refl
log_text_of_nothing_given rules name (pair ∷ pairs) h = absurd (omega arith)

-- what is left of logs
pub logs_text_with_next_name : (rules : Rules) (records : List Record) (names : List ℕ) (i name : ℕ) → i < length names → name ≡ slice_index_or names i name
    → logs_text rules (logs_for records (drop i names))
    ≡ log_text rules name (deliveries records name) ++ logs_text rules (logs_for records (drop (i + 1) names))
unfolding logs_text
logs_text_with_next_name rules records names i name within is =
    let rest = logs_text rules (logs_for records (drop (i + 1) names)) in
    ap (λ ns. logs_text rules (logs_for records ns)) (drop_more names i name within) ∙ sym (ap (λ n. log_text rules n (deliveries records n) ++ rest) is)

pub logs_text_past_last_name : (rules : Rules) (records : List Record) (names : List ℕ) (i : ℕ) → length names ≤ i → logs_text rules (logs_for records (drop i names)) ≡ []
unfolding logs_text
logs_text_past_last_name rules records names i over = ap (λ ns. logs_text rules (logs_for records ns)) (drop_all i names over)

-- the logs of a world are those of the names that have or had a list
among_next : (w : World) (name : ℕ) (names : List ℕ) (b : Bool)
    → flat_map (λ n. cond (has_log_by_status (w.nodes n).status) ((n, deliveries w.records n) ∷ []) []) names
    ≡ logs_for w.records (filter (λ n. has_log_by_status (w.nodes n).status) names)
    → cond b ((name, deliveries w.records name) ∷ []) [] ++ flat_map (λ n. cond (has_log_by_status (w.nodes n).status) ((n, deliveries w.records n) ∷ []) []) names
    ≡ logs_for w.records (cond b (name ∷ filter (λ n. has_log_by_status (w.nodes n).status) names) (filter (λ n. has_log_by_status (w.nodes n).status) names))
among_next w name names true h = ap (λ more. (name, deliveries w.records name) ∷ more) h
among_next w name names false h = h

logs_among : (w : World) (names : List ℕ) → flat_map (λ name. cond (has_log_by_status (w.nodes name).status) ((name, deliveries w.records name) ∷ []) []) names
    ≡ logs_for w.records (filter (λ name. has_log_by_status (w.nodes name).status) names)
logs_among w [] = refl
logs_among w (name ∷ names) = among_next w name names (has_log_by_status (w.nodes name).status) (logs_among w names)

pub logs_of_names_with_log : (w : World) → logs w ≡ logs_for w.records (filter (λ name. has_log_by_status (w.nodes name).status) all_names)
logs_of_names_with_log w = logs_among w all_names
