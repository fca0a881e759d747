-- The number from which a name's list begins.
use Rattle.std.proofs.Common.{◌≡◌, ℕ, ◌+◌, ◌<◌, ◌≤◌, Bool, List, [], ◌∷◌, ◌++◌, length, drop, slice_index_or, cond, refl, sym, ap, ◌∙◌}
use Rattle.am_base.specs.declared.entry.Entry.{Entry}
use Rattle.am_base.specs.Founding.{Rules}
use Rattle.am_base.specs.Names.{has}
use Rattle.am_group.specs.declared.event.Record.{Record}
use Rattle.am_group.specs.Deliveries.{deliveries, entries_given_to}
use Rattle.am_report.proofs.Logs.{deliveries_with_next_record, deliveries_past_last_record}
use Rattle.am_services.specs.Texts.{start_of}

-- by the first record that gave something
pub start_of_log_at_first : (rules : Rules) (records : List Record) (name i : ℕ) (d : Record) (number : ℕ) (entry : Entry) → i < length records
    → deliveries (drop i records) name ≡ deliveries records name → (number, entry) ∷ [] ≡ entries_given_to name (slice_index_or records i d)
    → number ≡ start_of rules (name, deliveries records name)
unfolding start_of
start_of_log_at_first rules records name i d number entry within same given =
    let first : deliveries records name ≡ (number, entry) ∷ deliveries (drop (i + 1) records) name = sym same ∙ deliveries_with_next_record records name i d within
    ∙ ap (λ g. g ++ deliveries (drop (i + 1) records) name) (sym given) in
    rw first refl

pub deliveries_past_record_without_given : (records : List Record) (name i : ℕ) (d : Record) → i < length records → [] ≡ entries_given_to name (slice_index_or records i d)
    → deliveries (drop i records) name ≡ deliveries records name → deliveries (drop (i + 1) records) name ≡ deliveries records name
deliveries_past_record_without_given records name i d within none same =
    ap (λ g. g ++ deliveries (drop (i + 1) records) name) none ∙ sym (deliveries_with_next_record records name i d within) ∙ same

-- where none gave anything
pub start_of_log_by_founder : (rules : Rules) (records : List Record) (name i : ℕ) (founder : Bool) → length records ≤ i
    → deliveries (drop i records) name ≡ deliveries records name → has rules.founders name ≡ founder
    → cond founder 1 2 ≡ start_of rules (name, deliveries records name)
unfolding start_of
start_of_log_by_founder rules records name i founder over same is =
    let none : deliveries records name ≡ [] = sym same ∙ deliveries_past_last_record records name i over in
    let new : cond (has rules.founders name) 1 2 ≡ start_of rules (name, deliveries records name) = rw none refl in
    ap (λ b. cond b 1 2) (sym is) ∙ new

pub ruleset start_of_log_rules = (start_of_log_at_first, deliveries_past_record_without_given)
