-- How a node begins.
use Rattle.std.proofs.Common.{◌≡◌, ℕ, ◌+◌, ◌≤◌, ◌==◌, ◌&&◌, List, length, map, slice_index}
use Rattle.std.proofs.Common.{true, false, nat_lt, nat_le, refl, sym, ◌∙◌, ap, subst, arith, if◌then◌else◌}
use Rattle.std.specs.Prelude.{EachIndex, slice_index_or, replicate}
use Rattle.std.proofs.lemmas.Bool.Decides.{nat_tests}
use Rattle.std.proofs.lemmas.List.{get_or-replicate, get_or_past, length-map}
use Rattle.std.proofs.Math.ListN.{get_or-map}
use Rattle.am_base.specs.declared.image.Report.{Report}
use Rattle.am_base.specs.declared.image.Row.{Row}
use Rattle.am_base.specs.Founding.{Rules, MayFound}
use Rattle.am_base.specs.Names.{place_of_name, has, list_by_place}
use Rattle.am_base.specs.Lists.{top_of_log, image_of_log, blank, blank_row, member_life_of_row, row_after_view, image_after_entries, after, fits}
use Rattle.am_base.proofs.Places.{sixteen_items_are_by_place, get_or-by_place, length-by_place}
use Rattle.am_node_defs.specs.Cores.{CoreState}
use Rattle.am_node_defs.proofs.Folds.{split_on_bool_of_log}
use Rattle.am_node_defs.specs.Reports.{no_report, no_reports, reports_after_report}
use Rattle.am_model.specs.Node.{Node, members, stranger_node, founder, founders_entry}
use Rattle.am_model.proofs.Founders.{lowest_founder_founds}
use Rattle.am_node_parts.specs.Keeps.{NodeKeeps}
use Rattle.am_node_parts.proofs.Due.{first_request_is_due}
use Rattle.am_node_parts.proofs.Keeping.{steady_node_keeps_order}

-- a node that nothing has happened to
pub stranger_keeps_node_order : (rules : Rules) (who : ℕ) → NodeKeeps (stranger_node rules who)
unfolding image_after_entries
stranger_keeps_node_order rules who = record {
  own = omega arith;
  leads = λ is. absurd (cc);
  promised = refl;
  blank = λ none. refl;
  ballot = λ b is. absurd (cc);
  settled = λ leaves. absurd (cc);
  due = first_request_is_due _ _ 1 (omega arith);
  unsent = λ none. omega arith;
}

-- ---- founders

-- the founders' View fits where nothing stands
pub founders_view_fits_blank : (rules : Rules) → MayFound rules → fits blank (founders_entry rules) ≡ true
unfolding fits
founders_view_fits_blank rules may =
    let there = (lowest_founder_founds rules may).founds in
    let low : nat_le 0 rules.resilience ≡ true = grind (arith, nat_tests) in
    rw (there, low) refl

blank_at : (place : ℕ) → slice_index_or (replicate 16 blank_row) place blank_row ≡ blank_row
blank_at place = split_on_bool_of_log (nat_lt place 16)
    (λ t. get_or-replicate 16 place blank_row blank_row (grind (arith, nat_tests)))
    (λ f. get_or_past (replicate 16 blank_row) place blank_row (grind (arith, nat_tests)))

life_back : (life : ℕ) → member_life_of_row (row_after_view true 1 life blank_row) ≡ life
life_back life = split_on_bool_of_log (life == 0) (λ t. rw t (grind (arith, nat_tests))) (λ f. rw f refl)

-- the founders are the members
founders_members : (rules : Rules) (who : ℕ) → MayFound rules → members (founder rules who) ≡ rules.founders
unfolding image_after_entries after
founders_members rules who may =
    let g : ℕ → Row = λ place. row_after_view true 1 (slice_index rules.founders place) blank_row in
    let rows : members (founder rules who) ≡ map member_life_of_row (list_by_place g) =
    λ i. map member_life_of_row (list_by_place (λ place. row_after_view true 1 (slice_index rules.founders place) (blank_at place i))) in
    rows
    ∙ sixteen_items_are_by_place (slice_index rules.founders) (map member_life_of_row (list_by_place g)) 0 (length-map (list_by_place g) member_life_of_row ∙ length-by_place g)
    (λ k low. get_or-map member_life_of_row (list_by_place g) k blank_row ∙ ap member_life_of_row (get_or-by_place g k blank_row low) ∙ life_back (slice_index rules.founders k))
    ∙ sym (sixteen_items_are_by_place (slice_index rules.founders) rules.founders 0 may.names.places (λ k low. refl))

pub founder_keeps_node_order : (rules : Rules) (who : ℕ) → MayFound rules → has rules.founders who ≡ true → NodeKeeps (founder rules who)
unfolding image_after_entries after
founder_keeps_node_order rules who may there = record {
  own = rw there (omega arith);
  leads = λ is. ap (λ set. has set who) (founders_members rules who may) ∙ there;
  promised = grind (arith, nat_tests);
  blank = λ none. absurd (cc);
  ballot = λ b is. absurd (cc);
  settled = λ leaves. absurd (cc);
  due = first_request_is_due _ _ 1 (omega arith);
  unsent = λ none. omega arith;
}

-- parts with the core, the reports, the status, the sends and the ballot of a node
pub node_keeps_as_equal_node : (m n : Node) → n.core ≡ m.core → (n.reports n.core.who).taken ≤ n.core.taken → n.status ≡ m.status → n.ballot ≡ m.ballot → n.leaving ≡ m.leaving
    → n.sends ≡ m.sends → NodeKeeps m → NodeKeeps n
node_keeps_as_equal_node m n core own status ballot leaving sends keeps =
    steady_node_keeps_order m n (record {
      who = ap (λ (c : CoreState). c.who) core;
      promise = ap (λ (c : CoreState). c.promise) core;
      told = ap (λ (c : CoreState). image_of_log c.log) core;
      top = ap (λ (c : CoreState). top_of_log c.log) core;
      status = status;
      ballot = ballot;
      leaving = leaving;
      sends = sends;
    }) keeps own

-- ---- what each founder has reported

abbrev pub FoundersReportedUpTo : List ℕ → (ℕ → Report) → ℕ → Type 0
FoundersReportedUpTo founders reports high = (name : ℕ) → reports name ≡ (if nat_lt name high && has founders name then record { stored = 1; taken = 0 } else no_report)

pub no_founder_reported_at_first : (founders : List ℕ) (reports : ℕ → Report) → reports ≡ no_reports → FoundersReportedUpTo founders reports 0
no_founder_reported_at_first founders reports is = λ name.
    let low : nat_lt name 0 ≡ false = grind (arith, nat_tests) in
    ap (λ (r : ℕ → Report). r name) is ∙ rw low refl

pub founders_reported_with_next : (founders : List ℕ) (reports new : ℕ → Report) (high : ℕ) → FoundersReportedUpTo founders reports high
    → new ≡ (if has founders high then reports_after_report reports high (record { stored = 1; taken = 0 }) else reports) → FoundersReportedUpTo founders new (high + 1)
founders_reported_with_next founders reports new high before is = λ name.
    let past : nat_lt high high ≡ false = grind (arith, nat_tests) in
    let zero : reports high ≡ no_report = before high ∙ rw past refl in
    let next : nat_lt high (high + 1) ≡ true = grind (arith, nat_tests) in
    ap (λ (r : ℕ → Report). r name) is ∙ split_on_bool_of_log (name == high)
    (λ e.
    let same : name ≡ high = grind (arith, nat_tests) in
    subst (λ n. (if has founders high then reports_after_report reports high (record { stored = 1; taken = 0 }) else reports) n
    ≡ (if nat_lt n (high + 1) && has founders n then record { stored = 1; taken = 0 } else no_report)) (sym same)
    (split_on_bool_of_log (has founders high)
    (λ t. let own : (high == high) ≡ true = grind (arith, nat_tests) in rw (t, next, own, zero) refl)
    (λ f. rw (f, next) zero)))
    (λ f.
    let same : nat_lt name high ≡ nat_lt name (high + 1) = split_on_bool_of_log (nat_lt name high) (λ t. let u : nat_lt name (high + 1) ≡ true = grind (arith, nat_tests) in
    rw (t, u) refl) (λ n. let u : nat_lt name (high + 1) ≡ false = grind (arith, nat_tests) in rw (n, u) refl) in
    split_on_bool_of_log (has founders high)
    (λ t. rw (t, f) (before name ∙ ap (λ b. if b && has founders name then record { stored = 1; taken = 0 } else no_report) same))
    (λ n. rw n (before name ∙ ap (λ b. if b && has founders name then record { stored = 1; taken = 0 } else no_report) same)))

none_above : (founders : List ℕ) (name : ℕ) → EachIndex founders (λ place. slice_index founders place ≤ 1) → 256 ≤ name → has founders name ≡ false
none_above founders name lives high = split_on_bool_of_log (nat_lt (place_of_name name) (length founders))
    (λ t. let low : slice_index founders (place_of_name name) ≤ 1 = lives (place_of_name name) (grind (arith, nat_tests)) in grind (arith, nat_tests))
    (λ f. let past : slice_index founders (place_of_name name) ≡ 0 = get_or_past founders (place_of_name name) 0 (grind (arith, nat_tests)) in grind (arith, nat_tests))

pub all_founders_have_reported : (founders : List ℕ) (reports : ℕ → Report) (high : ℕ) → high ≡ 256 → EachIndex founders (λ place. slice_index founders place ≤ 1)
    → FoundersReportedUpTo founders reports high → reports ≡ (λ name. if has founders name then record { stored = 1; taken = 0 } else no_report)
all_founders_have_reported founders reports high all lives each =
    let at : (name : ℕ) → reports name ≡ (if has founders name then record { stored = 1; taken = 0 } else no_report) = λ name.
    split_on_bool_of_log (nat_lt name high)
    (λ t. each name ∙ rw t refl)
    (λ f. let no = none_above founders name lives (grind (arith, nat_tests)) in each name ∙ rw (f, no) refl) in
    λ k name. at name k

pub own_first_report_le_taken : (founders : List ℕ) (reports : ℕ → Report) (who taken : ℕ)
    → reports ≡ (λ name. if has founders name then record { stored = 1; taken = 0 } else no_report) → (reports who).taken ≤ taken
own_first_report_le_taken founders reports who taken is =
    let zero : (reports who).taken ≡ 0 = ap (λ (r : ℕ → Report). (r who).taken) is ∙ split_on_bool_of_log (has founders who) (λ t. rw t refl) (λ f. rw f refl) in
    omega arith
