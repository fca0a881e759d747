-- A second refresh in a row changes nothing.
use Rattle.am_model_laws.proofs.Words.{◌≡◌, ℕ, ◌-◌, ◌≤◌, max, min, true, ◌==◌, nat_lt, nat_le, if◌then◌else◌, refl, sym, ap, subst, ◌∙◌, inl}
use Rattle.am_model_laws.proofs.Words.{inr, arith, cases_lt, nat_tests, Report, Log, top_of_log, image_of_log, is_held, is_satisfied, accept_front, CoreState, raise_accepted_to_told}
use Rattle.am_model_laws.proofs.Words.{pass_over_below_join, raise_report, least_taken_of_names, base_after_trim, raise_own_report, tell_accept_front, advance_with_reports, trim_to_least_taken, Node, top, is_sequencer, own_report_of}
use Rattle.am_model_laws.proofs.Words.{map_with_value, node_with_report, concerned_names, advance_node, refresh_as_sequencer, refresh, IsGreatestFront, RefreshOnce, split_on_bool, both_of_and}
use Rattle.am_node_defs.specs.Cores as cores
use Rattle.am_node_defs.proofs.Refreshes.{base_after_twice_is_once as trim_again}
use Rattle.am_model_laws.proofs.AcceptFronts.{is_satisfied_above_view, is_satisfied_below_view, greatest_front_is_unique, accept_front_is_greatest}

-- ---- the parts of a refresh

abbrev passed_over : ℕ → ℕ → ℕ → ℕ
passed_over taken acc start = if nat_lt taken (start - 1) then max taken (min acc (start - 1)) else taken

abbrev known_accepted : CoreState → ℕ
known_accepted core = max core.acc (min core.told (top_of_log core.log))

abbrev report_self : Node → Node
report_self m = node_with_report m m.core.who (own_report_of m)

abbrev find_front : Node → Node
find_front m = record m { core = record (m.core) { told = accept_front m.reports m.core.log m.core.acc } }

abbrev trim : Node → Node
trim m = record m { core = record (m.core) { base = base_after_trim (least_taken_of_names m.reports (concerned_names m)) m.core.base } }

lead_is : (m : Node) → refresh_as_sequencer m ≡ trim (report_self (advance_node (find_front (report_self m))))
unfolding refresh_as_sequencer raise_own_report tell_accept_front advance_with_reports trim_to_least_taken
lead_is m = refl

-- ---- numbers

known_again : (a t n : ℕ) → max (max a (min t n)) (min t n) ≡ max a (min t n)
known_again a t n = omega arith

pass_again : (k a s : ℕ) → passed_over (passed_over k a s) a s ≡ passed_over k a s
pass_again k a s = split_on_bool (nat_lt k (s - 1))
    (λ t. rw t (split_on_bool (nat_lt (max k (min a (s - 1))) (s - 1))
    (λ u. rw u (omega arith))
    (λ u. rw u refl)))
    (λ f. rw (f, f) refl)

-- ---- reports

is_same : (n : ℕ) → (n == n) ≡ true
is_same n = grind (arith, nat_tests)

raise_again : (old report : Report) → raise_report (raise_report old report) report ≡ raise_report old report
raise_again old report =
    let s : max (max old.stored report.stored) report.stored ≡ max old.stored report.stored = omega arith in
    let t : max (max old.taken report.taken) report.taken ≡ max old.taken report.taken = omega arith in
    λ i. record { stored = s i; taken = t i }

set_same : (f : ℕ → Report) (k : ℕ) (x : Report) → map_with_value f k x k ≡ x
set_same f k x = rw (is_same k) refl

set_held : (f : ℕ → Report) (k : ℕ) (x : Report) → f k ≡ x → (j : ℕ) → map_with_value f k x j ≡ f j
set_held f k x e j = split_on_bool (j == k)
    (λ t. rw t (let z : j ≡ k = grind (arith, nat_tests) in sym (ap f z ∙ e)))
    (λ u. rw u refl)

self_again : (m : Node) → raise_report (m.reports m.core.who) (own_report_of m) ≡ m.reports m.core.who → report_self m ≡ m
self_again m e = λ i. record m { reports = λ j. set_held m.reports m.core.who (raise_report (m.reports m.core.who) (own_report_of m)) (sym e) j i }

-- what a name has stored isn't changed by what another, or the name again, has
set_stored : (f : ℕ → Report) (k : ℕ) (x : Report) → x.stored ≡ (f k).stored → (j : ℕ) → (map_with_value f k x j).stored ≡ (f j).stored
set_stored f k x e j = split_on_bool (j == k)
    (λ t. rw t (let z : j ≡ k = grind (arith, nat_tests) in e ∙ ap (λ n. (f n).stored) (sym z)))
    (λ u. rw u refl)

-- ---- the accept front again

-- only what is stored counts
stored_front : (ℕ → ℕ) → Log → ℕ → ℕ
stored_front stored log acc = accept_front (λ name. record { stored = stored name; taken = 0 }) log acc

same_front : (f g : ℕ → Report) (log : Log) (acc : ℕ) → ((j : ℕ) → (f j).stored ≡ (g j).stored) → accept_front f log acc ≡ accept_front g log acc
unfolding stored_front
same_front f g log acc e = λ i. stored_front (λ j. e j i) log acc

satisfied_on : (reports : ℕ → Report) (log : Log) (f g n : ℕ) → f ≤ g → is_satisfied reports log f n ≡ true → is_satisfied reports log g n ≡ true
satisfied_on reports log f g n up h = elim (cases_lt n (image_of_log log).view_number) [
  | inl below ↦ (let b = both_of_and (nat_le (image_of_log log).view_number f) (is_held reports log (image_of_log log).view_number) (sym (is_satisfied_below_view reports log f n below)
      ∙ h) in
      let w : nat_le (image_of_log log).view_number g ≡ true = grind (arith, nat_tests) in
      is_satisfied_below_view reports log g n below ∙ (rw (w, b.1) refl))
  | inr above ↦ is_satisfied_above_view reports log g n above ∙ (sym (is_satisfied_above_view reports log f n above) ∙ h)
]

later_front : (reports : ℕ → Report) (log : Log) (acc t : ℕ) → IsGreatestFront reports log acc t → IsGreatestFront reports log (max acc (min t (top_of_log log))) t
later_front reports log acc t h =
    record {
      least = omega arith;
      most = omega arith;
      satisfied = λ n low high. h.satisfied n (omega arith) high;
      greatest = λ higher low high all. elim (cases_lt (top_of_log log) t) [
        | inl over ↦ omega arith
        | inr within ↦ h.greatest higher (omega arith) high (λ n a b. elim (cases_lt t n) [
          | inl new ↦ all n (omega arith) b
          | inr old ↦ satisfied_on reports log t higher n (omega arith) (h.satisfied n a old)
        ])
      ];
    }

front_again : (f g : ℕ → Report) (log : Log) (acc : ℕ) → ((j : ℕ) → (g j).stored ≡ (f j).stored)
    → accept_front g log (max acc (min (accept_front f log acc) (top_of_log log))) ≡ accept_front f log acc
front_again f g log acc e =
    let t = accept_front f log acc in
    let a = max acc (min t (top_of_log log)) in
    same_front g f log a e ∙ greatest_front_is_unique f log a (accept_front f log a) t (accept_front_is_greatest f log a) (later_front f log acc t (accept_front_is_greatest f log acc))

-- ---- each part again

-- a node that knows all this stays as it is
record IsFresh (m : Node) : Type 0 where
  self : raise_report (m.reports m.core.who) (own_report_of m) ≡ m.reports m.core.who
  told : accept_front m.reports m.core.log m.core.acc ≡ m.core.told
  known : known_accepted m.core ≡ m.core.acc
  passed : passed_over m.core.taken m.core.acc m.core.start ≡ m.core.taken
  base : base_after_trim (least_taken_of_names m.reports (concerned_names m)) m.core.base ≡ m.core.base

advanced_again : (c : CoreState) → known_accepted c ≡ c.acc → passed_over c.taken c.acc c.start ≡ c.taken → cores.advance_core c ≡ c
unfolding raise_accepted_to_told pass_over_below_join
advanced_again c e f = (λ i. record c { acc = e i; taken = passed_over c.taken (e i) c.start }) ∙ (λ i. record c { taken = f i })

advance_again : (m : Node) → known_accepted m.core ≡ m.core.acc → passed_over m.core.taken m.core.acc m.core.start ≡ m.core.taken → advance_node m ≡ m
advance_again m e f = λ i. record m { core = advanced_again m.core e f i }

base_again : (m : Node) → base_after_trim (least_taken_of_names m.reports (concerned_names m)) m.core.base ≡ m.core.base → trim m ≡ m
base_again m e = λ i. record m { core = record (m.core) { base = e i } }

lead_fresh : (m : Node) → IsFresh m → refresh_as_sequencer m ≡ m
lead_fresh m h =
    let self = self_again m h.self in
    lead_is m
    ∙ ap (λ n. trim (report_self (advance_node (find_front n)))) self
    ∙ ap (λ n. trim (report_self (advance_node n))) (λ i. record m { core = record (m.core) { told = h.told i } })
    ∙ ap (λ n. trim (report_self n)) (advance_again m h.known h.passed)
    ∙ ap trim self
    ∙ base_again m h.base

leads_fresh : (m : Node) → IsFresh (trim (report_self (advance_node (find_front (report_self m)))))
unfolding raise_accepted_to_told pass_over_below_join
leads_fresh m =
    let first = map_with_value m.reports m.core.who (raise_report (m.reports m.core.who) (own_report_of m)) in
    let n = advance_node (find_front (report_self m)) in
    let same = set_same m.reports m.core.who (raise_report (m.reports m.core.who) (own_report_of m)) in
    let again = set_same first m.core.who (raise_report (first m.core.who) (own_report_of n)) in
    let stored : max (max (m.reports m.core.who).stored (top m)) (top m) ≡ max (m.reports m.core.who).stored (top m) = omega arith in
    let kept = ap (λ (x : Report). max x.stored (top m)) same ∙ stored ∙ sym (ap (λ (x : Report). x.stored) same) in
    record {
      self = ap (λ (x : Report). raise_report x (own_report_of n)) again ∙ raise_again (first m.core.who) (own_report_of n) ∙ sym again;
      told = front_again first (map_with_value first m.core.who (raise_report (first m.core.who) (own_report_of n))) m.core.log m.core.acc
          (set_stored first m.core.who (raise_report (first m.core.who) (own_report_of n)) kept);
      known = known_again m.core.acc (accept_front first m.core.log m.core.acc) (top m);
      passed = pass_again m.core.taken (max m.core.acc (min (accept_front first m.core.log m.core.acc) (top m))) m.core.start;
      base = trim_again (least_taken_of_names (report_self n).reports (concerned_names (report_self n))) m.core.base;
    }

-- it leads after it as before
leads : (m : Node) → is_sequencer (refresh_as_sequencer m) ≡ is_sequencer m
unfolding raise_accepted_to_told pass_over_below_join
leads m = ap is_sequencer (lead_is m)

follows : (m : Node) → is_sequencer (advance_node m) ≡ is_sequencer m
unfolding raise_accepted_to_told pass_over_below_join
follows m = refl

advance_twice : (m : Node) → advance_node (advance_node m) ≡ advance_node m
unfolding raise_accepted_to_told pass_over_below_join
advance_twice m = advance_again (advance_node m) (known_again m.core.acc m.core.told (top m)) (pass_again m.core.taken (known_accepted m.core) m.core.start)

pub refresh_of_refreshed : RefreshOnce
unfolding refresh
refresh_of_refreshed m = split_on_bool (is_sequencer m)
    (λ t. rw t (rw (leads m ∙ t) (lead_fresh (refresh_as_sequencer m) (subst IsFresh (sym (lead_is m)) (leads_fresh m)))))
    (λ f. rw f (rw (follows m ∙ f) (advance_twice m)))
