-- What a sequencer accepts is held by enough names.
use Rattle.am_refinement.proofs.Words.{leb-true, ◌≡◌, ℕ, ◌+◌, ◌-◌, ◌<◌, ◌≤◌, ◌==◌, ◌&&◌, nat_le, Bool, true, false, List, [], length, take, refl, sym, ap, ◌∙◌}
use Rattle.am_refinement.proofs.Words.{subst, arith, count_by, nat_tests, Entry, Report, Image, has, names_of, Log, top_of_log, image_of_log, counting_names_at, needed_count_at}
use Rattle.am_refinement.proofs.Words.{holder_count_at, is_held, is_satisfied, is_acceptable_front, accept_front, raise_accepted_to_told, pass_over_below_join, range_passes_at_each, reports_after_report, raise_own_report, tell_accept_front}
use Rattle.am_refinement.proofs.Words.{advance_with_reports, trim_to_least_taken, greatest_within_bounds, greatest_passes_test, IsBeginningOf, image_of_list, taken_front_begins_list, begins_through_both, shorter_beginning_begins_longer, beginning_is_no_longer}
use Rattle.am_refinement.proofs.Words.{length_of_taken_list, count_of_passing_names, counting_names_in, IsHeld, MayAccept, Node, refresh_as_sequencer, refresh, World, split_on_bool, both_of_and, NameStands, Reporting}
use Rattle.am_refinement.proofs.Words.{MayCount, RefreshAccepts}
use Rattle.am_abstract_group.specs.Group as groups
use Rattle.am_model.specs.Node as nodes
use Rattle.am_refinement.proofs.{Changes.image_of_whole_list, Changes.length_of_whole_list, Counting.passing_names_le_all_passing, Counting.set_name_is_below_256, Parts.counted_at_of_whole_list, Parts.need_at_covers_whole_need}
use Rattle.am_refinement.proofs.{Parts.counted_name_is_concerned}

-- ---- one number

-- who reported a number has stored it
reached : (node : ℕ → groups.ChainNode) (x : Node) (list : List Entry) (reports : ℕ → Report) (n h : ℕ) → Reporting node list x.core.base reports
    → MayCount x list → h < 256 → 0 < n → n ≤ length list → x.core.base < n → (image_of_list list).view_number ≤ n → has (counting_names_in list n) h ≡ true
    → n ≤ (reports h).stored → IsBeginningOf (take n list) (node h).list
reached node x list reports n h r may few some low above high counts up =
    let within = r.within h in
    let told_ = r.true_ h few (counted_name_is_concerned list n h may.good some low high counts) (omega arith) in
    let short = length_of_taken_list n list low in
    let long = length_of_taken_list (reports h).stored list within in
    begins_through_both (shorter_beginning_begins_longer (taken_front_begins_list n list) (taken_front_begins_list (reports h).stored list) (omega arith)) told_

logged : (a : groups.ChainNode) (part : List Entry) → (a.has_log ≡ false → a.list ≡ []) → 0 < length part → IsBeginningOf part a.list → a.has_log ≡ true
logged a part blank some h = split_on_bool a.has_log (λ t. t)
    (λ f. absurd (let low = beginning_is_no_longer h in let none = ap length (blank f) in omega arith))

number_held : (v : World) (i n : ℕ) (x : Node) (a : groups.ChainNode) (node : ℕ → groups.ChainNode) (reports : ℕ → Report) → NameStands v i x a
    → MayCount x a.list → Reporting node a.list x.core.base reports → ((h : ℕ) → (node h).has_log ≡ false → (node h).list ≡ [])
    → x.core.acc < n → n ≤ nodes.top x → (nodes.image_of_node x).view_number ≤ n → is_held reports x.core.log n ≡ true → IsHeld node a.list n
number_held v i n x a node reports stands may r blank above low high held =
    let log = x.core.log in
    let long = length_of_whole_list v i x a stands in
    let same = counted_at_of_whole_list v i n x a stands (omega arith) in
    let last : (image_of_list a.list).view_number ≡ (nodes.image_of_node x).view_number = ap (λ (g : Image). g.view_number) (image_of_whole_list v i x a stands) in
    let set = may.sets n (omega arith) in
    let passes : ℕ → Bool = λ h. nat_le n (reports h).stored in
    let holders : ℕ → Bool = λ h. has (counting_names_at log n) h && passes h in
    let all : count_by passes (names_of (counting_names_at log n)) ≤ count_of_passing_names holders = passing_names_le_all_passing passes (counting_names_at log n) set in
    let need = need_at_covers_whole_need v i n x a stands (omega arith) set in
    let counts : (h : ℕ) → holders h ≡ true → has (counting_names_in a.list n) h ≡ true = λ h t. ap (λ m. has m h) (sym same)
    ∙ (both_of_and (has (counting_names_at log n) h) (passes h) t).0 in
    let stored : (h : ℕ) → holders h ≡ true → IsBeginningOf (take n a.list) (node h).list = λ h t.
    (let both = both_of_and (has (counting_names_at log n) h) (passes h) t in
    let up : n ≤ (reports h).stored = (let z = both.1 in grind (arith, nat_tests)) in
    reached node x a.list reports n h r may (set_name_is_below_256 (counting_names_at log n) h set both.0) (omega arith) (omega arith) (omega arith) (omega arith)
    (counts h t) up) in
    let part = length_of_taken_list n a.list (omega arith) in
    record {
      holders = holders;
      counts = counts;
      logs = λ h t. logged (node h) (take n a.list) (blank h) (omega arith) (stored h t);
      stored = stored;
      enough = (let few : needed_count_at log n ≤ count_by passes (names_of (counting_names_at log n)) = leb-true (needed_count_at log n) (holder_count_at reports log n) held in
          omega arith);
    }

-- ---- up to the front

satisfied_at : (reports : ℕ → Report) (log : Log) (front n : ℕ) → n ≤ front → is_satisfied reports log front n ≡ true
    → (m : ℕ) × (n ≤ m) × (m ≤ front) × ((image_of_log log).view_number ≤ m) × (is_held reports log m ≡ true)
satisfied_at reports log front n low h = split_on_bool (nat_le (image_of_log log).view_number n)
    (λ t. (n, omega arith, low, leb-true (image_of_log log).view_number n t, rw t at h))
    (λ f.
    let both = both_of_and (nat_le (image_of_log log).view_number front) (is_held reports log (image_of_log log).view_number) (rw f at h) in
    let above : n ≤ (image_of_log log).view_number = grind (arith, nat_tests) in
    ((image_of_log log).view_number, above, leb-true (image_of_log log).view_number front both.0, omega arith, both.1))

front_held : (v : World) (i : ℕ) (x : Node) (a : groups.ChainNode) (node : ℕ → groups.ChainNode) (reports : ℕ → Report) → NameStands v i x a → MayCount x a.list
    → Reporting node a.list x.core.base reports → ((h : ℕ) → (node h).has_log ≡ false → (node h).list ≡ [])
    → MayAccept node a.list x.core.acc (accept_front reports x.core.log x.core.acc)
front_held v i x a node reports stands may r blank =
    let log = x.core.log in
    let acc = x.core.acc in
    let within = may.within in
    let passes = is_acceptable_front reports log acc in
    let low = greatest_within_bounds passes acc (top_of_log log - acc) in
    let up = low.0 in
    let front = accept_front reports log acc in
    let long = length_of_whole_list v i x a stands in
    record {
      rises = up;
      within = omega arith;
      held = λ n above below.
          (let there : is_acceptable_front reports log acc front ≡ true = greatest_passes_test passes acc (top_of_log log - acc) (omega arith) in
          let at : is_satisfied reports log front n ≡ true = range_passes_at_each (is_satisfied reports log front) (acc + 1) (front - acc) n (omega arith)
          (omega arith) there in
          let m = satisfied_at reports log front n below at in
          (m.0, m.1, m.2, number_held v i m.0 x a node reports stands may r blank (omega arith) (omega arith) m.3 m.4));
    }

-- ---- a refresh

-- its own report is true of itself
pub own_report_keeps_reports_true : (node : ℕ → groups.ChainNode) (list : List Entry) (base who taken : ℕ) (reports : ℕ → Report) → taken ≤ length list → (node who).list ≡ list
    → Reporting node list base reports
    → Reporting node list base (reports_after_report reports who (record { stored = length list; taken = taken }))
own_report_keeps_reports_true node list base who taken reports low own r = record {
  within = λ name. split_on_bool (name == who)
      (λ t. (let low = r.within who in rw t (omega arith)))
      (λ f. rw f (r.within name));
  taken = λ name. split_on_bool (name == who)
      (λ t. (let old = r.taken who in let z = r.within who in rw t (omega arith)))
      (λ f. rw f (r.taken name));
  true_ = λ name few concerned. split_on_bool (name == who)
      (λ t. λ above. (let same : name ≡ who = grind (arith, nat_tests) in
      let k = (reports_after_report reports who (record { stored = length list; taken = taken }) name).stored in
      subst (λ l. IsBeginningOf (take k list) l) (sym (ap (λ j. (node j).list) same ∙ own)) (taken_front_begins_list k list)))
      (λ f. rw f (r.true_ name few concerned));
}

pub accepted_after_lead : (x : Node) → x.core.acc ≤ nodes.top x
    → (refresh_as_sequencer x).core.acc ≡ accept_front (reports_after_report x.reports x.core.who (nodes.own_report_of x)) x.core.log x.core.acc
unfolding refresh_as_sequencer raise_own_report tell_accept_front advance_with_reports trim_to_least_taken raise_accepted_to_told pass_over_below_join
accepted_after_lead x within =
    let reports = reports_after_report x.reports x.core.who (nodes.own_report_of x) in
    let low = greatest_within_bounds (is_acceptable_front reports x.core.log x.core.acc) x.core.acc (top_of_log x.core.log - x.core.acc) in
    omega arith

pub told_after_lead : (x : Node) → (refresh_as_sequencer x).core.told ≡ accept_front (reports_after_report x.reports x.core.who (nodes.own_report_of x)) x.core.log x.core.acc
unfolding refresh_as_sequencer raise_own_report tell_accept_front advance_with_reports trim_to_least_taken raise_accepted_to_told pass_over_below_join
told_after_lead x = refl

pub refresh_accepts_held_entries : RefreshAccepts
unfolding refresh
refresh_accepts_held_entries v i x a node stands leads may among =
    let long = length_of_whole_list v i x a stands in
    let taken = may.taken in
    let r = own_report_keeps_reports_true node a.list x.core.base x.core.who x.core.taken x.reports (omega arith) among.own among.reports in
    let same : reports_after_report x.reports x.core.who (record { stored = length a.list; taken = x.core.taken })
    ≡ reports_after_report x.reports x.core.who (nodes.own_report_of x) =
    ap (λ k. reports_after_report x.reports x.core.who (record { stored = k; taken = x.core.taken })) long in
    let held = front_held v i x a node _ stands may (subst (Reporting node a.list x.core.base) same r) among.blank in
    rw leads (subst (MayAccept node a.list x.core.acc) (sym (accepted_after_lead x may.within)) held)
