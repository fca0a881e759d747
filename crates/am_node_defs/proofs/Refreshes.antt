-- A refresh, on the end of a list and on all of it, once and twice.
use Rattle.am_node_defs.proofs.Words.{◌≡◌, ℕ, ◌-◌, ◌<◌, ◌≤◌, max, min, List, refl, sym, ◌∙◌, ap, subst, true, ◌==◌, nat_lt, if◌then◌else◌, Option, Some, None}
use Rattle.am_node_defs.proofs.Words.{arith, nat_tests, Report, Log, top_of_log, image_of_log, accept_front, is_held, IsKept, CoreState, CoreKeepsEndOf, CoreChangesAlike, core_with_log, raise_accepted_to_told}
use Rattle.am_node_defs.proofs.Words.{pass_over_below_join, advance_core, trim_core_to, trim_core_list, union_of_members_at, members_since_accepted, reports_of, raise_report, reports_after_report, least_taken_of_names, CoreWithReports}
use Rattle.am_node_defs.proofs.Words.{core_report, raise_own_report, tell_accept_front, advance_with_reports, trim_to_least_taken, base_after_trim, raise_accepted_by_reports, refresh_with_reports, reports_with_log, core_and_reports, RefreshesAlike, SecondChangesNothing}
use Rattle.am_node_defs.proofs.Words.{IsMemberOrLastLeaver}
use Rattle.am_node_defs.proofs.{Folds.split_on_bool_of_log, Ends.top_of_end_is_top, CoreLaws.advance_on_whole_log, CoreLaws.since_accepted_reads_kept_end, Leaders.leader_trims_at_most_taken, Again.greatest_within_bounds}
use Rattle.am_node_defs.proofs.{Again.accept_front_of_accept_front, Walks.passes_as_front_with_view, Same.accept_front_of_end}

-- reports of a name
reported_self : (reports : ℕ → Report) (name : ℕ) (report : Report) → reports_after_report reports name report name ≡ raise_report (reports name) report
reported_self reports name report = let t : (name == name) ≡ true = grind (arith, nat_tests) in rw t refl

raised_below : (old report : Report) → report.stored ≤ old.stored → report.taken ≤ old.taken → raise_report old report ≡ old
raised_below old report s t =
    let a : max old.stored report.stored ≡ old.stored = omega arith in
    let b : max old.taken report.taken ≡ old.taken = omega arith in
    λ i. record { stored = a i; taken = b i }

reported_below : (reports : ℕ → Report) (name : ℕ) (report : Report) → report.stored ≤ (reports name).stored → report.taken ≤ (reports name).taken
    → reports_after_report reports name report ≡ reports
reported_below reports name report s t = λ i other. (each other) i
  where
    each : (other : ℕ) → reports_after_report reports name report other ≡ reports other
    each other = split_on_bool_of_log (other == name)
        (λ u. let e : other ≡ name = grind (arith, nat_tests) in rw u (raised_below (reports name) report s t ∙ ap reports (sym e)))
        (λ u. rw u refl)

-- what a refresh leaves
record IsRefreshed (s : CoreWithReports) : Type 0 where
  pub stored : top_of_log s.core.log ≤ (s.reports s.core.who).stored
  pub taken : s.core.taken ≤ (s.reports s.core.who).taken
  pub told : s.core.told ≡ accept_front s.reports s.core.log s.core.acc
  pub acc : min s.core.told (top_of_log s.core.log) ≤ s.core.acc
  pub passed : s.core.taken < s.core.start - 1 → min s.core.acc (s.core.start - 1) ≤ s.core.taken
  pub trimmed : base_after_trim (least_taken_of_names s.reports (members_since_accepted s.core)) s.core.base ≡ s.core.base

own_stays : (s : CoreWithReports) → IsRefreshed s → raise_own_report s ≡ s
unfolding raise_own_report
own_stays s is = ap (λ r. let l : CoreWithReports = record { core = s.core; reports = r } in l) (reported_below s.reports s.core.who (core_report s.core) is.stored is.taken)

go_stays : (s : CoreWithReports) → IsRefreshed s → advance_with_reports s ≡ s
unfolding advance_with_reports raise_accepted_to_told pass_over_below_join
go_stays s is =
    let c = s.core in
    let a : max c.acc (min c.told (top_of_log c.log)) ≡ c.acc = let h = is.acc in omega arith in
    let t : (if nat_lt c.taken (c.start - 1) then max c.taken (min c.acc (c.start - 1)) else c.taken) ≡ c.taken =
    split_on_bool_of_log (nat_lt c.taken (c.start - 1)) (λ u. let l : c.taken < c.start - 1 = grind (arith, nat_tests) in let p = is.passed l in
    rw u (omega arith)) (λ u. rw u refl) in
    rw a (ap (λ (k : ℕ). record s { core = record s.core { taken = k } }) t)

let_go_stays : (s : CoreWithReports) → IsRefreshed s → trim_to_least_taken s ≡ s
unfolding trim_to_least_taken
let_go_stays s is = ap (λ (b : ℕ). record s { core = record s.core { base = b } }) is.trimmed

refresh_stays : (s : CoreWithReports) → IsRefreshed s → refresh_with_reports s ≡ s
unfolding tell_accept_front
refresh_stays s is =
    ap (λ x. trim_to_least_taken (raise_own_report (advance_with_reports (tell_accept_front x)))) (own_stays s is)
    ∙ ap (λ x. trim_to_least_taken (raise_own_report (advance_with_reports x))) (ap (λ (t : ℕ). record s { core = record s.core { told = t } }) (sym is.told))
    ∙ ap (λ x. trim_to_least_taken (raise_own_report x)) (go_stays s is)
    ∙ ap trim_to_least_taken (own_stays s is)
    ∙ let_go_stays s is

-- the accept front goes by what is stored alone
front_stored : (reports others : ℕ → Report) (log : Log) (acc : ℕ) → ((name : ℕ) → (reports name).stored ≡ (others name).stored)
    → accept_front reports log acc ≡ accept_front others log acc
front_stored reports others log acc each =
    let e : (λ name. (reports name).stored) ≡ (λ name. (others name).stored) = λ i name. each name i in
    ap (λ (stored : ℕ → ℕ). accept_front (λ name. record { stored = stored name; taken = 0 }) log acc) e

same_stored : (reports : ℕ → Report) (name : ℕ) (report : Report) → report.stored ≤ (reports name).stored → (other : ℕ)
    → (reports_after_report reports name report other).stored ≡ (reports other).stored
same_stored reports name report h other = split_on_bool_of_log (other == name)
    (λ u. let e : other ≡ name = grind (arith, nat_tests) in let s = ap (λ n. (reports n).stored) e in rw u (omega arith))
    (λ u. rw u refl)

pub base_after_twice_is_once : (o : Option ℕ) (base : ℕ) → base_after_trim o (base_after_trim o base) ≡ base_after_trim o base
base_after_twice_is_once None base = refl
base_after_twice_is_once (Some to) base = omega arith

passed_over : (taken acc start : ℕ) → (if nat_lt taken (start - 1) then max taken (min acc (start - 1)) else taken) < start - 1
    → min acc (start - 1) ≤ (if nat_lt taken (start - 1) then max taken (min acc (start - 1)) else taken)
passed_over taken acc start = split_on_bool_of_log (nat_lt taken (start - 1))
    (λ u. rw u (λ h. omega arith))
    (λ u. let l : start - 1 ≤ taken = grind (arith, nat_tests) in rw u (λ h. absurd (omega arith)))

taken_grows : (taken acc start : ℕ) → taken ≤ (if nat_lt taken (start - 1) then max taken (min acc (start - 1)) else taken)
taken_grows taken acc start = split_on_bool_of_log (nat_lt taken (start - 1)) (λ u. rw u (omega arith)) (λ u. rw u (omega arith))

-- where the front is, within the list
front_within : (reports : ℕ → Report) (log : Log) (acc : ℕ) → acc ≤ top_of_log log → (acc ≤ accept_front reports log acc)
    × (accept_front reports log acc ≤ top_of_log log)
front_within reports log acc high =
    let low = greatest_within_bounds (passes_as_front_with_view (is_held reports log) (image_of_log log).view_number acc) acc (top_of_log log - acc) in
    let a = low.0 in
    let b = low.1 in
    (a, omega arith)

is_refreshed : (s : CoreWithReports) → s.core.acc ≤ top_of_log s.core.log → IsRefreshed (refresh_with_reports s)
unfolding raise_own_report tell_accept_front advance_with_reports trim_to_least_taken raise_accepted_to_told pass_over_below_join
is_refreshed s high =
    let c = s.core in
    let t = top_of_log c.log in
    let first = reports_after_report s.reports c.who (core_report c) in
    let front = accept_front first c.log c.acc in
    let acc = max c.acc (min front t) in
    let taken = if nat_lt c.taken (c.start - 1) then max c.taken (min acc (c.start - 1)) else c.taken in
    let report : Report = record { stored = t; taken = taken } in
    let second = reports_after_report first c.who report in
    let within = front_within first c.log c.acc high in
    let at : acc ≡ front = let a = within.0 in let b = within.1 in omega arith in
    let one = ap (λ (r : Report). r.stored) (reported_self s.reports c.who (core_report c)) in
    let stored = ap (λ (r : Report). r.stored) (reported_self first c.who report) in
    let given = ap (λ (r : Report). r.taken) (reported_self first c.who report) in
    let told : accept_front second c.log acc ≡ front = ap (accept_front second c.log) at
    ∙ front_stored second first c.log front (same_stored first c.who report (omega arith)) ∙ accept_front_of_accept_front first c.log c.acc high in
    record {
      stored = omega arith;
      taken = omega arith;
      told = sym told;
      acc = omega arith;
      passed = passed_over c.taken acc c.start;
      trimmed = base_after_twice_is_once (least_taken_of_names second (union_of_members_at c.log acc (t - acc))) c.base;
    }

-- on all of the list as on its end
own_whole : (all : Log) (s : CoreWithReports) → CoreKeepsEndOf all s.core → raise_own_report (reports_with_log all s) ≡ reports_with_log all (raise_own_report s)
unfolding raise_own_report
own_whole all s st = ap (λ (t : ℕ). let l : CoreWithReports = record {
  core = core_with_log all s.core;
  reports =
      reports_after_report s.reports s.core.who (record { stored = t; taken = s.core.taken });
} in l) (sym (top_of_end_is_top all s.core.log st.kept))

tell_whole : (all : Log) (s : CoreWithReports) → CoreKeepsEndOf all s.core → s.core.base ≤ s.core.acc → tell_accept_front (reports_with_log all s) ≡ reports_with_log all (tell_accept_front s)
unfolding tell_accept_front
tell_whole all s st h =
    let b = st.base in
    ap (λ (t : ℕ). let l : CoreWithReports = record { core = record (core_with_log all s.core) { told = t }; reports = s.reports } in
    l) (sym (accept_front_of_end s.reports all s.core.log s.core.acc st.kept (omega arith)))

go_whole : (all : Log) (s : CoreWithReports) → CoreKeepsEndOf all s.core → advance_with_reports (reports_with_log all s) ≡ reports_with_log all (advance_with_reports s)
unfolding advance_with_reports
go_whole all s st = ap (λ (c : CoreState). let l : CoreWithReports = record { core = c; reports = s.reports } in l) (sym (advance_on_whole_log all s.core st))

pub go_up_on_whole_log : (all : Log) (s : CoreWithReports) → CoreKeepsEndOf all s.core → s.core.base ≤ s.core.acc → raise_accepted_by_reports (reports_with_log all s) ≡ reports_with_log all (raise_accepted_by_reports s)
unfolding raise_own_report tell_accept_front advance_with_reports raise_accepted_to_told pass_over_below_join
go_up_on_whole_log all s st h =
    let s1 = raise_own_report s in
    let s2 = tell_accept_front s1 in
    let s3 = advance_with_reports s2 in
    let st2 : CoreKeepsEndOf all s2.core = record { base = st.base; kept = st.kept } in
    let st3 : CoreKeepsEndOf all s3.core = record { base = st.base; kept = st.kept } in
    ap (λ x. raise_own_report (advance_with_reports (tell_accept_front x))) (own_whole all s st)
    ∙ ap (λ x. raise_own_report (advance_with_reports x)) (tell_whole all s1 st h)
    ∙ ap raise_own_report (go_whole all s2 st2)
    ∙ own_whole all s3 st3

go_up_stands : (all : Log) (s : CoreWithReports) → CoreKeepsEndOf all s.core → CoreKeepsEndOf all (raise_accepted_by_reports s).core
unfolding raise_own_report tell_accept_front advance_with_reports raise_accepted_to_told pass_over_below_join
go_up_stands all s st = record { base = st.base; kept = st.kept }

-- after the trim, or without one
let_go_whole : (all : Log) (s : CoreWithReports) (o : Option ℕ) → CoreKeepsEndOf all s.core → s.core.base ≤ s.core.acc → least_taken_of_names s.reports (members_since_accepted s.core) ≡ o
    → trim_to_least_taken (reports_with_log all s) ≡ record { core = record (core_with_log all s.core) { base = base_after_trim o s.core.base }; reports = s.reports }
unfolding trim_to_least_taken
let_go_whole all s o st h is =
    let since = since_accepted_reads_kept_end s.core h all st in
    ap (λ (o : Option ℕ). let l : CoreWithReports = record { core = record (core_with_log all s.core) { base = base_after_trim o s.core.base }; reports = s.reports } in
    l) (ap (least_taken_of_names s.reports) (sym since) ∙ is)

pub lead_with_least_taken : (old now : CoreWithReports) (to : ℕ) (core : CoreState) → now ≡ raise_accepted_by_reports old → old.core.base ≤ old.core.acc → now.core.base ≤ now.core.acc
    → least_taken_of_names now.reports (members_since_accepted now.core) ≡ Some to → CoreChangesAlike (trim_core_to to) now.core core
    → RefreshesAlike refresh_with_reports old (record { core = core; reports = now.reports })
lead_with_least_taken old now to core e low high is keeps = λ all st.
    let P : CoreWithReports → Type 0 = λ s. CoreKeepsEndOf all s.core in
    let here : CoreKeepsEndOf all now.core = subst P (sym e) (go_up_stands all old st) in
    let kept = keeps all here in
    let whole_now : raise_accepted_by_reports (reports_with_log all old) ≡ reports_with_log all now = go_up_on_whole_log all old st low ∙ ap (reports_with_log all) (sym e) in
    let gone = ap trim_to_least_taken whole_now ∙ let_go_whole all now (Some to) here high is in
    (kept.0, ap (λ (c : CoreState). let l : CoreWithReports = record { core = c; reports = now.reports } in l) kept.1 ∙ sym gone)

pub lead_without_least_taken : (old now : CoreWithReports) → now ≡ raise_accepted_by_reports old → old.core.base ≤ old.core.acc → now.core.base ≤ now.core.acc
    → least_taken_of_names now.reports (members_since_accepted now.core) ≡ None → RefreshesAlike refresh_with_reports old now
lead_without_least_taken old now e low high is = λ all st.
    let P : CoreWithReports → Type 0 = λ s. CoreKeepsEndOf all s.core in
    let here : CoreKeepsEndOf all now.core = subst P (sym e) (go_up_stands all old st) in
    let whole_now : raise_accepted_by_reports (reports_with_log all old) ≡ reports_with_log all now = go_up_on_whole_log all old st low ∙ ap (reports_with_log all) (sym e) in
    let gone = ap trim_to_least_taken whole_now ∙ let_go_whole all now None here high is in
    (here, sym gone)

pub lead_twice_stays : (old new : CoreWithReports) → RefreshesAlike refresh_with_reports old new → old.core.acc ≤ top_of_log old.core.log → SecondChangesNothing refresh_with_reports old new
lead_twice_stays old new leads high = λ all st.
    let e = (leads all st).1 in
    let t = top_of_end_is_top all old.core.log st.kept in
    ap refresh_with_reports e ∙ (refresh_stays (refresh_with_reports (reports_with_log all old)) (is_refreshed (reports_with_log all old) (omega arith))) ∙ sym e

-- its own report has what it has taken
go_up_own : (s : CoreWithReports) → (s.reports s.core.who).taken ≤ s.core.taken → ((raise_accepted_by_reports s).reports (raise_accepted_by_reports s).core.who).taken ≡ (raise_accepted_by_reports s).core.taken
unfolding raise_own_report tell_accept_front advance_with_reports raise_accepted_to_told pass_over_below_join
go_up_own s own =
    let c = s.core in
    let first = reports_after_report s.reports c.who (core_report c) in
    let acc = max c.acc (min (accept_front first c.log c.acc) (top_of_log c.log)) in
    let taken = if nat_lt c.taken (c.start - 1) then max c.taken (min acc (c.start - 1)) else c.taken in
    let report : Report = record { stored = top_of_log c.log; taken = taken } in
    let one = ap (λ (r : Report). r.taken) (reported_self s.reports c.who (core_report c)) in
    let two = ap (λ (r : Report). r.taken) (reported_self first c.who report) in
    let grows = taken_grows c.taken acc c.start in
    omega arith

go_up_leads : (s : CoreWithReports) → IsMemberOrLastLeaver s.core → IsMemberOrLastLeaver (raise_accepted_by_reports s).core
unfolding raise_own_report tell_accept_front advance_with_reports raise_accepted_to_told pass_over_below_join
go_up_leads s leads = leads

pub may_lead_after_go_up : (old now : CoreWithReports) → now ≡ raise_accepted_by_reports old → IsMemberOrLastLeaver old.core → IsMemberOrLastLeaver now.core
may_lead_after_go_up old now e leads = let P : CoreWithReports → Type 0 = λ s. IsMemberOrLastLeaver s.core in subst P (sym e) (go_up_leads old leads)

-- the steps of the code
pub go_up_by_its_parts : (c0 core c3 : CoreState) (r0 r1 r4 : List Report) (front : ℕ) → core ≡ c0 → core_and_reports c0 r1 ≡ raise_own_report (core_and_reports c0 r0)
    → front ≡ accept_front (reports_of r1) core.log core.acc → c3 ≡ advance_core (record core { told = front }) → core_and_reports c3 r4
    ≡ raise_own_report (core_and_reports c3 r1) → core_and_reports c3 r4 ≡ raise_accepted_by_reports (core_and_reports c0 r0)
unfolding tell_accept_front advance_with_reports
go_up_by_its_parts c0 core c3 r0 r1 r4 front is first told next last =
    last
    ∙ ap (λ x. raise_own_report (core_and_reports x r1)) next
    ∙ ap (λ (t : ℕ). raise_own_report (core_and_reports (advance_core (record core { told = t })) r1)) told
    ∙ ap (λ (x : CoreState). raise_own_report (advance_with_reports (tell_accept_front (core_and_reports x r1)))) is
    ∙ ap (λ s. raise_own_report (advance_with_reports (tell_accept_front s))) first

-- no more is let go than it has taken
pub leader_trims_up_to_taken : (old now : CoreWithReports) (capacity to : ℕ) → now ≡ raise_accepted_by_reports old → IsMemberOrLastLeaver old.core → (old.reports old.core.who).taken ≤ old.core.taken
    → IsKept now.core.log capacity → now.core.log.start ≤ now.core.acc → now.core.acc ≤ top_of_log now.core.log
    → least_taken_of_names now.reports (members_since_accepted now.core) ≡ Some to → to ≤ now.core.taken
leader_trims_up_to_taken old now capacity to e leads own kept low high least =
    let P : CoreWithReports → Type 0 = λ s. IsMemberOrLastLeaver s.core in
    let Q : CoreWithReports → Type 0 = λ s. (s.reports s.core.who).taken ≡ s.core.taken in
    let has = subst Q (sym e) (go_up_own old own) in
    leader_trims_at_most_taken now.reports now.core capacity to kept low high (subst P (sym e) (go_up_leads old leads)) (omega arith) least

pub go_up_own_report_taken : (old now : CoreWithReports) → now ≡ raise_accepted_by_reports old → (old.reports old.core.who).taken ≤ old.core.taken → (now.reports now.core.who).taken ≡ now.core.taken
go_up_own_report_taken old now e own = let Q : CoreWithReports → Type 0 = λ s. (s.reports s.core.who).taken ≡ s.core.taken in subst Q (sym e) (go_up_own old own)

pub trim_own_report_taken : (reports : ℕ → Report) (c : CoreState) (to : ℕ) → (reports c.who).taken ≡ c.taken → (reports (trim_core_list to c).who).taken
    ≡ (trim_core_list to c).taken
trim_own_report_taken reports c to h = split_on_bool_of_log (nat_lt c.base to) (λ t. rw t h) (λ t. rw t h)
