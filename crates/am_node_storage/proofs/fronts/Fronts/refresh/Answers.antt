use Rattle.std.proofs.Common.{◌≡◌, Some, None, ap, sym, ◌∙◌, arith}
use Rattle.am_node_defs.specs.Cores.{members_since_accepted}
use Rattle.am_node_defs.specs.Reports.{reports_of, least_taken_of_names}
use Rattle.am_node_defs.specs.Refresh.{core_and_reports}
use Rattle.am_node_defs.proofs.Refreshes.{lead_with_least_taken, lead_without_least_taken, lead_twice_stays, leader_trims_up_to_taken, go_up_own_report_taken, trim_own_report_taken, may_lead_after_go_up}
use Rattle.am_node_defs.proofs.Leaders.{leader_may_lead_after_trim}
use Rattle.am_node_storage.proofs.fronts.Fronts.refresh.Goals as goal

pub trim_to-requires : goal.trim_to-requires
trim_to-requires g c =
    let least : least_taken_of_names (reports_of c.go_up.new.self) (members_since_accepted c.go_up.new.core) ≡ Some c.in-Some.taken =
    ap (least_taken_of_names (reports_of c.go_up.new.self)) (sym c.since_accepted-names.ensures.value) ∙ sym c.least_taken.ensures ∙ c.in-Some.is in
    let order = c.go_up.ensures.order in
    leader_trims_up_to_taken (core_and_reports c.args.core.now c.args.self.now) (core_and_reports c.go_up.new.core c.go_up.new.self) _ c.in-Some.taken c.go_up.ensures.value
    c.requires.leads c.requires.own c.go_up.ensures.kept (omega arith) (omega arith) least

pub returns-in-Some-clause-value : goal.returns-in-Some-clause-value
returns-in-Some-clause-value g c =
    let least : least_taken_of_names (reports_of c.go_up.new.self) (members_since_accepted c.go_up.new.core) ≡ Some c.in-Some.taken =
    ap (least_taken_of_names (reports_of c.go_up.new.self)) (sym c.since_accepted-names.ensures.value) ∙ sym c.least_taken.ensures ∙ c.in-Some.is in
    let was = c.go_up.ensures.was in
    let order = c.go_up.ensures.order in
    lead_with_least_taken (core_and_reports c.args.core.now c.args.self.now) (core_and_reports c.go_up.new.core c.go_up.new.self) c.in-Some.taken c.trim_to.new.self
    c.go_up.ensures.value (omega arith) (omega arith) least c.trim_to.ensures.keeps

pub returns-in-Some-clause-again : goal.returns-in-Some-clause-again
returns-in-Some-clause-again g c = let was = c.go_up.ensures.was in
    lead_twice_stays (core_and_reports c.args.core.now c.args.self.now) (core_and_reports c.trim_to.new.self c.go_up.new.self) (returns-in-Some-clause-value g c)
    (omega arith)

pub returns-in-Some-clause-own : goal.returns-in-Some-clause-own
returns-in-Some-clause-own g c = rw c.trim_to.ensures.value (trim_own_report_taken (reports_of c.go_up.new.self) c.go_up.new.core c.in-Some.taken
    (go_up_own_report_taken (core_and_reports c.args.core.now c.args.self.now) (core_and_reports c.go_up.new.core c.go_up.new.self) c.go_up.ensures.value
    c.requires.own))

pub returns-in-None-clause-value : goal.returns-in-None-clause-value
returns-in-None-clause-value g c =
    let least : least_taken_of_names (reports_of c.go_up.new.self) (members_since_accepted c.go_up.new.core) ≡ None =
    ap (least_taken_of_names (reports_of c.go_up.new.self)) (sym c.since_accepted-names.ensures.value) ∙ sym c.least_taken.ensures ∙ c.in-None.is in
    let was = c.go_up.ensures.was in
    let order = c.go_up.ensures.order in
    lead_without_least_taken (core_and_reports c.args.core.now c.args.self.now) (core_and_reports c.go_up.new.core c.go_up.new.self) c.go_up.ensures.value (omega arith)
    (omega arith) least

pub returns-in-None-clause-again : goal.returns-in-None-clause-again
returns-in-None-clause-again g c = let was = c.go_up.ensures.was in
    lead_twice_stays (core_and_reports c.args.core.now c.args.self.now) (core_and_reports c.go_up.new.core c.go_up.new.self) (returns-in-None-clause-value g c)
    (omega arith)

pub returns-in-None-clause-own : goal.returns-in-None-clause-own
returns-in-None-clause-own g c = go_up_own_report_taken (core_and_reports c.args.core.now c.args.self.now)
    (core_and_reports c.go_up.new.core c.go_up.new.self) c.go_up.ensures.value c.requires.own

pub returns-in-Some-clause-leads : goal.returns-in-Some-clause-leads
returns-in-Some-clause-leads g c =
    let least : least_taken_of_names (reports_of c.go_up.new.self) (members_since_accepted c.go_up.new.core) ≡ Some c.in-Some.taken =
    ap (least_taken_of_names (reports_of c.go_up.new.self)) (sym c.since_accepted-names.ensures.value) ∙ sym c.least_taken.ensures ∙ c.in-Some.is in
    let order = c.go_up.ensures.order in
    let leads = may_lead_after_go_up (core_and_reports c.args.core.now c.args.self.now) (core_and_reports c.go_up.new.core c.go_up.new.self) c.go_up.ensures.value
    c.requires.leads in
    let within = leader_trims_up_to_taken (core_and_reports c.args.core.now c.args.self.now)
    (core_and_reports c.go_up.new.core c.go_up.new.self) _ c.in-Some.taken c.go_up.ensures.value c.requires.leads c.requires.own c.go_up.ensures.kept
    (omega arith) (omega arith) least in
    rw c.trim_to.ensures.value (leader_may_lead_after_trim (reports_of c.go_up.new.self) c.go_up.new.core c.in-Some.taken order.kept order.accepted
    (omega arith) least leads)

pub returns-in-None-clause-leads : goal.returns-in-None-clause-leads
returns-in-None-clause-leads g c = may_lead_after_go_up (core_and_reports c.args.core.now c.args.self.now) (core_and_reports c.go_up.new.core c.go_up.new.self)
    c.go_up.ensures.value c.requires.leads
