-- What a sequencer does at the beginning and at the end of a step.
use Rattle.std.specs.Prelude.{◌≡◌, ℕ, ◌⊎◌, max, List, Option, Some, None, true}
use Rattle.am_base.specs.declared.image.Report.{Report}
use Rattle.am_base.specs.declared.entry.Entry.TheVariants.{Leave}
use Rattle.am_base.specs.Names.{has, size}
use Rattle.am_base.specs.Lists.{Log, top_of_log, image_of_log, log_entry_at, members_of_image}
use Rattle.am_base.specs.Fronts.{accept_front}
use Rattle.am_node_defs.specs.Cores.{CoreState, CoreKeepsEndOf, core_with_log, advance_core, members_since_accepted}
use Rattle.am_node_defs.specs.Reports.{reports_of, reports_after_report, least_taken_of_names}

-- a core with what each name has reported
pub record CoreWithReports : Type 0 where
  pub core : CoreState
  pub reports : ℕ → Report

-- its own report is what it has
abbrev pub core_report : CoreState → Report
core_report c = record { stored = top_of_log c.log; taken = c.taken }

unfoldable pub raise_own_report : CoreWithReports → CoreWithReports
raise_own_report s = record s { reports = reports_after_report s.reports s.core.who (core_report s.core) }

-- what is told is the accept front
unfoldable pub tell_accept_front : CoreWithReports → CoreWithReports
tell_accept_front s = record s { core = record s.core { told = accept_front s.reports s.core.log s.core.acc } }

-- what is accepted goes on, and a joiner passes over what is below its Join
unfoldable pub advance_with_reports : CoreWithReports → CoreWithReports
advance_with_reports s = record s { core = advance_core s.core }

-- the base after a trim to a number that may be there
abbrev pub base_after_trim : Option ℕ → ℕ → ℕ
base_after_trim None base = base
base_after_trim (Some to) base = max base to

-- the list is trimmed to what all who may need it have taken
unfoldable pub trim_to_least_taken : CoreWithReports → CoreWithReports
trim_to_least_taken s = record s { core = record s.core { base = base_after_trim (least_taken_of_names s.reports (members_since_accepted s.core)) s.core.base } }

-- what is accepted goes as far as the reports let it
abbrev pub raise_accepted_by_reports : CoreWithReports → CoreWithReports
raise_accepted_by_reports s = raise_own_report (advance_with_reports (tell_accept_front (raise_own_report s)))

-- the whole refresh
abbrev pub refresh_with_reports : CoreWithReports → CoreWithReports
refresh_with_reports s = trim_to_least_taken (raise_accepted_by_reports s)

-- the same with this list
abbrev pub reports_with_log : Log → CoreWithReports → CoreWithReports
reports_with_log all s = record s { core = core_with_log all s.core }

abbrev pub core_and_reports : CoreState → List Report → CoreWithReports
core_and_reports core kept = record { core = core; reports = reports_of kept }

-- core and reports change as the protocol's
abbrev pub RefreshesAlike : (CoreWithReports → CoreWithReports) → CoreWithReports → CoreWithReports → Type 0
RefreshesAlike f old new = (all : Log) → CoreKeepsEndOf all old.core → CoreKeepsEndOf all new.core × (reports_with_log all new ≡ f (reports_with_log all old))

-- and doing it again changes nothing
abbrev pub SecondChangesNothing : (CoreWithReports → CoreWithReports) → CoreWithReports → CoreWithReports → Type 0
SecondChangesNothing f old new = (all : Log) → CoreKeepsEndOf all old.core → f (reports_with_log all new) ≡ reports_with_log all new

-- the node is a member, or its own Leave stands last and nobody is left
abbrev pub IsMemberOrLastLeaver : CoreState → Type 0
IsMemberOrLastLeaver c = (has (members_of_image (image_of_log c.log)) c.who ≡ true) ⊎ ((log_entry_at c.log (top_of_log c.log) ≡ Some (Leave c.who)) × (size (members_of_image (image_of_log c.log)) ≡ 0))
