use Rattle.am_node_defs.specs.Reports.{reports_of}
use Rattle.am_node.proofs.Founders.{FoundersReportedUpTo}
use Rattle.am_node.proofs.founding.first_reports.Given as goal

abbrev pub invariant-loop-byte : goal.invariant-loop-byte
invariant-loop-byte l = FoundersReportedUpTo l.founders (reports_of l.fronts) l.byte
