use Rattle.am_node_defs.proofs.ReportLaws.{reports_of_no_reports}
use Rattle.am_node_storage.proofs.fronts.Fronts.new.Goals as goal

pub returns : goal.returns
returns c = reports_of_no_reports 256
