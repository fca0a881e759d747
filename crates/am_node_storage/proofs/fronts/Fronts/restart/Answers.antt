use Rattle.am_node_defs.proofs.ReportLaws.{reports_of_restarted_names}
use Rattle.am_node_storage.proofs.fronts.Fronts.restart.Goals as goal

pub returns : goal.returns
returns c = reports_of_restarted_names 256 c.args.base
