use Rattle.am_repair.proofs.Ends.{fronts_rise}
use Rattle.am_repair.proofs.Sequencers.{reports_are_taken, nacks_are_served}
use Rattle.am_repair.proofs.repair.sequencers_serve.Goals as goal

pub returns : goal.returns
returns c = record { reports = reports_are_taken; entries = nacks_are_served; fronts = fronts_rise }
