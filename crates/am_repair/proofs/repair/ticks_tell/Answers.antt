use Rattle.am_repair.proofs.Ticks.{sequencers_poll, members_report}
use Rattle.am_repair.proofs.repair.ticks_tell.Goals as goal

pub returns-clause-poll : goal.returns-clause-poll
returns-clause-poll c = sequencers_poll

pub returns-clause-report : goal.returns-clause-report
returns-clause-report c = members_report
