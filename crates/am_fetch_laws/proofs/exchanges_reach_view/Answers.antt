use Rattle.am_fetch_laws.proofs.Exchanged.{exchanges_bring_entries, exchanges_reach_view}
use Rattle.am_fetch_laws.proofs.exchanges_reach_view.Goals as goal

pub returns-clause-once : goal.returns-clause-once
returns-clause-once c = exchanges_bring_entries

pub returns-clause-all : goal.returns-clause-all
returns-clause-all c = exchanges_reach_view
