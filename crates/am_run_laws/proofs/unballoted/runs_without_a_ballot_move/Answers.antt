use Rattle.am_run_laws.proofs.Moves.{unballoted_events_move_by_record}
use Rattle.am_run_laws.proofs.unballoted.runs_without_a_ballot_move.Goals as goal

pub returns : goal.returns
returns c = unballoted_events_move_by_record
