use Rattle.am_fetch_laws.proofs.Asking.{members_fetch}
use Rattle.am_fetch_laws.proofs.Storing.{pieces_are_stored, results_are_stored, results_are_fetched}
use Rattle.am_fetch_laws.proofs.members_behind_follow.Goals as goal

pub returns-clause-fetch : goal.returns-clause-fetch
returns-clause-fetch c = members_fetch

pub returns-clause-pieces : goal.returns-clause-pieces
returns-clause-pieces c = pieces_are_stored

pub returns-clause-results : goal.returns-clause-results
returns-clause-results c = results_are_stored

pub returns-clause-gaps : goal.returns-clause-gaps
returns-clause-gaps c = results_are_fetched
