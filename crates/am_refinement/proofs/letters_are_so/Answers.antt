use Rattle.am_refinement.proofs.Sending.{sent_letters_say_so}
use Rattle.am_refinement.proofs.NodeKeeping.Silent.{departed_nodes_are_silent}
use Rattle.am_refinement.proofs.letters_are_so.Goals as goal

pub returns-clause-sent : goal.returns-clause-sent
returns-clause-sent c = sent_letters_say_so

pub returns-clause-departed : goal.returns-clause-departed
returns-clause-departed c = departed_nodes_are_silent
