use Rattle.am_report.proofs.Names.{all_lives_are_first_lives}
use Rattle.am_report.proofs.name.are_first.Goals as goal

pub returns : goal.returns
returns c = all_lives_are_first_lives _ _ c.are_first_lives.ensures
