use Rattle.am_safety.proofs.Lives.{lives_are_told}
use Rattle.am_safety.proofs.sound_records.lives_are_told.Goals as goal

pub returns : goal.returns
returns c = lives_are_told
