use Rattle.am_safety.proofs.Sound.{requests_in_turn}
use Rattle.am_safety.proofs.sound_records.requests_are_in_turn.Goals as goal

pub returns : goal.returns
returns c = requests_in_turn
