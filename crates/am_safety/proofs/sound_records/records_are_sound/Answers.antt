use Rattle.am_safety.proofs.Sound.{records_are_sound}
use Rattle.am_safety.proofs.sound_records.records_are_sound.Goals as goal

pub returns : goal.returns
returns c = records_are_sound
