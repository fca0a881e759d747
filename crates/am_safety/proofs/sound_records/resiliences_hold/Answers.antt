use Rattle.am_safety.proofs.RaisedRuns.{resiliences_hold}
use Rattle.am_safety.proofs.sound_records.resiliences_hold.Goals as goal

pub returns : goal.returns
returns c = resiliences_hold
