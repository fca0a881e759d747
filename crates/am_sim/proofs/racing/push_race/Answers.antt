use Rattle.std.proofs.Common.{refl}
use Rattle.am_io.proofs.Writers.{three_words_written_in_calls}
use Rattle.am_sim.proofs.racing.push_race.Goals as goal

pub returns : goal.returns
returns g c = three_words_written_in_calls g.O.Writer.writes _ _ _ _ _ _ _ _ c.put.ensures c.put-2.ensures c.push_run.ensures refl
