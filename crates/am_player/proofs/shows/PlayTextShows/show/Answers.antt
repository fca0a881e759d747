use Rattle.am_io.proofs.Buffers.{buffer_wrote_in_calls}
use Rattle.am_player.proofs.shows.PlayTextShows.show.Goals as goal

pub returns-clause-ok : goal.returns-clause-ok
returns-clause-ok g c = buffer_wrote_in_calls g.K.Sink.contents g.K.Sink.count _ _ _ c.push_run.ensures
