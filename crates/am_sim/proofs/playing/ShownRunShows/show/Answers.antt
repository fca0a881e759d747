use Rattle.std.proofs.Common.{ap, sym, subst}
use Rattle.std.proofs.lemmas.Result.{on_ok_weaker}
use Rattle.am_io.specs.Buffers.{Goes}
use Rattle.am_group_defs.specs.Lawful.{watch_run}
use Rattle.am_sim.specs.Playing.{shown_text}
use Rattle.am_sim.proofs.playing.ShownRunShows.show.Goals as goal

pub returns-in-Text-clause-ok : goal.returns-in-Text-clause-ok
unfolding shown_text
returns-in-Text-clause-ok g c =
    let p = c.args.ran.now.world.now in
    on_ok_weaker c.show.result (subst (λ text. Goes g.K.Sink.contents g.K.Sink.count c.args.out.now text c.show.new.out)
    (ap (λ shown. shown_text shown p.rules (watch_run p.rules p.events)) (sym c.in-Text.is))) c.show.ensures.ok
