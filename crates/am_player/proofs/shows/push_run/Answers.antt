use Rattle.std.proofs.Common.{refl, subst}
use Rattle.std.specs.Fmt.{WritesInCalls}
use Rattle.am_player.proofs.Texts.{text_of_world_is_watched}
use Rattle.am_player.proofs.shows.push_run.Goals as goal

pub returns : goal.returns
returns g c =
    let j = c.journal in
    subst (λ text. WritesInCalls g.O.Writer.writes c.args.out.now text c.push_play.new.out)
    (text_of_world_is_watched c.args.world.now _ j.result.now.founding j.result.now.records c.group.result.now c.args.names.now c.broken_at.result j.ensures.founding
    j.ensures.records c.group.ensures.value c.requires c.broken_at.ensures refl) c.push_play.ensures
