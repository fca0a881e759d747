use Rattle.std.proofs.Common.{◌++◌, ◌∙◌, subst}
use Rattle.am_io.specs.Buffers.{Goes}
use Rattle.am_io.proofs.Buffers.{buffer_wrote_in_calls}
use Rattle.am_group_defs.specs.Play.{play_text_of}
use Rattle.am_group_defs.specs.Text.{newline}
use Rattle.am_sim.proofs.racing.write_events.Goals as goal

pub returns-clause-text : goal.returns-clause-text
returns-clause-text g c =
    let script = c.as_str.ensures.value ∙ c.in_ok-script.ensures.text in
    let world = c.in_ok-world.ensures in
    subst (λ text. Goes g.K.Sink.contents g.K.Sink.count c.args.out.now text c.push_race.new.out)
    (λ k. script k ++ (newline ++ play_text_of (world k).rules (world k).events))
    (buffer_wrote_in_calls g.K.Sink.contents g.K.Sink.count _ _ _ c.push_race.ensures)
