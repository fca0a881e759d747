use Rattle.std.proofs.Common.{◌++◌, [], take, subst, sym, ◌∙◌, refl}
use Rattle.am_io.proofs.Bytes.{source_consumed_both_parts}
use Rattle.am_group_defs.specs.World.{first_node}
use Rattle.am_node_lines.specs.declared.ending.SpokenEnd.{SpokenEnd}
use Rattle.am_node_lines.specs.Speaking.{Spoke}
use Rattle.am_node_lines.proofs.Talks.{spoke_all_answers, spoke_up_to_last_line, spoke_part_of_answers, source_consumed_up_to_end, source_consumed_nothing}
use Rattle.am_node_lines.proofs.speaking.speak.Goals as goal
use Rattle.am_node_lines.proofs.speaking.speak.Goals.{in-Ok-end_line, in-Err}

pub reads-init : goal.reads-init
reads-init g c = record {
  talks = ([], source_consumed_nothing (g.S.Source.left c.args.source.now), c.in-Ok.ensures (g.K.Sink.contents c.args.sink.now));
  reads = refl;
  writes = refl;
}

pub returns-in-End-clause-spoke : goal.returns-in-End-clause-spoke
returns-in-End-clause-spoke g c =
    let start = g.K.Sink.contents c.args.sink.now in
    let before = g.S.Source.left c.args.source.now in
    let after = g.S.Source.left c.read.new.self in
    let P : SpokenEnd → Type 0 = λ end. Spoke c.args.founding.now c.args.name end before after start (g.K.Sink.contents c.end_line.new.sink) in
    let given = c.reads.invariant.talks.0 in
    elim c.match-end_line.branch [
      | in-Ok-end_line w ↦ subst P (sym w.result-is)
          (spoke_all_answers c.args.founding.now c.args.name before _ after start _ given _ _ c.reads.invariant.talks.1 c.in-End.ensures.end
          (w.in-Ok-end_line.ensures.talks c.args.founding.now (first_node c.args.founding.now c.args.name) start given c.reads.invariant.talks.2))
      | in-Err w ↦ subst P (sym (w.result-is ∙ w.end.ensures))
          (spoke_up_to_last_line c.args.founding.now c.args.name w.in-Err.fault before before after start _ given
          (source_consumed_up_to_end given before _ after c.reads.invariant.talks.1 c.in-End.ensures.end)
          (w.in-Err.ensures.talks c.args.founding.now (first_node c.args.founding.now c.args.name) start given c.reads.invariant.talks.2))
    ]

pub returns-in-Err-take_all-clause-spoke : goal.returns-in-Err-take_all-clause-spoke
returns-in-Err-take_all-clause-spoke g c =
    let start = g.K.Sink.contents c.args.sink.now in
    let before = g.S.Source.left c.args.source.now in
    let after = g.S.Source.left c.read.new.self in
    subst (λ end. Spoke c.args.founding.now c.args.name end before after start (g.K.Sink.contents c.take_all.new.sink)) (sym c.end-in-Err-take_all.ensures)
    (spoke_part_of_answers c.args.founding.now c.args.name c.in-Err-take_all.fault before after start _ (c.reads.invariant.talks.0 ++ take c.in-Took.n c.read.new.into)
    (source_consumed_both_parts before _ after _ _ c.reads.invariant.talks.1 c.in-Took.ensures.took)
    (c.in-Err-take_all.ensures.talks c.args.founding.now (first_node c.args.founding.now c.args.name) start _ c.reads.invariant.talks.2))

pub reads-preserved : goal.reads-preserved
reads-preserved g c =
    let given = c.reads.invariant.talks.0 in
    record {
      talks = (
        given ++ take c.in-Took.n c.read.new.into,
        source_consumed_both_parts (g.S.Source.left c.args.source.now) _ (g.S.Source.left c.read.new.self) given _ c.reads.invariant.talks.1 c.in-Took.ensures.took,
        c.in_default-take_all.ensures.talks c.args.founding.now (first_node c.args.founding.now c.args.name) (g.K.Sink.contents c.args.sink.now) given c.reads.invariant.talks.2,
      );
      reads = c.in-Took.ensures.counts ∙ c.reads.invariant.reads;
      writes = c.in_default-take_all.ensures.counts ∙ c.reads.invariant.writes;
    }
