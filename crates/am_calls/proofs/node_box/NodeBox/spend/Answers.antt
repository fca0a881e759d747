use Rattle.std.proofs.Common.{ap, ◌∙◌}
use Rattle.am_shared_journal_defs.specs.Choices.{Luck}
use Rattle.am_race_laws.specs.Going.{luck_behind}
use Rattle.am_race_laws.proofs.Boxing.{running_box_still_runs}
use Rattle.am_race_laws.proofs.Hands.{turn_of_call_is_timely}
use Rattle.am_race_laws.proofs.Looking.{box_turn_may_be_done, hand_after_acted_turn, caller_records_grow_by_turn, refused_turn_adds_no_record, hand_after_refused_turn, refused_box_gives_refusal}
use Rattle.am_calls.proofs.node_box.NodeBox.spend.Goals as goal

pub act-requires-clause-may : goal.act-requires-clause-may
act-requires-clause-may g c =
    box_turn_may_be_done g.N.Racing.plan c.args.self.now c.turn-turn.new.self _ _ _ _ c.turn-turn.ensures.looks c.as_ref.ensures.value
    (running_box_still_runs _ _ _ _ _ _ _ _ _ c.args.self.now c.turn-turn.new.self c.self.view_is c.self.invariant c.turn-turn.ensures.looks c.requires.met.runs)
    c.turn-turn.ensures.turn c.turn-turn.ensures.hears

pub act-requires-clause-timely : goal.act-requires-clause-timely
act-requires-clause-timely g c =
    turn_of_call_is_timely g.N.Racing.plan c.turn-turn.new.self.seen c.args.self.now.name c.turn-turn.new.self.name _ _ c.args.visit.now.tag c.turn-turn.result.lost
    c.turn-turn.ensures.looks.name c.with-by.ensures c.turn-turn.ensures.turn

pub returns-in-Ok-act-clause-hand : goal.returns-in-Ok-act-clause-hand
returns-in-Ok-act-clause-hand g c =
    hand_after_acted_turn _ _ c.args.visit.now.tag c.args.self.now c.turn-turn.new.self _ _ _ _ _ _ _ _ _ c.requires.met.hand c.turn-turn.ensures.looks
    c.turn-turn.ensures.share c.act.ensures.share c.with-by.ensures
    c.in-Ok-act.came c.in-Ok-act.ensures.ok (c.turn-turn.ensures.drawn
    ∙ ap (λ (l : Luck). luck_behind l c.turn-turn.result.act c.turn-turn.result.lost) c.in-Ok.ensures)

pub returns-in-Ok-act-clause-ok : goal.returns-in-Ok-act-clause-ok
returns-in-Ok-act-clause-ok g c =
    caller_records_grow_by_turn _ _ c.args.visit.now.tag c.args.self.now c.turn-turn.new.self _ _ _ _ _ c.turn-turn.new.chooser _ _ _ c.requires.met.hand
    c.turn-turn.ensures.looks c.turn-turn.ensures.share c.act.ensures.share c.with-by.ensures
    c.in-Ok-act.came c.in-Ok-act.ensures.ok

pub returns-in-Err-clause-hand : goal.returns-in-Err-clause-hand
returns-in-Err-clause-hand g c =
    hand_after_refused_turn _ _ c.args.visit.now.tag c.args.self.now c.turn-turn.new.self c.act.new.self _ _ _ _ c.turn-turn.new.chooser c.turn-turn.result.act
    c.turn-turn.result.lost _ c.requires.met.hand c.turn-turn.ensures.looks
    c.turn-turn.ensures.share c.act.ensures.share c.with-by.ensures c.in-Err.ensures.caller

pub returns-in-Err-clause-err : goal.returns-in-Err-clause-err
returns-in-Err-clause-err g c = (
  refused_turn_adds_no_record _ _ c.args.visit.now.tag c.args.self.now c.turn-turn.new.self c.act.new.self _ _ _ _ c.turn-turn.new.chooser c.turn-turn.result.act
      c.turn-turn.result.lost _ c.requires.met.hand c.turn-turn.ensures.looks
      c.turn-turn.ensures.share c.act.ensures.share c.with-by.ensures c.in-Err.ensures.caller,
  refused_box_gives_refusal c.args.self.now.name c.act.new.self.seen c.act.new.share.seen c.in-Err.refusal _ c.act.ensures.both c.in-Err.ensures.spent c.answer_of.ensures,
)
