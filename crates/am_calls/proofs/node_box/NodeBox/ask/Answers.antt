use Rattle.am_race_laws.proofs.Hands.{asked_act_may_be_done, asked_act_is_timely}
use Rattle.am_race_laws.proofs.Looking.{hand_after_asked_act, asked_act_is_done, unasked_act_adds_no_record, hand_after_refused_act, refused_box_gives_refusal}
use Rattle.am_calls.proofs.node_box.NodeBox.ask.Goals as goal

pub act-requires-clause-may : goal.act-requires-clause-may
act-requires-clause-may g c = asked_act_may_be_done c.args.self.now.seen c.args.self.now.name c.args.act c.requires.met.runs c.requires.asks

pub act-requires-clause-timely : goal.act-requires-clause-timely
act-requires-clause-timely g c =
    asked_act_is_timely _ _ _ _ _ _ _ _ _ c.args.self.now c.args.act c.args.by c.self.view_is c.self.invariant c.requires.no_turn c.requires.due

pub returns-in-Ok-clause-hand : goal.returns-in-Ok-clause-hand
returns-in-Ok-clause-hand g c =
    hand_after_asked_act _ _ c.args.self.now c.act.new.self _ _ _ c.args.act c.args.by c.requires.met.hand c.act.ensures.share c.in-Ok.came c.requires.no_turn
    c.in-Ok.ensures.ok

pub returns-in-Ok-clause-ok : goal.returns-in-Ok-clause-ok
returns-in-Ok-clause-ok g c =
    asked_act_is_done _ _ c.args.self.now c.act.new.self _ _ _ c.args.act c.args.by c.requires.met.hand c.act.ensures.share c.in-Ok.came c.requires.met.same
    c.in-Ok.ensures.ok c.in-Ok.ensures.told

pub returns-in-Err-clause-hand : goal.returns-in-Err-clause-hand
returns-in-Err-clause-hand g c = hand_after_refused_act _ _ c.args.self.now c.act.new.self _ _ _ c.args.act c.args.by c.requires.met.hand c.act.ensures.share
    c.in-Err.ensures.caller

pub returns-in-Err-clause-err : goal.returns-in-Err-clause-err
returns-in-Err-clause-err g c = (
  unasked_act_adds_no_record _ _ c.args.self.now c.act.new.self _ _ _ c.args.act c.args.by c.requires.met.hand c.act.ensures.share c.in-Err.ensures.caller,
  refused_box_gives_refusal c.args.self.now.name c.act.new.self.seen c.act.new.share.seen c.in-Err.refusal _ c.act.ensures.both c.in-Err.ensures.spent c.answer_of.ensures,
)
