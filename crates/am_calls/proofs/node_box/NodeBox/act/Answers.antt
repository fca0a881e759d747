use Rattle.std.proofs.Common.{rules, ap, ◌∙◌}
use Rattle.am_race_laws.specs.Ready.{round_in}
use Rattle.am_race_laws.proofs.Boxing.{filled_blank_is_act_record, act_of_box_is_done, numbers_left_in_box, box_record_is_ready, box_after_committed_act, committed_box_has_acted}
use Rattle.am_race_laws.proofs.Hands.{act_tells_its_step}
use Rattle.am_calls.proofs.node_box.NodeBox.act.Goals as goal

pub step-outcome-requires : goal.step-outcome-requires
step-outcome-requires g c = record {
  numbers = numbers_left_in_box _ _ _ _ _ _ _ _ _ _ c.self.view_is c.self.invariant c.requires.open_ c.requires.few;
  room = c.in-Ok-room_for.ensures.spare;
  empty = c.in-Ok-room_for.ensures.out;
}

pub commit-requires-clause-ready : goal.commit-requires-clause-ready
commit-requires-clause-ready g c κs within =
    box_record_is_ready _ _ _ _ _ _ _ _ _ _ _ _ _ _ _ _ _
    (act_of_box_is_done _ _ _ _ _ _ _ _ _ _ _ _ _ _ _ _ _ _ c.self.view_is c.self.invariant c.requires.open_ c.requires.share c.requires.met c.requires.may c.requires.timely
    c.in-Ok-room_for.ensures.what c.step-outcome.ensures.steps) c.args.visit.now.wire.now.id _ c.requires.own
    (filled_blank_is_act_record c.in-Ok.ensures c.copy_into.ensures c.into_letters-letters.ensures)
    c.step-outcome.ensures.few

pub invariant_of-self-in-Ok-commit : goal.invariant_of-self-in-Ok-commit
invariant_of-self-in-Ok-commit g c =
    box_after_committed_act _ _ _ _ _ _ _ _ _ _ _ _ _ _ _ _ _
    (act_of_box_is_done _ _ _ _ _ _ _ _ _ _ _ _ _ _ _ _ _ _ c.self.view_is c.self.invariant c.requires.open_ c.requires.share c.requires.met c.requires.may c.requires.timely
    c.in-Ok-room_for.ensures.what c.step-outcome.ensures.steps) _ _ _ _ _ _ _
    (filled_blank_is_act_record c.in-Ok.ensures c.copy_into.ensures c.into_letters-letters.ensures)
    c.in-Ok-commit.ensures.ok (search rules) (search rules) c.stops_by-self-inside.ensures c.commit.ensures.lawful

pub returns-in-Ok-commit-clause-ok : goal.returns-in-Ok-commit-clause-ok
returns-in-Ok-commit-clause-ok g c =
    committed_box_has_acted _ _ _ _ _ _ _ _ _ _ _ _ _ _ _ _ _
    (act_of_box_is_done _ _ _ _ _ _ _ _ _ _ _ _ _ _ _ _ _ _ c.self.view_is c.self.invariant c.requires.open_ c.requires.share c.requires.met c.requires.may c.requires.timely
    c.in-Ok-room_for.ensures.what c.step-outcome.ensures.steps) _ _ _ _ _ _ c.self.view_is
    (filled_blank_is_act_record c.in-Ok.ensures c.copy_into.ensures c.into_letters-letters.ensures)
    c.in-Ok-commit.ensures.ok (λ i. c.step-outcome.result) (c.round_in-round.ensures ∙ ap round_in c.letters.ensures.value)

pub returns-in-Ok-commit-clause-told : goal.returns-in-Ok-commit-clause-told
returns-in-Ok-commit-clause-told g c =
    act_tells_its_step _ _ _ _ _ _ _ _ _ _ _ _ _ _ _ c.self.view_is c.self.invariant c.requires.open_ c.in-Ok-room_for.ensures.what c.step-outcome.ensures.steps
