use Rattle.am_node_calls.proofs.Words.{refl, sym, ◌∙◌, node_of, equal_reply_of_equal_plan}
use Rattle.am_node_calls.proofs.Ticks as ticks
use Rattle.am_node_calls.proofs.ticking.tick_acting.Goals as goal

pub returns-then-not-acts : goal.returns-then-not-acts
returns-then-not-acts c =
    equal_reply_of_equal_plan (ticks.tick_acting_of_promised (node_of c.args.parts.now) (sym c.acts.ensures.value ∙ c.if-not-acts.true)) refl c.tick_promised.ensures

pub returns-then-is_sequencer : goal.returns-then-is_sequencer
returns-then-is_sequencer c =
    equal_reply_of_equal_plan
    (ticks.tick_acting_as_sequencer (node_of c.args.parts.now) (sym c.acts.ensures.value ∙ c.if-not-acts.false) (sym c.is_sequencer.ensures.value ∙ c.if-is_sequencer.true))
    refl c.tick_sequencer.ensures

pub returns : goal.returns
returns c =
    equal_reply_of_equal_plan
    (ticks.tick_acting_as_member (node_of c.args.parts.now) (sym c.acts.ensures.value ∙ c.if-not-acts.false)
    (sym c.is_sequencer.ensures.value ∙ c.if-is_sequencer.false))
    refl c.tick_member.ensures
