use Rattle.am_node_calls.proofs.Words.{refl, sym, ◌∙◌, node_of, untrimmed_node_ends_itself, equal_reply_of_equal_plan}
use Rattle.am_node_calls.proofs.Ticks as ticks
use Rattle.am_node_calls.proofs.ticking.tick_sequencer.Goals as goal

pub returns-then-is_leaving : goal.returns-then-is_leaving
returns-then-is_leaving c =
    equal_reply_of_equal_plan
    (ticks.tick_sequencer_that_leaves (node_of c.args.parts.now) (sym c.is_leaving.ensures ∙ c.if-is_leaving.true)
    (c.args.parts.now.keeps.settled (sym c.is_leaving.ensures ∙ c.if-is_leaving.true)))
    refl c.poll_leaving.ensures

pub poll_leaving-requires-clause-idle : goal.poll_leaving-requires-clause-idle
poll_leaving-requires-clause-idle c =
    c.args.parts.now.keeps.settled (sym c.is_leaving.ensures ∙ c.if-is_leaving.true)

pub returns-then-not-has_waiting : goal.returns-then-not-has_waiting
returns-then-not-has_waiting c =
    let old = node_of c.args.parts.now in
    equal_reply_of_equal_plan
    (ticks.tick_sequencer_without_waiting old (sym c.is_leaving.ensures ∙ c.if-is_leaving.false) (sym c.has_waiting.ensures ∙ c.if-not-has_waiting.true))
    c.polled.ensures (ticks.polling_tick_replies old old _ (untrimmed_node_ends_itself old))
