use Rattle.am_node_calls.proofs.Words.{refl, sym, ◌∙◌, node_of, untrimmed_node_ends_itself, equal_reply_of_equal_plan, reply_quiet_with_outcome}
use Rattle.am_model.specs.declared.status.Status.TheVariants as status
use Rattle.am_node_calls.proofs.Ticks as ticks
use Rattle.am_node_calls.proofs.ticking.on_tick.Goals as goal

pub returns-in-Asking : goal.returns-in-Asking
returns-in-Asking c = equal_reply_of_equal_plan (ticks.tick_row_by_status (node_of c.args.parts.now) status.Asking (sym c.status.ensures ∙ c.in-Asking.is)) refl c.ask_to_join.ensures

pub returns-in_default : goal.returns-in_default
returns-in_default c =
    let old = node_of c.args.parts.now in
    equal_reply_of_equal_plan
    (ticks.tick_row_of_idle_node (node_of c.args.parts.now) (λ is. c.in_default.not-Asking (c.status.ensures ∙ is)) (λ is. c.in_default.not-Member (c.status.ensures ∙ is)))
    c.quiet.ensures (reply_quiet_with_outcome old old _ (untrimmed_node_ends_itself old))

pub returns-in-Member : goal.returns-in-Member
returns-in-Member c = equal_reply_of_equal_plan (ticks.tick_row_by_status (node_of c.args.parts.now) status.Member (sym c.status.ensures ∙ c.in-Member.is)) refl c.tick_with.ensures
