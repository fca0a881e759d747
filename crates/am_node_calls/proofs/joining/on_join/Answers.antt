use Rattle.am_node_calls.proofs.Words.{refl, sym, ap, ◌∙◌, Node, node_of, untrimmed_node_ends_itself, ask_to_join, equal_reply_of_equal_plan, reply_quiet_with_outcome}
use Rattle.am_base.specs.declared.outcome.Outcome.TheVariants as said
use Rattle.am_model.specs.declared.status.Status.TheVariants as status
use Rattle.am_node_calls.proofs.Rows.{join_row_by_status}
use Rattle.am_node_calls.proofs.joining.on_join.Goals as goal

pub returns-in-Some : goal.returns-in-Some
returns-in-Some c =
    let old = node_of c.args.parts.now in
    equal_reply_of_equal_plan c.in-Some.ensures.told c.quiet.ensures (reply_quiet_with_outcome old old _ (untrimmed_node_ends_itself old))

pub returns-in-None : goal.returns-in-None
returns-in-None c =
    equal_reply_of_equal_plan (join_row_by_status (node_of c.args.parts.now) status.Stranger c.in-None.ensures.asks
    ∙ ap (λ (x : Node). ask_to_join x said.Asked) (sym c.set_status.ensures)) refl c.ask_to_join.ensures
