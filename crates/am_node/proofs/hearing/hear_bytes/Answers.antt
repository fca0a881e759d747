use Rattle.std.proofs.Common.{ℕ, refl, sym, ap, ◌∙◌}
use Rattle.am_base.specs.declared.outcome.Outcome.TheVariants as said
use Rattle.am_model.specs.Step.{row_of_read_bytes}
use Rattle.am_node_parts.specs.Parts.{node_of}
use Rattle.am_node_parts.specs.Replies.{reply_without_letters}
use Rattle.am_node_parts.proofs.Ends.{untrimmed_node_ends_itself}
use Rattle.am_node_parts.proofs.Replying.{equal_reply_of_equal_plan, reply_quiet_with_outcome}
use Rattle.am_node.proofs.hearing.hear_bytes.Goals as goal

pub returns-in-Ok : goal.returns-in-Ok
returns-in-Ok c =
    let old = node_of c.args.parts.now in
    equal_reply_of_equal_plan (ap (row_of_read_bytes old) (sym c.decode.ensures.exact ∙ c.in-Ok.is)) refl c.hear.ensures

pub returns-in-Err : goal.returns-in-Err
returns-in-Err c =
    let old = node_of c.args.parts.now in
    equal_reply_of_equal_plan (ap (row_of_read_bytes old) (sym c.decode.ensures.exact ∙ c.in-Err.is))
    (c.quiet.ensures ∙ ap (λ (k : ℕ). reply_without_letters (said.Refused k)) c.cause.ensures.value) (reply_quiet_with_outcome old old _ (untrimmed_node_ends_itself old))
