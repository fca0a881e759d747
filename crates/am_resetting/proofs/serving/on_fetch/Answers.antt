use Rattle.am_resetting.proofs.CatchingWords.{true, false, sym, ◌∙◌, node_of, untrimmed_node_ends_itself, reply_without_letters, reply_with_telling, fetch_row, equal_reply_of_plan}
use Rattle.am_base.specs.declared.outcome.Outcome.TheVariants as said
use Rattle.am_node_parts.specs.declared.reply.Telling.TheVariants as tell
use Rattle.am_resetting.proofs.Serves.{fetch_row_is_elsewhere, fetch_row_is_behind, fetch_row_serves_entries, stored_number_may_be_given}
use Rattle.am_resetting.proofs.serving.on_fetch.Goals as goal

pub returns-then-not-may_fetch : goal.returns-then-not-may_fetch
returns-then-not-may_fetch c =
    let old = node_of c.args.parts.now in
    equal_reply_of_plan (fetch_row old c.args.from c.args.stamp c.args.stored) c.quiet.result (reply_without_letters said.Elsewhere) old c.quiet.ensures
    (fetch_row_is_elsewhere old old c.args.from c.args.stamp c.args.stored (sym c.may_fetch.ensures ∙ c.if-not-may_fetch.true) (untrimmed_node_ends_itself old))

pub returns-then-is_out_of_reach : goal.returns-then-is_out_of_reach
returns-then-is_out_of_reach c =
    let old = node_of c.args.parts.now in
    equal_reply_of_plan (fetch_row old c.args.from c.args.stamp c.args.stored) c.quiet-then-is_out_of_reach.result (reply_without_letters said.Behind) old
    c.quiet-then-is_out_of_reach.ensures
    (fetch_row_is_behind old old c.args.from c.args.stamp c.args.stored (sym c.may_fetch.ensures ∙ c.if-not-may_fetch.false) (sym c.is_out_of_reach.ensures
    ∙ c.if-is_out_of_reach.true) (untrimmed_node_ends_itself old))

pub count_above-count-requires : goal.count_above-count-requires
count_above-count-requires c = stored_number_may_be_given (node_of c.args.parts.now) c.args.stored (sym c.is_out_of_reach.ensures ∙ c.if-is_out_of_reach.false)

pub returns : goal.returns
returns c =
    let old = node_of c.args.parts.now in
    equal_reply_of_plan (fetch_row old c.args.from c.args.stamp c.args.stored) c.saying.result
    (reply_with_telling (said.Served c.count_above-count.result) (tell.Entries c.args.from c.args.stored true)) old c.saying.ensures
    (fetch_row_serves_entries old c.args.from c.args.stamp c.args.stored c.count_above-count.result (sym c.may_fetch.ensures ∙ c.if-not-may_fetch.false)
    (sym c.is_out_of_reach.ensures ∙ c.if-is_out_of_reach.false) c.count_above-count.ensures)
