use Rattle.am_resetting.proofs.VotingWords.{sym, ◌∙◌, has, node_of, untrimmed_node_ends_itself, members, is_member, reset_row, both_of_and, status_of_member_has_log, equal_reply_of_plan, reply_without_letters}
use Rattle.am_base.specs.declared.outcome.Outcome.TheVariants as said
use Rattle.am_resetting.proofs.VoteRows.{reset_row_of_no_member, reset_row_of_leaver, reset_row_begins_ballot}
use Rattle.am_resetting.proofs.voting.on_reset.Goals as goal

pub returns-then-not-is_member : goal.returns-then-not-is_member
returns-then-not-is_member c =
    let old = node_of c.args.parts.now in
    equal_reply_of_plan (reset_row old c.args.least c.args.resilience) c.quiet.result (reply_without_letters said.NotMember) old c.quiet.ensures
    (reset_row_of_no_member old old c.args.least c.args.resilience (sym c.is_member.ensures ∙ c.if-not-is_member.true) (untrimmed_node_ends_itself old c.accept_front-front.ensures.order.kept))

pub returns-then-is_leaving : goal.returns-then-is_leaving
returns-then-is_leaving c =
    let old = node_of c.args.parts.now in
    equal_reply_of_plan (reset_row old c.args.least c.args.resilience) c.quiet-then-is_leaving.result (reply_without_letters said.Leaving) old c.quiet-then-is_leaving.ensures
    (reset_row_of_leaver old old c.args.least c.args.resilience (sym c.is_member.ensures
    ∙ c.if-not-is_member.false) (sym c.is_leaving.ensures ∙ c.if-is_leaving.true) (untrimmed_node_ends_itself old c.accept_front-front.ensures.order.kept))

pub returns : goal.returns
returns c =
    let old = node_of c.args.parts.now in
    reset_row_begins_ballot old (node_of c.begin.new.parts) c.args.least c.args.resilience c.begin.result (sym c.is_member.ensures
    ∙ c.if-not-is_member.false) (sym c.is_leaving.ensures ∙ c.if-is_leaving.false) c.begin.ensures

pub begin-requires-clause-logged : goal.begin-requires-clause-logged
begin-requires-clause-logged c =
    let old = node_of c.args.parts.now in
    status_of_member_has_log old.status (both_of_and (is_member old.status) (has (members old) old.core.who) (sym c.is_member.ensures ∙ c.if-not-is_member.false)).0
