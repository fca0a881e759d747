use Rattle.am_ordering.proofs.JoiningWords.{Some, None, refl, sym, ap, ◌∙◌, node_of, untrimmed_node_ends_itself, reply_with_poll, equal_reply_of_equal_plan, reply_quiet_with_outcome, reply_polls_with_outcome}
use Rattle.am_ordering.proofs.Joins.{join_ask_row_by_answer, join_rest_welcomes_again, join_rest_without_room, join_rest_numbers_join}
use Rattle.am_ordering.proofs.joining.on_join_ask.Goals as goal

pub returns-in-Some : goal.returns-in-Some
returns-in-Some c =
    let old = node_of c.args.parts.now in
    equal_reply_of_equal_plan (join_ask_row_by_answer old c.args.from _ _ (Some c.in-Some.answer) c.at_place-row.ensures.value c.accept_front.ensures.value
    (sym c.in-Some.is ∙ c.refusal_of-turned.ensures)) c.quiet.ensures (reply_quiet_with_outcome old old _ (untrimmed_node_ends_itself old))

pub returns-then-not-may_join : goal.returns-then-not-may_join
returns-then-not-may_join c =
    let old = node_of c.args.parts.now in
    equal_reply_of_equal_plan (join_ask_row_by_answer old c.args.from _ _ None c.at_place-row.ensures.value c.accept_front.ensures.value (sym c.in_default.is ∙ c.refusal_of-turned.ensures)
    ∙ join_rest_welcomes_again old c.args.from c.at_place-row.result (sym c.may_join.ensures ∙ c.if-not-may_join.true)) refl c.welcome_again.ensures

pub returns-then-not-has_room : goal.returns-then-not-has_room
returns-then-not-has_room c =
    let old = node_of c.args.parts.now in
    equal_reply_of_equal_plan (join_ask_row_by_answer old c.args.from _ _ None c.at_place-row.ensures.value c.accept_front.ensures.value (sym c.in_default.is ∙ c.refusal_of-turned.ensures)
    ∙ join_rest_without_room old c.args.from c.at_place-row.result (sym c.may_join.ensures ∙ c.if-not-may_join.false)
    (sym c.has_room.ensures.value ∙ c.if-not-has_room.true)) (c.polling.ensures ∙ ap reply_with_poll c.held_answer.ensures)
    (reply_polls_with_outcome old old _ (untrimmed_node_ends_itself old))

pub returns : goal.returns
returns c =
    let old = node_of c.args.parts.now in
    equal_reply_of_equal_plan (join_ask_row_by_answer old c.args.from _ _ None c.at_place-row.ensures.value c.accept_front.ensures.value (sym c.in_default.is ∙ c.refusal_of-turned.ensures)
    ∙ join_rest_numbers_join old c.args.from c.at_place-row.result (sym c.may_join.ensures ∙ c.if-not-may_join.false)
    (sym c.has_room.ensures.value ∙ c.if-not-has_room.false)) refl c.number_join.ensures
