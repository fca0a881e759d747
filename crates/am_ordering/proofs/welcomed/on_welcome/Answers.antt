use Rattle.am_ordering.proofs.JoiningWords.{refl, ap, sym, ◌∙◌, subst, Node, node_of_welcomed, ask_for_next_entries, node_of, untrimmed_node_ends_itself, is_unfit, Replies, equal_reply_of_equal_plan, reply_quiet_with_outcome}
use Rattle.am_ordering.proofs.Begun.{welcome_row_of_member, welcome_row_is_elsewhere, welcome_row_of_unfit_image, welcome_row_begins_list, status_not_member_asks}
use Rattle.am_ordering.proofs.welcomed.on_welcome.Goals as goal

pub returns-then-is_member : goal.returns-then-is_member
returns-then-is_member c =
    let told = c.args.told.now in
    let old = node_of c.args.parts.now in
    equal_reply_of_equal_plan (welcome_row_of_member old told.sender told.stamp told.base told.join c.args.image.now (sym c.is_member.ensures ∙ c.if-is_member.true))
    c.quiet.ensures (reply_quiet_with_outcome old old _ (untrimmed_node_ends_itself old))

pub returns-then-has_promised_more : goal.returns-then-has_promised_more
returns-then-has_promised_more c =
    let told = c.args.told.now in
    let old = node_of c.args.parts.now in
    equal_reply_of_equal_plan (welcome_row_is_elsewhere old told.sender told.stamp told.base told.join c.args.image.now (sym c.is_member.ensures ∙ c.if-is_member.false)
    (sym c.has_promised_more.ensures ∙ c.if-has_promised_more.true))
    c.quiet-then-has_promised_more.ensures (reply_quiet_with_outcome old old _ (untrimmed_node_ends_itself old))

pub returns-then-is_unfit : goal.returns-then-is_unfit
returns-then-is_unfit c =
    let told = c.args.told.now in
    let old = node_of c.args.parts.now in
    let unfit = ap (is_unfit old told.stamp told.base told.join) (sym c.to_image-image.ensures) ∙ sym c.is_unfit.ensures ∙ c.if-is_unfit.true in
    equal_reply_of_equal_plan (welcome_row_of_unfit_image old told.sender told.stamp told.base told.join c.args.image.now (sym c.is_member.ensures ∙ c.if-is_member.false)
    (sym c.has_promised_more.ensures ∙ c.if-has_promised_more.false) unfit)
    c.quiet-then-is_unfit.ensures (reply_quiet_with_outcome old old _ (untrimmed_node_ends_itself old))

pub begin-requires-clause-asking : goal.begin-requires-clause-asking
begin-requires-clause-asking c = status_not_member_asks (node_of c.args.parts.now).status c.requires.hears (sym c.is_member.ensures ∙ c.if-is_member.false)

pub returns : goal.returns
returns c =
    let told = c.args.told.now in
    let old = node_of c.args.parts.now in
    let fit = ap (is_unfit old told.stamp told.base told.join) (sym c.to_image-image.ensures) ∙ sym c.is_unfit.ensures ∙ c.if-is_unfit.false in
    let began = c.begin.ensures ∙ ap (node_of_welcomed old told.stamp told.base told.join) c.to_image-image.ensures in
    let new = node_of c.begin.new.parts in
    let P : Node → Type 0 = λ x. Replies (ask_for_next_entries x told.sender told.stamp told.join) c.ask_on.result new in
    equal_reply_of_equal_plan (welcome_row_begins_list old told.sender told.stamp told.base told.join c.args.image.now (sym c.is_member.ensures ∙ c.if-is_member.false)
    (sym c.has_promised_more.ensures ∙ c.if-has_promised_more.false) fit)
    refl (subst P began c.ask_on.ensures)
