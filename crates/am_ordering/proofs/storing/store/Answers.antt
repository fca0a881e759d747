use Rattle.am_ordering.proofs.ReceivingWords.{◌≡◌, sym, ap, ◌∙◌, arith, Node, push_entry, bodies_after_stored_entry, acknowledges, node_of, untrimmed_node_ends_itself, ◌+◌}
use Rattle.am_ordering.proofs.ReceivingWords.{push_keeps_node_order, status_of_member_has_log, reply_with_telling, equal_reply_of_equal_plan, reply_quiet_with_outcome}
use Rattle.am_base.specs.declared.outcome.Outcome.TheVariants as said
use Rattle.am_ordering.proofs.{Kept.stored_entry_replies_ack, ReceivingRows.store_of_unfit_entry, ReceivingRows.store_of_fitting_entry, ReceivingRows.entry_is_fit_to_store}
use Rattle.am_ordering.proofs.storing.store.Goals as goal

pub returns-then-is_unfit : goal.returns-then-is_unfit
returns-then-is_unfit c = λ missing.
    let old = node_of c.args.parts.now in
    let told = c.args.told in
    equal_reply_of_equal_plan (store_of_unfit_entry old told.sender told.number c.args.entry.now missing (sym c.is_unfit.ensures.value
    ∙ c.if-is_unfit.true)) c.quiet.ensures (reply_quiet_with_outcome old old _ (untrimmed_node_ends_itself old))

pub push-requires-clause-fits : goal.push-requires-clause-fits
push-requires-clause-fits c =
    (entry_is_fit_to_store (node_of c.args.parts.now) c.args.told.number c.args.entry.now (sym c.is_unfit.ensures.value ∙ c.if-is_unfit.false)).fits

pub push-requires-clause-room : goal.push-requires-clause-room
push-requires-clause-room c =
    let bound = (entry_is_fit_to_store (node_of c.args.parts.now) c.args.told.number c.args.entry.now (sym c.is_unfit.ensures.value ∙ c.if-is_unfit.false)).bound in
    omega arith

pub push-requires-clause-keeps : goal.push-requires-clause-keeps
push-requires-clause-keeps c =
    let old = node_of c.args.parts.now in
    let fit = entry_is_fit_to_store old c.args.told.number c.args.entry.now (sym c.is_unfit.ensures.value ∙ c.if-is_unfit.false) in
    push_keeps_node_order old c.args.entry.now fit.plain fit.fits
    (old.core.rules.window + 15) c.is_unfit.ensures.kept (status_of_member_has_log old.status c.requires.follows.member)
    (λ leads. absurd (let no = sym c.requires.follows.follows ∙ leads in cc)) c.args.parts.now.keeps

pub returns : goal.returns
returns c = λ missing.
    let told = c.args.told in
    let old = node_of c.args.parts.now in
    let mid = node_of c.drop_bodies.new.parts in
    let e = c.args.entry.now in
    let node : mid ≡ record (push_entry old e) { bodies = bodies_after_stored_entry old.bodies e } = c.drop_bodies.ensures
    ∙ ap (λ (x : Node). let n : Node = record x { bodies = bodies_after_stored_entry x.bodies e } in n) c.push.ensures.node in
    let due : c.acknowledges.result ≡ acknowledges (push_entry old e) told.sender (push_entry old e) = c.acknowledges.ensures
    ∙ ap (λ (x : Node). acknowledges x told.sender x) node in
    equal_reply_of_equal_plan (store_of_fitting_entry old told.sender told.number e missing (sym c.is_unfit.ensures.value ∙ c.if-is_unfit.false))
    (c.saying.ensures ∙ ap (reply_with_telling (said.Stored told.number)) c.ack_where-ack.ensures)
    (stored_entry_replies_ack old mid told.sender told.number e c.acknowledges.result node due)
