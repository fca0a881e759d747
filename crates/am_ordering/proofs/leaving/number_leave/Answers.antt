use Rattle.am_ordering.proofs.JoiningWords.{◌+◌, refl, sym, ap, ◌∙◌, subst, Image, Leave, has, members_of_image, told_by_pushed_entry, top, image_of_node}
use Rattle.am_ordering.proofs.JoiningWords.{push_entry, node_of, push_keeps_node_order, sequencer_status_has_log, reply_of_numbered_entry, equal_reply_of_equal_plan}
use Rattle.am_base.specs.declared.entry.Entry.{Entry}
use Rattle.am_base.specs.Lists.{fits}
use Rattle.am_node_parts.specs.Keeps.{NodeKeeps}
use Rattle.am_node_parts.specs.declared.reply.Reply.{Reply}
use Rattle.am_node_parts.specs.declared.reply.Telling.TheVariants as tell
use Rattle.am_ordering.proofs.{Leaves.numbered_leave_replies_gone, Members.member_stays_by_leave, Members.leave_fits_of_member}
use Rattle.am_ordering.proofs.leaving.number_leave.Goals as goal

pub push-requires-clause-fits : goal.push-requires-clause-fits
push-requires-clause-fits c = ap (fits (image_of_node (node_of c.args.parts.now))) c.leave.ensures
    ∙ leave_fits_of_member (image_of_node (node_of c.args.parts.now)) c.args.from c.requires.leaver

pub push-requires-clause-keeps : goal.push-requires-clause-keeps
push-requires-clause-keeps c =
    let old = node_of c.args.parts.now in
    let keeps = c.args.parts.now.keeps in
    let member = member_stays_by_leave (image_of_node old) (top old + 1) c.args.from old.core.who c.requires.other c.requires.leaver (keeps.leads c.requires.leads) in
    subst (λ (e : Entry). NodeKeeps (push_entry old e)) (sym c.leave.ensures)
    (push_keeps_node_order old (Leave c.args.from) refl (leave_fits_of_member (image_of_node old) c.args.from c.requires.leaver)
    (old.core.rules.window + 15) c.next_number-number.ensures.kept (sequencer_status_has_log old c.requires.leads)
    (λ leads. ap (λ (i : Image). has (members_of_image i) old.core.who) (told_by_pushed_entry old.core.log (Leave c.args.from)) ∙ member) keeps)

pub returns : goal.returns
returns c =
    let old = node_of c.args.parts.now in
    let number = c.next_number-number.result in
    equal_reply_of_equal_plan refl
    (c.and.ensures ∙ ap (λ (r : Reply). let x : Reply = record r { second = tell.Gone c.args.from } in x) (c.numbered.ensures
    ∙ (λ k. reply_of_numbered_entry number (c.others-others.ensures.value k) (c.leave-2.ensures k))))
    (numbered_leave_replies_gone old (node_of c.push.new.self) c.args.from number (c.push.ensures.node ∙ ap (push_entry old) c.leave.ensures)
    c.next_number-number.ensures.value c.next_number-number.ensures.within tt)
