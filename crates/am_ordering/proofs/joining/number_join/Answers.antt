use Rattle.am_ordering.proofs.JoiningWords.{◌≡◌, ◌+◌, true, refl, sym, ap, ◌∙◌, subst, Image, Join, has, members_of_image, fits, told_by_pushed_entry, Node}
use Rattle.am_ordering.proofs.JoiningWords.{top, image_of_node, push_entry, NodeKeeps, node_of, push_keeps_node_order, sequencer_status_has_log, reply_of_numbered_entry, equal_reply_of_equal_plan}
use Rattle.am_base.specs.declared.entry.Entry.{Entry}
use Rattle.am_model.specs.Joining.{node_with_joiner_reports}
use Rattle.am_node_parts.specs.declared.reply.Reply.{Reply}
use Rattle.am_node_parts.specs.declared.reply.Telling.TheVariants as tell
use Rattle.am_ordering.proofs.{Joins.node_keeps_by_admitted_report, Joins.numbered_join_replies_welcome, Members.member_stays_by_join}
use Rattle.am_ordering.proofs.joining.number_join.Goals as goal

pub push-requires-clause-fits : goal.push-requires-clause-fits
push-requires-clause-fits c = ap (fits (image_of_node (node_of c.admit.new.parts))) c.join.ensures
    ∙ subst (λ (x : Node). fits (image_of_node x) (Join c.args.from) ≡ true) (sym c.admit.ensures) c.requires.fits

pub push-requires-clause-keeps : goal.push-requires-clause-keeps
push-requires-clause-keeps c =
    let old = node_of c.args.parts.now in
    let keeps = node_keeps_by_admitted_report old c.args.from old.core.base c.requires.other c.args.parts.now.keeps in
    let member = member_stays_by_join (image_of_node old) (top old + 1) c.args.from old.core.who c.requires.fits (c.args.parts.now.keeps.leads c.requires.leads) in
    subst (λ (e : Entry). NodeKeeps (push_entry (node_of c.admit.new.parts) e)) (sym c.join.ensures)
    (subst (λ (x : Node). NodeKeeps (push_entry x (Join c.args.from))) (sym c.admit.ensures)
    (push_keeps_node_order (node_with_joiner_reports old c.args.from) (Join c.args.from) refl c.requires.fits (old.core.rules.window + 15) c.next_number-number.ensures.kept
    (sequencer_status_has_log old c.requires.leads)
    (λ leads. ap (λ (i : Image). has (members_of_image i) old.core.who) (told_by_pushed_entry old.core.log (Join c.args.from)) ∙ member) keeps))

pub returns : goal.returns
returns c =
    let old = node_of c.args.parts.now in
    let s = c.args.from in
    let number = c.next_number-number.result in
    equal_reply_of_equal_plan refl
    (c.and.ensures ∙ ap (λ (r : Reply). let x : Reply = record r { second = tell.Welcome number s } in x) (c.numbered.ensures
    ∙ (λ k. reply_of_numbered_entry number (c.others-others.ensures.value k) (c.join-2.ensures k))))
    (numbered_join_replies_welcome old (node_of c.push.new.self) s number (c.push.ensures.node ∙ (λ k. push_entry (c.admit.ensures k) (c.join.ensures k)))
    c.next_number-number.ensures.value c.next_number-number.ensures.within tt)
