use Rattle.am_node_parts.proofs.Words.{sym, ap, subst, ◌∙◌, Outcome, node_of, letters_with_accept_front}
use Rattle.am_node_parts.specs.Replies.{letters_before_end, letters_with_told, MayBeTold}
use Rattle.am_node_parts.proofs.Replying.{reply_comes_to_finished_step}
use Rattle.am_step_end.proofs.ending.finish.Goals as goal

pub tell-requires-clause-told : goal.tell-requires-clause-told
tell-requires-clause-told c = subst (λ (o : Outcome). MayBeTold o c.args.reply.first) (sym c.answer-outcome.ensures)
    (c.requires.may.first (node_of c.end.new.parts))

pub tell-requires-2-clause-told : goal.tell-requires-2-clause-told
tell-requires-2-clause-told c = subst (λ (o : Outcome). MayBeTold o c.args.reply.second) (sym c.answer-outcome.ensures)
    (c.requires.may.second (node_of c.end.new.parts))

pub returns : goal.returns
returns c = λ m p before replies.
    let r = c.args.reply in
    let old = node_of c.args.parts.now in
    let new = node_of c.end.new.parts in
    let o = c.answer-outcome.result in
    reply_comes_to_finished_step m p r old new o c.tell-2.new.out c.tell_accepted.new.out
    c.accept_front-before.ensures.order.kept c.accept_front-after.ensures.order replies c.end.ensures.ended c.answer-outcome.ensures
    (c.tell-2.ensures.letters
    ∙ ap (letters_with_told o r.second new) (c.tell.ensures.letters ∙ ap (letters_with_told o r.first new) c.end.ensures.letters)
    ∙ ap (λ a. letters_with_told a r.second new (letters_with_told a r.first new (letters_before_end old r.first new))) c.answer-outcome.ensures)
    (λ all e. c.tell_accepted.ensures all e ∙ ap (λ k. letters_with_accept_front k r.polls r.numbers c.tell-2.new.out all) (sym before))
