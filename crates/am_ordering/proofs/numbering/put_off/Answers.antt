use Rattle.am_ordering.proofs.SequencingWords.{ap, ◌∙◌, node_of, equal_reply_of_equal_plan, reply_with_telling, Reply, refl, true}
use Rattle.am_ordering.proofs.SequencingRows.{held_request_replies_hold}
use Rattle.am_ordering.proofs.numbering.put_off.Goals as goal

pub returns : goal.returns
returns c =
    equal_reply_of_equal_plan refl
    (c.polling.ensures ∙ ap (λ (r : Reply). let x : Reply = record r { polls = true } in x) (c.saying.ensures
    ∙ (λ k. reply_with_telling (c.held_answer.ensures k) (c.note_to.ensures k)))) (held_request_replies_hold (node_of c.args.parts.now) c.args.to c.args.req c.requires)
