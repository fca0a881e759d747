use Rattle.am_ordering.proofs.ReceivingWords.{ap, ◌∙◌, subst, Some, Entry, node_with_noted_fronts, receive_entry, bcast_row, is_member, node_of, Replies}
use Rattle.am_base.specs.declared.outcome.Outcome.TheVariants as said
use Rattle.am_ordering.proofs.Notes.{receive_entry_with_noted_replies}
use Rattle.am_ordering.proofs.receiver.on_bcast.Goals as goal

pub returns : goal.returns
unfolding bcast_row
returns c =
    let told = c.args.told in
    let old = node_of c.args.parts.now in
    let P : Entry → Type 0 = λ e. Replies (receive_entry (node_with_noted_fronts old told.base told.acc) told.sender told.base told.number (Some e) said.Known)
    c.receive_entry.result (node_of c.receive_entry.new.parts) in
    subst P c.again.ensures (receive_entry_with_noted_replies old (node_of c.note.new.parts) _ told.base told.acc told.sender told.number
    (Some c.again.result) said.Known _ c.note.ensures.end c.note.ensures.order c.receive_entry.ensures)

pub receive_entry-requires-clause-follows : goal.receive_entry-requires-clause-follows
receive_entry-requires-clause-follows c =
    record { member = ap is_member c.note.ensures.status ∙ c.requires.follows.member; follows = c.note.ensures.leads ∙ c.requires.follows.follows }
