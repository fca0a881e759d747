use Rattle.am_node_parts.proofs.Words.{◌+◌, [], List, ap, ◌∙◌, Entry, node_of, set_of_one_name, letters_of_entries, packet_of_entry}
use Rattle.am_step_end.proofs.serving.serve.Goals as goal

pub returns-clause-letters : goal.returns-clause-letters
returns-clause-letters c =
    c.tell_entries.ensures.letters
    ∙ ap (λ (xs : List Entry). letters_of_entries (packet_of_entry c.args.pieces (node_of c.end.new.self)) (set_of_one_name c.args.to) (c.args.stored + 1) xs [])
    (c.as_slice.ensures.value ∙ c.copies-entries.ensures.items)
