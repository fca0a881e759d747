use Rattle.am_node_parts.proofs.Words.{◌≡◌, ◌+◌, ◌≤◌, [], length, take, set_of_one_name, letters_of_entries, packet_of_entry, node_of}
use Rattle.am_step_end.proofs.serving.tell_entries.Given as goal

abbrev pub invariant-loop-entry : goal.invariant-loop-entry
invariant-loop-entry l = record {
  number : l.number ≡ l.served.stored + l.entry-index;
  letters : l.out ≡ letters_of_entries (packet_of_entry l.served.pieces (node_of l.parts)) (set_of_one_name l.served.to) (l.served.stored + 1) (take l.entry-index l.entries) [];
  few : length l.out ≤ l.entry-index;
}
