use Rattle.am_ordering.proofs.ReceivingWords.{node_of, steady_node_stays_sequencer}
use Rattle.am_ordering.proofs.Notes.{end_of_node_with_noted, end_with_noted_is_steady, end_with_noted_keeps_node}
use Rattle.am_ordering.proofs.receiver.note.Goals as goal

pub invariant_of-parts : goal.invariant_of-parts
invariant_of-parts c =
    let old = node_of c.args.parts.now in
    let order = c.accept_front-before.ensures.order in
    record {
      keeps = end_with_noted_keeps_node old _ c.args.base c.args.acc
          (end_of_node_with_noted old c.note_fronts.new.core c.args.base c.args.acc order.kept c.note_fronts.ensures) c.args.parts.now.keeps;
    }

pub returns-clause-end : goal.returns-clause-end
returns-clause-end c = let order = c.accept_front-before.ensures.order in
    end_of_node_with_noted (node_of c.args.parts.now) c.note_fronts.new.core c.args.base c.args.acc order.kept c.note_fronts.ensures

pub returns-clause-steady : goal.returns-clause-steady
returns-clause-steady c = end_with_noted_is_steady (node_of c.args.parts.now) _ c.args.base c.args.acc (returns-clause-end c)

pub returns-clause-leads : goal.returns-clause-leads
returns-clause-leads c = steady_node_stays_sequencer (node_of c.args.parts.now) _ (returns-clause-steady c)
