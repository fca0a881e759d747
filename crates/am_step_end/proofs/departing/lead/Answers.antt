use Rattle.am_node_parts.proofs.Words.{arith, node_with_core_and_reports, core_and_reports, node_of}
use Rattle.am_node_parts.proofs.Keeping.{steady_node_keeps_order, lead_is_steady}
use Rattle.am_node_parts.proofs.LastMember.{lead_of_end_is_lead}
use Rattle.am_step_end.proofs.departing.lead.Goals as goal

pub invariant_of-parts : goal.invariant_of-parts
invariant_of-parts c =
    let old = node_of c.args.parts.now in
    let new = core_and_reports c.refresh.new.core c.refresh.new.self in
    let own = c.refresh.ensures.own in
    record {
      keeps = steady_node_keeps_order old (node_with_core_and_reports old new) (lead_is_steady old new c.accept_front-before.ensures.order c.refresh.ensures.value) c.args.parts.now.keeps
          (omega arith);
    }

pub returns : goal.returns
returns c =
    lead_of_end_is_lead (node_of c.args.parts.now) (core_and_reports c.refresh.new.core c.refresh.new.self) c.accept_front-before.ensures.order.kept
    c.refresh.ensures.value
