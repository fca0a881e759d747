use Rattle.am_node_parts.proofs.Words.{sym, ap, ◌∙◌, arith, CoreState, node_with_core_and_reports, core_and_reports, node_of}
use Rattle.am_node_parts.proofs.{Ends.lead_changes_as_refresh, Ends.advance_changes_as_refresh, Ends.refresh_twice_of_sequencer, Ends.refresh_twice_of_member, Keeping.steady_node_keeps_order, Keeping.advance_keeps_node_order}
use Rattle.am_node_parts.proofs.{Keeping.lead_is_steady, Keeping.sequencer_may_lead}
use Rattle.am_node_parts.proofs.parts.Parts.refresh.Goals as goal

-- src/parts.rt:61:13
pub invariant_of-self : goal.invariant_of-self
invariant_of-self c =
    let old = node_of c.args.self.now in
    let new = node_with_core_and_reports old (core_and_reports c.refresh.new.core c.refresh.new.self) in
    record { keeps = steady_node_keeps_order old new (lead_is_steady old _ c.is_sequencer.ensures.order c.refresh.ensures.value) c.args.self.now.keeps (omega arith) }

-- src/parts.rt:63:13
pub invariant_of-self-else-is_sequencer : goal.invariant_of-self-else-is_sequencer
invariant_of-self-else-is_sequencer c = record {
  keeps = advance_keeps_node_order
      (node_of c.args.self.now) c.advance.new.self c.advance.ensures.value c.args.self.now.keeps;
}

-- src/parts.rt:57:5
pub returns-then-is_sequencer-clause-changes : goal.returns-then-is_sequencer-clause-changes
returns-then-is_sequencer-clause-changes c = lead_changes_as_refresh (node_of c.args.self.now) (core_and_reports c.refresh.new.core c.refresh.new.self)
    (sym c.is_sequencer.ensures.value ∙ c.if-is_sequencer.true) c.refresh.ensures.value

-- src/parts.rt:57:5
pub returns-else-is_sequencer-clause-changes : goal.returns-else-is_sequencer-clause-changes
returns-else-is_sequencer-clause-changes c =
    let old = node_of c.args.self.now in
    advance_changes_as_refresh old _ (sym c.is_sequencer.ensures.value ∙ c.if-is_sequencer.false) (ap (λ (x : CoreState). record old { core = x }) c.advance.ensures.value)

pub refresh-requires-clause-leads : goal.refresh-requires-clause-leads
refresh-requires-clause-leads c = sequencer_may_lead (node_of c.args.self.now) c.args.self.now.keeps (sym c.is_sequencer.ensures.value ∙ c.if-is_sequencer.true)

pub refresh-requires-clause-own : goal.refresh-requires-clause-own
refresh-requires-clause-own c = c.args.self.now.keeps.own

pub returns-then-is_sequencer-clause-again : goal.returns-then-is_sequencer-clause-again
returns-then-is_sequencer-clause-again c = refresh_twice_of_sequencer (node_of c.args.self.now) (core_and_reports c.refresh.new.core c.refresh.new.self)
    (sym c.is_sequencer.ensures.value ∙ c.if-is_sequencer.true) c.refresh.ensures.value c.refresh.ensures.again

pub returns-else-is_sequencer-clause-again : goal.returns-else-is_sequencer-clause-again
returns-else-is_sequencer-clause-again c = refresh_twice_of_member (node_of c.args.self.now) (sym c.is_sequencer.ensures.value ∙ c.if-is_sequencer.false)
