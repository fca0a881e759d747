use Rattle.am_node_parts.proofs.Words.{sym, ◌∙◌, node_of}
use Rattle.am_node_parts.proofs.{Settling.settle_without_waiting_send, Settling.settle_keeps_unaccepted_send, Settling.settle_numbers_accepted_send, Keeping.new_sends_keep_node_order, Keeping.may_hold_settled_sends}
use Rattle.am_node_parts.proofs.parts.Parts.settle.Goals as goal

-- src/parts.rt:156:13
pub invariant_of-self : goal.invariant_of-self
invariant_of-self c =
    let m = node_of c.args.self.now in
    let found = c.in-Some-accepted_number.ensures in
    record {
      keeps = new_sends_keep_node_order m c.settle.new.self (may_hold_settled_sends m c.settle.new.self c.in-Some.req c.args.self.now.keeps (sym c.waiting_request.ensures
          ∙ c.in-Some.is) c.settle.ensures.next found.due found.some) c.args.self.now.keeps;
    }

-- src/parts.rt:144:13
pub returns-in_default-clause-changes : goal.returns-in_default-clause-changes
returns-in_default-clause-changes c = settle_without_waiting_send (node_of c.args.self.now) (sym c.in_default.is ∙ c.waiting_request.ensures)

-- src/parts.rt:140:5
pub returns-in-Some-accepted_number-clause-changes : goal.returns-in-Some-accepted_number-clause-changes
returns-in-Some-accepted_number-clause-changes c =
    settle_numbers_accepted_send (node_of c.args.self.now) c.in-Some.req c.in-Some-accepted_number.number _ (sym c.in-Some.is ∙ c.waiting_request.ensures)
    (λ all e. sym c.in-Some-accepted_number.is ∙ c.accepted_number.ensures.value all e) c.settle.ensures.value

-- src/parts.rt:140:5
pub returns-in_default-accepted_number-clause-changes : goal.returns-in_default-accepted_number-clause-changes
returns-in_default-accepted_number-clause-changes c =
    settle_keeps_unaccepted_send (node_of c.args.self.now) c.in-Some.req (sym c.in-Some.is ∙ c.waiting_request.ensures)
    (λ all e. sym c.in_default-accepted_number.is ∙ c.accepted_number.ensures.value all e)
