use Rattle.am_node_parts.proofs.Words.{sym, ap, ◌∙◌, ◌+◌, arith, Parts, log_entry_at, split_on_bool_of_log, is_data_of, node_of, some_passes}
use Rattle.am_node_parts.proofs.{Settling.accepted_number_is_found, Settling.accepted_number_is_none, Due.own_data_makes_next_due}
use Rattle.am_node_parts.proofs.parts.Parts.accepted_number.Goals as goal

-- src/parts.rt:133:17
pub returns-then-stands_at-clause-value : goal.returns-then-stands_at-clause-value
returns-then-stands_at-clause-value c =
    let order = c.accept_front-accepted.ensures.order in
    let base = c.base-before.ensures.value ∙ ap (λ (p : Parts). p.core.log.start) c.self.view_is in
    accepted_number_is_found (node_of c.args.self.now) c.args.req c.loop-before.before order (omega arith) (omega arith) (sym c.stands_at.ensures
    ∙ c.if-stands_at.true) c.loop-before.invariant

-- what the table tells of no send isn't in the list
pub returns-then-is_past_last-clause-value : goal.returns-then-is_past_last-clause-value
returns-then-is_past_last-clause-value c =
    let core = c.args.self.now.core in
    let order = c.accept_front-accepted.ensures.order in
    let kept = order.kept in
    let no = c.is_past_last.ensures c.if-is_past_last.true in
    accepted_number_is_none (node_of c.args.self.now) c.args.req order (λ number low below.
    split_on_bool_of_log (some_passes (is_data_of core.who c.args.req) (log_entry_at core.log (number + 1)))
    (λ there. absurd (no (own_data_makes_next_due core.log (core.rules.window + 15) core.who c.args.req number c.accept_front-accepted.ensures.kept (omega arith) there)))
    (λ none. none))

-- src/parts.rt:128:5
pub returns-clause-value : goal.returns-clause-value
returns-clause-value c =
    let order = c.accept_front-accepted.ensures.order in
    accepted_number_is_none (node_of c.args.self.now) c.args.req order (λ number low below. c.loop-before.invariant number low (omega arith))

pub returns-then-stands_at-clause-due : goal.returns-then-stands_at-clause-due
returns-then-stands_at-clause-due c =
    let base = c.base-before.ensures.value ∙ ap (λ (p : Parts). p.core.log.start) c.self.view_is in
    own_data_makes_next_due c.args.self.now.core.log (c.args.self.now.core.rules.window + 15) c.args.self.now.core.who c.args.req c.loop-before.before
    c.accept_front-accepted.ensures.kept (omega arith) (sym c.stands_at.ensures ∙ c.if-stands_at.true)
