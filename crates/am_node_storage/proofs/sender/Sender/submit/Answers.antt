use Rattle.std.proofs.Common.{rules, refl, sym, ap, ◌∙◌, ◌<◌, length, arith}
use Rattle.am_base.specs.Most.{greatest_number}
use Rattle.am_node_defs.specs.Sends.{Sends, next_request}
use Rattle.am_node_defs.proofs.Lines.{kept_sends_after_push}
use Rattle.am_node_storage.proofs.sender.Sender.submit.Goals as goal

pub invariant_of-self : goal.invariant_of-self
invariant_of-self c =
    let low : c.self.inside.last < greatest_number = search rules in
    let few : length c.self.inside.queue.items < 4 = search rules in
    (kept_sends_after_push c.self.inside.last c.self.inside.queue.items _ _ c.self.invariant few low refl refl c.push.ensures.items).0

pub returns-clause-next : goal.returns-clause-next
returns-clause-next c =
    let low : c.self.inside.last < greatest_number = search rules in
    let few : length c.self.inside.queue.items < 4 = search rules in
    (kept_sends_after_push c.self.inside.last c.self.inside.queue.items _ _ c.self.invariant few low refl refl c.push.ensures.items).1 ∙ ap next_request c.self.view_is
