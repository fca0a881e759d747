use Rattle.std.proofs.Common.{rules, ◌≡◌, ◌<◌, ap, sym, ◌∙◌, not, filter, arith}
use Rattle.arrayvec.proofs.ArrayVecLemmas.{filter-from_retain}
use Rattle.am_node_defs.specs.Sends.{Sends, send_has_request, next_unsettled_request, next_request}
use Rattle.am_node_defs.proofs.Lines.{kept_sends_after_remove}
use Rattle.am_node_storage.proofs.sender.Sender.remove.Goals as goal

pub invariant_of-self : goal.invariant_of-self
invariant_of-self c =
    let rest : c.retain.new.self.items ≡ filter (λ send. not (send_has_request c.args.req send)) c.self.inside.queue.items =
    filter-from_retain _ (λ send. not (send_has_request c.args.req send)) _ (λ x b f' y k. search rules) _ _ c.retain.ensures.filtered in
    let first = ap next_request c.self.view_is in
    let low : c.args.req < next_unsettled_request c.self.inside.last c.self.inside.queue.items = let low = c.requires in omega arith in
    (kept_sends_after_remove c.self.inside.last c.args.req c.self.inside.queue.items c.retain.new.self.items c.self.invariant low rest).0

pub returns-clause-value : goal.returns-clause-value
returns-clause-value c = rw (← c.self.view_is) (ap (λ q. let s : Sends = record { last = c.self.inside.last; queue = q } in
    s) (filter-from_retain _ (λ send. not (send_has_request c.args.req send)) _ (λ x b f' y k. search rules) _ _ c.retain.ensures.filtered))

pub returns-clause-next : goal.returns-clause-next
returns-clause-next c =
    let rest : c.retain.new.self.items ≡ filter (λ send. not (send_has_request c.args.req send)) c.self.inside.queue.items =
    filter-from_retain _ (λ send. not (send_has_request c.args.req send)) _ (λ x b f' y k. search rules) _ _ c.retain.ensures.filtered in
    let first = ap next_request c.self.view_is in
    let low : c.args.req < next_unsettled_request c.self.inside.last c.self.inside.queue.items = let low = c.requires in omega arith in
    (kept_sends_after_remove c.self.inside.last c.args.req c.self.inside.queue.items c.retain.new.self.items c.self.invariant low rest).1 ∙ first
