use Rattle.std.proofs.Common.{◌≡◌, ℕ, ◌+◌, List, map, length, option_map, ap, ◌∙◌, Some}
use Rattle.std.specs.List.{refill}
use Rattle.std.proofs.lemmas.List.{length-map}
use Rattle.am_node_defs.specs.declared.sender.OwnSend.{OwnSend}
use Rattle.am_node_defs.specs.Sends.{Sends, SendsAreWithinLimits, request_and_body_of_waiting_send, settle_send, next_unsettled_request}
use Rattle.am_node_defs.proofs.Lines.{kept_sends_after_settle, refill_of_same_length}
use Rattle.am_node_storage.proofs.sender.Sender.settle.Goals as goal

-- the queue with its waiting send settled
settled : (last req number : ℕ) (q held later : List OwnSend) (sends : Sends) → SendsAreWithinLimits last q → record { last = last; queue = q } ≡ sends
    → option_map (λ send. send.0) (request_and_body_of_waiting_send sends) ≡ Some req → later ≡ map (settle_send req number) held → held ≡ q
    → SendsAreWithinLimits last (refill (length q) q later) × (next_unsettled_request last (refill (length q) q later) ≡ req + 1)
settled last req number q held later sends kept is waits changed same =
    let all : later ≡ map (settle_send req number) q = changed ∙ ap (map (settle_send req number)) same in
    let whole = refill_of_same_length q later (ap length all ∙ length-map q (settle_send req number)) in
    kept_sends_after_settle last req number q (refill (length q) q later) kept (ap (λ (s : Sends). option_map (λ send. send.0) (request_and_body_of_waiting_send s)) is ∙ waits) (whole ∙ all)

pub invariant_of-self : goal.invariant_of-self
invariant_of-self c = (settled c.self.inside.last c.args.req c.args.number c.self.inside.queue.items _ c.settle_in.new.queue _
    c.self.invariant c.self.view_is c.requires c.settle_in.ensures c.as_mut_slice.ensures.value).0

pub returns-clause-next : goal.returns-clause-next
returns-clause-next c = (settled c.self.inside.last c.args.req c.args.number c.self.inside.queue.items _ c.settle_in.new.queue _
    c.self.invariant c.self.view_is c.requires c.settle_in.ensures c.as_mut_slice.ensures.value).1
