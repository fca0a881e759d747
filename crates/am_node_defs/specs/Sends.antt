-- A node's own sends, which are queued until they are collected.
use Rattle.std.specs.Prelude.{◌≡◌, ℕ, ◌+◌, ◌≤◌, length, true, nat_lt, List, [], ◌∷◌, ◌++◌, map, filter, find, count_by, Option, Some, None, option_map, is_some}
use Rattle.std.specs.Prelude.{is_none, Bool, not, ◌==◌, ◌&&◌, if◌then◌else◌}
use Rattle.std.specs.List.{list_any, list_all}
use Rattle.am_base.specs.Most.{greatest_number}
use Rattle.am_base.specs.declared.outcome.Outcome.{Outcome}
use Rattle.am_base.specs.declared.outcome.Outcome.TheVariants.{Unknown, Pending, Sent}
use Rattle.am_node_defs.specs.declared.sender.OwnSend.{OwnSend}

-- the sends that aren't collected, the oldest first, and the last request number that was given out
pub record Sends : Type 0 where
  pub last : ℕ
  pub queue : List OwnSend

abbrev pub no_sends : Sends
no_sends = record { last = 0; queue = [] }

-- the send has this request
abbrev pub send_has_request : ℕ → OwnSend → Bool
send_has_request req send = send.req == req

-- the send has no number yet
abbrev pub is_unsettled : OwnSend → Bool
is_unsettled send = is_none send.number

-- the send that is sent next: the first that isn't settled
abbrev pub first_unsettled_send : Sends → Option OwnSend
first_unsettled_send sends = find is_unsettled sends.queue

-- its request and its body
abbrev pub request_and_body_of_waiting_send : Sends → Option (ℕ × List ℕ)
request_and_body_of_waiting_send sends = option_map (λ send. (send.req, send.body)) (first_unsettled_send sends)

-- how many sends aren't settled
abbrev pub unsettled_count : Sends → ℕ
unsettled_count sends = count_by is_unsettled sends.queue

-- a send with this request is there and settled
abbrev pub has_settled_send : ℕ → Sends → Bool
has_settled_send req sends = list_any (λ send. (send.req == req) && is_some send.number) sends.queue

-- with one more send, which has the next request number
abbrev pub queue_send : List ℕ → Sends → Sends
queue_send body sends = record { last = sends.last + 1; queue = sends.queue ++ record { req = sends.last + 1; body = body; number = None } ∷ [] }

-- a send's number, where it is that of this request
abbrev pub settle_send : ℕ → ℕ → OwnSend → OwnSend
settle_send req number send = if send.req == req then record send { number = Some number } else send

-- the send of this request has this number
abbrev pub settle_request : ℕ → ℕ → Sends → Sends
settle_request req number sends = record sends { queue = map (settle_send req number) sends.queue }

-- what collecting a send answers
abbrev pub outcome_of_collecting : ℕ → Option ℕ → Outcome
outcome_of_collecting req None = Pending req
outcome_of_collecting req (Some number) = Sent req number

abbrev pub outcome_of_done : ℕ → Option OwnSend → Outcome
outcome_of_done req None = Unknown
outcome_of_done req (Some send) = outcome_of_collecting req send.number

abbrev pub collect_outcome : ℕ → Sends → Outcome
collect_outcome req sends = outcome_of_done req (find (send_has_request req) sends.queue)

abbrev pub sends_without_request : ℕ → Sends → Sends
sends_without_request req sends = record sends { queue = filter (λ send. not (send_has_request req send)) sends.queue }

-- a settled send that is collected is removed
abbrev pub collect : ℕ → Sends → Sends
collect req sends = if has_settled_send req sends then sends_without_request req sends else sends

-- ---- what holds of a node's own sends

-- the request that isn't settled and comes first: the waiting send's, or the one after the last
abbrev pub next_unsettled_request : ℕ → List OwnSend → ℕ
next_unsettled_request last [] = last + 1
next_unsettled_request last (send ∷ sends) = if is_unsettled send then send.req else next_unsettled_request last sends

-- those that aren't settled stand after the settled ones, with requests that follow one another up to the last
abbrev pub unsettled_sends_are_in_line : ℕ → List OwnSend → Bool
unsettled_sends_are_in_line last [] = true
unsettled_sends_are_in_line last (send ∷ sends) = (if is_unsettled send then (send.req + 1 == next_unsettled_request last sends)
    && list_all is_unsettled sends else nat_lt send.req (next_unsettled_request last sends)) && unsettled_sends_are_in_line last sends

abbrev pub next_request : Sends → ℕ
next_request sends = next_unsettled_request sends.last sends.queue

pub record SendsAreWithinLimits (last : ℕ) (queue : List OwnSend) : Type 0 where
  pub few : length queue ≤ 4
  pub line : unsettled_sends_are_in_line last queue ≡ true
  pub limit : last ≤ greatest_number
