-- Of each name's sends no more has gone out than the one that waits.
use Rattle.am_step_laws.proofs.Words.{number_equals_itself, ◌≡◌, ℕ, ◌+◌, ◌≤◌, ◌==◌, not, nat_lt, nat_le, Bool, true, false, if◌then◌else◌, List, [], ◌∷◌, length}
use Rattle.am_step_laws.proofs.Words.{Option, Some, None, refl, sym, ap, ◌∙◌, subst, arith, split_on_bool, drop, list_any, All, All-nil, All-cons, All-append, All-weaker}
use Rattle.am_step_laws.proofs.Words.{All-drop}
use Rattle.am_step_laws.proofs.Words.{Report, Stamp, Entry, Data, Leave, View, Outcome, NodeEvent, Rules, MayFound, KeptBody, is_body_of_send, keep_body, Packet, Letter, Act}
use Rattle.am_step_laws.proofs.Words.{Event}
use Rattle.am_step_laws.proofs.Words.{is_for, letter_at, Node, Ballot, push_entry, waiting_send_of, node_with_queued_send, BallotVerdict, refresh, refresh_at_end, StepResult}
use Rattle.am_step_laws.proofs.Words.{step}
use Rattle.am_step_laws.proofs.Words.{hear_packet, hear_refused_bytes, packet_length, World, start, founders_entry, is_stopped, world_with_record}
use Rattle.am_step_laws.proofs.Words.{world_with_step}
use Rattle.am_step_laws.proofs.Words.{world_after_hearing, hear_cut, world_with_next_life, world_after_act, happens, world_after_events, run, Cause, hears, CauseHasSend, by_request}
use Rattle.am_step_laws.proofs.Words.{by_spread}
use Rattle.am_step_laws.proofs.Words.{IsNumberedBy, asked_send, own_send, asked_join, asked_leave, CarriesEntry, whole_entry, by_number, LooksAtBallot, decides, Change, Changes}
use Rattle.am_step_laws.proofs.Words.{refreshes}
use Rattle.am_step_laws.proofs.Words.{settles, numbers, keeps_body, stores, begins_list, looks, fetches, stores_view, closes, unchanged, changed, Says, request}
use Rattle.am_step_laws.proofs.Words.{spread}
use Rattle.am_step_laws.proofs.Words.{bcast, order, piece, Effect, acting_name, item_of_index_has_property, all_gives_item_at, changes_keep_property, refresh_changes_only_fronts, settle_changes_only_sends}
use Rattle.am_base.specs.declared.outcome.Outcome.TheVariants as said
use Rattle.am_base.specs.declared.event.NodeEvent.TheVariants as does
use Rattle.am_packet.specs.declared.packet.Packet.TheVariants as packet
use Rattle.am_group.specs.declared.event.Act.TheVariants as act
use Rattle.std.proofs.Common.{eqb-true, get_or}
use Rattle.am_node_defs.specs.Sends as own
use Rattle.am_node_defs.proofs.Lines.{sends_in_line_after_push, waiting_request_le_last}
use Rattle.am_model.specs.declared.status.Status.TheVariants.{Departed}
use Rattle.am_model.specs.Node.{set_of_one_name, other_members, view, is_sequencer, has_room}
use Rattle.am_model.specs.Emit.{plan_with_letter, request_packet_of, spread_packet_of}
use Rattle.am_model.specs.Calls.{would_emit_send}
use Rattle.am_step_laws.specs.Causes.{cause_of, refuses}
use Rattle.am_step_laws.specs.Letters.{EntryStands}
use Rattle.am_step_laws.proofs.Words.{OwnSend, emit_waiting_send, number_send, Plan, plan_without_letters, row, send_row, finish, end_refresh_rests_with_list, events_have_effects}
use Rattle.am_step_laws.proofs.Hearing.{steps_have_effects, hearing_has_effects, refusing_has_effects}
use Rattle.am_step_laws.proofs.Numbers.HearingCounts.{IsNoHearing}
use Rattle.am_step_laws.proofs.Bounds.NodeLimits.{kept_bodies_have_property}
use Rattle.am_step_laws.proofs.Named.{NodesHaveTheirNames, change_keeps_name, events_keep_names, start_has_names}
use Rattle.am_step_laws.proofs.Numbers.RunCounts.{set_node_keeps_property, founder_or_stranger_has}
use Rattle.am_repair.proofs.Answered.Asks.{PacketAsksUpTo, AllLettersAskUpTo, SendWaitsUpTo, MayQueueSend, EventAsksUpTo, step_letters_ask_up_to, hearing_letters_ask_up_to, refusal_letters_ask_up_to}
use Rattle.am_repair.proofs.Answered.Lined.{SendsOfNodeInLine, greatest_request_sent, next_request_rose_by_changes, waiting_request_le_sent, next_request_if_none_waits}

-- ---- what has gone out

abbrev pub EntryHasGoneOut : (ℕ → ℕ) → Entry → Type 0
EntryHasGoneOut most (Data from req body) = req ≤ most from
EntryHasGoneOut most _ = Unit {0}

abbrev BodyOut : (ℕ → ℕ) → KeptBody → Type 0
BodyOut most kept = kept.req ≤ most kept.from

abbrev pub PacketHasGoneOut : (ℕ → ℕ) → Packet → Type 0
PacketHasGoneOut most (packet.Request s v report req body) = req ≤ most s
PacketHasGoneOut most (packet.Spread s v report req body) = req ≤ most s
PacketHasGoneOut most (packet.Bcast s v base acc number e) = EntryHasGoneOut most e
PacketHasGoneOut most (packet.Order s v base acc number from req) = req ≤ most from
PacketHasGoneOut most (packet.Piece s v base number e) = EntryHasGoneOut most e
PacketHasGoneOut most _ = Unit {0}

abbrev LetterOut : (ℕ → ℕ) → Letter → Type 0
LetterOut most letter = PacketHasGoneOut most letter.packet

pub record SendsOfNodeHaveGoneOut (most : ℕ → ℕ) (m : Node) : Type 0 where
  pub entries : All (EntryHasGoneOut most) m.core.log.entries
  pub bodies : All (BodyOut most) m.bodies

-- ---- as more goes out

abbrev Below : (ℕ → ℕ) → (ℕ → ℕ) → Type 0
Below least most = (name : ℕ) → least name ≤ most name

entry_more : (least most : ℕ → ℕ) (e : Entry) → Below least most → EntryHasGoneOut least e → EntryHasGoneOut most e
entry_more least most (Data from req body) low h = let k = low from in omega arith
entry_more least most _ low h = tt

pub packet_gone_out_below_more : (least most : ℕ → ℕ) (p : Packet) → Below least most → PacketHasGoneOut least p → PacketHasGoneOut most p
packet_gone_out_below_more least most (packet.Request s v report req body) low h = let k = low s in omega arith
packet_gone_out_below_more least most (packet.Spread s v report req body) low h = let k = low s in omega arith
packet_gone_out_below_more least most (packet.Bcast s v base acc number e) low h = entry_more least most e low h
packet_gone_out_below_more least most (packet.Order s v base acc number from req) low h = let k = low from in omega arith
packet_gone_out_below_more least most (packet.Piece s v base number e) low h = entry_more least most e low h
packet_gone_out_below_more least most _ low h = tt

pub sends_gone_out_below_more : (least most : ℕ → ℕ) (m : Node) → Below least most → SendsOfNodeHaveGoneOut least m → SendsOfNodeHaveGoneOut most m
sends_gone_out_below_more least most m low h = record {
  entries = All-weaker (EntryHasGoneOut least) (EntryHasGoneOut most) (λ e. entry_more least most e low) m.core.log.entries h.entries;
  bodies = All-weaker (BodyOut least) (BodyOut most) (λ kept x. (let k = low kept.from in omega arith)) m.bodies h.bodies;
}

-- ---- each change

pub sends_gone_out_after_push : (most : ℕ → ℕ) (m : Node) (e : Entry) → EntryHasGoneOut most e → SendsOfNodeHaveGoneOut most m → SendsOfNodeHaveGoneOut most (push_entry m e)
sends_gone_out_after_push most m e out h = record {
  entries = All-append (EntryHasGoneOut most) m.core.log.entries (e ∷ []) h.entries (All-cons (EntryHasGoneOut most) e [] out (All-nil (EntryHasGoneOut most)));
  bodies = h.bodies;
}

out_ended : (most : ℕ → ℕ) (m : Node) → SendsOfNodeHaveGoneOut most m → SendsOfNodeHaveGoneOut most (refresh_at_end m)
unfolding refresh_at_end
out_ended most m h =
    let k : SendsOfNodeHaveGoneOut most (refresh m) = subst (SendsOfNodeHaveGoneOut most) (sym (refresh_changes_only_fronts m)) (record { entries = h.entries; bodies = h.bodies }) in
    subst (SendsOfNodeHaveGoneOut most) (sym (settle_changes_only_sends (refresh m))) (record { entries = k.entries; bodies = k.bodies })

-- what the packet tells that is heard
abbrev CauseOut : (ℕ → ℕ) → Cause → Type 0
CauseOut most c = (p : Packet) → c ≡ hears p → PacketHasGoneOut most p

brought_out : (most : ℕ → ℕ) (c : Cause) (s : ℕ) (v : Stamp) (report : Report) (req : ℕ) (body : List ℕ) → CauseHasSend c s v report req body → CauseOut most c
    → req ≤ most s
brought_out most c s v report req body (by_request s1 v1 report1 req1 body1) heard = heard (packet.Request s v report req body) refl
brought_out most c s v report req body (by_spread s1 v1 report1 req1 body1) heard = heard (packet.Spread s v report req body) refl

numbered_out : (most : ℕ → ℕ) (c : Cause) (m : Node) (e : Entry) → IsNumberedBy c m e → CauseOut most c → SendWaitsUpTo (most m.core.who) (waiting_send_of m) → EntryHasGoneOut most e
numbered_out most c m e (asked_send s v report req body by known stays next) heard low = brought_out most c s v report req body by heard
numbered_out most c m e (own_send s is last) heard low = low s is
numbered_out most c m e (asked_join s v is other fit) heard low = tt
numbered_out most c m e (asked_leave s v report is other known stays) heard low = tt

carried_out : (most : ℕ → ℕ) (c : Cause) (m : Node) (s : ℕ) (v : Stamp) (base acc number : ℕ) (e : Entry) → CarriesEntry c m s v base acc number e → CauseOut most c
    → EntryHasGoneOut most e
carried_out most c m s v base acc number e (whole_entry x is) heard = heard (packet.Bcast s v base acc number e) is
carried_out most c m s v base acc number e (by_number from req body is found) heard = heard (packet.Order s v base acc number from req) is

kept_out : (most : ℕ → ℕ) (s req : ℕ) (body : List ℕ) (bodies : List KeptBody) → req ≤ most s → All (BodyOut most) bodies
    → All (BodyOut most) (keep_body s req body bodies)
kept_out most s req body bodies low h = split_on_bool (list_any (is_body_of_send s req) bodies)
    (λ t. rw t h)
    (λ f. rw f (All-append (BodyOut most) (if nat_le 16 (length bodies) then drop 1 bodies else bodies) _
    (split_on_bool (nat_le 16 (length bodies)) (λ t. rw t (All-drop (BodyOut most) 1 bodies h)) (λ g. rw g h))
    (All-cons (BodyOut most) _ [] low (All-nil (BodyOut most)))))

out_looked : (most : ℕ → ℕ) (m : Node) (b : Ballot) (v : BallotVerdict) → LooksAtBallot m b v → SendsOfNodeHaveGoneOut most m → SendsOfNodeHaveGoneOut most v.node
out_looked most m b v (decides may) h = let k = sends_gone_out_after_push most m (View _) tt h in record { entries = k.entries; bodies = k.bodies }
out_looked most m b v _ h = record { entries = h.entries; bodies = h.bodies }

out_change : (most : ℕ → ℕ) {c : Cause} {o : Outcome} (m n : Node) → CauseOut most c → SendWaitsUpTo (most m.core.who) (waiting_send_of m) → Change c o m n → SendsOfNodeHaveGoneOut most m
    → SendsOfNodeHaveGoneOut most n
out_change most m n heard low refreshes h = subst (SendsOfNodeHaveGoneOut most) (sym (refresh_changes_only_fronts m)) (record { entries = h.entries; bodies = h.bodies })
out_change most m n heard low settles h = subst (SendsOfNodeHaveGoneOut most) (sym (settle_changes_only_sends m)) (record { entries = h.entries; bodies = h.bodies })
out_change most m n heard low (numbers e leads room why) h = sends_gone_out_after_push most m e (numbered_out most _ m e why heard low) h
out_change most m n heard low (keeps_body s v report req body is by) h =
    record { entries = h.entries; bodies = kept_out most s req body m.bodies (heard (packet.Spread s v report req body) is) h.bodies }
out_change most m n heard low (stores s v base acc number e by seq plain may) h =
    let k = sends_gone_out_after_push most m e (carried_out most _ m s v base acc number e by heard) h in
    record { entries = k.entries; bodies = kept_bodies_have_property (BodyOut most) m.bodies e h.bodies }
out_change most m n heard low (begins_list s v base join image is o may) h = record { entries = All-nil (EntryHasGoneOut most); bodies = h.bodies }
out_change most m n heard low (looks b verdict over why look is) h = out_looked most m b verdict look h
out_change most m n heard low (fetches s v base number e is by promise below who may) h =
    let k = sends_gone_out_after_push most m e (heard (packet.Piece s v base number e) is) h in record { entries = k.entries; bodies = k.bodies }
out_change most m n heard low (stores_view s base number v is by own_ other promise below may) h =
    let k = sends_gone_out_after_push most m (View v) tt h in record { entries = k.entries; bodies = k.bodies }
out_change most m n heard low (closes leads leaves alone room) h =
    let k = out_ended most (push_entry m (Leave m.core.who)) (sends_gone_out_after_push most m (Leave m.core.who) tt h) in record { entries = k.entries; bodies = k.bodies }
out_change most m n heard low _ h = record { entries = h.entries; bodies = h.bodies }

pub sends_gone_out_after_changes : (most : ℕ → ℕ) {c : Cause} {o : Outcome} (name : ℕ) (m n : Node) → CauseOut most c → greatest_request_sent n ≤ most name → Changes c o m n → SendsOfNodeInLine m
    → m.core.who ≡ name → SendsOfNodeHaveGoneOut most m → SendsOfNodeHaveGoneOut most n
sends_gone_out_after_changes most name m n heard low unchanged lined named h = h
sends_gone_out_after_changes most name m n heard low (changed {n = x} z zs) lined named h =
    let whole = next_request_rose_by_changes (changed {n = x} z zs) lined in
    let last = whole.last in
    let next = whole.next in
    let waits : SendWaitsUpTo (most m.core.who) (waiting_send_of m) = λ s is. (let w = waiting_request_le_sent m s lined is in subst (λ k. s.req ≤ most k) (sym named) (omega arith)) in
    let one = next_request_rose_by_changes (changed {n = x} z unchanged) lined in
    sends_gone_out_after_changes most name x n heard low zs (record { line = one.line }) (change_keeps_name name m x z named) (out_change most m x heard waits z h)

-- ---- letters

stands_out : (most : ℕ → ℕ) (n : Node) (base number : ℕ) (e : Entry) → EntryStands n.core.log base number e → SendsOfNodeHaveGoneOut most n → EntryHasGoneOut most e
stands_out most n base number e s h = item_of_index_has_property (EntryHasGoneOut most) n.core.log.entries s.index e h.entries s.there

said_out : (most : ℕ → ℕ) (own_ : ℕ) (m n : Node) (c : Cause) (to : List ℕ) (p : Packet) → Says m c n to p → PacketAsksUpTo own_ p → own_ ≤ most n.core.who
    → SendsOfNodeHaveGoneOut most n → PacketHasGoneOut most p
said_out most own_ m n c to p (request _ req body a f s) asks low h = omega arith
said_out most own_ m n c to p (spread _ req body a f s) asks low h = omega arith
said_out most own_ m n c to p (bcast _ number e l s) asks low h = stands_out most n m.core.base number e s h
said_out most own_ m n c to p (order _ number from req v report body is l s) asks low h = stands_out most n m.core.base number (Data from req body) s h
said_out most own_ m n c to p (piece s v stored number e is may at) asks low h = stands_out most n m.core.base number e at h
said_out most own_ m n c to p _ asks low h = tt

-- ---- a world

abbrev pub greatest_requests_gone_out : World → ℕ → ℕ
greatest_requests_gone_out w name = greatest_request_sent (w.nodes name)

pub record AllSendsHaveGoneOut (w : World) : Type 0 where
  pub lined : (name : ℕ) → SendsOfNodeInLine (w.nodes name)
  pub each : (name : ℕ) → SendsOfNodeHaveGoneOut (greatest_requests_gone_out w) (w.nodes name)
  pub letters : All (LetterOut (greatest_requests_gone_out w)) w.letters

-- a name's step
stepped : (rules : Rules) (w : World) (e : Event) (name : ℕ) (c : Cause) (s : StepResult) → Effect (w.nodes name) c s → CauseOut (greatest_requests_gone_out w) c
    → AllLettersAskUpTo (greatest_request_sent s.node) s.letters → NodesHaveTheirNames rules w → AllSendsHaveGoneOut w → AllSendsHaveGoneOut (world_with_step w e name s)
unfolding world_with_step
stepped rules w e name c s effect heard asks named h =
    let m = w.nodes name in
    let n = s.node in
    let v = world_with_step w e name s in
    let most = greatest_requests_gone_out v in
    let risen = next_request_rose_by_changes effect.changes (h.lined name) in
    let last = risen.last in
    let next = risen.next in
    let up : Below (greatest_requests_gone_out w) most = λ other. split_on_bool (other == name)
    (λ t. let same : other ≡ name = eqb-true other name t in rw t (subst (λ k. greatest_request_sent (w.nodes k) ≤ greatest_request_sent n) (sym same) (omega arith)))
    (λ f. rw f (omega arith)) in
    let now : greatest_request_sent n ≤ most name = rw (number_equals_itself name) (omega arith) in
    let node : SendsOfNodeHaveGoneOut most n = sends_gone_out_after_changes most name m n (λ p is. packet_gone_out_below_more (greatest_requests_gone_out w) most p up (heard p is)) now effect.changes (h.lined name) (named.who name)
    (sends_gone_out_below_more (greatest_requests_gone_out w) most m up (h.each name)) in
    let sender = effect.sender in
    let same : SendsOfNodeHaveGoneOut most (record sender { status = n.status }) = subst (SendsOfNodeHaveGoneOut most) effect.is node in
    let told : SendsOfNodeHaveGoneOut most sender = record { entries = same.entries; bodies = same.bodies } in
    let who : sender.core.who ≡ name = ap (λ (x : Node). x.core.who) (sym effect.is) ∙ changes_keep_property (λ (x : Node). x.core.who ≡ name) (change_keeps_name name) effect.changes (named.who name) in
    let own_low : greatest_request_sent n ≤ most sender.core.who = subst (λ k. greatest_request_sent n ≤ most k) (sym who) now in
    record {
      lined = set_node_keeps_property SendsOfNodeInLine w.nodes name n h.lined (record { line = risen.line });
      each = set_node_keeps_property (SendsOfNodeHaveGoneOut most) w.nodes name n (λ other. sends_gone_out_below_more (greatest_requests_gone_out w) most (w.nodes other) up (h.each other)) node;
      letters = All-append (LetterOut most) w.letters s.letters
          (All-weaker (LetterOut (greatest_requests_gone_out w)) (LetterOut most) (λ l. packet_gone_out_below_more (greatest_requests_gone_out w) most l.packet up) w.letters h.letters)
          (λ k d at. said_out most (greatest_request_sent n) m sender c (get_or s.letters k d).to (get_or s.letters k d).packet (effect.letters k d at).says (asks k d at)
          own_low told);
    }

-- ---- what an event asks for

-- a queued send has the next request
queued_last : (m : Node) (body : List ℕ) → MayQueueSend m → (step m (does.Send body)).node.sends.last ≡ m.sends.last + 1
unfolding step row send_row finish
queued_last m body q =
    let is : row m (does.Send body) ≡ emit_waiting_send (node_with_queued_send m body) (waiting_send_of (node_with_queued_send m body)) (said.Queued (m.sends.last + 1)) =
    rw (q.member, q.stays, q.few, q.first) refl in
    ap (λ (p : Plan). (finish m p).node.sends.last) is ∙ emitted (node_with_queued_send m body) (waiting_send_of (node_with_queued_send m body)) (said.Queued (m.sends.last + 1))
  where
    ended : (p : Plan) → p.departs ≡ false → (finish m p).node.sends.last ≡ p.node.sends.last
    ended p stays = ap (λ b. (if b then record (refresh_at_end p.node) { status = Departed } else refresh_at_end p.node).sends.last) stays
        ∙ (end_refresh_rests_with_list p.node).rests.asked

    by : (b : Bool) (p q : Plan) (last : ℕ) → ((finish m p).node.sends.last ≡ last) → ((finish m q).node.sends.last ≡ last)
        → (finish m (if b then p else q)).node.sends.last ≡ last
    by true p q last h k = h
    by false p q last h k = k

    emitted : (n : Node) (w : Option OwnSend) (o : Outcome) → (finish m (emit_waiting_send n w o)).node.sends.last ≡ n.sends.last
    emitted n None o = ended (plan_without_letters n o) refl
    emitted n (Some s) o =
        let none = ended (plan_without_letters n o) refl in
        let handed = by (nat_le (length s.body) n.core.rules.pb_up_to) _ _ n.sends.last
        (ended (plan_with_letter n o (set_of_one_name (view n).by) (λ k. request_packet_of k s.req s.body)) refl) (ended (plan_with_letter n o (other_members n) (λ k. spread_packet_of k s.req s.body)) refl) in
        let numbered = ended (number_send n s o) refl in
        by (not (would_emit_send n (Some s))) _ _ n.sends.last none
        (by (not (is_sequencer n)) _ _ n.sends.last handed (by (has_room n) _ _ n.sends.last numbered none))

event_asks : (m : Node) (event : NodeEvent) → IsNoHearing event → SendsOfNodeInLine m → EventAsksUpTo (greatest_request_sent (step m event).node) m event
event_asks m event done lined =
    let risen = next_request_rose_by_changes (steps_have_effects m event).changes lined in
    let last = risen.last in
    let next = risen.next in
    let waits : SendWaitsUpTo (greatest_request_sent (step m event).node) (waiting_send_of m) = λ s is. (let w = waiting_request_le_sent m s lined is in omega arith) in
    by event done last next waits
  where
    by : (event : NodeEvent) → IsNoHearing event → m.sends.last ≤ (step m event).node.sends.last
        → own.next_request m.sends ≤ own.next_request (step m event).node.sends → SendWaitsUpTo (greatest_request_sent (step m event).node) (waiting_send_of m)
        → EventAsksUpTo (greatest_request_sent (step m event).node) m event
    by (does.Send body) done last next waits = λ q s is.
        let more = queued_last m body q in
        let none = next_request_if_none_waits m q.first in
        let line = sends_in_line_after_push m.sends.last m.sends.queue (record { req = m.sends.last + 1; body = body; number = None }) refl refl lined.line in
        let low = waiting_request_le_last (m.sends.last + 1) (node_with_queued_send m body).sends.queue s line is in
        omega arith
    by (does.Hear bytes) done last next waits = absurd done
    by _ done last next waits = waits

-- ---- each event

record Goes (v : World) : Type 0 where
  out : AllSendsHaveGoneOut v

goes_if : (t : Bool) (v w : World) → Goes v → Goes w → Goes (if t then v else w)
goes_if true v w f h = f
goes_if false v w f h = h

goes_unchanged : (w : World) (e : Event) (o : Outcome) → AllSendsHaveGoneOut w → Goes (world_with_record w e o)
unfolding world_with_record
goes_unchanged w e o h = record { out = record { lined = h.lined; each = h.each; letters = h.letters } }

goes_stops : (w : World) (e : Event) (o : Outcome) (stopped : List ℕ) → AllSendsHaveGoneOut w → Goes (world_with_record (record w { stopped = stopped }) e o)
unfolding world_with_record
goes_stops w e o stopped h = record { out = record { lined = h.lined; each = h.each; letters = h.letters } }

goes_lives : (w : World) (e : Event) (o : Outcome) (place : ℕ) → AllSendsHaveGoneOut w → Goes (world_with_next_life (world_with_record w e o) place)
unfolding world_with_record
goes_lives w e o place h = record { out = record { lined = h.lined; each = h.each; letters = h.letters } }

ruleset goes = (goes_if, goes_unchanged, goes_stops, goes_lives)

-- no call is a packet
called_out : (most : ℕ → ℕ) (event : NodeEvent) → IsNoHearing event → CauseOut most (cause_of event)
called_out most (does.Hear bytes) done = absurd done
called_out most _ done = λ p is. absurd (cc)

goes_does : (rules : Rules) (w : World) (e : Event) (name : ℕ) (event : NodeEvent) → IsNoHearing event → NodesHaveTheirNames rules w → AllSendsHaveGoneOut w
    → Goes (world_with_step w e name (step (w.nodes name) event))
goes_does rules w e name event done named h = record {
  out = stepped rules w e name (cause_of event) (step (w.nodes name) event) (steps_have_effects (w.nodes name) event) (called_out (greatest_requests_gone_out w) event done)
      (step_letters_ask_up_to (greatest_request_sent (step (w.nodes name) event).node) (w.nodes name) event done (event_asks (w.nodes name) event done (h.lined name))) named h;
}

goes_hears : (rules : Rules) (w : World) (e : Event) (name : ℕ) (p : Packet) → PacketHasGoneOut (greatest_requests_gone_out w) p → NodesHaveTheirNames rules w → AllSendsHaveGoneOut w
    → Goes (world_with_step w e name (hear_packet (w.nodes name) p))
goes_hears rules w e name p told named h = record {
  out = stepped rules w e name (hears p) (hear_packet (w.nodes name) p) (hearing_has_effects (w.nodes name) p)
      (λ q is. let same : p ≡ q = cc in subst (PacketHasGoneOut (greatest_requests_gone_out w)) same told) (hearing_letters_ask_up_to _ (w.nodes name) p) named h;
}

goes_refuses : (rules : Rules) (w : World) (e : Event) (name cause : ℕ) → NodesHaveTheirNames rules w → AllSendsHaveGoneOut w
    → Goes (world_with_step w e name (hear_refused_bytes (w.nodes name) cause))
goes_refuses rules w e name cause named h = record {
  out = stepped rules w e name refuses (hear_refused_bytes (w.nodes name) cause) (refusing_has_effects (w.nodes name) cause) (λ q is. absurd (cc))
      (refusal_letters_ask_up_to _ (w.nodes name) cause) named h;
}

goes_cut : (rules : Rules) (w : World) (e : Event) (name keep : ℕ) (p : Packet) → PacketHasGoneOut (greatest_requests_gone_out w) p → NodesHaveTheirNames rules w → AllSendsHaveGoneOut w
    → Goes (world_with_step w e name (hear_cut (w.nodes name) keep p))
goes_cut rules w e name keep p told named h = one (nat_le (packet_length p) keep) (nat_lt keep 12)
  where
    one : (whole none : Bool) → Goes (world_with_step w e name (if whole then hear_packet (w.nodes name) p else if none then hear_refused_bytes (w.nodes name) 1
        else hear_refused_bytes (w.nodes name) 5))
    one true none = goes_hears rules w e name p told named h
    one false true = goes_refuses rules w e name 1 named h
    one false false = goes_refuses rules w e name 5 named h

goes_heard : (w : World) (e : Event) (name : ℕ) (hearing : Packet → StepResult) (letter : Option Letter) → AllSendsHaveGoneOut w
    → ((l : Letter) → letter ≡ Some l → Goes (world_with_step w e name (hearing l.packet))) → Goes (world_after_hearing w e name hearing letter)
goes_heard w e name hearing None h go = goes_unchanged w e said.NoPacket h
goes_heard w e name hearing (Some l) h go =
    goes_if (not (is_for l name)) _ _ (goes_unchanged w e said.NotAddressed h)
    (goes_if (is_stopped w name) _ _ (goes_unchanged w e said.IsStopped h) (go l refl))

goes_acts : (rules : Rules) (w : World) (e : Event) (name : ℕ) (a : Act) → NodesHaveTheirNames rules w → AllSendsHaveGoneOut w → Goes (world_after_act w e name a)
goes_acts rules w e name act.Stop named h = search goes
goes_acts rules w e name act.Return named h = search goes
goes_acts rules w e name (act.Hear number) named h = goes_heard w e name (hear_packet (w.nodes name)) (letter_at w.letters number) h
    (λ l is. goes_hears rules w e name l.packet (all_gives_item_at (LetterOut (greatest_requests_gone_out w)) w.letters number l h.letters is) named h)
goes_acts rules w e name (act.Cut number keep) named h = goes_heard w e name (hear_cut (w.nodes name) keep) (letter_at w.letters number) h
    (λ l is. goes_cut rules w e name keep l.packet (all_gives_item_at (LetterOut (greatest_requests_gone_out w)) w.letters number l h.letters is) named h)
goes_acts rules w e name (act.GiveUp other) named h =
    goes_if (is_stopped w name) _ _ (goes_unchanged w e said.IsStopped h)
    (goes_if (is_stopped w other) _ _ (goes_does rules w e name (does.GiveUp other) tt named h) (goes_unchanged w e said.NotStopped h))
goes_acts rules w e name _ named h = goes_if (is_stopped w name) _ _ (goes_unchanged w e said.IsStopped h) (goes_does rules w e name _ tt named h)

out_happens : (rules : Rules) (w : World) (e : Event) → NodesHaveTheirNames rules w → AllSendsHaveGoneOut w → AllSendsHaveGoneOut (happens w e)
unfolding happens
out_happens rules w e named h = (goes_acts rules w e (acting_name w e) e.act named h).out

-- ---- runs

out_start : (rules : Rules) → AllSendsHaveGoneOut (start rules)
out_start rules = record {
  lined = λ name. founder_or_stranger_has SendsOfNodeInLine rules name (record { line = refl }) (record { line = refl });
  each = λ name. founder_or_stranger_has (SendsOfNodeHaveGoneOut (greatest_requests_gone_out (start rules))) rules name
      (record { entries = All-cons (EntryHasGoneOut (greatest_requests_gone_out (start rules))) (founders_entry rules) [] tt (All-nil _); bodies = All-nil _ })
      (record { entries = All-nil _; bodies = All-nil _ });
  letters = All-nil _;
}

-- both laws go along
record Both (rules : Rules) (w : World) : Type 0 where
  named : NodesHaveTheirNames rules w
  out : AllSendsHaveGoneOut w

both_happen : (rules : Rules) (w : World) (events : List Event) → Both rules w → Both rules (world_after_events w events)
unfolding world_after_events
both_happen rules w [] h = h
both_happen rules w (e ∷ es) h = both_happen rules (happens w e) es (record {
  named = events_keep_names rules w e (happens w e) (events_have_effects w e) h.named;
  out = out_happens rules w e h.named h.out;
})

pub run_sends_have_gone_out : (rules : Rules) (events : List Event) → MayFound rules → AllSendsHaveGoneOut (run rules events)
run_sends_have_gone_out rules events may = (both_happen rules (start rules) events (record { named = start_has_names rules may; out = out_start rules })).out
