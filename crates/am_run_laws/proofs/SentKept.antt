-- What each step of a node keeps: all that it has was sent by its sender, and the changes that keep this.
use Rattle.am_run_laws.proofs.PromisedWords.{◌≡◌, ℕ, ◌+◌, ◌==◌, nat_le, not, List, ◌++◌, drop, length, Some, slice_get, sym, subst, All, list_any, All-push}
use Rattle.am_run_laws.proofs.PromisedWords.{All-drop, All-filter, All-map, All-weaker, Entry, Data, Packet, Request, Spread, Bcast, Piece, Letter, raise_accepted_to_told}
use Rattle.am_run_laws.proofs.PromisedWords.{pass_over_below_join, raise_own_report, tell_accept_front, advance_with_reports, trim_to_least_taken, Record, OwnSend, KeptBody, is_body_of_send, bodies_with_newest, keep_body, Node, is_sequencer}
use Rattle.am_run_laws.proofs.PromisedWords.{push_entry, waiting_send_of, refresh_as_sequencer, refresh, settle_waiting_send, refresh_at_end, node_with_queued_send, IsSend, split_on_bool, slice_get_of_front, all_gives_found_item}
use Rattle.am_node_defs.specs.Sends as own
use Rattle.am_step_laws.proofs.Rests.{settle_keeps_property}

-- ---- what was sent

-- among the records is the Send of this body by this name, answered with this request
pub record WasSentByRecord (all : List Record) (name req : ℕ) (body : List ℕ) : Type 0 where
  pub index : ℕ
  pub send : Record
  pub there : slice_get all index ≡ Some send
  pub is : IsSend send name req body

-- an entry that is a Data was sent by its sender
abbrev pub EntryWasSent : List Record → Entry → Type 0
EntryWasSent all (Data from req body) = WasSentByRecord all from req body
EntryWasSent all _ = Unit {0}

-- and so was what a packet carries
abbrev pub PacketBodiesWereSent : List Record → Packet → Type 0
PacketBodiesWereSent all (Request sender stamp report req body) = WasSentByRecord all sender req body
PacketBodiesWereSent all (Spread sender stamp report req body) = WasSentByRecord all sender req body
PacketBodiesWereSent all (Bcast sender stamp base acc number e) = EntryWasSent all e
PacketBodiesWereSent all (Piece sender stamp base number e) = EntryWasSent all e
PacketBodiesWereSent all packet = Unit {0}

abbrev pub LetterBodiesWereSent : List Record → Letter → Type 0
LetterBodiesWereSent all letter = PacketBodiesWereSent all letter.packet

abbrev pub OwnSendWasSent : List Record → ℕ → OwnSend → Type 0
OwnSendWasSent all who s = WasSentByRecord all who s.req s.body

abbrev pub KeptBodyWasSent : List Record → KeptBody → Type 0
KeptBodyWasSent all kept = WasSentByRecord all kept.from kept.req kept.body

-- by the parts of a node: its name, its entries, its own sends and the bodies that it keeps
pub record PartsCarrySentBodies (all : List Record) (who own : ℕ) (list : List Entry) (queue : List OwnSend) (spread : List KeptBody) : Type 0 where
  pub name : own ≡ who
  pub entries : All (EntryWasSent all) list
  pub sends : All (OwnSendWasSent all who) queue
  pub bodies : All (KeptBodyWasSent all) spread

abbrev pub NodeBodiesWereSent : List Record → ℕ → Node → Type 0
NodeBodiesWereSent all who m = PartsCarrySentBodies all who m.core.who m.core.log.entries m.sends.queue m.bodies

-- ---- more records

sent_more : (all more : List Record) (name req : ℕ) (body : List ℕ) → WasSentByRecord all name req body → WasSentByRecord (all ++ more) name req body
sent_more all more name req body h = record { index = h.index; send = h.send; there = slice_get_of_front all more h.index h.send h.there; is = h.is }

pub entry_sent_in_more_records : (all more : List Record) (e : Entry) → EntryWasSent all e → EntryWasSent (all ++ more) e
entry_sent_in_more_records all more (Data from req body) h = sent_more all more from req body h
entry_sent_in_more_records all more _ h = tt

packet_more : (all more : List Record) (p : Packet) → PacketBodiesWereSent all p → PacketBodiesWereSent (all ++ more) p
packet_more all more (Request sender stamp report req body) h = sent_more all more sender req body h
packet_more all more (Spread sender stamp report req body) h = sent_more all more sender req body h
packet_more all more (Bcast sender stamp base acc number e) h = entry_sent_in_more_records all more e h
packet_more all more (Piece sender stamp base number e) h = entry_sent_in_more_records all more e h
packet_more all more packet h = tt

pub letter_sent_in_more_records : (all more : List Record) (l : Letter) → LetterBodiesWereSent all l → LetterBodiesWereSent (all ++ more) l
letter_sent_in_more_records all more l h = packet_more all more l.packet h

pub bodies_sent_in_more_records : (all more : List Record) (who : ℕ) (m : Node) → NodeBodiesWereSent all who m → NodeBodiesWereSent (all ++ more) who m
bodies_sent_in_more_records all more who m h = record {
  name = h.name;
  entries = All-weaker (EntryWasSent all) (EntryWasSent (all ++ more)) (entry_sent_in_more_records all more) m.core.log.entries h.entries;
  sends = All-weaker (OwnSendWasSent all who) (OwnSendWasSent (all ++ more) who) (λ s. sent_more all more who s.req s.body) m.sends.queue h.sends;
  bodies = All-weaker (KeptBodyWasSent all) (KeptBodyWasSent (all ++ more)) (λ b. sent_more all more b.from b.req b.body) m.bodies h.bodies;
}

-- ---- changes

-- what a name sent under the name that a node has
pub sent_under_node_name : (all : List Record) (who : ℕ) (m : Node) (req : ℕ) (body : List ℕ) → NodeBodiesWereSent all who m → WasSentByRecord all who req body → WasSentByRecord all m.core.who req body
sent_under_node_name all who m req body h was = subst (λ name. WasSentByRecord all name req body) (sym h.name) was

pub pushed_entry_keeps_sent_bodies : (all : List Record) (who : ℕ) (m : Node) (e : Entry) → EntryWasSent all e → NodeBodiesWereSent all who m → NodeBodiesWereSent all who (push_entry m e)
pushed_entry_keeps_sent_bodies all who m e sent h = assumption (All-push (EntryWasSent all) m.core.log.entries e h.entries sent)

pub queued_send_keeps_sent_bodies : (all : List Record) (who : ℕ) (m : Node) (body : List ℕ) → WasSentByRecord all who (m.sends.last + 1) body → NodeBodiesWereSent all who m
    → NodeBodiesWereSent all who (node_with_queued_send m body)
queued_send_keeps_sent_bodies all who m body sent h = record {
  name = h.name;
  entries = h.entries;
  sends = All-push (OwnSendWasSent all who) m.sends.queue _ h.sends sent;
  bodies = h.bodies;
}

pub collect_keeps_sent_bodies : (all : List Record) (who : ℕ) (m : Node) (req : ℕ) → NodeBodiesWereSent all who m → NodeBodiesWereSent all who (record m { sends = own.collect req m.sends })
collect_keeps_sent_bodies all who m req h = split_on_bool (own.has_settled_send req m.sends)
    (λ t. rw t (assumption (All-filter (λ s. not (own.send_has_request req s)) (OwnSendWasSent all who) m.sends.queue h.sends)))
    (λ f. rw f h)

-- ---- bodies

all_with_body : (all : List Record) (kept : KeptBody) (bodies : List KeptBody) → KeptBodyWasSent all kept → All (KeptBodyWasSent all) bodies
    → All (KeptBodyWasSent all) (bodies_with_newest bodies kept)
all_with_body all kept bodies sent h = split_on_bool (nat_le 16 (length bodies))
    (λ t. rw t (All-push (KeptBodyWasSent all) (drop 1 bodies) kept (All-drop (KeptBodyWasSent all) 1 bodies h) sent))
    (λ f. rw f (All-push (KeptBodyWasSent all) bodies kept h sent))

pub kept_body_keeps_sent_bodies : (all : List Record) (who : ℕ) (m : Node) (from req : ℕ) (body : List ℕ) → WasSentByRecord all from req body → NodeBodiesWereSent all who m
    → NodeBodiesWereSent all who (record m { bodies = keep_body from req body m.bodies })
kept_body_keeps_sent_bodies all who m from req body sent h = split_on_bool (list_any (is_body_of_send from req) m.bodies)
    (λ t. rw t h)
    (λ f. rw f (assumption (all_with_body all (record { from = from; req = req; body = body }) m.bodies sent h.bodies)))

-- ---- the refresh

pub refresh_keeps_sent_bodies : (all : List Record) (who : ℕ) (m : Node) → NodeBodiesWereSent all who m → NodeBodiesWereSent all who (refresh m)
unfolding refresh refresh_as_sequencer raise_own_report tell_accept_front advance_with_reports trim_to_least_taken raise_accepted_to_told pass_over_below_join
refresh_keeps_sent_bodies all who m h = split_on_bool (is_sequencer m) (λ t. rw t (h)) (λ f. rw f (h))

-- ---- the end of a step

same_send : (all : List Record) (who req number : ℕ) (s : OwnSend) → OwnSendWasSent all who s → OwnSendWasSent all who (own.settle_send req number s)
same_send all who req number s h = split_on_bool (s.req == req) (λ t. rw t h) (λ f. rw f h)

pub settle_keeps_sent_bodies : (all : List Record) (who : ℕ) (m : Node) → NodeBodiesWereSent all who m → NodeBodiesWereSent all who (settle_waiting_send m)
settle_keeps_sent_bodies all who m h = settle_keeps_property (NodeBodiesWereSent all who) m h (λ s k w at.
    let f = own.settle_send s.req (m.core.base + 1 + k) in
    assumption (
    All-map (OwnSendWasSent all who) f m.sends.queue (All-weaker (OwnSendWasSent all who) (λ s. OwnSendWasSent all who (f s))
    (same_send all who s.req (m.core.base + 1 + k)) m.sends.queue h.sends)
    ))

pub end_refresh_keeps_sent_bodies : (all : List Record) (who : ℕ) (m : Node) → NodeBodiesWereSent all who m → NodeBodiesWereSent all who (refresh_at_end m)
unfolding refresh_at_end
end_refresh_keeps_sent_bodies all who m h = settle_keeps_sent_bodies all who (refresh m) (refresh_keeps_sent_bodies all who m h)

-- ---- the waiting send

pub waiting_send_was_sent : (all : List Record) (who : ℕ) (m : Node) (s : OwnSend) → NodeBodiesWereSent all who m → waiting_send_of m ≡ Some s → OwnSendWasSent all who s
waiting_send_was_sent all who m s h is = (all_gives_found_item (OwnSendWasSent all who) own.is_unsettled m.sends.queue s h.sends is).0
