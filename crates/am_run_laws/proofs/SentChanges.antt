-- What each change keeps, and what letters carry.
use Rattle.am_run_laws.proofs.PromisedWords.{◌≡◌, ℕ, ◌+◌, List, Option, subst, All}
use Rattle.am_run_laws.proofs.PromisedWords.{All-nil, All-weaker, Stamp, Report, Entry, Leave, View, Outcome, Packet, Record, OwnSend}
use Rattle.am_run_laws.proofs.PromisedWords.{Node, Ballot, push_entry, trim_node_up_to, body_of_spread_send}
use Rattle.am_run_laws.proofs.PromisedWords.{BallotVerdict, StepResult, Cause, calls, hears, CauseHasSend, by_request, by_spread, LooksAtBallot, decides, IsNumberedBy, asked_send}
use Rattle.am_run_laws.proofs.PromisedWords.{own_send, CarriesEntry, whole_entry, by_number, Change, refreshes, settles, numbers, keeps_body, stores, begins_list, looks}
use Rattle.am_run_laws.proofs.PromisedWords.{fetches, stores_view, queues, collects, closes, HasOwnSend, EntryStands, Says, request, spread, bcast, piece, LetterSays}
use Rattle.am_run_laws.proofs.PromisedWords.{Effect, item_of_index_has_property, changes_keep_property}
use Rattle.am_base.specs.declared.outcome.Outcome.TheVariants as said
use Rattle.am_base.specs.declared.event.NodeEvent.TheVariants as does
use Rattle.am_step_laws.proofs.Bounds.NodeLimits.{HoldsOfFoundBody, found_body_has_property, kept_bodies_have_property}
use Rattle.am_run_laws.proofs.SentKept.{WasSentByRecord, EntryWasSent, PacketBodiesWereSent, LetterBodiesWereSent, OwnSendWasSent, KeptBodyWasSent, NodeBodiesWereSent, sent_under_node_name, pushed_entry_keeps_sent_bodies, queued_send_keeps_sent_bodies, collect_keeps_sent_bodies}
use Rattle.am_run_laws.proofs.SentKept.{kept_body_keeps_sent_bodies, refresh_keeps_sent_bodies, settle_keeps_sent_bodies, end_refresh_keeps_sent_bodies, waiting_send_was_sent}

-- ---- what makes a node do a step

-- what its packet carries was sent, and a call that is answered as queued was this name's
abbrev pub CauseCarriesSentBodies : List Record → ℕ → Outcome → Cause → Type 0
CauseCarriesSentBodies all who o (hears p) = PacketBodiesWereSent all p
CauseCarriesSentBodies all who o (calls (does.Send body)) = (req : ℕ) → o ≡ said.Queued req → WasSentByRecord all who req body
CauseCarriesSentBodies all who o _ = Unit {0}

brought_sent : (all : List Record) (who : ℕ) (o : Outcome) (c : Cause) (s : ℕ) (v : Stamp) (report : Report) (req : ℕ) (body : List ℕ)
    → CauseHasSend c s v report req body → CauseCarriesSentBodies all who o c → WasSentByRecord all s req body
brought_sent all who o c s v report req body (by_request s1 v1 report1 req1 body1) sent = sent
brought_sent all who o c s v report req body (by_spread s1 v1 report1 req1 body1) sent = sent

numbered_sent : (all : List Record) (who : ℕ) (o : Outcome) (c : Cause) (m : Node) (e : Entry) → IsNumberedBy c m e → CauseCarriesSentBodies all who o c → NodeBodiesWereSent all who m
    → EntryWasSent all e
numbered_sent all who o c m e (asked_send s v report req body by known stays next) sent h = brought_sent all who o c s v report req body by sent
numbered_sent all who o c m e (own_send s is last) sent h = sent_under_node_name all who m s.req s.body h (waiting_send_was_sent all who m s h is)
numbered_sent all who o c m e _ sent h = tt

-- ---- bodies

-- a body that is found is that of this send
abbrev pub FoundBodyWasSent : List Record → ℕ → ℕ → Option (List ℕ) → Type 0
FoundBodyWasSent all = HoldsOfFoundBody (WasSentByRecord all)

pub found_body_was_sent : (all : List Record) (who : ℕ) (m : Node) (from req : ℕ) → NodeBodiesWereSent all who m → FoundBodyWasSent all from req (body_of_spread_send m from req)
found_body_was_sent all who m from req h =
    let own = All-weaker (OwnSendWasSent all who) (λ (s : OwnSend). WasSentByRecord all m.core.who s.req s.body) (λ s. sent_under_node_name all who m s.req s.body h) m.sends.queue h.sends in
    found_body_has_property (WasSentByRecord all) m from req own h.bodies

carried_sent : (all : List Record) (who : ℕ) (o : Outcome) (c : Cause) (m : Node) (s : ℕ) (v : Stamp) (base acc number : ℕ) (e : Entry)
    → CarriesEntry c m s v base acc number e → CauseCarriesSentBodies all who o c → NodeBodiesWereSent all who m → EntryWasSent all e
carried_sent all who o c m s v base acc number e (whole_entry x is) sent h = subst (CauseCarriesSentBodies all who o) is sent
carried_sent all who o c m s v base acc number e (by_number from req body is found) sent h =
    subst (FoundBodyWasSent all from req) found (found_body_was_sent all who m from req h)

-- ---- each change

look_sent : (all : List Record) (who : ℕ) (m : Node) (b : Ballot) (v : BallotVerdict) → LooksAtBallot m b v → NodeBodiesWereSent all who m → NodeBodiesWereSent all who v.node
look_sent all who m b v (decides may) h = pushed_entry_keeps_sent_bodies all who m (View _) tt h
look_sent all who m b v _ h = h

pub change_keeps_sent_bodies : (all : List Record) (who : ℕ) (c : Cause) (o : Outcome) (m n : Node) → CauseCarriesSentBodies all who o c → Change c o m n → NodeBodiesWereSent all who m
    → NodeBodiesWereSent all who n
change_keeps_sent_bodies all who c o m n sent refreshes h = refresh_keeps_sent_bodies all who m h
change_keeps_sent_bodies all who c o m n sent settles h = settle_keeps_sent_bodies all who m h
change_keeps_sent_bodies all who c o m n sent (numbers e leads room why) h = pushed_entry_keeps_sent_bodies all who m e (numbered_sent all who o c m e why sent h) h
change_keeps_sent_bodies all who c o m n sent (keeps_body s v report req body is heard) h = kept_body_keeps_sent_bodies all who m s req body (subst (CauseCarriesSentBodies all who o) is sent) h
change_keeps_sent_bodies all who c o m n sent (stores s v base acc number e by heard plain may) h =
    let k = pushed_entry_keeps_sent_bodies all who m e (carried_sent all who o c m s v base acc number e by sent h) h in
    record { name = k.name; entries = k.entries; sends = k.sends; bodies = kept_bodies_have_property (KeptBodyWasSent all) m.bodies e h.bodies }
change_keeps_sent_bodies all who c o m n sent (begins_list s v base join image is a may) h =
    record { name = h.name; entries = All-nil (EntryWasSent all); sends = h.sends; bodies = h.bodies }
change_keeps_sent_bodies all who c o m n sent (looks b verdict over why look is) h = look_sent all who m b verdict look h
change_keeps_sent_bodies all who c o m n sent (fetches s v base number e is heard promise below from may) h =
    pushed_entry_keeps_sent_bodies all who (trim_node_up_to m base) e (subst (CauseCarriesSentBodies all who o) is sent) h
change_keeps_sent_bodies all who c o m n sent (stores_view s base number v is heard own other promise below may) h =
    pushed_entry_keeps_sent_bodies all who (trim_node_up_to m base) (View v) tt h
change_keeps_sent_bodies all who c o m n sent (queues body is a member stays few) h =
    queued_send_keeps_sent_bodies all who m body ((subst (CauseCarriesSentBodies all who o) is sent) (m.sends.last + 1) a) h
change_keeps_sent_bodies all who c o m n sent (collects req is) h = collect_keeps_sent_bodies all who m req h
change_keeps_sent_bodies all who c o m n sent (closes leads leaves alone room) h =
    end_refresh_keeps_sent_bodies all who (push_entry m (Leave m.core.who)) (pushed_entry_keeps_sent_bodies all who m (Leave m.core.who) tt h)
change_keeps_sent_bodies all who c o m n sent _ h = h

-- ---- letters

stands_sent : (all : List Record) (who : ℕ) (n : Node) (base number : ℕ) (e : Entry) → EntryStands n.core.log base number e → NodeBodiesWereSent all who n → EntryWasSent all e
stands_sent all who n base number e s h = item_of_index_has_property (EntryWasSent all) n.core.log.entries s.index e h.entries s.there

own_sent : (all : List Record) (who : ℕ) (n : Node) (req : ℕ) (body : List ℕ) → HasOwnSend n req body → NodeBodiesWereSent all who n → WasSentByRecord all n.core.who req body
own_sent all who n req body s h =
    let was = item_of_index_has_property (OwnSendWasSent all who) n.sends.queue s.index s.send h.sends s.there in
    sent_under_node_name all who n req body h (subst (λ b. WasSentByRecord all who req b) s.body_ (subst (λ r. WasSentByRecord all who r s.send.body) s.request was))

said_sent : (all : List Record) (who : ℕ) (m : Node) (c : Cause) (n : Node) (to : List ℕ) (p : Packet) → Says m c n to p → NodeBodiesWereSent all who n
    → PacketBodiesWereSent all p
said_sent all who m c n to p (request x req body a b s) h = own_sent all who n req body s h
said_sent all who m c n to p (spread x req body a b s) h = own_sent all who n req body s h
said_sent all who m c n to p (bcast x number e a s) h = stands_sent all who n m.core.base number e s h
said_sent all who m c n to p (piece s v stored number e a b t) h = stands_sent all who n m.core.base number e t h
said_sent all who m c n to p _ h = tt

-- ---- a step

-- what a step leaves and sends
pub record StepCarriesSentBodies (all : List Record) (who : ℕ) (s : StepResult) : Type 0 where
  pub node : NodeBodiesWereSent all who s.node
  pub letters : All (LetterBodiesWereSent all) s.letters

pub step_carries_sent_bodies : (all : List Record) (who : ℕ) (c : Cause) (m : Node) (s : StepResult) → Effect m c s → CauseCarriesSentBodies all who s.outcome c → NodeBodiesWereSent all who m
    → StepCarriesSentBodies all who s
step_carries_sent_bodies all who c m s effect sent h =
    let k = changes_keep_property (NodeBodiesWereSent all who) (λ x y. change_keeps_sent_bodies all who c s.outcome x y sent) effect.changes h in
    let l : NodeBodiesWereSent all who effect.sender = subst (NodeBodiesWereSent all who) effect.is k in
    record {
      node = k;
      letters = All-weaker (LetterSays m c effect.sender) (LetterBodiesWereSent all)
          (λ letter says. said_sent all who m c effect.sender letter.to letter.packet says.says l) s.letters effect.letters;
    }
