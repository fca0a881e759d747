-- The letters that a schedule's steps send.
use Rattle.am_repair.proofs.RepairWords.{◌≡◌, ℕ, suc, ◌+◌, ◌-◌, ◌≤◌, nat_le, true, false, List, Some, slice_get, sym, ap, ◌∙◌, subst, arith, nat_tests}
use Rattle.am_repair.proofs.RepairWords.{Report, Entry, Data, has, Log, log_entry_at, Packet, Node, Ballot, top, is_sequencer, own_report_of, is_unfinished_ballot}
use Rattle.am_repair.proofs.RepairWords.{next_stamp, World, Cause, MayInvite, has_begun, goes_on, MayTellResult, Says, bcast, order, welcome, leave_ask, invite}
use Rattle.am_repair.proofs.RepairWords.{vote, result, Repair, ReportIs, SequencerHas, IsCalm}
use Rattle.am_step_laws.specs.Letters.{request, spread, ack, nack, hand_over}
use Rattle.am_step_laws.specs.Letters as letters
use Rattle.am_repair.proofs.RepairLists.{LogGrows, entry_at_in_grown_log}
use Rattle.am_repair.proofs.Nodes.{CalmCause, finished_ballot_is_not_open}

-- ---- what a letter says stays so

-- members have no less
pub record RepairWorldGrows (r : Repair) (w v : World) : Type 0 where
  pub log : LogGrows (w.nodes r.by).core.log (v.nodes r.by).core.log
  pub stored : (name : ℕ) → has r.members name ≡ true → top (w.nodes name) ≤ top (v.nodes name)
  pub taken : (name : ℕ) → has r.members name ≡ true → (w.nodes name).core.taken ≤ (v.nodes name).core.taken
  pub acc : (name : ℕ) → has r.members name ≡ true → (w.nodes name).core.acc ≤ (v.nodes name).core.acc
  -- and the sequencer keeps their reports
  pub kept : (name : ℕ) → has r.members name ≡ true → ((w.nodes r.by).reports name).stored ≤ ((v.nodes r.by).reports name).stored

report_stays : (r : Repair) (w v : World) (s : ℕ) (report : Report) → RepairWorldGrows r w v → ReportIs r w s report → ReportIs r v s report
report_stays r w v s report g h = record {
  stored = λ there. (let a = h.stored there in let b = g.stored s there in omega arith);
  taken = λ there. (let a = h.taken there in let b = g.taken s there in omega arith);
}

stands_stays : (r : Repair) (w v : World) (number : ℕ) (e : Entry) → RepairWorldGrows r w v → SequencerHas r w number e → SequencerHas r v number e
stands_stays r w v number e g h = entry_at_in_grown_log (w.nodes r.by).core.log (v.nodes r.by).core.log number e g.log h

pub packet_stays_calm_later : (r : Repair) (w v : World) (p : Packet) → RepairWorldGrows r w v → IsCalm r w p → IsCalm r v p
packet_stays_calm_later r w v (Packet.Request s v_ report req body) g h = report_stays r w v s report g h
packet_stays_calm_later r w v (Packet.Spread s v_ report req body) g h = report_stays r w v s report g h
packet_stays_calm_later r w v (Packet.Bcast s v_ base acc number e) g h = stands_stays r w v number e g h
packet_stays_calm_later r w v (Packet.Order s v_ base acc number from req) g h = (h.0, stands_stays r w v number (Data from req h.0) g h.1)
packet_stays_calm_later r w v (Packet.Ack s v_ report) g h = report_stays r w v s report g h
packet_stays_calm_later r w v (Packet.Nack s v_ report) g h = report_stays r w v s report g h
packet_stays_calm_later r w v (Packet.LeaveAsk s v_ report) g h = (h.0, report_stays r w v s report g h.1)
packet_stays_calm_later r w v _ g h = h

-- ---- what is sent is so

-- a name's step, from a node to one that stands in the world after it
pub record SendsOfCalmStep (r : Repair) (v : World) (m n : Node) : Type 0 where
  pub node : v.nodes n.core.who ≡ n
  pub leaves : n.leaving ≡ true → r.gone n.core.who ≡ true
  pub no_ballot : is_unfinished_ballot m.ballot ≡ false
  pub begins_none : (b : Ballot) → n.ballot ≡ Some b → n.core.promise ≡ next_stamp m → ⊥
  pub tells : MayTellResult n → n.core.promise.by ≡ n.core.who → n.core.promise ≡ r.view
  -- only one leads
  pub stays : is_sequencer n ≡ true → n.leaving ≡ false
  pub own : is_sequencer n ≡ true → n.core.who ≡ r.by
  pub promise : is_sequencer n ≡ true → n.core.promise ≡ r.view
  pub base : is_sequencer n ≡ true → n.core.log.start ≤ m.core.base

pub entry_at_of_list_item : (log : Log) (index number : ℕ) (e : Entry) → slice_get log.entries index ≡ Some e → number ≡ log.start + index + 1
    → log_entry_at log number ≡ Some e
entry_at_of_list_item log index number e there is =
    let before = log.start + index in
    let at : number ≡ suc before = omega arith in
    let low : nat_le log.start before ≡ true = grind (arith, nat_tests) in
    let skip : before - log.start ≡ index = omega arith in
    ap (log_entry_at log) at ∙ rw low (ap (slice_get log.entries) skip ∙ there)

numbered_stands : (r : Repair) (v : World) (m n : Node) (number : ℕ) (e : Entry) → SendsOfCalmStep r v m n → is_sequencer n ≡ true
    → letters.EntryStands n.core.log m.core.base number e → SequencerHas r v number e
numbered_stands r v m n number e h t s =
    let node = ap (λ k. v.nodes k) (sym (h.own t)) ∙ h.node in
    ap (λ (x : Node). log_entry_at x.core.log number) node ∙ entry_at_of_list_item n.core.log s.index number e s.there (s.at (h.base t))

report_sent : (r : Repair) (v : World) (m n : Node) → SendsOfCalmStep r v m n → ReportIs r v n.core.who (own_report_of n)
report_sent r v m n h =
    let stored = ap (λ (x : Node). top x) h.node in
    let taken = ap (λ (x : Node). x.core.taken) h.node in
    record { stored = λ there. omega arith; taken = λ there. omega arith }

not_invited : (r : Repair) (v : World) (m n : Node) → SendsOfCalmStep r v m n → MayInvite m n → ⊥
not_invited r v m n h (has_begun b is next) = h.begins_none b is next
not_invited r v m n h (goes_on b open_) = finished_ballot_is_not_open m b open_ h.no_ballot

pub calm_step_sends_calm_letter : (r : Repair) (w v : World) (m n : Node) (c : Cause) (to : List ℕ) (p : Packet) → CalmCause r w c → SendsOfCalmStep r v m n → Says m c n to p
    → IsCalm r v p
calm_step_sends_calm_letter r w v m n c to p calm h (request _ req body a f s) = report_sent r v m n h
calm_step_sends_calm_letter r w v m n c to p calm h (spread _ req body a f s) = report_sent r v m n h
calm_step_sends_calm_letter r w v m n c to p calm h (bcast _ number e l s) = numbered_stands r v m n number e h l s
calm_step_sends_calm_letter r w v m n c to p calm h (order _ number from req v_ report body is l s) = (body, numbered_stands r v m n number (Data from req body) h l s)
calm_step_sends_calm_letter r w v m n c to p calm h (ack _ a) = report_sent r v m n h
calm_step_sends_calm_letter r w v m n c to p calm h (nack _ a) = report_sent r v m n h
calm_step_sends_calm_letter r w v m n c to p calm h (welcome s l may) = h.promise l
calm_step_sends_calm_letter r w v m n c to p calm h (leave_ask _ a leaves) = (h.leaves leaves, report_sent r v m n h)
calm_step_sends_calm_letter r w v m n c to p calm h (invite _ may) = absurd (not_invited r v m n h may)
calm_step_sends_calm_letter r w v m n c to p calm h (vote s v_ is) = absurd (subst (CalmCause r w) is calm)
calm_step_sends_calm_letter r w v m n c to p calm h (result _ number names is viewed may) = h.tells may
calm_step_sends_calm_letter r w v m n c to p calm h (hand_over _ l leaves) = absurd (let s = h.stays l in cc)
calm_step_sends_calm_letter r w v m n c to p calm h _ = tt
