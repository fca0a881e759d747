-- A name that has departed sends nothing.
use Rattle.am_refinement.proofs.Words.{and-false, ◌≡◌, ℕ, nat_lt, ◌==◌, not, false, [], Option, Some, None, Ok, Err, refl, sym, ap, ◌∙◌, subst, NodeEvent, Done}
use Rattle.am_refinement.proofs.Words.{State, Ask, GiveUp, Tick, Hear, Packet, Read, reading, Departed, Node, Ballot, is_member, is_sequencer, is_unfinished_ballot}
use Rattle.am_refinement.proofs.Words.{join_by_status, state_by_status, leave_by_status, send_row, take_row, join_row, state_row, leave_row, reset_row, ask_row, answer_ask_of_ballot, give_up_row}
use Rattle.am_refinement.proofs.Words.{give_up_in_open_ballot, done_row, tick_row, tick_by_status, hear_row, member_hears_other, member_or_asker_hears_other, refresh_at_end, Plan, plan_without_letters, finish, row}
use Rattle.am_refinement.proofs.Words.{row_of_read_bytes, step, hear_packet, hear_refused_bytes, split_on_bool, end_refresh_rests_with_list, DepartedSilent, Stamp, stamp_of}
use Rattle.am_base.specs.declared.event.NodeEvent.TheVariants.{Join, Leave}
use Rattle.am_base.specs.declared.outcome.Outcome.TheVariants as said
use Rattle.am_packet.specs.declared.kind.PacketGate.{PacketGate}
use Rattle.am_packet.specs.declared.kind.PacketGate.TheVariants as gates
use Rattle.am_packet.specs.{Kinds.table, Kinds.head_of, Spelling.sender_of}
use Rattle.am_model.specs.Hearing.{passes_gate}

-- a plan of who has departed, with no letter
record Quiet (p : Plan) : Type 0 where
  status : p.node.status ≡ Departed
  letters : (n : Node) → p.letters n ≡ []

quiet_is : (m : Node) (o : _) → m.status ≡ Departed → Quiet (plan_without_letters m o)
quiet_is m o h = record { status = h; letters = λ n. refl }

-- nobody departed leads
no_leader : (n : Node) → n.status ≡ Departed → is_sequencer n ≡ false
no_leader n h = rw h refl

finish_silent : (m : Node) (p : Plan) → Quiet p → (finish m p).letters ≡ []
unfolding finish
finish_silent m p h =
    let n = refresh_at_end p.node in
    let leads = no_leader n ((end_refresh_rests_with_list p.node).rests.status ∙ h.status) in
    rw leads (h.letters n)

-- ---- rows

no_member : (m : Node) → m.status ≡ Departed → is_member m.status ≡ false
no_member m h = ap is_member h

no_hearing : (m : Node) (s : ℕ) → m.status ≡ Departed → member_hears_other m s ≡ false
no_hearing m s h = rw h (and-false (not (s == m.core.who)))

no_asking : (m : Node) (s : ℕ) → m.status ≡ Departed → member_or_asker_hears_other m s ≡ false
no_asking m s h = rw h (and-false (not (s == m.core.who)))

-- no gate is open
pub departed_node_passes_no_gate : (g : PacketGate) (m : Node) (s : ℕ) (v : Stamp) → m.status ≡ Departed → passes_gate g m s v ≡ false
departed_node_passes_no_gate gates.Early m s v h = rw (no_asking m s h) refl
departed_node_passes_no_gate _ m s v h = rw (no_hearing m s h) refl

hear_quiet : (m : Node) (p : Packet) → m.status ≡ Departed → Quiet (hear_row m p)
unfolding hear_row
hear_quiet m p h = rw (departed_node_passes_no_gate (table (head_of p).kind).gate m (sender_of p) (stamp_of p) h) (quiet_is m _ h)

read_quiet : (m : Node) (r : Read Packet) → m.status ≡ Departed → Quiet (row_of_read_bytes m r)
read_quiet m (Ok p) h = hear_quiet m p h
read_quiet m (Err refusal) h = quiet_is m _ h

ask_quiet : (m : Node) (round : ℕ) (ballot : Option Ballot) → m.status ≡ Departed → Quiet (answer_ask_of_ballot m round ballot)
ask_quiet m round None h = quiet_is m _ h
ask_quiet m round (Some b) h = split_on_bool (nat_lt b.stamp.round round)
    (λ t. rw t (quiet_is m said.Unknown h))
    (λ f. rw f (split_on_bool (nat_lt round b.stamp.round) (λ t. rw t (quiet_is m (said.Overtaken b.stamp) h)) (λ g. rw g (quiet_is m b.answer h))))

give_up_quiet : (m : Node) (name : ℕ) (ballot : Option Ballot) → m.status ≡ Departed → is_unfinished_ballot ballot ≡ false → Quiet (give_up_in_open_ballot m name ballot)
give_up_quiet m name None h over = quiet_is m _ h
give_up_quiet m name (Some b) h over = split_on_bool b.is_over (λ t. rw t (quiet_is m _ h)) (λ f. absurd (let z = rw f at over in cc))

row_quiet : (m : Node) (event : NodeEvent) → m.status ≡ Departed → is_unfinished_ballot m.ballot ≡ false → Quiet (row m event)
unfolding row send_row done_row take_row join_row state_row leave_row reset_row ask_row give_up_row tick_row
row_quiet m (Done req) h over = record { status = h; letters = λ n. refl }
row_quiet m Join h over = subst (λ u. Quiet (join_by_status m u)) (sym h) (quiet_is m said.NotMember h)
row_quiet m State h over = subst (λ u. Quiet (state_by_status m u)) (sym h) (quiet_is m said.Departed h)
row_quiet m Leave h over = subst (λ u. Quiet (leave_by_status m u)) (sym h) (quiet_is m said.Departed h)
row_quiet m (Ask round) h over = ask_quiet m round m.ballot h
row_quiet m (GiveUp name) h over = give_up_quiet m name m.ballot h over
row_quiet m Tick h over = subst (λ u. Quiet (tick_by_status m u)) (sym h) (quiet_is m said.Idle h)
row_quiet m (Hear bytes) h over = read_quiet m (reading bytes) h
row_quiet m _ h over = rw (no_member m h) (quiet_is m said.NotMember h)

-- ---- steps

pub departed_nodes_are_silent : DepartedSilent
unfolding step hear_packet hear_refused_bytes
departed_nodes_are_silent m h over = record {
  calls_ = λ event. finish_silent m (row m event) (row_quiet m event h over);
  hears_ = λ p. finish_silent m (hear_row m p) (hear_quiet m p h);
  refuses_ = λ cause. finish_silent m (plan_without_letters m (said.Refused cause)) (quiet_is m _ h);
}
