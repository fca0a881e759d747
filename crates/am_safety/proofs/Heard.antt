-- The node that hears a packet in a run, and who has a list to send of.
use Rattle.am_lawful_runs.proofs.Words.{deeds_keep_undeparted, ◌≡◌, ℕ, ◌≤◌, ◌==◌, not, nat_le, nat_lt, Bool, true, false, if◌then◌else◌, List, Option, Some, None}
use Rattle.am_lawful_runs.proofs.Words.{slice_get, refl, sym, ap, ◌∙◌, subst, arith, nat_tests, Outcome, Packet, Letter, Act, Event, is_for, letter_at, Node}
use Rattle.am_lawful_runs.proofs.Words.{has_departed, StepResult, finish, packet_length, hear_packet, hear_refused_bytes, World, is_stopped, world_with_record, world_with_step, world_after_hearing}
use Rattle.am_lawful_runs.proofs.Words.{hear_cut, world_after_act, happens, Cause, EndOfStep, at_end, acting_name, WasSentTo, end_refresh_rests_with_list}
use Rattle.am_base.specs.declared.outcome.Outcome.TheVariants as said

-- ---- what is heard

-- the packet by its row; or its first bytes, which are refused
pub data NodeHeardPacketAs (m n : Node) (p : Packet) : Type 0 where
  whole_packet : n ≡ (hear_packet m p).node → NodeHeardPacketAs m n p
  too_short : n.core.log ≡ m.core.log → m.core.base ≤ n.core.base → NodeHeardPacketAs m n p

refused_so : (m : Node) (cause : ℕ) → ((hear_refused_bytes m cause).node.core.log ≡ m.core.log) × (m.core.base ≤ (hear_refused_bytes m cause).node.core.base)
unfolding hear_refused_bytes finish
refused_so m cause = let r = end_refresh_rests_with_list m in (r.log, r.rests.base)

cut_node : (m : Node) (keep : ℕ) (p : Packet) → NodeHeardPacketAs m (hear_cut m keep p).node p
cut_node m keep p = by_test (nat_le (packet_length p) keep) (nat_lt keep 12)
  where
    by_test : (whole none : Bool) → NodeHeardPacketAs m (if whole then hear_packet m p else if none then hear_refused_bytes m 1 else hear_refused_bytes m 5).node p
    by_test true none = whole_packet refl
    by_test false true = (let r = refused_so m 1 in too_short r.0 r.1)
    by_test false false = (let r = refused_so m 5 in too_short r.0 r.1)

set_here : (nodes : ℕ → Node) (name : ℕ) (n : Node) → (if name == name then n else nodes name) ≡ n
set_here nodes name n = let t : (name == name) ≡ true = grind (arith, nat_tests) in rw t refl

gates : (b d : Bool) (u v s : World) → b ≡ true → d ≡ false → (if not b then u else if d then v else s) ≡ s
gates true false u v s p q = refl
gates _ _ u v s p q = absurd (cc)

heard_node : (w : World) (e : Event) (name : ℕ) (hearing : Packet → StepResult) (o : Option Letter) (l : Letter) → o ≡ Some l → is_for l name ≡ true
    → is_stopped w name ≡ false → (world_after_hearing w e name hearing o).nodes name ≡ (hearing l.packet).node
unfolding world_with_step
heard_node w e name hearing None l is for_ runs = absurd (cc)
heard_node w e name hearing (Some x) l is for_ runs =
    let same : x ≡ l = cc in
    let mine : is_for x name ≡ true = ap (λ y. is_for y name) same ∙ for_ in
    let at = gates (is_for x name) (is_stopped w name) (world_with_record w e said.NotAddressed) (world_with_record w e said.IsStopped)
    (world_with_step w e name (hearing x.packet)) mine runs in
    ap (λ (v : World). v.nodes name) at ∙ set_here w.nodes name (hearing x.packet).node ∙ ap (λ (y : Letter). (hearing y.packet).node) same

acts_node : (w : World) (e : Event) (name : ℕ) (a : Act) (p : Packet) → WasSentTo w name a p → is_stopped w name ≡ false
    → NodeHeardPacketAs (w.nodes name) ((world_after_act w e name a).nodes name) p
acts_node w e name (Act.Hear number) p h runs =
    let is = heard_node w e name (hear_packet (w.nodes name)) (letter_at w.letters number) h.letter h.there h.addressed runs in
    whole_packet (is ∙ ap (λ q. (hear_packet (w.nodes name) q).node) h.is)
acts_node w e name (Act.Cut number keep) p h runs =
    let is = heard_node w e name (hear_cut (w.nodes name) keep) (letter_at w.letters number) h.letter h.there h.addressed runs in
    subst (λ n. NodeHeardPacketAs (w.nodes name) n p) (sym (is ∙ ap (λ q. (hear_cut (w.nodes name) keep q).node) h.is)) (cut_node (w.nodes name) keep p)
acts_node w e name _ p h runs = absurd (let z = h.there in cc)

pub stepped_node_heard_packet : (w : World) (e : Event) (step : StepResult) (p : Packet) → WasSentTo w (acting_name w e) e.act p → is_stopped w (acting_name w e) ≡ false
    → world_with_step w e (acting_name w e) step ≡ happens w e → NodeHeardPacketAs (w.nodes (acting_name w e)) step.node p
unfolding happens world_with_step
stepped_node_heard_packet w e step p h runs is =
    let same : step.node ≡ (happens w e).nodes (acting_name w e) = sym (set_here w.nodes (acting_name w e) step.node) ∙ ap (λ (v : World). v.nodes (acting_name w e)) is in
    subst (λ n. NodeHeardPacketAs (w.nodes (acting_name w e)) n p) (sym same) (acts_node w e (acting_name w e) e.act p h runs)

-- ---- who hasn't departed

-- whoever sends something is there then, if it was before
pub sender_has_not_departed : {c : Cause} {o : Outcome} (m n : Node) (letters : List Letter) (k : ℕ) (l : Letter) → EndOfStep c o m letters n → slice_get letters k ≡ Some l
    → has_departed m.status ≡ false → has_departed n.status ≡ false
sender_has_not_departed m n letters k l (at_end {x = x} deeds) at h = ap has_departed (end_refresh_rests_with_list x).rests.status ∙ deeds_keep_undeparted m x deeds h
sender_has_not_departed m n letters k l _ at h = absurd (cc)
