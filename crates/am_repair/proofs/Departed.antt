-- Who has departed does nothing more.
use Rattle.am_repair.proofs.RepairWords.{◌≡◌, true, false, [], refl, sym, ap, ◌∙◌, subst, Outcome, Packet, Status}
use Rattle.am_repair.proofs.RepairWords.{Node, is_member, is_asking_status, is_sequencer, has_departed, refresh_at_end, Plan, StepResult, plan_without_letters, finish, step, row, hear_packet}
use Rattle.am_repair.proofs.RepairWords.{tick_row, tick_by_status, hear_row, end_refresh_rests_with_list, is_sequencer_after_rest}
use Rattle.am_base.specs.declared.outcome.Outcome.TheVariants as said
use Rattle.am_base.specs.declared.event.NodeEvent.TheVariants as does
use Rattle.am_packet.specs.{Kinds.table, Kinds.head_of, Spelling.sender_of, Spelling.stamp_of}
use Rattle.std.proofs.lemmas.Bool.{and_left}
use Rattle.am_refinement.proofs.NodeKeeping.Silent.{departed_node_passes_no_gate}
use Rattle.am_lawful_runs.proofs.Words.{departed_status_is_departed}

-- ---- no gate is open

record HasGone (m : Node) : Type 0 where
  member : is_member m.status ≡ false
  asking : is_asking_status m.status ≡ false
  leads : is_sequencer m ≡ false

gone_node : (m : Node) → has_departed m.status ≡ true → HasGone m
gone_node m h =
    let is = departed_status_is_departed m.status h in
    let member : is_member m.status ≡ false = ap is_member is in
    record { member = member; asking = ap is_asking_status is; leads = and_left _ _ (and_left _ _ member) }

hears_nothing : (m : Node) (p : Packet) → m.status ≡ Status.Departed → hear_row m p ≡ plan_without_letters m said.Elsewhere
unfolding hear_row
hears_nothing m p h = rw (departed_node_passes_no_gate (table (head_of p).kind).gate m (sender_of p) (stamp_of p) h) refl

-- ---- nothing is done

pub record StepIsStill (m : Node) (s : StepResult) : Type 0 where
  pub letters : s.letters ≡ []
  pub who : s.node.core.who ≡ m.core.who
  pub status : s.node.status ≡ m.status

still : (m : Node) (o : Outcome) → is_sequencer m ≡ false → StepIsStill m (finish m (plan_without_letters m o))
unfolding finish
still m o f =
    let r = (end_refresh_rests_with_list m).rests in
    let g : is_sequencer (refresh_at_end m) ≡ false = is_sequencer_after_rest r ∙ f in
    record { letters = rw g refl; who = r.who; status = r.status }

pub departed_node_ticks_still : (m : Node) → has_departed m.status ≡ true → StepIsStill m (step m does.Tick)
unfolding step row tick_row
departed_node_ticks_still m h = subst (λ (p : Plan). StepIsStill m (finish m p)) (sym (ap (tick_by_status m) (departed_status_is_departed m.status h)))
    (still m said.Idle (gone_node m h).leads)

pub departed_node_hears_still : (m : Node) (p : Packet) → has_departed m.status ≡ true → StepIsStill m (hear_packet m p)
unfolding hear_packet
departed_node_hears_still m p h = subst (λ (q : Plan). StepIsStill m (finish m q)) (sym (hears_nothing m p (departed_status_is_departed m.status h)))
    (still m said.Elsewhere (gone_node m h).leads)
