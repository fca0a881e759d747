-- What a node knows of others to be taken, through a request to join: the row itself.
use Rattle.am_repair.proofs.Repairable.RepairedWords.{heard_member_is_other, ◌≡◌, ℕ, ◌==◌, ◌&&◌, ◌||◌, not, nat_lt, nat_le, Bool, true, false, if◌then◌else◌, Some, refl, sym, ap, ◌∙◌}
use Rattle.am_repair.proofs.Repairable.RepairedWords.{subst, arith, nat_tests, Stamp, Join, Report, Outcome, Row, life_of_name, row_at_place, fits, Packet, Letter, Act, Event, is_for}
use Rattle.am_repair.proofs.Repairable.RepairedWords.{letter_at, Node, image_of_node, is_sequencer, has_room, Plan, StepResult, finish, hear_packet, hear_refused_bytes, node_with_joiner_reports, join_ask_row}
use Rattle.am_repair.proofs.Repairable.RepairedWords.{member_hears_other, hear_row, packet_length, refresh_at_end, World, is_stopped, world_with_record, world_with_step, world_after_hearing, hear_cut}
use Rattle.am_repair.proofs.Repairable.RepairedWords.{world_after_act, happens, packet_heard_by_act, split_on_bool, both_of_and, acting_name, end_keeps_reports_of_others}
use Rattle.am_model.specs.Joining.{answer_join_ask}
use Rattle.am_base.specs.declared.outcome.Outcome.TheVariants as said

-- as before, but that a joiner whose Join fits the sequencer's list begins at the base
pub data ReportsByJoinRequest (m y : Node) (s : ℕ) : Type 0 where
  as_before : ((j : ℕ) → (j == m.core.who) ≡ false → y.reports j ≡ m.reports j) → ReportsByJoinRequest m y s
  admitted_ : (s == m.core.who) ≡ false → is_sequencer m ≡ true → fits (image_of_node m) (Join s) ≡ true → (y.reports s).taken ≡ m.core.base
      → ((j : ℕ) → (j == m.core.who) ≡ false → (j == s) ≡ false → y.reports j ≡ m.reports j) → ReportsByJoinRequest m y s

record PlanAsked (m : Node) (s : ℕ) (p : Plan) : Type 0 where
  stays : p.departs ≡ false
  who : p.node.core.who ≡ m.core.who
  asked : ReportsByJoinRequest m p.node s

plan_if : (m : Node) (s : ℕ) (b : Bool) (p q : Plan) → (b ≡ true → PlanAsked m s p) → (b ≡ false → PlanAsked m s q) → PlanAsked m s (if b then p else q)
plan_if m s true p q f g = f refl
plan_if m s false p q f g = g refl

same_plan : (m : Node) (s : ℕ) (p : Plan) → p.departs ≡ false → p.node ≡ m → PlanAsked m s p
same_plan m s p stays is = record {
  stays = stays;
  who = ap (λ (n : Node). n.core.who) is;
  asked = as_before (λ j other. ap (λ (n : Node). n.reports j) is);
}

ended : (m x : Node) (s : ℕ) → x.core.who ≡ m.core.who → ReportsByJoinRequest m x s → ReportsByJoinRequest m (refresh_at_end x) s
ended m x s who (as_before h) = as_before (λ j other. end_keeps_reports_of_others x j (ap (λ k. j == k) who ∙ other) ∙ h j other)
ended m x s who (admitted_ not_own leads fit base h) = admitted_ not_own leads fit
    (ap (λ (r : Report). r.taken) (end_keeps_reports_of_others x s (ap (λ k. s == k) who ∙ not_own)) ∙ base)
    (λ j other apart. end_keeps_reports_of_others x j (ap (λ k. j == k) who ∙ other) ∙ h j other apart)

plan_ends : (m : Node) (s : ℕ) (p : Plan) → PlanAsked m s p → ReportsByJoinRequest m (finish m p).node s
unfolding finish
plan_ends m s p h = rw h.stays (ended m p.node s h.who h.asked)

row_asked : (m : Node) (s : ℕ) (q : Row) → (s == m.core.who) ≡ false → is_sequencer m ≡ true → PlanAsked m s (answer_join_ask m s q)
row_asked m s q not_own leads =
    plan_if m s (nat_lt (life_of_name s) q.life) _ _ (λ t. same_plan m s _ refl refl)
    (λ a. plan_if m s ((q.life == life_of_name s) && nat_lt 0 q.left) _ _ (λ t. same_plan m s _ refl refl)
    (λ b. plan_if m s (nat_lt q.life (life_of_name s) && (nat_lt 0 q.life && ((q.left == 0) || nat_lt m.core.acc q.left))) _ _ (λ t. same_plan m s _ refl refl)
    (λ c. plan_if m s (fits (image_of_node m) (Join s) && not (has_room m)) _ _ (λ t. same_plan m s _ refl refl)
    (λ d. plan_if m s (fits (image_of_node m) (Join s)) _ _ (λ fit. record {
      stays = refl;
      who = refl;
      asked = admitted_ not_own leads fit (begins_at m s)
          (λ j other apart. rw apart refl);
    })
    (λ e. plan_if m s (nat_le q.joined (m.reports s).stored || nat_lt m.core.acc q.joined) _ _ (λ t. same_plan m s _ refl refl)
    (λ t. same_plan m s _ refl refl))))))
  where
    begins_at : (m : Node) (s : ℕ) → ((node_with_joiner_reports m s).reports s).taken ≡ m.core.base
    begins_at m s = let t : (s == s) ≡ true = grind (arith, nat_tests) in rw t refl

-- whoever hears it
asked : (m : Node) (s : ℕ) (v : Stamp) → ReportsByJoinRequest m (hear_packet m (Packet.JoinAsk s v)).node s
unfolding hear_packet hear_row join_ask_row
asked m s v = plan_ends m s _ (plan_if m s (member_hears_other m s && is_sequencer m) _ _
    (λ t.
    let both = both_of_and (member_hears_other m s) (is_sequencer m) t in
    row_asked m s (row_at_place (image_of_node m) s) (heard_member_is_other m s both.0) both.1)
    (λ t. same_plan m s _ refl refl))

refused_asked : (m : Node) (s cause : ℕ) → ReportsByJoinRequest m (hear_refused_bytes m cause).node s
unfolding hear_refused_bytes finish
refused_asked m s cause = as_before (λ j other. end_keeps_reports_of_others m j other)

cut_asked : (m : Node) (keep s : ℕ) (v : Stamp) → ReportsByJoinRequest m (hear_cut m keep (Packet.JoinAsk s v)).node s
cut_asked m keep s v = split_on_bool (nat_le (packet_length (Packet.JoinAsk s v)) keep)
    (λ a. rw a (asked m s v))
    (λ a. split_on_bool (nat_lt keep 12) (λ b. rw (a, b) (refused_asked m s 1)) (λ b. rw (a, b) (refused_asked m s 5)))

-- ---- the event

abbrev AskedIn : World → ℕ → ℕ → World → Type 0
AskedIn w name s u = ReportsByJoinRequest (w.nodes name) (u.nodes name) s

asked_if : (w : World) (name s : ℕ) (b : Bool) (u v : World) → AskedIn w name s u → AskedIn w name s v → AskedIn w name s (if b then u else v)
asked_if w name s true u v f g = f
asked_if w name s false u v f g = g

asked_same : (w : World) (e : Event) (name s : ℕ) (o : Outcome) → AskedIn w name s (world_with_record w e o)
unfolding world_with_record
asked_same w e name s o = as_before (λ j other. refl)

asked_step : (w : World) (e : Event) (name s : ℕ) (step : StepResult) → ReportsByJoinRequest (w.nodes name) step.node s → AskedIn w name s (world_with_step w e name step)
unfolding world_with_step
asked_step w e name s step h = let t : (name == name) ≡ true = grind (arith, nat_tests) in rw t h

asked_letter : (w : World) (e : Event) (name s : ℕ) (v : Stamp) (hearing : Packet → StepResult) (l : Letter)
    → ReportsByJoinRequest (w.nodes name) (hearing (Packet.JoinAsk s v)).node s → l.packet ≡ Packet.JoinAsk s v → AskedIn w name s (world_after_hearing w e name hearing (Some l))
asked_letter w e name s v hearing l h is =
    asked_if w name s (not (is_for l name)) _ _ (asked_same w e name s said.NotAddressed)
    (asked_if w name s (is_stopped w name) _ _ (asked_same w e name s said.IsStopped)
    (asked_step w e name s (hearing l.packet) (subst (λ p. ReportsByJoinRequest (w.nodes name) (hearing p).node s) (sym is) h)))

-- who hears it, by an act that names its letter
asked_act : (w : World) (e : Event) (name s : ℕ) (v : Stamp) (a : Act) (l : Letter) → letter_at w.letters (packet_heard_by_act a) ≡ Some l
    → l.packet ≡ Packet.JoinAsk s v → AskedIn w name s (world_after_act w e name a)
asked_act w e name s v (Act.Hear number) l at is = subst (λ o. AskedIn w name s (world_after_hearing w e name (hear_packet (w.nodes name)) o)) (sym at)
    (asked_letter w e name s v (hear_packet (w.nodes name)) l (asked (w.nodes name) s v) is)
asked_act w e name s v (Act.Cut number keep) l at is = subst (λ o. AskedIn w name s (world_after_hearing w e name (hear_cut (w.nodes name) keep) o)) (sym at)
    (asked_letter w e name s v (hear_cut (w.nodes name) keep) l (cut_asked (w.nodes name) keep s v) is)
asked_act w e name s v _ l at is = absurd (cc)

pub join_request_event_asks : (w : World) (e : Event) (s : ℕ) (v : Stamp) (l : Letter) → letter_at w.letters (packet_heard_by_act e.act) ≡ Some l
    → l.packet ≡ Packet.JoinAsk s v → AskedIn w (acting_name w e) s (happens w e)
unfolding happens
join_request_event_asks w e s v l at is = asked_act w e (acting_name w e) s v e.act l at is
