-- In each run a sequencer trims no more than it knows each member of its list to have taken.
use Rattle.am_repair.proofs.RepairWords.{◌≡◌, ℕ, ◌<◌, ◌==◌, ◌&&◌, ◌||◌, not, nat_lt, nat_le, Bool, true, false, if◌then◌else◌, List, [], ◌∷◌, Option, Some, None}
use Rattle.am_repair.proofs.RepairWords.{refl, sym, ap, subst, arith, Stamp, Row, Outcome, Join, Rules, life_of_name, has, row_at_place, fits, Packet, Letter, kind_of, Act}
use Rattle.am_repair.proofs.RepairWords.{Event, is_for, letter_at, Node, image_of_node, is_sequencer, has_room, push_entry, Plan, StepResult, finish, hear_packet, hear_refused_bytes}
use Rattle.am_repair.proofs.RepairWords.{packet_length, node_with_joiner_reports, join_ask_row, member_hears_other, hear_row, World, start, is_stopped, world_with_record, world_with_step}
use Rattle.am_repair.proofs.RepairWords.{world_after_hearing, hear_cut, world_after_act, happens, world_after_events, packet_heard_by_act, split_on_bool, Cause, Changes, no_change, changed, acting_name, IsCause}
use Rattle.am_repair.proofs.RepairWords.{EventHappens, steps, events_have_effects, actor_is_below_256, heard_stamps_have_names, HeardStampsHaveNames, HeardWelcomeImageIsUsed, NodeTrimFronts, lower_own_report_keeps_fronts, pushed_entry_keeps_trim_fronts}
use Rattle.am_repair.proofs.RepairWords.{TrimsOnlyTakenAlongStep, changes_trim_only_taken, WorldTrimsOnlyTaken, heard_welcome_image_is_used, each_node_trims_only_taken, events_trim_only_taken, start_trims_only_taken, TrimsKnown, SequencersTrimKnown}
use Rattle.am_model.specs.Joining.{answer_join_ask}
use Rattle.am_base.specs.declared.outcome.Outcome.TheVariants as said
use Rattle.am_repair.proofs.Known.Knowing.{CauseIsNoJoin, trims_known_after_change, trims_known_after_end, trims_known_after_join}

-- ---- a step of another cause than a request to join

known_changes : (rules : Rules) {c : Cause} {o : Outcome} (m n : Node) → CauseIsNoJoin c → HeardStampsHaveNames c → HeardWelcomeImageIsUsed c → Changes c o m n → TrimsOnlyTakenAlongStep rules m
    → TrimsKnown m → TrimsKnown n
known_changes rules m n none names used no_change a h = h
known_changes rules m n none names used (changed {n = x} one more) a h =
    known_changes rules x n none names used more (changes_trim_only_taken rules m x names used (changed one no_change) a)
    (trims_known_after_change _ _ m x none a.balloted a.owned.fronts one h)

-- ---- a request to join

joined_fronts : (m : Node) (s : ℕ) → NodeTrimFronts m → fits (image_of_node m) (Join s) ≡ true → NodeTrimFronts (push_entry (node_with_joiner_reports m s) (Join s))
joined_fronts m s f fit =
    pushed_entry_keeps_trim_fronts (node_with_joiner_reports m s) (Join s) fit (lower_own_report_keeps_fronts _ (split_on_bool (m.core.who == s) (λ t. rw t f.base) (λ g. rw g f.reported)) f)

-- a plan whose node keeps it
record PlanKnown (p : Plan) : Type 0 where
  stays : p.departs ≡ false
  fronts : NodeTrimFronts p.node
  known : TrimsKnown p.node

plan_if : (b : Bool) (p q : Plan) → (b ≡ true → PlanKnown p) → (b ≡ false → PlanKnown q) → PlanKnown (if b then p else q)
plan_if true p q f g = f refl
plan_if false p q f g = g refl

plan_known : (m : Node) (p : Plan) → PlanKnown p → TrimsKnown (finish m p).node
unfolding finish
plan_known m p h = rw h.stays (trims_known_after_end p.node h.fronts h.known)

asked_known : (m : Node) (s : ℕ) (q : Row) → NodeTrimFronts m → TrimsKnown m → PlanKnown (answer_join_ask m s q)
asked_known m s q f h =
    plan_if (nat_lt (life_of_name s) q.life) _ _ (λ t. record { stays = refl; fronts = f; known = h })
    (λ a. plan_if ((q.life == life_of_name s) && nat_lt 0 q.left) _ _ (λ t. record { stays = refl; fronts = f; known = h })
    (λ b. plan_if (nat_lt q.life (life_of_name s) && (nat_lt 0 q.life && ((q.left == 0) || nat_lt m.core.acc q.left))) _ _
    (λ t. record { stays = refl; fronts = f; known = h })
    (λ c. plan_if (fits (image_of_node m) (Join s) && not (has_room m)) _ _ (λ t. record { stays = refl; fronts = f; known = h })
    (λ d. plan_if (fits (image_of_node m) (Join s)) _ _ (λ fit. record { stays = refl; fronts = joined_fronts m s f fit; known = trims_known_after_join m s f h })
    (λ e. plan_if (nat_le q.joined (m.reports s).stored || nat_lt m.core.acc q.joined) _ _ (λ t. record { stays = refl; fronts = f; known = h })
    (λ t. record { stays = refl; fronts = f; known = h }))))))

join_ends : (m : Node) (s : ℕ) (v : Stamp) → NodeTrimFronts m → TrimsKnown m → TrimsKnown (hear_packet m (Packet.JoinAsk s v)).node
unfolding hear_packet hear_row join_ask_row
join_ends m s v f h = plan_known m _ (plan_if (member_hears_other m s && is_sequencer m) _ _ (λ t. asked_known m s (row_at_place (image_of_node m) s) f h)
    (λ t. record { stays = refl; fronts = f; known = h }))

refused_known : (m : Node) (cause : ℕ) → NodeTrimFronts m → TrimsKnown m → TrimsKnown (hear_refused_bytes m cause).node
unfolding hear_refused_bytes finish
refused_known m cause f h = trims_known_after_end m f h

-- a request to join, among packets
ask_of : (p : Packet) → (kind_of p == 9) ≡ true → (s : ℕ) × (v : Stamp) × (p ≡ Packet.JoinAsk s v)
ask_of (Packet.JoinAsk s v) t = (s, v, refl)
ask_of _ t = absurd (cc)

asks_known : (m : Node) (p : Packet) → (kind_of p == 9) ≡ true → NodeTrimFronts m → TrimsKnown m → TrimsKnown (hear_packet m p).node
asks_known m p t f h = let k = ask_of p t in subst (λ x. TrimsKnown (hear_packet m x).node) (sym k.2) (join_ends m k.0 k.1 f h)

cut_known : (m : Node) (keep : ℕ) (p : Packet) → (kind_of p == 9) ≡ true → NodeTrimFronts m → TrimsKnown m → TrimsKnown (hear_cut m keep p).node
cut_known m keep p t f h = split_on_bool (nat_le (packet_length p) keep)
    (λ a. rw a (asks_known m p t f h))
    (λ a. split_on_bool (nat_lt keep 12) (λ b. rw (a, b) (refused_known m 1 f h)) (λ b. rw (a, b) (refused_known m 5 f h)))

-- ---- worlds

abbrev AllTrim : World → Type 0
AllTrim w = (name : ℕ) → name < 256 → TrimsKnown (w.nodes name)

trim_step : (w : World) (e : Event) (name : ℕ) (s : StepResult) → AllTrim w → TrimsKnown s.node → AllTrim (world_with_step w e name s)
unfolding world_with_step
trim_step w e name s h k other few = split_on_bool (other == name) (λ t. rw t k) (λ f. rw f (h other few))

trim_if : (b : Bool) (u v : World) → AllTrim u → AllTrim v → AllTrim (if b then u else v)
trim_if true u v f g = f
trim_if false u v f g = g

trim_unchanged : (w : World) (e : Event) (o : Outcome) → AllTrim w → AllTrim (world_with_record w e o)
unfolding world_with_record
trim_unchanged w e o h = h

abbrev is_join : Option Letter → Bool
is_join None = false
is_join (Some l) = kind_of l.packet == 9

-- a request to join is heard, whole or in part
trim_letter : (w : World) (e : Event) (name : ℕ) (hearing : Packet → StepResult) (o : Option Letter)
    → ((p : Packet) → (kind_of p == 9) ≡ true → TrimsKnown (hearing p).node) → is_join o ≡ true → AllTrim w → AllTrim (world_after_hearing w e name hearing o)
trim_letter w e name hearing None k t h = absurd (cc)
trim_letter w e name hearing (Some l) k t h =
    trim_if (not (is_for l name)) _ _ (trim_unchanged w e said.NotAddressed h)
    (trim_if (is_stopped w name) _ _ (trim_unchanged w e said.IsStopped h) (trim_step w e name (hearing l.packet) h (k l.packet t)))

trim_join : (rules : Rules) (w : World) (e : Event) (a : Act) → WorldTrimsOnlyTaken rules w → AllTrim w → is_join (letter_at w.letters (packet_heard_by_act a)) ≡ true
    → AllTrim (world_after_act w e (acting_name w e) a)
trim_join rules w e (Act.Hear number) laws h t =
    let name = acting_name w e in
    let few = actor_is_below_256 rules w e laws.blanks.base.named in
    trim_letter w e name (hear_packet (w.nodes name)) (letter_at w.letters number)
    (λ p u. asks_known (w.nodes name) p u (laws.each name few).fronts (h name few)) t h
trim_join rules w e (Act.Cut number keep) laws h t =
    let name = acting_name w e in
    let few = actor_is_below_256 rules w e laws.blanks.base.named in
    trim_letter w e name (hear_cut (w.nodes name) keep) (letter_at w.letters number)
    (λ p u. cut_known (w.nodes name) keep p u (laws.each name few).fronts (h name few)) t h
trim_join rules w e _ laws h t = absurd (cc)

-- anything else
trim_happens : (rules : Rules) (w : World) (e : Event) (v : World) → WorldTrimsOnlyTaken rules w → AllTrim w → is_join (letter_at w.letters (packet_heard_by_act e.act)) ≡ false
    → EventHappens w e v → AllTrim v
unfolding world_with_record world_with_step
trim_happens rules w e v laws h none (steps c s runs cause effect) =
    let name = acting_name w e in
    let few = actor_is_below_256 rules w e laws.blanks.base.named in
    let no_join : CauseIsNoJoin c = λ sender stamp is. (let was = subst (IsCause w name e.act) is cause in
    let there = ap is_join was.there in
    cc) in
    trim_step w e name s h (known_changes rules (w.nodes name) s.node no_join (heard_stamps_have_names rules w e c laws.blanks.base cause)
    (heard_welcome_image_is_used rules w e c laws cause) effect.changes (each_node_trims_only_taken rules w name few laws) (h name few))
trim_happens rules w e v laws h none _ = h

trim_event : (rules : Rules) (w : World) (e : Event) → WorldTrimsOnlyTaken rules w → AllTrim w → AllTrim (happens w e)
unfolding happens
trim_event rules w e laws h = split_on_bool (is_join (letter_at w.letters (packet_heard_by_act e.act))) (λ t. trim_join rules w e e.act laws h t)
    (λ f. trim_happens rules w e (happens w e) laws h f (events_have_effects w e))

trim_along : (rules : Rules) (w : World) (es : List Event) → WorldTrimsOnlyTaken rules w → AllTrim w → AllTrim (world_after_events w es)
unfolding world_after_events
trim_along rules w [] laws h = h
trim_along rules w (e ∷ es) laws h = trim_along rules (happens w e) es (events_trim_only_taken rules w e (happens w e) (events_have_effects w e) laws)
    (trim_event rules w e laws h)

trim_start : (rules : Rules) → AllTrim (start rules)
trim_start rules name few = split_on_bool (has rules.founders name) (λ t. rw t (λ u i low there. omega arith)) (λ f. rw f (λ u i low there. omega arith))

pub sequencers_trim_known : SequencersTrimKnown
sequencers_trim_known rules events name may few = trim_along rules (start rules) events (start_trims_only_taken rules may) (trim_start rules) name few
