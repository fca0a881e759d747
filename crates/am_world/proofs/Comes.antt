-- What an event asks of a node, or its answer without one, comes to what the run makes of it.
use Rattle.am_world.proofs.Words.{◌≡◌, ℕ, ◌+◌, ◌<◌, ◌==◌, ◌||◌, not, Bool, true, false, if◌then◌else◌, List, [], ◌∷◌, ◌++◌, Option, Some, None}
use Rattle.am_world.proofs.Words.{refl, sym, ap, ◌∙◌, subst, place_of_name, life_of_name, NodeEvent, Packet, Letter}
use Rattle.am_world.proofs.Words.{IsPacket, spelling, Act, Event, letter_at, is_for, StepResult, step, hear_packet, World, current, is_stopped, world_with_record, world_with_step}
use Rattle.am_world.proofs.Words.{world_after_hearing, hear_cut, world_after_return, world_with_next_life, world_after_act, happens, has_departed, spelled_packet_is_heard, cut_packet_whole_or_refused, flag_of}
use Rattle.am_world.proofs.Words.{Asked, OnStep, if_running, first_bytes, give_up_or_answer, stops_node, returns, event_or_answer, SpellsPacket, after_answer, comes}
use Rattle.am_step_laws.proofs.Watching.Fresh.{place_of_name_at, life_of_name_at}
use Rattle.am_journal.specs.Asked.{hears}
use Rattle.am_base.specs.declared.outcome.Outcome.TheVariants as said
use Rattle.am_journal.specs.declared.asked.Asked.TheVariants as asked
use Rattle.am_base.specs.declared.event.NodeEvent.TheVariants as does
use Rattle.am_group.specs.declared.event.Act.TheVariants as act

-- what holds where a node is to do a step, by what held there
pub on_step_weaker : {P Q : Type 0} (r : Asked) → (P → Q) → OnStep r P → OnStep r Q
on_step_weaker (asked.Step what) f p = f p
on_step_weaker (asked.Answer outcome) f p = tt

-- ---- acts

abbrev name_of : World → Event → ℕ
name_of w e = current w (place_of_name e.node)

run_case : (w : World) (e : Event) (what : NodeEvent) (b : Bool)
    → (if b then world_with_record w e said.IsStopped else world_with_step w e (name_of w e) (step (w.nodes (name_of w e)) what)) ≡ comes w e (if_running b what)
run_case w e what true = refl
run_case w e what false = refl

give_case : (w : World) (e : Event) (other : ℕ) (b c : Bool)
    → (if b then world_with_record w e said.IsStopped else if c then world_with_step w e (name_of w e)
    (step (w.nodes (name_of w e)) (does.GiveUp other)) else world_with_record w e said.NotStopped) ≡ comes w e (give_up_or_answer b c other)
give_case w e other true c = refl
give_case w e other false true = refl
give_case w e other false false = refl

stop_case : (w : World) (e : Event) (b : Bool) → (if b then world_with_record w e said.IsStopped else world_with_record
    (record w { stopped = w.stopped ++ name_of w e ∷ [] }) e said.Stopped) ≡ after_answer w e (stops_node b)
stop_case w e true = refl
stop_case w e false = refl

return_case : (w : World) (e : Event) (gone sixteen : Bool) (life : ℕ)
    → (if not gone then world_with_record w e (said.Running life) else if sixteen then world_with_record w e said.NoLife else world_with_next_life
    (world_with_record w e (said.Returned (life + 1))) (place_of_name e.node))
    ≡ after_answer w e (if gone then (if sixteen then said.NoLife else said.Returned (life + 1)) else said.Running life)
return_case w e true true life = refl
return_case w e true false life = refl
return_case w e false sixteen life = refl

letter_case : (w : World) (e : Event) (addressed stopped : Bool) (what : NodeEvent) (s : StepResult)
    → OnStep (if addressed then if_running stopped what else asked.Answer said.NotAddressed) (step (w.nodes (name_of w e)) what ≡ s)
    → (if not addressed then world_with_record w e said.NotAddressed else if stopped then world_with_record w e said.IsStopped else world_with_step w e (name_of w e) s)
    ≡ comes w e (if addressed then if_running stopped what else asked.Answer said.NotAddressed)
letter_case w e false stopped what s h = refl
letter_case w e true true what s h = refl
letter_case w e true false what s h = ap (world_with_step w e (name_of w e)) (sym h)

hear_case : (w : World) (e : Event) (keep : Option ℕ) (stopped : Bool) (hearing : Packet → StepResult) (found : Option Letter)
    → ((p : Packet) → IsPacket p → step (w.nodes (name_of w e)) (does.Hear (first_bytes keep (spelling p))) ≡ hearing p)
    → OnStep (hears keep (name_of w e) stopped found) ((l : Letter) → found ≡ Some l → IsPacket l.packet) → is_stopped w (name_of w e) ≡ stopped
    → world_after_hearing w e (name_of w e) hearing found ≡ comes w e (hears keep (name_of w e) stopped found)
hear_case w e keep stopped hearing None same h is = refl
hear_case w e keep stopped hearing (Some letter) same h is =
    let addressed = is_for letter (name_of w e) in
    let what = does.Hear (first_bytes keep (spelling letter.packet)) in
    rw is
    (letter_case w e addressed stopped what (hearing letter.packet)
    (on_step_weaker (if addressed then if_running stopped what else asked.Answer said.NotAddressed) (λ (all : (l : Letter) → Some letter ≡ Some l
    → IsPacket l.packet). same letter.packet (all letter refl)) h))

abbrev pub has_actor_gone_now : World → Event → Bool
has_actor_gone_now w e = has_departed (w.nodes (name_of w e)).status

abbrev asked_now : World → Event → List Bool → Act → Asked
asked_now w e flags a = event_or_answer w.letters flags (has_actor_gone_now w e) (name_of w e) a

runs : (w : World) (e : Event) (flags : List Bool) (what : NodeEvent) → flag_of flags (name_of w e) ≡ is_stopped w (name_of w e)
    → (if is_stopped w (name_of w e) then world_with_record w e said.IsStopped else world_with_step w e (name_of w e) (step (w.nodes (name_of w e)) what))
    ≡ comes w e (if_running (flag_of flags (name_of w e)) what)
runs w e flags what agree = subst (λ b. (if b then world_with_record w e said.IsStopped else world_with_step w e (name_of w e) (step (w.nodes (name_of w e)) what))
    ≡ comes w e (if_running (flag_of flags (name_of w e)) what)) agree (run_case w e what (flag_of flags (name_of w e)))

gives : (w : World) (e : Event) (flags : List Bool) (other : ℕ) → ((name : ℕ) → flag_of flags name ≡ is_stopped w name)
    → world_after_act w e (name_of w e) (act.GiveUp other) ≡ comes w e (give_up_or_answer (flag_of flags (name_of w e)) (flag_of flags other) other)
gives w e flags other agree = give_case w e other (is_stopped w (name_of w e)) (is_stopped w other)
    ∙ ap (λ b. comes w e (give_up_or_answer b (is_stopped w other) other)) (sym (agree (name_of w e)))
    ∙ ap (λ b. comes w e (give_up_or_answer (flag_of flags (name_of w e)) b other)) (sym (agree other))

stop_now : (w : World) (e : Event) (flags : List Bool) → ((name : ℕ) → flag_of flags name ≡ is_stopped w name)
    → world_after_act w e (name_of w e) act.Stop ≡ after_answer w e (stops_node (flag_of flags (name_of w e)))
stop_now w e flags agree = stop_case w e (is_stopped w (name_of w e)) ∙ ap (λ b. after_answer w e (stops_node b)) (sym (agree (name_of w e)))

return_now : (w : World) (e : Event) (flags : List Bool) → ((name : ℕ) → flag_of flags name ≡ is_stopped w name) → place_of_name e.node < 16
    → 0 < w.lives (place_of_name e.node) → world_after_act w e (name_of w e) act.Return
    ≡ after_answer w e (returns (flag_of flags (name_of w e) || has_actor_gone_now w e) (life_of_name (name_of w e)))
return_now w e flags agree within lives =
    let place = place_of_name e.node in
    let gone = has_actor_gone_now w e in
    ap (world_after_return w e) (place_of_name_at place (w.lives place) within)
    ∙ return_case w e (is_stopped w (name_of w e) || gone) (w.lives place == 16) (w.lives place)
    ∙ ap (λ b. after_answer w e (returns (b || gone) (w.lives place))) (sym (agree (name_of w e)))
    ∙ ap (λ l. after_answer w e (returns (flag_of flags (name_of w e) || gone) l)) (sym (life_of_name_at place (w.lives place) within lives))

heard_now : (w : World) (e : Event) (flags : List Bool) (number : ℕ) → ((name : ℕ) → flag_of flags name ≡ is_stopped w name)
    → OnStep (asked_now w e flags (act.Hear number)) (SpellsPacket w.letters (act.Hear number))
    → world_after_act w e (name_of w e) (act.Hear number) ≡ comes w e (asked_now w e flags (act.Hear number))
heard_now w e flags number agree spells =
    let found = letter_at w.letters number in
    hear_case w e None (flag_of flags (name_of w e)) (hear_packet (w.nodes (name_of w e))) found (λ p is. spelled_packet_is_heard (w.nodes (name_of w e)) p is)
    (on_step_weaker (asked_now w e flags (act.Hear number)) (λ (all : SpellsPacket w.letters (act.Hear number)).
    λ l is. all (record { packet = number; keep = None }) l refl is) spells)
    (sym (agree (name_of w e)))

cut_now : (w : World) (e : Event) (flags : List Bool) (number keep : ℕ) → ((name : ℕ) → flag_of flags name ≡ is_stopped w name)
    → OnStep (asked_now w e flags (act.Cut number keep)) (SpellsPacket w.letters (act.Cut number keep))
    → world_after_act w e (name_of w e) (act.Cut number keep) ≡ comes w e (asked_now w e flags (act.Cut number keep))
cut_now w e flags number keep agree spells =
    let found = letter_at w.letters number in
    hear_case w e (Some keep) (flag_of flags (name_of w e)) (hear_cut (w.nodes (name_of w e)) keep) found
    (λ p is. cut_packet_whole_or_refused (w.nodes (name_of w e)) p keep is)
    (on_step_weaker (asked_now w e flags (act.Cut number keep)) (λ (all : SpellsPacket w.letters (act.Cut number keep)).
    λ l is. all (record { packet = number; keep = Some keep }) l refl is) spells)
    (sym (agree (name_of w e)))

by_act : (w : World) (e : Event) (flags : List Bool) (a : Act) → ((name : ℕ) → flag_of flags name ≡ is_stopped w name) → place_of_name e.node < 16
    → 0 < w.lives (place_of_name e.node) → OnStep (asked_now w e flags a) (SpellsPacket w.letters a) → world_after_act w e (name_of w e) a ≡ comes w e (asked_now w e flags a)
by_act w e flags (act.Send body) agree within lives h = runs w e flags (does.Send body) (agree (name_of w e))
by_act w e flags (act.Done req) agree within lives h = runs w e flags (does.Done req) (agree (name_of w e))
by_act w e flags act.Take agree within lives h = runs w e flags does.Take (agree (name_of w e))
by_act w e flags act.Join agree within lives h = runs w e flags does.Join (agree (name_of w e))
by_act w e flags act.State agree within lives h = runs w e flags does.State (agree (name_of w e))
by_act w e flags act.Leave agree within lives h = runs w e flags does.Leave (agree (name_of w e))
by_act w e flags (act.Reset least resilience) agree within lives h = runs w e flags (does.Reset least resilience) (agree (name_of w e))
by_act w e flags (act.Ask round) agree within lives h = runs w e flags (does.Ask round) (agree (name_of w e))
by_act w e flags (act.GiveUp other) agree within lives h = gives w e flags other agree
by_act w e flags act.Stop agree within lives h = stop_now w e flags agree
by_act w e flags act.Tick agree within lives h = runs w e flags does.Tick (agree (name_of w e))
by_act w e flags (act.Hear number) agree within lives h = heard_now w e flags number agree h
by_act w e flags (act.Cut number keep) agree within lives h = cut_now w e flags number keep agree h
by_act w e flags act.Return agree within lives h = return_now w e flags agree within lives

-- what the run makes of an event
pub event_comes_to_asked : (w : World) (e : Event) (flags : List Bool) → ((name : ℕ) → flag_of flags name ≡ is_stopped w name) → place_of_name e.node < 16
    → 0 < w.lives (place_of_name e.node) → OnStep (asked_now w e flags e.act) (SpellsPacket w.letters e.act) → happens w e ≡ comes w e (asked_now w e flags e.act)
unfolding happens
event_comes_to_asked w e flags agree within lives spells = by_act w e flags e.act agree within lives spells
