-- The sends of a race have planned bodies.
use Rattle.am_trace_laws.proofs.ScriptWords.{◌≡◌, ℕ, not, true, List, [], ◌∷◌, ◌++◌, refl, subst, ap, ⊎_elim, All, and_parts, Outcome, place_of_name, Letter, Act, By}
use Rattle.am_trace_laws.proofs.ScriptWords.{Event, Record, RacePlan, Node, current, same_act, asks, IsLegalWithTags, calls_of, is_ready, of_call, own_of}
use Rattle.am_trace_laws.proofs.ScriptWords.{up_to_last, world_after, letter_lost_by_part, is_turn_of, is_turn, HasBody, ThreadHasBodies, RacesHavePlannedBodies}
use Rattle.am_trace_laws.proofs.Planned.{same_bytes_gives_equal_lists, all_rest_of_each_record, ActPropertyIsKept, record_is_turn_or_planned}
use Rattle.am_group.specs.declared.event.Act.TheVariants as act

-- a turn's act is a tick, a hearing, or gives up a name
turn_act : (plan : RacePlan) (before knew : List Record) (m : Node) (name caller : ℕ) (a : Act) (lost : ℕ)
    → is_turn_of plan before knew m name caller a lost ≡ true → HasBody a
turn_act plan before knew m name caller (act.Send body) lost h = absurd (cc)
turn_act plan before knew m name caller _ lost h = record { within = tt; bytes = tt }

turn_has : (plan : RacePlan) (before : List Record) (e : Event) (by : By) → is_turn plan before e by ≡ true → HasBody e.act
unfolding is_turn
turn_has plan before e by h =
    let w = world_after plan.founding before in
    let name = current w (place_of_name e.node) in
    let rest = (and_parts (not (is_ready (w.nodes name) (own_of (of_call by.caller by.call before)))) _ h).1 in
    turn_act plan before (up_to_last (place_of_name name) by.caller before) (w.nodes name) name by.caller e.act (letter_lost_by_part by.part) rest

-- what a call asks at its end isn't a send
asks_has : (a : Act) (o : Outcome) (letters : List Letter) (b : Act) → asks a o letters b ≡ true → HasBody b
asks_has a o letters (act.Send body) h = absurd (no_send a h)
  where
    no_send : (x : Act) → asks x o letters (act.Send body) ≡ true → ⊥
    no_send act.Join is = cc
    no_send _ is = cc
asks_has a o letters _ h = record { within = tt; bytes = tt }

-- an act that is the planned one
planned_has : (a b : Act) → same_act a b ≡ true → HasBody a → HasBody b
planned_has (act.Send x) (act.Send y) h has = subst HasBody (ap (λ (z : List ℕ). act.Send z) (same_bytes_gives_equal_lists x y h)) has
planned_has a (act.Send y) h has = absurd (no_send a h)
  where
    no_send : (x : Act) → same_act x (act.Send y) ≡ true → ⊥
    no_send act.Join is = cc
    no_send _ is = cc
planned_has a _ h has = record { within = tt; bytes = tt }

kept : ActPropertyIsKept HasBody (λ r. Unit {0})
kept = record {
  take_ = record { within = tt; bytes = tt };
  planned = planned_has;
  asked = λ own b good unanswered asks_it. asks_has own.event.act own.outcome own.packets b asks_it;
}

record_has : (plan : RacePlan) (journal before rest : List Record) (r : Record) → All ThreadHasBodies plan.threads
    → IsLegalWithTags plan (calls_of plan) journal → journal ≡ before ++ r ∷ rest → HasBody r.event.act
record_has plan journal before rest r threads legal is = ⊎_elim
    (λ turn. turn_has plan before r.event r.by (legal.turns before rest r is turn))
    (λ has. has)
    (record_is_turn_or_planned HasBody (λ x. Unit {0}) kept plan journal before rest r threads (λ k d low. tt) legal is)

pub race_sends_have_planned_bodies : RacesHavePlannedBodies
race_sends_have_planned_bodies plan journal threads legal =
    all_rest_of_each_record (λ r. HasBody r.event.act) journal [] journal (λ before rest r is. record_has plan journal before rest r threads legal is) refl
