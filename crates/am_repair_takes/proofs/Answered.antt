-- What stood is answered after rounds in which applications take.
use Rattle.am_repair_takes.proofs.Words.{◌≡◌, ℕ, zero, suc, ◌+◌, ◌≤◌, List, [], ◌++◌, length, refl, sym, ap, ◌∙◌, subst, arith, Event, top, Settling}
use Rattle.am_repair_takes.proofs.Words.{settle_then, ticks_of_places, hearings, settle_waves, World, current, start, run, world_after_events, runs_go_on, takes, taking_round, taking_rounds, after_rounds}
use Rattle.am_repair_takes.proofs.Words.{round_count, AnsweredByTaking, AnswersUpTo, accepted_are_answered}
use Rattle.am_repair_takes.proofs.Rounds.{repaired_by_taking}

-- a settling world is that of its events
abbrev Settles : World → Settling → Type 0
Settles w s = s.world ≡ world_after_events w s.events

settles_then : (w : World) (s : Settling) (events : List Event) → Settles w s → Settles w (settle_then s events)
settles_then w s events h = ap (λ u. world_after_events u events) h ∙ sym (runs_go_on w s.events events)

settles_waves : (k after : ℕ) (w : World) (s : Settling) → Settles w s → Settles w (settle_waves k after s)
unfolding settle_waves
settles_waves zero after w s h = h
settles_waves (suc k) after w s h = settles_waves k (length s.world.letters) w (settle_then s (hearings s.world after))
    (settles_then w s (hearings s.world after) h)

settles_round : (w : World) (s : Settling) → Settles w s → Settles w (taking_round s)
settles_round w s h =
    let t = settle_then s (takes s.world) in
    settles_waves 5 (length t.world.letters) w (settle_then t (ticks_of_places t.world)) (settles_then w t (ticks_of_places t.world) (settles_then w s (takes s.world) h))

settles_rounds : (k : ℕ) (w : World) (s : Settling) → Settles w s → Settles w (taking_rounds k s)
unfolding taking_rounds
settles_rounds zero w s h = h
settles_rounds (suc k) w s h = settles_rounds k w (taking_round s) (settles_round w s h)

pub answered_by_taking : AnsweredByTaking
unfolding world_after_events
answered_by_taking rules events place more may low lawful repair name there =
    let w = run rules events in
    let last = top (w.nodes (current w place)) in
    let s : Settling = record { world = w; events = [] } in
    let es = (taking_rounds (round_count rules + more) s).events in
    let is : after_rounds (round_count rules + more) w ≡ run rules (events ++ es) = settles_rounds (round_count rules + more) w s refl
    ∙ sym (runs_go_on (start rules) events es) in
    let far = (repaired_by_taking rules events place more may low lawful repair name there).caught.accepted in
    let accepted : last ≤ ((run rules (events ++ es)).nodes name).core.acc = subst (λ (v : World). last ≤ (v.nodes name).core.acc) is far in
    let all : AnswersUpTo ((run rules (events ++ es)).nodes name) last = λ number req body from within at.
    accepted_are_answered rules (events ++ es) name may number req body from (omega arith) at in
    subst (λ (v : World). AnswersUpTo (v.nodes name) last) (sym is) all
