use Rattle.am_world.proofs.Words.{◌≡◌, length, sym, ap, ◌∙◌, subst, arith, place_of_name, after_answer, current, happens, Watching, watching_of, Play, play_after}
use Rattle.am_world.proofs.Words.{replay, IsWatched, stops_by_outcome}
use Rattle.am_world.proofs.Kept.{watched_count_is_events, answer_is_watched}
use Rattle.am_world.proofs.world.World.answer.Goals as goal

pub note_answer-requires-clause-few : goal.note_answer-requires-clause-few
note_answer-requires-clause-few c =
    let count = ap (λ (k : Watching). k.count) c.reserve.ensures.same in
    let events = watched_count_is_events c.self.inside.run (watching_of c.self.inside.watcher) c.self.invariant in
    let long = ap (λ (p : Play). length p.events) c.self.view_is in
    omega arith

pub invariant_of-self-2 : goal.invariant_of-self-2
invariant_of-self-2 c =
    let e = c.args.event.now in
    let p = c.self.inside.run in
    let k = watching_of c.reserve.new.self in
    let made = c.in_ok-answer.ensures.ok in
    let kept = subst (IsWatched p) (sym c.reserve.ensures.same) c.self.invariant in
    let here = subst (λ (q : Play). c.args.name ≡ current (replay q) (place_of_name e.node)) (sym c.self.view_is) c.requires.named in
    let is = subst (λ (q : Play). happens (replay q) e ≡ after_answer (replay q) e c.args.outcome) (sym c.self.view_is) c.requires.comes_ in
    let done = answer_is_watched p k e c.args.name c.args.outcome c.stops_by-stops.result kept here is (c.stops_by-stops.ensures
    ∙ ap (λ b. stops_by_outcome b c.args.outcome) c.is_stopped.ensures) in
    subst (λ q. IsWatched q (watching_of c.note_answer.new.self)) (sym made) (subst (IsWatched (play_after p e)) (sym c.note_answer.ensures) done)
