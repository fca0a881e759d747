use Rattle.am_world.proofs.Words.{◌≡◌, length, sym, ap, ◌∙◌, subst, arith, place_of_name, current, happens, IsEndOf, state_of, Watching, watching_of, comes}
use Rattle.am_world.proofs.Words.{◌+◌, drop, watching_after_told_step, Play, play_after, replay, IsWatched}
use Rattle.am_world.proofs.Kept.{watched_count_is_events, act_is_watched, group_grows_by_event}
use Rattle.am_journal.specs.declared.asked.Asked.TheVariants as asked
use Rattle.am_world.proofs.world.World.step.Goals as goal

pub note_step-requires-clause-few : goal.note_step-requires-clause-few
note_step-requires-clause-few c =
    let count = ap (λ (k : Watching). k.count) c.reserve.ensures.same in
    let events = watched_count_is_events c.self.inside.run (watching_of c.self.inside.watcher) c.self.invariant in
    omega arith

pub note_step-requires-clause-known : goal.note_step-requires-clause-known
note_step-requires-clause-known c =
    let e = c.args.event.now in
    let p = c.self.inside.run in
    let is : happens (replay p) e ≡ comes (replay p) e (asked.Step c.in-Step.what) = c.in_ok-what.ensures.comes ∙ ap (comes (replay p) e) c.in-Step.is in
    let more = group_grows_by_event p e c.in-Step.what is in
    let before = ap length c.group-known.ensures.value in
    let now = ap length (c.group.ensures.value ∙ ap (λ (q : Play). (replay q).group) c.in_ok-act-in-Step.ensures.ok) in
    omega arith

-- after a name's step the watcher keeps what is watched
pub invariant_of-self-in-Step : goal.invariant_of-self-in-Step
invariant_of-self-in-Step c =
    let e = c.args.event.now in
    let p = c.self.inside.run in
    let k = watching_of c.reserve.new.self in
    let m = state_of c.node.result.now in
    let made = c.in_ok-act-in-Step.ensures.ok in
    let kept = subst (IsWatched p) (sym c.reserve.ensures.same) c.self.invariant in
    let is : happens (replay p) e ≡ comes (replay p) e (asked.Step c.in-Step.what) = c.in_ok-what.ensures.comes ∙ ap (comes (replay p) e) c.in-Step.is in
    let end = subst (λ (q : Play). IsEndOf ((replay q).nodes (current (replay q) (place_of_name e.node))) m) made c.node.ensures in
    let group = c.group.ensures.value ∙ ap (λ (q : Play). (replay q).group) made in
    let known = length c.group-known.result.now in
    let told = c.note_step.ensures
    ∙ ap (λ n. watching_after_told_step k c.name_at-name.result n c.in-Step.what (known + 1) (drop known c.group.result.now)) c.shown_by-shown.ensures in
    let done = act_is_watched p k e c.name_at-name.result c.in-Step.what m known c.group.result.now
    c.group-known.ensures.founded kept c.name_at-name.ensures is end (ap length c.group-known.ensures.value) group in
    subst (λ q. IsWatched q (watching_of c.note_step.new.self)) (sym made) (subst (IsWatched (play_after p e)) (sym told) done)
