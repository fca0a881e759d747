-- A world on its way through some events.
use Rattle.std.proofs.Common.{◌≡◌, ◌+◌, ◌<◌, List, [], ◌++◌, length, take, sym, ◌∙◌, ap, append_assoc, append-nil, arith}
use Rattle.std.proofs.Math.Seq.{take-append-add}
use Rattle.std.proofs.lemmas.List.{length-append, length-take, take-append-le}
use Rattle.am_base.specs.Most.{most_events_of_run}
use Rattle.am_group.specs.declared.event.Event.{Event}
use Rattle.am_group_defs.specs.World.{start, world_after_events}
use Rattle.am_group_defs.proofs.Runs.{runs_go_on}
use Rattle.am_world.specs.Runs.{Play, replay}
use Rattle.am_world.specs.declared.world.WorldRefusal.{WorldRefusal}
use Rattle.am_world.specs.declared.world.WorldRefusal.TheVariants.{Spent}
use Rattle.am_world.specs.Settling.{Did, Stuck}

-- the world after some events more
pub replay_of_done_events : (events : List Event) (old new : Play) → Did events old new → replay new ≡ world_after_events (replay old) events
replay_of_done_events events old new did = ap replay did ∙ runs_go_on (start old.rules) old.events events

-- some of all events are done, and the rest is to come
pub record DidSomeOfEvents (all rest : List Event) (old now : Play) : Type 0 where
  pub done : List Event
  pub is : now ≡ record old { events = old.events ++ done }
  pub whole : done ++ rest ≡ all

pub no_event_is_done_yet : (all rest : List Event) (old : Play) → rest ≡ all → DidSomeOfEvents all rest old old
no_event_is_done_yet all rest old is = record { done = []; is = ap (λ (es : List Event). record old { events = es }) (sym (append-nil old.events)); whole = is }

pub all_events_are_done : (all rest : List Event) (old now : Play) → rest ≡ [] → DidSomeOfEvents all rest old now → Did all old now
all_events_are_done all rest old now none g =
    let whole : g.done ≡ all = sym (append-nil g.done) ∙ ap (λ (es : List Event). g.done ++ es) (sym none) ∙ g.whole in
    g.is ∙ ap (λ (es : List Event). record old { events = old.events ++ es }) whole

-- the same rest, said otherwise
pub done_events_with_equal_rest : (all rest same : List Event) (old now : Play) → rest ≡ same → DidSomeOfEvents all rest old now → DidSomeOfEvents all same old now
done_events_with_equal_rest all rest same old now is g = record { done = g.done; is = g.is; whole = ap (λ (es : List Event). g.done ++ es) (sym is) ∙ g.whole }

-- stuck in a part
pub stuck_within_all_events : (all part rest : List Event) (old now new : Play) (refusal : WorldRefusal) → DidSomeOfEvents all (part ++ rest) old now → Stuck part now new refusal
    → Stuck all old new refusal
stuck_within_all_events all part rest old now new refusal g s =
    let took : take (length g.done + s.count) all ≡ g.done ++ take s.count part =
    ap (take (length g.done + s.count)) (sym g.whole) ∙ take-append-add g.done (part ++ rest) s.count
    ∙ ap (λ (es : List Event). g.done ++ es) (take-append-le s.count part rest (let f = s.further in omega arith)) in
    record {
      count = length g.done + s.count;
      further =
          let f = s.further in
          let whole = sym (ap length g.whole) ∙ length-append g.done (part ++ rest) in
          let parts = length-append part rest in
          omega arith;
      did = s.did ∙ ap (λ (p : Play). record p { events = p.events ++ take s.count part }) g.is
          ∙ ap (λ (es : List Event). record old { events = es }) (append_assoc old.events g.done (take s.count part)
          ∙ ap (λ (es : List Event). old.events ++ es) (sym took));
      spent = s.spent;
    }

-- where it was Spent, all of them are more than a run may have
pub stuck_spent_beyond_most_events : (events : List Event) (old new : Play) (refusal : WorldRefusal) → Stuck events old new refusal → refusal ≡ Spent
    → most_events_of_run < length old.events + length events
stuck_spent_beyond_most_events events old new refusal s is =
    let full = s.spent.0 is in
    let f = s.further in
    let many : length new.events ≡ length (old.events ++ take s.count events) = ap (λ (p : Play). length p.events) s.did in
    let parts = length-append old.events (take s.count events) in
    let few = length-take s.count events in
    omega arith

-- some more are done
pub done_events_with_next_part : (all part rest : List Event) (old now new : Play) → DidSomeOfEvents all (part ++ rest) old now → Did part now new → DidSomeOfEvents all rest old new
done_events_with_next_part all part rest old now new g did = record {
  done = g.done ++ part;
  is = did ∙ ap (λ (p : Play). record p { events = p.events ++ part }) g.is
      ∙ ap (λ (es : List Event). record old { events = es }) (append_assoc old.events g.done part);
  whole = append_assoc g.done part rest ∙ g.whole;
}
