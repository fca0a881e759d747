-- Runs that go on, and what is watched of them.
use Rattle.std.proofs.Common.{◌≡◌, ℕ, suc, ◌+◌, ◌-◌, ◌<◌, ◌⊎◌, if◌then◌else◌, List, [], ◌∷◌, length, take, Option, Some, None, refl, sym, ap}
use Rattle.std.proofs.Common.{◌∙◌, inl, inr, arith}
use Rattle.std.proofs.lemmas.List.{length-append}
use Rattle.am_base.specs.Founding.{Rules}
use Rattle.am_group.specs.declared.event.Event.{Event}
use Rattle.am_group_defs.specs.World.{World, start, world_with_record, world_with_step, happens, world_after_events}
use Rattle.am_group_defs.specs.Lawful.{Watch, watch_start, watch_event, watch_events, greatest_complete, is_lawful, first_unlawful_event_so_far, broken_at, events_before_break}
use Rattle.am_group_defs.specs.Running.{RunsGoOn, WatchedIsRun, OneRecordEach, FrontIsLawful}
use Rattle.am_base.proofs.Greatest.{split_on_bool}
use Rattle.am_group_defs.proofs.Events.{holds_after_event}

pub runs_go_on : RunsGoOn
unfolding world_after_events
runs_go_on w [] ys = refl
runs_go_on w (e ∷ es) ys = runs_go_on (happens w e) es ys

watch_world : (s : Watch) (es : List Event) → (watch_events s es).world ≡ world_after_events s.world es
unfolding watch_events watch_event world_after_events
watch_world s [] = refl
watch_world s (e ∷ es) = watch_world (watch_event s e) es

pub watched_is_run : WatchedIsRun
watched_is_run rules events = watch_world (watch_start rules) events

-- ---- one record for each event

happens_adds : (w : World) (e : Event) → length (happens w e).records ≡ length w.records + 1
unfolding world_with_record world_with_step
happens_adds w e = holds_after_event (λ u v. length v.records ≡ length u.records + 1) w e (record {
  as_it_was = λ e o. simp length-append refl;
  a_step = λ e name s. simp length-append refl;
  a_stop = λ e o stopped. simp length-append refl;
  a_life = λ e o place. simp length-append refl;
})

happen_adds : (w : World) (es : List Event) → length (world_after_events w es).records ≡ length w.records + length es
unfolding world_after_events
happen_adds w [] = omega arith
happen_adds w (e ∷ es) = let h = happen_adds (happens w e) es in let k = happens_adds w e in omega arith

pub one_record_each : OneRecordEach
one_record_each rules events = let h = happen_adds (start rules) events in omega arith

-- ---- where a run breaks

stays_broken : (s : Watch) (es : List Event) (k : ℕ) → s.broken ≡ Some k → (watch_events s es).broken ≡ Some k
unfolding watch_events watch_event
stays_broken s [] k h = h
stays_broken s (e ∷ es) k h = stays_broken (watch_event s e) es k (watch_broken s e k h)
  where
    watch_broken : (s : Watch) (e : Event) (k : ℕ) → s.broken ≡ Some k → (watch_event s e).broken ≡ Some k
    watch_broken s e k h = rw h refl

-- it breaks after an event, or stays whole by it
breaks_or_not : (s : Watch) (e : Event) → s.broken ≡ None → ((watch_event s e).broken ≡ Some (s.count + 1)) ⊎ ((watch_event s e).broken ≡ None)
unfolding watch_event
breaks_or_not s e h =
    let w = happens s.world e in
    let best = greatest_complete w s.complete w.views in
    split_on_bool (is_lawful w best)
    (λ t. inr (ap (first_unlawful_event_so_far w best (s.count + 1)) h ∙ ap (λ b. if b then None else Some (s.count + 1)) t))
    (λ f. inl (ap (first_unlawful_event_so_far w best (s.count + 1)) h ∙ ap (λ b. if b then None else Some (s.count + 1)) f))

some_number : (a b : ℕ) → Some a ≡ Some b → a ≡ b
some_number a b h = cc

-- where it breaks at an event, the events before that leave it whole
record BreaksAt (s : Watch) (es : List Event) (k : ℕ) : Type 0 where
  above : s.count < k
  whole : (watch_events s (take (k - 1 - s.count) es)).broken ≡ None

breaks_first : (s : Watch) (e : Event) (es : List Event) (k : ℕ) → s.broken ≡ None → k ≡ s.count + 1 → BreaksAt s (e ∷ es) k
unfolding watch_events
breaks_first s e es k h is =
    let z : k - 1 - s.count ≡ 0 = omega arith in
    record { above = omega arith; whole = rw z h }

breaks_later : (s : Watch) (e : Event) (es : List Event) (k : ℕ) → BreaksAt (watch_event s e) es k → BreaksAt s (e ∷ es) k
unfolding watch_events watch_event
breaks_later s e es k h =
    let a : s.count + 1 < k = h.above in
    let z : k - 1 - s.count ≡ suc (k - 1 - (s.count + 1)) = omega arith in
    record { above = omega arith; whole = rw z h.whole }

breaks_at : (s : Watch) (es : List Event) (k : ℕ) → s.broken ≡ None → (watch_events s es).broken ≡ Some k → BreaksAt s es k
unfolding watch_events
breaks_at s [] k h b = absurd (cc)
breaks_at s (e ∷ es) k h b = elim (breaks_or_not s e h) [
  | inl now ↦ breaks_first s e es k h (some_number k (s.count + 1) (sym b ∙ stays_broken (watch_event s e) es (s.count + 1) now))
  | inr not_yet ↦ breaks_later s e es k (breaks_at (watch_event s e) es k not_yet b)
]

front_of : (rules : Rules) (events : List Event) (o : Option ℕ) → broken_at rules events ≡ o → broken_at rules (events_before_break events o) ≡ None
front_of rules events None h = h
front_of rules events (Some k) h =
    let z : k - 1 ≡ k - 1 - 0 = omega arith in
    ap (λ n. broken_at rules (take n events)) z ∙ (breaks_at (watch_start rules) events k refl h).whole

pub front_is_lawful : FrontIsLawful
front_is_lawful rules events = front_of rules events (broken_at rules events) refl
