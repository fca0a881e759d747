-- What holds of a run up to its lawful front: its list fits, requests are above nought, and each stands for one body.
use Rattle.am_service_laws.proofs.Words.{◌≡◌, ℕ, ◌+◌, ◌<◌, List, [], ◌∷◌, ◌++◌, length, take, Some, slice_get, sym, ap, ◌∙◌, subst, arith, ⊎_elim, Rules}
use Rattle.am_service_laws.proofs.Words.{MayFound, Event, Record, World, run, record_of, world_with_record, world_with_step, happens, IsSend, lawful_front}
use Rattle.am_service_laws.proofs.Words.{front_is_lawful, step, calls, OutcomeTells, WasQueued, AnswersAsk, slice_get_of_front, slice_get_of_pushed, events_have_effects}
use Rattle.am_service_laws.proofs.Words.{steps_have_effects, ask_is_no_send, step_sends_each_request_once, idle_outcome_queues_nothing, Group, lowest_name_or_zero, group_run_is_kept, steps_are_group_moves, PropertyIsKeptByRuns, group_follows_unbroken_run}
use Rattle.am_service_laws.proofs.Words.{record_was_done_at_moment, world_at_front}
use Rattle.am_step_laws.specs.Events.{acting_name, EventHappens, idles, returns, steps}
use Rattle.am_lawful_runs.proofs.Words.{IsGoodList, beginning_of_good_is_good}
use Rattle.am_base.specs.declared.outcome.Outcome.TheVariants as said
use Rattle.am_base.specs.declared.event.NodeEvent.TheVariants as does
use Rattle.am_group.specs.declared.event.Act.TheVariants as act
use Rattle.am_step_laws.specs.Events as event

-- ---- the group list fits

abbrev Nothing : World → Group → Type 0
Nothing w s = Unit {0}

nothing_kept : (rules : Rules) → PropertyIsKeptByRuns Nothing rules
nothing_kept rules = record { by_step = λ {events = events} {e = e} {c = c} {step = step} {s = s} {t = t} x h. tt; by_quiet = λ w v s t q h. tt }

pub front_group_list_is_good : (rules : Rules) (events : List Event) → MayFound rules → IsGoodList (world_at_front rules events).group
front_group_list_is_good rules events may =
    let h = group_follows_unbroken_run Nothing rules (nothing_kept rules) steps_are_group_moves may (λ t f. tt) (lawful_front rules events) (front_is_lawful rules events) in
    let k = group_run_is_kept rules.founders (lowest_name_or_zero rules.founders) rules.resilience h.to h.follows.group in
    subst IsGoodList h.follows.stands.group (beginning_of_good_is_good k.group k.views.good)

-- ---- a request stands for one body

-- a Tick more would keep it so
pub recorded_request_has_one_body : (rules : Rules) (events : List Event) (name req k l : ℕ) (a b : List ℕ) (r s : Record) → slice_get (run rules events).records k ≡ Some r
    → slice_get (run rules events).records l ≡ Some s → IsSend r name req a → IsSend s name req b → a ≡ b
recorded_request_has_one_body rules events name req k l a b r s one other is also =
    let w = run rules events in
    let e : Event = record { node = 0; act = act.Tick } in
    let m = w.nodes (acting_name w e) in
    let t = step m does.Tick in
    let more = record_of w e t.outcome t.letters ∷ [] in
    step_sends_each_request_once rules events e (calls does.Tick) t event.tick (steps_have_effects m does.Tick) name req a b
    (record { index = k; done = r; there = slice_get_of_front w.records more k r one; is = is })
    (record { index = l; done = s; there = slice_get_of_front w.records more l s other; is = also })

-- ---- requests are above nought

same_record : (records : List Record) (a r : Record) → slice_get (records ++ a ∷ []) (length records) ≡ Some r → a ≡ r
same_record records a r h = let same : Some a ≡ Some r = sym (slice_get_of_pushed records a) ∙ h in cc

queued_then : (w : World) (e : Event) (v : World) (r : Record) (name req : ℕ) (body : List ℕ) → EventHappens w e v
    → slice_get v.records (length w.records) ≡ Some r → IsSend r name req body → 0 < req
unfolding world_with_record world_with_step
queued_then w e v r name req body (idles o idle) at is =
    let same = same_record w.records (record_of w e o []) r at in
    absurd (idle_outcome_queues_nothing o req idle (ap (λ (y : Record). y.outcome) same ∙ is.answered))
queued_then w e v r name req body (event.stops running) at is =
    let same = same_record w.records (record_of w e said.Stopped []) r at in
    absurd (idle_outcome_queues_nothing said.Stopped req tt (ap (λ (y : Record). y.outcome) same ∙ is.answered))
queued_then w e v r name req body (returns place there gone more) at is =
    let o = said.Returned (w.lives place + 1) in
    let same = same_record w.records (record_of w e o []) r at in
    absurd (idle_outcome_queues_nothing o req tt (ap (λ (y : Record). y.outcome) same ∙ is.answered))
queued_then w e v r name req body (steps c s runs cause effect) at is =
    let m = w.nodes (acting_name w e) in
    let same = same_record w.records (record_of w e s.outcome s.letters) r at in
    let queued : s.outcome ≡ said.Queued req = ap (λ (y : Record). y.outcome) same ∙ is.answered in
    let asked : e.act ≡ act.Send body = ap (λ (y : Record). y.event.act) same ∙ is.asked in
    ⊎_elim
    (λ (x : WasQueued m s.node req). omega (arith, x.next))
    (λ (x : AnswersAsk m c (said.Queued req)). absurd (ask_is_no_send w (acting_name w e) e.act c body x.round asked x.asked cause))
    (subst (OutcomeTells m c s.node) queued effect.answer)

pub recorded_request_is_positive : (rules : Rules) (events : List Event) (k : ℕ) (r : Record) (name req : ℕ) (body : List ℕ) → slice_get (run rules events).records k ≡ Some r
    → IsSend r name req body → 0 < req
recorded_request_is_positive rules events k r name req body at is =
    let moment = record_was_done_at_moment rules events k r at in
    let w = run rules (take k events) in
    queued_then w moment.event (happens w moment.event) r name req body (events_have_effects w moment.event) moment.done is
