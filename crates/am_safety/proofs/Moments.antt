-- What a record of a run tells of the moment when its event was done.
use Rattle.am_lawful_runs.proofs.Words.{◌≡◌, ℕ, zero, suc, ◌+◌, ◌<◌, List, [], ◌∷◌, ◌++◌, length, take, Some, slice_get, refl, sym, ap, ◌∙◌, subst, arith}
use Rattle.am_lawful_runs.proofs.Words.{length-take-le, slice_get_within, Entry, Outcome, Rules, MayFound, Event, Record, acting_name_of_record, slice_get_of_append_front, World, record_of}
use Rattle.am_lawful_runs.proofs.Words.{world_with_record, world_with_step, happens, run, run_begins_longer_run, one_record_each, acting_name, IsIdle, EventHappens, idles, returns, steps, slice_get_of_pushed}
use Rattle.am_base.specs.declared.outcome.Outcome.TheVariants as said
use Rattle.am_step_laws.specs.Events as event
use Rattle.am_lawful_runs.proofs.OneStep.{run_of_pushed_event}
use Rattle.am_safety.proofs.Told.{NamesHaveTakenInTurn, EntryMayBeTaken, entry_taken_by_step}

-- ---- an event of a run

record NextEvent (events : List Event) (k : ℕ) : Type 0 where
  pub event : Event
  pub is : take (suc k) events ≡ take k events ++ event ∷ []

next_event : (events : List Event) (k : ℕ) → k < length events → NextEvent events k
next_event [] k low = absurd (omega arith)
next_event (e ∷ es) zero low = record { event = e; is = refl }
next_event (e ∷ es) (suc k) low = let r = next_event es k (omega arith) in record { event = r.event; is = ap (λ l. e ∷ l) r.is }

-- a record is that of an event, done after those before it
pub record RecordDoneAtMoment (rules : Rules) (events : List Event) (k : ℕ) (r : Record) : Type 0 where
  pub event : Event
  pub is : take (suc k) events ≡ take k events ++ event ∷ []
  pub done : slice_get (happens (run rules (take k events)) event).records (length (run rules (take k events)).records) ≡ Some r

pub record_was_done_at_moment : (rules : Rules) (events : List Event) (k : ℕ) (r : Record) → slice_get (run rules events).records k ≡ Some r → RecordDoneAtMoment rules events k r
record_was_done_at_moment rules events k r at =
    let all = one_record_each rules events in
    let within = slice_get_within (run rules events).records k r at in
    let e = next_event events k (omega arith) in
    let begins = (run_begins_longer_run rules events (suc k)).records in
    let count = one_record_each rules (take (suc k) events) in
    let long = length-take-le (suc k) events (omega arith) in
    let part : slice_get (run rules (take (suc k) events)).records k ≡ Some r = sym (slice_get_of_append_front (run rules (take (suc k) events)).records begins.0 k (omega
    arith))
    ∙ ap (λ l. slice_get l k) (sym begins.1) ∙ at in
    let same : run rules (take (suc k) events) ≡ happens (run rules (take k events)) e.event = ap (run rules) e.is ∙ run_of_pushed_event rules (take k events) e.event in
    let before = one_record_each rules (take k events) in
    let short = length-take-le k events (omega arith) in
    let place : length (run rules (take k events)).records ≡ k = omega arith in
    record {
      event = e.event;
      is = e.is;
      done = ap (slice_get (happens (run rules (take k events)) e.event).records) place ∙ ap (λ (w : World). slice_get w.records k) (sym same) ∙ part;
    }

-- ---- an entry that was given

-- by which name, and where it stood then
pub record EntryGivenAtMoment (w : World) (e : Event) (number : ℕ) (x : Entry) (r : Record) : Type 0 where
  pub by : acting_name_of_record r ≡ acting_name w e
  pub taking_ : EntryMayBeTaken (w.nodes (acting_name w e)) number x

some_record : (a b : Record) → Some a ≡ Some b → a ≡ b
some_record a b h = cc

last_of : (records : List Record) (a r : Record) → slice_get (records ++ a ∷ []) (length records) ≡ Some r → a ≡ r
last_of records a r h = some_record a r (sym (slice_get_of_pushed records a) ∙ h)

none_idle : (o : Outcome) (number : ℕ) (x : Entry) → IsIdle o → o ≡ said.Took number x → ⊥
none_idle o number x idle is = subst IsIdle is idle

pub given_entry_has_its_moment : (rules : Rules) (events : List Event) (e : Event) (v : World) (number : ℕ) (x : Entry) (r : Record) → MayFound rules
    → NamesHaveTakenInTurn rules (run rules events) → EventHappens (run rules events) e v → slice_get v.records (length (run rules events).records) ≡ Some r
    → r.outcome ≡ said.Took number x → EntryGivenAtMoment (run rules events) e number x r
unfolding world_with_record world_with_step
given_entry_has_its_moment rules events e v number x r may h (idles o idle) at says =
    let w = run rules events in
    let same = last_of w.records (record_of w e o []) r at in
    absurd (none_idle o number x idle (ap (λ (y : Record). y.outcome) same ∙ says))
given_entry_has_its_moment rules events e v number x r may h (event.stops runs) at says =
    let w = run rules events in
    let same = last_of w.records (record_of w e said.Stopped []) r at in
    absurd (none_idle said.Stopped number x tt (ap (λ (y : Record). y.outcome) same ∙ says))
given_entry_has_its_moment rules events e v number x r may h (returns place is gone more) at says =
    let w = run rules events in
    let o = said.Returned (w.lives place + 1) in
    let same = last_of w.records (record_of w e o []) r at in
    absurd (none_idle o number x tt (ap (λ (y : Record). y.outcome) same ∙ says))
given_entry_has_its_moment rules events e v number x r may h (steps c step runs cause effect) at says =
    let w = run rules events in
    let same = last_of w.records (record_of w e step.outcome step.letters) r at in
    let says_ = ap (λ (y : Record). y.outcome) same ∙ says in
    record { by = ap acting_name_of_record (sym same); taking_ = entry_taken_by_step rules events e c step may cause effect h number x says_ }
