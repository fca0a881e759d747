-- What is so of the records of every run.
use Rattle.std.specs.Prelude.{◌≡◌, ℕ, ◌<◌, ◌≤◌, ◌==◌, if◌then◌else◌, List, [], ◌∷◌, length, map, slice_index, slice_set, All}
use Rattle.std.specs.List.{flat_map, range_with_len}
use Rattle.am_base.specs.Most.{most_bytes_of_body}
use Rattle.am_base.specs.Limits.{NumberIsInRange}
use Rattle.am_base.specs.Names.{IsSetOfNames, place_of_name, name_of_place_and_life}
use Rattle.am_base.specs.Founding.{Rules, MayFound}
use Rattle.am_base.specs.declared.entry.Entry.{Entry}
use Rattle.am_base.specs.declared.entry.Entry.TheVariants as entries
use Rattle.am_base.specs.declared.outcome.Outcome.{Outcome}
use Rattle.am_base.specs.declared.outcome.Outcome.TheVariants as said
use Rattle.am_packet.specs.Laws.{IsBytes}
use Rattle.am_group.specs.declared.event.Act.{Act}
use Rattle.am_group.specs.declared.event.Act.TheVariants as acts
use Rattle.am_group.specs.declared.event.Event.{Event}
use Rattle.am_group.specs.declared.event.Record.{Record}
use Rattle.am_group.specs.Deliveries.{acting_name_of_record}
use Rattle.am_group_defs.specs.World.{World, current, run}
use Rattle.am_safety.specs.Parts.{StaysInRange}

-- ---- lives

-- the names of the places, where a place goes on with a life
abbrev pub returned_as : List ℕ → ℕ → Outcome → List ℕ
returned_as names place (said.Returned life) = slice_set names place (name_of_place_and_life place life)
returned_as names place _ = names

abbrev pub names_after : List ℕ → ℕ → Act → Outcome → List ℕ
names_after names place acts.Return outcome = returned_as names place outcome
names_after names place act outcome = names

-- the names of the places after some records
abbrev pub names_told : List ℕ → List Record → List ℕ
names_told names [] = names
names_told names (r ∷ rs) = names_told (names_after names (place_of_name r.event.node) r.event.act r.outcome) rs

-- each record is of its place's name then
abbrev pub AreTold : List ℕ → List Record → Type 0
AreTold names [] = Unit {0}
AreTold names (r ∷ rs) = (slice_index names (place_of_name r.event.node) ≡ acting_name_of_record r) × AreTold (names_after names (place_of_name r.event.node) r.event.act r.outcome) rs

-- each place's first name
abbrev pub first_names : List ℕ
first_names = range_with_len 0 16

abbrev pub names_in : World → List ℕ
names_in w = map (current w) (range_with_len 0 16)

-- the life of a record is what the last return of its place says, or 1 where there is none
pub record LivesTold (w : World) : Type 0 where
  pub each : AreTold first_names w.records
  pub last : names_told first_names w.records ≡ names_in w

abbrev pub LivesAreTold : Type 0
LivesAreTold = (rules : Rules) (events : List Event) → LivesTold (run rules events)

-- ---- what records and lists have

-- an entry within its limits, of names that there are
abbrev pub IsSayable : Entry → Type 0
IsSayable (entries.Data from req body) = (from < 256) × NumberIsInRange req × IsBytes body × (length body ≤ most_bytes_of_body)
IsSayable (entries.Join name) = name < 256
IsSayable (entries.Leave name) = name < 256
IsSayable (entries.View v) = (v.stamp.by < 256) × NumberIsInRange v.stamp.round × IsSetOfNames v.members × (v.resilience ≤ 15)

-- a body that is sent is of bytes
abbrev pub AsksBytes : Act → Type 0
AsksBytes (acts.Send body) = IsBytes body × (length body ≤ most_bytes_of_body)
AsksBytes _ = Unit {0}

-- an answer is of its act alone, and within its limits
abbrev pub IsAnswerOfAct : Act → Outcome → Type 0
IsAnswerOfAct act (said.Queued req) = ((body : List ℕ) × (act ≡ acts.Send body)) × NumberIsInRange req
IsAnswerOfAct act (said.Sent req number) = (act ≡ acts.Done req) × NumberIsInRange req × NumberIsInRange number
IsAnswerOfAct act (said.Took number entry) = (act ≡ acts.Take) × NumberIsInRange number × IsSayable entry
IsAnswerOfAct act _ = Unit {0}

-- a place returns with a life that there is
abbrev pub HasLife : Outcome → Type 0
HasLife (said.Returned life) = (0 < life) × (life ≤ 16)
HasLife _ = Unit {0}

abbrev pub ReturnAnswerHasLife : Act → Outcome → Type 0
ReturnAnswerHasLife acts.Return outcome = HasLife outcome
ReturnAnswerHasLife _ outcome = Unit {0}

pub record IsSound (r : Record) : Type 0 where
  pub asks : AsksBytes r.event.act
  pub answer : IsAnswerOfAct r.event.act r.outcome
  pub back : ReturnAnswerHasLife r.event.act r.outcome

pub record RunSound (w : World) : Type 0 where
  pub records : All IsSound w.records
  pub group : All IsSayable w.group

abbrev pub RecordsAreSound : Type 0
RecordsAreSound = (rules : Rules) (events : List Event) → StaysInRange rules events → All (λ (e : Event). AsksBytes e.act) events → RunSound (run rules events)

-- ---- requests

-- the requests that a name was given
abbrev pub queued_in : Outcome → List ℕ
queued_in (said.Queued req) = req ∷ []
queued_in _ = []

abbrev pub queued_by : ℕ → Record → List ℕ
queued_by name r = if acting_name_of_record r == name then queued_in r.outcome else []

abbrev pub requests_given : ℕ → List Record → List ℕ
requests_given name records = flat_map (queued_by name) records

-- are 1, 2, 3 and so on
abbrev pub RecordedRequestsInTurn : Type 0
RecordedRequestsInTurn = (rules : Rules) (events : List Event) → MayFound rules → (name : ℕ)
    → requests_given name (run rules events).records ≡ range_with_len 1 (length (requests_given name (run rules events).records))
