-- The rule of the wire, and what its steps tell.
use Rattle.std.specs.Prelude.{◌≡◌, ◌≢◌, ◌⊎◌, ℕ, ◌<◌, ◌≤◌, Bool, true, false, List, [], ◌∷◌, ◌++◌, length, take, drop, slice_index}
use Rattle.std.specs.Prelude.{if◌then◌else◌, All, sum_by}
use Rattle.am_base.specs.Most.{most_events_of_run}
use Rattle.am_base.specs.Founding.{Rules}
use mathlib.Core.Option.{none, some}
use lib.ListN.{get_elem?}
use Rattle.atomic_table.specs.Table.{State, Me, Step}
use Rattle.am_group.specs.declared.event.Record.{Record}
use Rattle.am_shared_journal_defs.specs.declared.terms.SharerKey.{SharerKey}
use Rattle.am_shared_journal_defs.specs.declared.terms.Terms.{Terms}
use Rattle.am_shared_journal_defs.specs.Keys.{times, is_key}
use Rattle.am_shared_journal_defs.specs.Sights.{GoesOn, EachComesNext, longer_list}
use Rattle.am_shared_journal.specs.declared.rule.Sight.{Sight}
use Rattle.am_shared_journal.specs.declared.rule.SeatView.{SeatView}

-- ---- views

abbrev pub seat_view : Terms → List SharerKey → List Record → List Sight → Bool → SeatView
seat_view terms keys seen older turn = record { terms = terms; keys = keys; seen = seen; older = older; turn = turn }

abbrev pub sight_of : SeatView → Sight
sight_of v = record { keys = v.keys; seen = v.seen }

-- the terms of a seat that has no key any more
abbrev pub no_terms : Terms
no_terms = record { founding = record { founders = []; resilience = 0; window = 0; pb_up_to = 0 }; callers = 0; seed = 0; loss = 0; repeat = 0; turns = 0 }

-- what lies in the slot: a founding, and what happened since
pub record Page : Type 0 where
  pub founding : Rules
  pub records : List Record

-- ---- the rule

abbrev pub ShownJournal : Type 0
ShownJournal = State Page SeatView

abbrev pub Sat : Type 0
Sat = Me Page SeatView

-- how often a key is among those of all seats
abbrev pub seats_with_key : SharerKey → List SeatView → ℕ
seats_with_key key views = sum_by (λ v. times key v.keys) views

-- what a seat knows of the journal
pub record Fits (terms : Terms) (log : List Record) (v : SeatView) : Type 0 where
  pub goes : GoesOn v.keys v.seen log
  pub older : All (λ o. GoesOn o.keys o.seen v.seen) v.older
  pub founded : 0 < length v.keys → v.terms ≡ terms
  pub whole : v.turn ≡ true → v.seen ≡ log
  pub keyed : v.turn ≡ true → 0 < length v.keys

-- nobody has the turn, and the journal is at home
pub record IsFree (terms : Terms) (s : ShownJournal) (log : List Record) : Type 0 where
  pub word : slice_index s.words 0 ≡ 0
  pub home : s.homes ≡ some (record { founding = terms.founding; records = log }) ∷ []
  pub nobody : (id : ℕ) (v : SeatView) → get_elem? s.views id ≡ some v → v.turn ≡ false

-- one seat has the turn
pub record IsTaken (s : ShownJournal) : Type 0 where
  pub word : slice_index s.words 0 ≡ 1
  pub home : s.homes ≡ none ∷ []
  pub holder : ℕ
  pub its : SeatView
  pub there : get_elem? s.views holder ≡ some its
  pub has : its.turn ≡ true
  pub only : (id : ℕ) (v : SeatView) → get_elem? s.views id ≡ some v → v.turn ≡ true → id ≡ holder

-- there is one journal, which the count counts; each record comes next; each key is with one seat, which has seen all records of it
pub record Stands (next : Terms → List Record → Record → Type 0) (terms : Terms) (s : ShownJournal) : Type 0 where
  pub log : List Record
  pub two : length s.words ≡ 2
  pub count : slice_index s.words 1 ≡ length log
  pub most : length log ≤ most_events_of_run
  pub lawful : EachComesNext (next terms) log
  pub callers : All (λ r. r.by.caller < terms.callers) log
  pub once : (key : SharerKey) → seats_with_key key s.views ≡ (if is_key terms.callers key then 1 else 0)
  pub fits : (id : ℕ) (v : SeatView) → get_elem? s.views id ≡ some v → Fits terms log v
  pub turn : IsFree terms s log ⊎ IsTaken s

-- ---- steps

-- a seat between two calls
pub record SeatIsIdle (m : Sat) : Type 0 where
  pub turn : m.0.turn ≡ false
  pub older : m.0.older ≡ []
  pub empty : m.1 ≡ []

-- a seat that has the turn, and the journal, which it has seen
pub record HasTurn (m : Sat) : Type 0 where
  pub turn : m.0.turn ≡ true
  pub older : m.0.older ≡ []
  pub keyed : 0 < length m.0.keys
  pub page : m.1 ≡ (0, record { founding = m.0.terms.founding; records = m.0.seen }) ∷ []

-- it has the turn, and sees all that there is
pub record SeatTakes (next : Terms → List Record → Record → Type 0) (m m' : Sat) : Type 0 where
  pub turn : HasTurn m'
  pub keys : m'.0.keys ≡ m.0.keys
  pub goes : GoesOn m.0.keys m.0.seen m'.0.seen
  pub most : length m'.0.seen ≤ most_events_of_run
  pub terms : m'.0.terms ≡ m.0.terms
  pub lawful : EachComesNext (next m'.0.terms) m'.0.seen

abbrev pub take_step : (Terms → List Record → Record → Type 0) → Step Page → Sat → ℕ → Sat → Type 0
take_step next st m n m' = (n ≡ 0 → SeatTakes next m m') × (n ≢ 0 → m' ≡ m)

-- the records that the seat carries
abbrev pub page_records : List (ℕ × Page) → List Record
page_records [] = []
page_records (x ∷ xs) = x.1.records

abbrev pub count_step : Step Page → Sat → ℕ → Sat → Type 0
count_step st m n m' = m' ≡ (seat_view m.0.terms m.0.keys (page_records m.1) [] true, m.1)

abbrev pub give_step : Step Page → Sat → ℕ → Sat → Type 0
give_step st m n m' = m' ≡ (seat_view m.0.terms m.0.keys m.0.seen [] false, [])

-- what was seen goes on from each older sight, and each record of it comes next
pub record SeatLooks (next : Terms → List Record → Record → Type 0) (m m' : Sat) : Type 0 where
  pub same : m' ≡ (seat_view m.0.terms m.0.keys m.0.seen [] false, [])
  pub goes : All (λ o. GoesOn o.keys o.seen m.0.seen) m.0.older
  pub lawful : 0 < length m.0.keys → EachComesNext (next m.0.terms) m.0.seen
  pub few : length m.0.seen ≤ most_events_of_run

abbrev pub look_step : (Terms → List Record → Record → Type 0) → Step Page → Sat → ℕ → Sat → Type 0
look_step next st m n m' = SeatLooks next m m'

-- one seat has the keys of both, and has seen the longer of what they had seen
pub record Unites (next : Terms → List Record → Record → Type 0) (v w : SeatView) (m : Sat) : Type 0 where
  pub idle : SeatIsIdle m
  pub terms : m.0.terms ≡ v.terms
  pub lawful : EachComesNext (next m.0.terms) m.0.seen
  pub few : length m.0.seen ≤ most_events_of_run
  pub keys : m.0.keys ≡ w.keys ++ v.keys
  pub seen : m.0.seen ≡ longer_list v.seen w.seen
  pub mine : GoesOn v.keys v.seen m.0.seen
  pub theirs : GoesOn w.keys w.seen m.0.seen

-- a seat without its first key, and a seat with this key
pub record Parts (m m' other : Sat) : Type 0 where
  pub idle : SeatIsIdle m' × SeatIsIdle other
  pub keys : m'.0.keys ≡ drop 1 m.0.keys
  pub seen : m'.0.seen ≡ m.0.seen
  pub terms : m'.0.terms ≡ m.0.terms
  pub other_terms : other.0.terms ≡ m.0.terms
  pub other_keys : other.0.keys ≡ take 1 m.0.keys
  pub other_seen : other.0.seen ≡ m.0.seen

-- the journal has a record more
pub record AddsRecord (m : Sat) (item : Record) (m' : Sat) : Type 0 where
  pub turn : HasTurn m'
  pub terms : m'.0.terms ≡ m.0.terms
  pub keys : m'.0.keys ≡ m.0.keys
  pub seen : m'.0.seen ≡ m.0.seen ++ item ∷ []
