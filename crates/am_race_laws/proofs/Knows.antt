-- What is known of the world of which a lawful journal tells.
use Rattle.am_race_laws.proofs.Words.{split_on_bool, ◌≡◌, ℕ, List, [], ◌∷◌, ◌++◌, Bool, true, false, true≢false, Option, Some, None, sym, refl, ap, ◌∙◌, subst, append_assoc}
use Rattle.am_race_laws.proofs.Words.{append-nil, if◌then◌else◌, ◌==◌, ◌&&◌, ◌||◌, list_any, list_any-append, fold-append, flat_map-append, Outcome, NodeEvent}
use Rattle.am_race_laws.proofs.Words.{Rules, place_of_name, name_of_place_and_life, Packet, Letter, Act, Event, Record, acting_name_of_record, letters_of_records, letter_at, StepResult, hear_packet, World, start}
use Rattle.am_race_laws.proofs.Words.{is_stopped, world_with_record, world_with_step, world_after_node_event, world_after_give_up, world_after_hearing, world_after_act, happens, current, Terms, EachComesNext, is_stop}
use Rattle.am_race_laws.proofs.Words.{has_stopped, tells, world_after, is_of_race, IsLawfulRecord}
use Rattle.am_base.specs.declared.outcome.Outcome.TheVariants as said
use Rattle.am_group.specs.declared.event.Act.TheVariants as act
use Rattle.am_race_laws.proofs.{Apart.or_with_false}

-- ---- journals by record

-- what begins, and stays where one record comes next, holds of a whole journal
pub journal_keeps_what_records_keep : (P : List Record → Type 0) (next : List Record → Record → Type 0)
    → ((done : List Record) (r : Record) → next done r → P done → P (done ++ r ∷ [])) → (done rest : List Record) → P done → EachComesNext next (done ++ rest)
    → P (done ++ rest)
journal_keeps_what_records_keep P next keeps done [] p follows = subst P (sym (append-nil done)) p
journal_keeps_what_records_keep P next keeps done (r ∷ rest) p follows =
    let same : (done ++ r ∷ []) ++ rest ≡ done ++ r ∷ rest = append_assoc done (r ∷ []) rest in
    subst P same (journal_keeps_what_records_keep P next keeps (done ++ r ∷ []) rest (keeps done r (follows done rest r refl) p) (subst (EachComesNext next) (sym same) follows))

pub world_after_one_more_record : (rules : Rules) (before : List Record) (r : Record) → world_after rules (before ++ r ∷ []) ≡ tells (world_after rules before) r
unfolding world_after
world_after_one_more_record rules before r = fold-append tells (start rules) before (r ∷ [])

-- ---- what an event leaves

-- nobody stops, and each place has its life
record Still (w w' : World) : Type 0 where
  pub lives : w'.lives ≡ w.lives
  pub stopped : w'.stopped ≡ w.stopped

unchanged_still : (w : World) (e : Event) (outcome : Outcome) → Still w (world_with_record w e outcome)
unfolding world_with_record
unchanged_still w e outcome = record { lives = refl; stopped = refl }

stepped_still : (w : World) (e : Event) (name : ℕ) (s : StepResult) → Still w (world_with_step w e name s)
unfolding world_with_step
stepped_still w e name s = record { lives = refl; stopped = refl }

either_still : (w x y : World) (b : Bool) → Still w x → Still w y → Still w (if b then x else y)
either_still w x y true p q = p
either_still w x y false p q = q

ruleset still = (either_still, unchanged_still, stepped_still)

does_still : (w : World) (e : Event) (name : ℕ) (event : NodeEvent) → Still w (world_after_node_event w e name event)
does_still w e name event = search still

gives_up_still : (w : World) (e : Event) (name other : ℕ) → Still w (world_after_give_up w e name other)
gives_up_still w e name other = search still

heard_still : (w : World) (e : Event) (name : ℕ) (hearing : Packet → StepResult) (letter : Option Letter) → Still w (world_after_hearing w e name hearing letter)
heard_still w e name hearing None = unchanged_still w e said.NoPacket
heard_still w e name hearing (Some letter) = search still

acts_still : (w : World) (e : Event) (name : ℕ) (a : Act) → is_of_race a ≡ true → is_stop a ≡ false → Still w (world_after_act w e name a)
acts_still w e name (act.GiveUp other) its other_act = gives_up_still w e name other
acts_still w e name act.Stop its other_act = absurd (true≢false other_act)
acts_still w e name (act.Hear number) its other_act = heard_still w e name (hear_packet (w.nodes name)) (letter_at w.letters number)
acts_still w e name (act.Cut number keep) its other_act = absurd (true≢false (sym its))
acts_still w e name act.Return its other_act = absurd (true≢false (sym its))
acts_still w e name _ its other_act = does_still w e name _

-- a name that runs stops
record Stops (w w' : World) (name : ℕ) : Type 0 where
  lives : w'.lives ≡ w.lives
  stopped : w'.stopped ≡ w.stopped ++ name ∷ []

stop_case : (w : World) (e : Event) (name : ℕ) (b : Bool) → b ≡ false
    → Stops w (if b then world_with_record w e said.IsStopped else world_with_record (record w { stopped = w.stopped ++ name ∷ [] }) e said.Stopped) name
unfolding world_with_record
stop_case w e name b runs = rw runs (record { lives = refl; stopped = refl })

stop_acts : (w : World) (e : Event) (name : ℕ) (a : Act) → is_stop a ≡ true → is_stopped w name ≡ false → Stops w (world_after_act w e name a) name
stop_acts w e name act.Stop its runs = stop_case w e name (is_stopped w name) runs
stop_acts w e name _ its runs = absurd (true≢false (sym its))

-- ---- what is known

-- those stopped that the records say, each place has its first life, and the letters are those of the records
pub record WorldIsKnownByRecords (rules : Rules) (before : List Record) : Type 0 where
  pub stopped : (name : ℕ) → is_stopped (world_after rules before) name ≡ has_stopped before name
  pub lives : (place : ℕ) → (world_after rules before).lives place ≡ 1
  pub letters : (world_after rules before).letters ≡ letters_of_records before

-- the name that acts next at a place
pub current_name_has_first_life : (rules : Rules) (before : List Record) → WorldIsKnownByRecords rules before → (place : ℕ) → current (world_after rules before) place ≡ name_of_place_and_life place 1
current_name_has_first_life rules before knows place = ap (name_of_place_and_life place) (knows.lives place)

pub has_stopped_after_record : (before : List Record) (r : Record) (name : ℕ)
    → has_stopped (before ++ r ∷ []) name ≡ (has_stopped before name || (is_stop r.event.act && (acting_name_of_record r == name)))
has_stopped_after_record before r name =
    list_any-append (λ (q : Record). is_stop q.event.act && (acting_name_of_record q == name)) before (r ∷ [])
    ∙ ap (λ (b : Bool). has_stopped before name || b) (or_with_false (is_stop r.event.act && (acting_name_of_record r == name)))

any_more : (names : List ℕ) (last name : ℕ) → list_any (λ x. x == name) (names ++ last ∷ []) ≡ (list_any (λ x. x == name) names || (last == name))
any_more names last name = list_any-append (λ (x : ℕ). x == name) names (last ∷ [])
    ∙ ap (λ (b : Bool). list_any (λ x. x == name) names || b) (or_with_false (last == name))

knows_next : (terms : Terms) (before : List Record) (r : Record) → IsLawfulRecord terms before r → WorldIsKnownByRecords terms.founding before
    → WorldIsKnownByRecords terms.founding (before ++ r ∷ [])
unfolding happens
knows_next terms before r lawful knows =
    let w : World = world_after terms.founding before in
    let name : ℕ = current w (place_of_name r.event.node) in
    let its : name ≡ acting_name_of_record r = current_name_has_first_life terms.founding before knows (place_of_name r.event.node) ∙ ap (name_of_place_and_life (place_of_name r.event.node)) (sym lawful.life) in
    let more : world_after terms.founding (before ++ r ∷ []) ≡ tells w r = world_after_one_more_record terms.founding before r in
    let letters : (world_after terms.founding (before ++ r ∷ [])).letters ≡ letters_of_records (before ++ r ∷ []) =
    ap (λ (v : World). v.letters) more ∙ ap (λ (ls : List Letter). ls ++ r.packets) knows.letters
    ∙ sym (flat_map-append (λ (q : Record). q.packets) before (r ∷ []) ∙ ap (λ (ls : List Letter). letters_of_records before ++ ls) (append-nil r.packets)) in
    split_on_bool (is_stop r.event.act)
    (λ its_stop.
    let runs : is_stopped w name ≡ false = knows.stopped name ∙ ap (has_stopped before) its ∙ lawful.stop in
    let s = stop_acts w r.event name r.event.act its_stop runs in record {
      stopped = λ x. ap (λ (v : World). is_stopped v x) more ∙ ap (list_any (λ y. y == x)) s.stopped ∙ any_more w.stopped name x
          ∙ ap (λ (b : Bool). b || (name == x)) (knows.stopped x) ∙ ap (λ (k : ℕ). has_stopped before x || (k == x)) its
          ∙ sym (has_stopped_after_record before r x ∙ ap (λ (b : Bool). has_stopped before x || (b && (acting_name_of_record r == x))) its_stop);
      lives = λ p. ap (λ (v : World). v.lives p) more ∙ ap (λ (f : ℕ → ℕ). f p) s.lives ∙ knows.lives p;
      letters = letters;
    })
    (λ other_act.
    let still = acts_still w r.event name r.event.act lawful.act_ other_act in record {
      stopped = λ x. ap (λ (v : World). is_stopped v x) more ∙ ap (list_any (λ y. y == x)) still.stopped ∙ knows.stopped x
          ∙ sym (has_stopped_after_record before r x ∙ ap (λ (b : Bool). has_stopped before x || (b && (acting_name_of_record r == x))) other_act ∙ or_with_false (has_stopped before x));
      lives = λ p. ap (λ (v : World). v.lives p) more ∙ ap (λ (f : ℕ → ℕ). f p) still.lives ∙ knows.lives p;
      letters = letters;
    })

pub lawful_journal_knows_its_world : (terms : Terms) (before : List Record) → EachComesNext (IsLawfulRecord terms) before → WorldIsKnownByRecords terms.founding before
unfolding world_after
lawful_journal_knows_its_world terms before follows =
    journal_keeps_what_records_keep (WorldIsKnownByRecords terms.founding) (IsLawfulRecord terms) (knows_next terms) [] before
    (record { stopped = λ name. refl; lives = λ place. refl; letters = refl }) follows
