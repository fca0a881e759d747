-- The life of each record is what the last return of its place told.
use Rattle.am_lawful_runs.proofs.Words.{◌≡◌, ℕ, ◌+◌, ◌<◌, ◌≤◌, ◌==◌, ◌||◌, Bool, if◌then◌else◌, List, [], ◌∷◌, ◌++◌, Option, Some, None, refl, sym, ap, ◌∙◌, subst}
use Rattle.am_lawful_runs.proofs.Words.{arith, nat_tests, place_of_name, name_of_place_and_life, Outcome, split_on_bool, Letter, Packet, Act, Event, Record, is_for, acting_name_of_record, letter_at, StepResult}
use Rattle.am_lawful_runs.proofs.Words.{has_departed, World, start, current, is_stopped, world_with_record, world_with_step, record_of, world_after_hearing, world_after_act, happens, world_after_events}
use Rattle.std.proofs.Common.{map, get_or}
use Rattle.std.specs.Prelude.{slice_index, slice_set}
use Rattle.std.specs.List.{range_with_len}
use Rattle.std.proofs.lemmas.List.{get_or-set_same, get_or-set_other, length-set}
use Rattle.std.proofs.lemmas.List.FromFn.{get_or-map-range_with_len}
use Rattle.am_base.specs.Names.{list_by_place}
use Rattle.am_base.specs.declared.outcome.Outcome.TheVariants as said
use Rattle.am_base.specs.declared.event.NodeEvent.{NodeEvent}
use Rattle.am_base.proofs.Places.{sixteen_items_are_by_place}
use Rattle.am_model.specs.Node.{map_with_value}
use Rattle.am_model.specs.Step.{step}
use Rattle.am_group_defs.specs.World.{world_after_node_event, world_after_give_up, world_after_stop, world_after_return}
use Rattle.am_safety.specs.Records.{returned_as, names_after, names_told, AreTold, first_names, names_in, LivesTold, LivesAreTold, HasLife, ReturnAnswerHasLife}

-- ---- one event

abbrev lives_by : (ℕ → ℕ) → ℕ → Outcome → ℕ → ℕ
lives_by lives place (said.Returned life) = map_with_value lives place life
lives_by lives place _ = lives

abbrev lives_after : (ℕ → ℕ) → ℕ → Act → Outcome → ℕ → ℕ
lives_after lives place Act.Return outcome = lives_by lives place outcome
lives_after lives place a outcome = lives

-- an event leaves a record of its place's life, and the lives that this tells
pub record EventTellsLife (w : World) (e : Event) (a : Act) (v : World) : Type 0 where
  pub new : Record
  pub records : v.records ≡ w.records ++ new ∷ []
  pub event : new.event ≡ e
  pub life : new.life ≡ w.lives (place_of_name e.node)
  pub lives : v.lives ≡ lives_after w.lives (place_of_name e.node) a new.outcome
  pub back : ((place : ℕ) → w.lives place ≤ 16) → ReturnAnswerHasLife a new.outcome

-- an act that isn't a return
record Stays (w : World) (e : Event) (a : Act) : Type 0 where
  same : (o : Outcome) → lives_after w.lives (place_of_name e.node) a o ≡ w.lives
  back : (o : Outcome) → ReturnAnswerHasLife a o

record_tells : (w u : World) (e : Event) (a : Act) (o : Outcome) → Stays w e a → u.records ≡ w.records → u.lives ≡ w.lives → EventTellsLife w e a (world_with_record u e o)
unfolding world_with_record
record_tells w u e a o stays records lives = record {
  new = record_of u e o [];
  records = ap (λ (rs : List Record). rs ++ record_of u e o [] ∷ []) records;
  event = refl;
  life = ap (λ (f : ℕ → ℕ). f (place_of_name e.node)) lives;
  lives = lives ∙ sym (stays.same o);
  back = λ most. stays.back o;
}

step_tells : (w : World) (e : Event) (a : Act) (name : ℕ) (s : StepResult) → Stays w e a → EventTellsLife w e a (world_with_step w e name s)
unfolding world_with_step
step_tells w e a name s stays = record {
  new = record_of w e s.outcome s.letters;
  records = refl;
  event = refl;
  life = refl;
  lives = sym (stays.same s.outcome);
  back = λ most. stays.back s.outcome;
}

does_tells : (w : World) (e : Event) (a : Act) (name : ℕ) (event : NodeEvent) → Stays w e a → EventTellsLife w e a (world_after_node_event w e name event)
does_tells w e a name event stays = split_on_bool (is_stopped w name)
    (λ t. rw t (record_tells w w e a said.IsStopped stays refl refl))
    (λ f. rw f (step_tells w e a name (step (w.nodes name) event) stays))

gives_tells : (w : World) (e : Event) (a : Act) (name other : ℕ) → Stays w e a → EventTellsLife w e a (world_after_give_up w e name other)
gives_tells w e a name other stays = split_on_bool (is_stopped w name)
    (λ t. rw t (record_tells w w e a said.IsStopped stays refl refl))
    (λ f. rw f (split_on_bool (is_stopped w other)
    (λ t. rw t (step_tells w e a name _ stays))
    (λ g. rw g (record_tells w w e a said.NotStopped stays refl refl))))

stops_tells : (w : World) (e : Event) (a : Act) (name : ℕ) → Stays w e a → EventTellsLife w e a (world_after_stop w e name)
stops_tells w e a name stays = split_on_bool (is_stopped w name)
    (λ t. rw t (record_tells w w e a said.IsStopped stays refl refl))
    (λ f. rw f (record_tells w (record w { stopped = w.stopped ++ name ∷ [] }) e a said.Stopped stays refl refl))

hears_tells : (w : World) (e : Event) (a : Act) (name : ℕ) (hearing : Packet → StepResult) (found : Option Letter) → Stays w e a
    → EventTellsLife w e a (world_after_hearing w e name hearing found)
hears_tells w e a name hearing None stays = record_tells w w e a said.NoPacket stays refl refl
hears_tells w e a name hearing (Some letter) stays = split_on_bool (is_for letter name)
    (λ t. rw t (split_on_bool (is_stopped w name)
    (λ t. rw t (record_tells w w e a said.IsStopped stays refl refl))
    (λ f. rw f (step_tells w e a name (hearing letter.packet) stays))))
    (λ f. rw f (record_tells w w e a said.NotAddressed stays refl refl))

-- a return that isn't one
unmoved : (w : World) (e : Event) (o : Outcome) → lives_by w.lives (place_of_name e.node) o ≡ w.lives → HasLife o → EventTellsLife w e Act.Return (world_with_record w e o)
unfolding world_with_record
unmoved w e o same life = record {
  new = record_of w e o [];
  records = refl;
  event = refl;
  life = refl;
  lives = sym same;
  back = λ most. life;
}

back_tells : (w : World) (e : Event) (place : ℕ) → place ≡ place_of_name e.node → EventTellsLife w e Act.Return (world_after_return w e place)
unfolding world_with_record
back_tells w e place is = split_on_bool (is_stopped w (current w place) || has_departed (w.nodes (current w place)).status)
    (λ t. rw t (split_on_bool (w.lives place == 16)
    (λ u. rw u (unmoved w e said.NoLife refl tt))
    (λ g. rw g (record {
      new = record_of w e (said.Returned (w.lives place + 1)) [];
      records = refl;
      event = refl;
      life = refl;
      lives = ap (λ (p : ℕ). map_with_value w.lives p (w.lives place + 1)) is;
      back = λ most. (omega arith, let k = most place in grind (arith, nat_tests));
    }))))
    (λ f. rw f (unmoved w e (said.Running (w.lives place)) refl tt))

act_tells : (w : World) (e : Event) (name : ℕ) (a : Act) → place_of_name name ≡ place_of_name e.node → EventTellsLife w e a (world_after_act w e name a)
act_tells w e name (Act.GiveUp other) is = gives_tells w e (Act.GiveUp other) name other (record { same = λ o. refl; back = λ o. tt })
act_tells w e name Act.Stop is = stops_tells w e Act.Stop name (record { same = λ o. refl; back = λ o. tt })
act_tells w e name (Act.Hear number) is = hears_tells w e (Act.Hear number) name _ (letter_at w.letters number) (record { same = λ o. refl; back = λ o. tt })
act_tells w e name (Act.Cut number keep) is = hears_tells w e (Act.Cut number keep) name _ (letter_at w.letters number)
    (record { same = λ o. refl; back = λ o. tt })
act_tells w e name Act.Return is = back_tells w e (place_of_name name) is
act_tells w e name a is = does_tells w e a name _ (record { same = λ o. refl; back = λ o. tt })

pub event_tells_its_life : (w : World) (e : Event) → EventTellsLife w e e.act (happens w e)
unfolding happens
event_tells_its_life w e =
    let place : place_of_name (current w (place_of_name e.node)) ≡ place_of_name e.node = omega arith in
    act_tells w e (current w (place_of_name e.node)) e.act place

-- ---- names

names_is : (w : World) → names_in w ≡ list_by_place (current w)
unfolding list_by_place
names_is w = refl

name_there : (w : World) (place : ℕ) → place < 16 → slice_index (names_in w) place ≡ current w place
name_there w place low = get_or-map-range_with_len (current w) 0 16 place place 0 low (omega arith)

set_there : (w v : World) (place life k : ℕ) → place < 16 → k < 16 → v.lives ≡ map_with_value w.lives place life
    → get_or (slice_set (names_in w) place (name_of_place_and_life place life)) k 0 ≡ current v k
set_there w v place life k low small lives =
    let at : v.lives k ≡ map_with_value w.lives place life k = ap (λ (f : ℕ → ℕ). f k) lives in
    split_on_bool (k == place)
    (λ t.
    let same : k ≡ place = grind (arith, nat_tests) in
    let is : v.lives k ≡ life = at ∙ ap (λ (b : Bool). if b then life else w.lives k) t in
    ap (λ (i : ℕ). get_or (slice_set (names_in w) place (name_of_place_and_life place life)) i 0) same ∙ get_or-set_same (names_in w) place (name_of_place_and_life place life) 0 low
    ∙ ap (λ (p : ℕ). name_of_place_and_life p life) (sym same) ∙ ap (name_of_place_and_life k) (sym is))
    (λ f.
    let other : k ≡ place → ⊥ = λ is. grind (arith, nat_tests) in
    let is : v.lives k ≡ w.lives k = at ∙ ap (λ (b : Bool). if b then life else w.lives k) f in
    get_or-set_other (names_in w) place k (name_of_place_and_life place life) 0 other ∙ name_there w k small ∙ ap (name_of_place_and_life k) (sym is))

set_names : (w v : World) (place life : ℕ) → place < 16 → v.lives ≡ map_with_value w.lives place life → slice_set (names_in w) place (name_of_place_and_life place life) ≡ names_in v
set_names w v place life low lives =
    sixteen_items_are_by_place (current v) (slice_set (names_in w) place (name_of_place_and_life place life)) 0 (length-set (names_in w) place (name_of_place_and_life place life))
    (λ k small. set_there w v place life k low small lives) ∙ sym (names_is v)

same_names : (w v : World) → v.lives ≡ w.lives → names_in w ≡ names_in v
same_names w v lives = ap (λ (f : ℕ → ℕ). map (λ p. name_of_place_and_life p (f p)) (range_with_len 0 16)) (sym lives)

returned_names : (w v : World) (place : ℕ) (o : Outcome) → place < 16 → v.lives ≡ lives_by w.lives place o → returned_as (names_in w) place o ≡ names_in v
returned_names w v place (said.Returned life) low lives = set_names w v place life low lives
returned_names w v place _ low lives = same_names w v lives

after_names : (w v : World) (place : ℕ) (a : Act) (o : Outcome) → place < 16 → v.lives ≡ lives_after w.lives place a o
    → names_after (names_in w) place a o ≡ names_in v
after_names w v place Act.Return o low lives = returned_names w v place o low lives
after_names w v place _ o low lives = same_names w v lives

-- ---- records

told_more : (names : List ℕ) (rs : List Record) (r : Record) → names_told names (rs ++ r ∷ [])
    ≡ names_after (names_told names rs) (place_of_name r.event.node) r.event.act r.outcome
told_more names [] r = refl
told_more names (x ∷ rs) r = told_more (names_after names (place_of_name x.event.node) x.event.act x.outcome) rs r

each_more : (names : List ℕ) (rs : List Record) (r : Record) → AreTold names rs → slice_index (names_told names rs) (place_of_name r.event.node) ≡ acting_name_of_record r
    → AreTold names (rs ++ r ∷ [])
each_more names [] r told is = (is, tt)
each_more names (x ∷ rs) r told is = (told.0, each_more (names_after names (place_of_name x.event.node) x.event.act x.outcome) rs r told.1 is)

told_on : (w v : World) (e : Event) (new : Record) → new.event ≡ e → new.life ≡ w.lives (place_of_name e.node)
    → v.lives ≡ lives_after w.lives (place_of_name e.node) e.act new.outcome → v.records ≡ w.records ++ new ∷ [] → LivesTold w → LivesTold v
told_on w v e new event life lives records h =
    let place : place_of_name e.node < 16 = omega arith in
    let named : acting_name_of_record new ≡ current w (place_of_name e.node) = ap (λ (x : Event). name_of_place_and_life (place_of_name x.node) new.life) event
    ∙ ap (name_of_place_and_life (place_of_name e.node)) life in
    let there : slice_index (names_told first_names w.records) (place_of_name new.event.node) ≡ acting_name_of_record new =
    ap (λ (names : List ℕ). slice_index names (place_of_name new.event.node)) h.last ∙ ap (λ (x : Event). slice_index (names_in w) (place_of_name x.node)) event
    ∙ name_there w (place_of_name e.node) place ∙ sym named in
    record {
      each = subst (AreTold first_names) (sym records) (each_more first_names w.records new h.each there);
      last = ap (names_told first_names) records ∙ told_more first_names w.records new
          ∙ ap (λ (names : List ℕ). names_after names (place_of_name new.event.node) new.event.act new.outcome) h.last
          ∙ ap (λ (x : Event). names_after (names_in w) (place_of_name x.node) x.act new.outcome) event
          ∙ after_names w v (place_of_name e.node) e.act new.outcome place lives;
    }

told_happens : (w : World) (e : Event) → LivesTold w → LivesTold (happens w e)
told_happens w e h = let t = event_tells_its_life w e in told_on w (happens w e) e t.new t.event t.life t.lives t.records h

told_happen : (w : World) (es : List Event) → LivesTold w → LivesTold (world_after_events w es)
unfolding world_after_events
told_happen w [] h = h
told_happen w (e ∷ es) h = told_happen (happens w e) es (told_happens w e h)

pub lives_are_told : LivesAreTold
lives_are_told rules events = told_happen (start rules) events (record { each = tt; last = refl })
