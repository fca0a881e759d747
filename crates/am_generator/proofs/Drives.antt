-- Generated runs, event by event.
use Rattle.am_generator.proofs.Words.{◌≡◌, ℕ, zero, suc, ◌+◌, ◌≤◌, ◌==◌, [], ◌∷◌, length, ◌&&◌, refl, ap, ◌∙◌, arith, length-append, count_by-le-length, Rules}
use Rattle.am_generator.proofs.Words.{World, is_outcome_sent, play_after, GeneratedRun, generated_rules, sent_by, first_drive}
use Rattle.am_generator.proofs.Words.{after_turn, drive_once, drive, events_of_seed, DrawnTurn}
use Rattle.am_generator.proofs.Words.{◌++◌, sym, subst, Event, Choice, IsDriven, IsCalmAct, drawn, next_place, next_turn, next_event}
use Rattle.am_shared_journal_defs.specs.declared.choice.Choice.TheVariants as choice
use Rattle.am_shared_journal_defs.specs.Choices.{act_of}
use Rattle.am_generator.specs.declared.generator.Generator.{Generator}
use Rattle.am_generator.specs.declared.generator.DrawnTurn.TheVariants as turn
use Rattle.am_generator.specs.Generating.{act_at, choice_at}

-- ---- how often a place was told that a send of its own stands in the list

pub sends_by_place_le_records : (w : World) (place : ℕ) → sent_by w place ≤ length w.records
sends_by_place_le_records w place = count_by-le-length (λ r. is_outcome_sent r.outcome && (r.event.node == place)) w.records

-- ---- one event

turned_play : (d : GeneratedRun) (place : ℕ) (t : DrawnTurn) → (after_turn d place t).play ≡ d.play
unfolding after_turn
turned_play d place turn.Send = refl
turned_play d place turn.Done = refl
turned_play d place turn.Take = refl
turned_play d place turn.Tick = refl
turned_play d place turn.Choose = refl

-- ---- how many events there are

one_more : (d : GeneratedRun) → length (drive_once d).play.events ≡ length d.play.events + 1
unfolding drive_once
one_more d = length-append d.play.events (_ ∷ [])

rules_stay : (d : GeneratedRun) → (drive_once d).play.rules ≡ d.play.rules
unfolding drive_once
rules_stay d = refl

pub drive_makes_count_events : (count : ℕ) (d : GeneratedRun) → length (drive count d).play.events ≡ length d.play.events + count
unfolding drive
drive_makes_count_events zero d = omega arith
drive_makes_count_events (suc count) d = let one = one_more (drive count d) in let before = drive_makes_count_events count d in omega arith

same_rules : (count : ℕ) (d : GeneratedRun) → (drive count d).play.rules ≡ d.play.rules
unfolding drive
same_rules zero d = refl
same_rules (suc count) d = rules_stay (drive count d) ∙ same_rules count d

pub drive_of_one_event_more : (count : ℕ) (d : GeneratedRun) → drive (count + 1) d ≡ drive_once (drive count d)
unfolding drive
drive_of_one_event_more count d = let next : count + 1 ≡ suc count = omega arith in ap (λ k. drive k d) next

-- the whole run
pub play_of_drive_from_seed : (seed count : ℕ) → (drive count (first_drive seed)).play ≡ record { rules = generated_rules; events = events_of_seed seed count }
unfolding events_of_seed
play_of_drive_from_seed seed count = ap (λ (r : Rules). record { rules = r; events = (drive count (first_drive seed)).play.events }) (same_rules count (first_drive seed))

pub events_of_seed_are_count : (seed count : ℕ) → length (events_of_seed seed count) ≡ count
unfolding events_of_seed
events_of_seed_are_count seed count = let all = drive_makes_count_events count (first_drive seed) in omega arith

-- ---- what is drawn happens

chosen_calm : (c : Choice) → IsCalmAct (act_of c)
chosen_calm choice.Tick = tt
chosen_calm (choice.Lose number) = tt
chosen_calm (choice.Hear number) = tt
chosen_calm (choice.Repeat number) = tt

turn_calm : (d : GeneratedRun) (place : ℕ) (t : DrawnTurn) → IsCalmAct (act_at d place t)
unfolding act_at
turn_calm d place turn.Send = tt
turn_calm d place turn.Done = tt
turn_calm d place turn.Take = tt
turn_calm d place turn.Tick = tt
turn_calm d place turn.Choose = chosen_calm (choice_at d place)

pub next_event_is_calm : (d : GeneratedRun) (e : Event) → e ≡ next_event d → IsCalmAct e.act
next_event_is_calm d e is = subst (λ (x : Event). IsCalmAct x.act) (sym is) (turn_calm (drawn d) (next_place d) (next_turn d))

-- what is drawn for the next event
abbrev pub generated_run_after_draw : GeneratedRun → GeneratedRun
generated_run_after_draw d = after_turn (drawn d) (next_place d) (next_turn d)

pub play_is_kept_by_draw : (d : GeneratedRun) → (generated_run_after_draw d).play ≡ d.play
play_is_kept_by_draw d = turned_play (drawn d) (next_place d) (next_turn d)

pub drive_once_makes_event : (d : GeneratedRun) (g : Generator) (e : Event) → e ≡ next_event d → IsDriven (record (generated_run_after_draw d) { play = play_after (generated_run_after_draw d).play e }) g
    → IsDriven (drive_once d) g
unfolding drive_once
drive_once_makes_event d g e is h = subst (λ p. IsDriven (record (generated_run_after_draw d) { play = p }) g) (λ k. play_after (play_is_kept_by_draw d k) (is k)) h

pub drive_once_pushes_event : (d : GeneratedRun) → (drive_once d).play.events ≡ d.play.events ++ next_event d ∷ []
unfolding drive_once
drive_once_pushes_event d = refl
