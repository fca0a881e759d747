-- Ticks and hearings leave the lives as they were, and who has stopped; the letters only go on.
use Rattle.std.proofs.Common.{◌≡◌, ℕ, zero, suc, List, [], ◌∷◌, ◌++◌, map, Bool, true, false, if◌then◌else◌, Option, Some, None, slice_get, refl, sym, ◌∙◌, ap}
use Rattle.std.proofs.Common.{append_assoc, append-nil}
use Rattle.am_packet.specs.declared.packet.Packet.{Packet}
use Rattle.am_packet.specs.Boxes.{Letter}
use Rattle.am_base.specs.declared.outcome.Outcome.{Outcome}
use Rattle.am_group.specs.declared.event.Act.{Act}
use Rattle.am_group.specs.declared.event.Act.TheVariants as act
use Rattle.am_group.specs.declared.event.Event.{Event}
use Rattle.am_group.specs.Journals.{letter_at}
use Rattle.am_model.specs.Emit.{StepResult}
use Rattle.am_group_defs.specs.World.{World, world_with_record, world_with_step, world_after_hearing, happens, world_after_events}
use Rattle.am_group_defs.specs.Settle.{event_at, running_places, hearings_of}
use Rattle.am_world.specs.Settling.{is_running, is_meant}

-- the same lives, the same have stopped, and the letters go on
pub record LivesStayLettersGrow (w v : World) : Type 0 where
  pub lives : v.lives ≡ w.lives
  pub stopped : v.stopped ≡ w.stopped
  pub more : List Letter
  pub letters : v.letters ≡ w.letters ++ more

pub same_world_lives_stay : (w : World) → LivesStayLettersGrow w w
same_world_lives_stay w = record { lives = refl; stopped = refl; more = []; letters = sym (append-nil w.letters) }

pub lives_stay_through_both : (u v w : World) → LivesStayLettersGrow u v → LivesStayLettersGrow v w → LivesStayLettersGrow u w
lives_stay_through_both u v w a b = record {
  lives = b.lives ∙ a.lives;
  stopped = b.stopped ∙ a.stopped;
  more = a.more ++ b.more;
  letters = b.letters ∙ ap (λ (ls : List Letter). ls ++ b.more) a.letters ∙ append_assoc u.letters a.more b.more;
}

-- ---- ticks and hearings

goes_unchanged : (w : World) (e : Event) (o : Outcome) → LivesStayLettersGrow w (world_with_record w e o)
unfolding world_with_record
goes_unchanged w e o = record { lives = refl; stopped = refl; more = []; letters = sym (append-nil w.letters) }

goes_stepped : (w : World) (e : Event) (name : ℕ) (s : StepResult) → LivesStayLettersGrow w (world_with_step w e name s)
unfolding world_with_step
goes_stepped w e name s = record { lives = refl; stopped = refl; more = s.letters; letters = refl }

goes_if : (w : World) (b : Bool) (x y : World) → LivesStayLettersGrow w x → LivesStayLettersGrow w y → LivesStayLettersGrow w (if b then x else y)
goes_if w true x y f g = f
goes_if w false x y f g = g

ruleset goes = (goes_if, goes_unchanged, goes_stepped)

goes_heard : (w : World) (e : Event) (name : ℕ) (hearing : Packet → StepResult) (l : Option Letter) → LivesStayLettersGrow w (world_after_hearing w e name hearing l)
goes_heard w e name hearing None = search goes
goes_heard w e name hearing (Some l) = search goes

pub lives_stay_by_tick : (place : ℕ) (w : World) → LivesStayLettersGrow w (happens w (event_at place act.Tick))
unfolding happens
lives_stay_by_tick place w = search goes

pub lives_stay_by_hearing : (number place : ℕ) (w : World) → LivesStayLettersGrow w (happens w (event_at place (act.Hear number)))
unfolding happens
lives_stay_by_hearing number place w = goes_heard w _ _ _ (letter_at w.letters number)

-- an act of some places
pub lives_stay_by_acts : (a : Act) (goes : (place : ℕ) (w : World) → LivesStayLettersGrow w (happens w (event_at place a))) (w : World) (places : List ℕ)
    → LivesStayLettersGrow w (world_after_events w (map (λ place. event_at place a) places))
unfolding world_after_events
lives_stay_by_acts a goes w [] = same_world_lives_stay w
lives_stay_by_acts a goes w (place ∷ places) = lives_stay_through_both w (happens w (event_at place a)) _ (goes place w) (lives_stay_by_acts a goes (happens w (event_at place a)) places)

-- ---- what stays the same

pub is_running_after_letters : (w v : World) → LivesStayLettersGrow w v → (place : ℕ) → is_running v place ≡ is_running w place
is_running_after_letters w v g place = rw (g.lives, g.stopped) refl

pub is_meant_after_letters : (w v : World) → LivesStayLettersGrow w v → (l : Letter) (place : ℕ) → is_meant v l place ≡ is_meant w l place
is_meant_after_letters w v g l place = rw g.lives refl

pub hearings_of_after_letters : (w v : World) → LivesStayLettersGrow w v → (number : ℕ) (l : Letter) → hearings_of v number l ≡ hearings_of w number l
unfolding running_places
hearings_of_after_letters w v g number l = rw (g.lives, g.stopped) refl

get_more : (xs ys : List Letter) (n : ℕ) (l : Letter) → slice_get xs n ≡ Some l → slice_get (xs ++ ys) n ≡ Some l
get_more [] ys n l h = absurd cc
get_more (x ∷ xs) ys zero l h = h
get_more (x ∷ xs) ys (suc n) l h = get_more xs ys n l h

letter_more : (xs ys : List Letter) (number : ℕ) (l : Letter) → letter_at xs number ≡ Some l → letter_at (xs ++ ys) number ≡ Some l
letter_more xs ys zero l h = h
letter_more xs ys (suc n) l h = get_more xs ys n l h

-- a letter that is there stays
pub letter_stays_at_number : (w v : World) → LivesStayLettersGrow w v → (number : ℕ) (l : Letter) → letter_at w.letters number ≡ Some l → letter_at v.letters number ≡ Some l
letter_stays_at_number w v g number l h = ap (λ ls. letter_at ls number) g.letters ∙ letter_more w.letters g.more number l h
