-- The ways through the ticks, the hearings of a letter, and a wave.
use Rattle.std.proofs.Common.{◌≡◌, ℕ, zero, suc, ◌+◌, ◌<◌, ◌≤◌, List, [], ◌∷◌, ◌++◌, length, drop, Bool, true, false, Some, slice_get, refl, sym, ◌∙◌, ap}
use Rattle.std.proofs.Common.{subst, arith}
use Rattle.std.proofs.lemmas.List.{drop_all}
use Rattle.am_packet.specs.Boxes.{Letter}
use Rattle.am_group.specs.declared.event.Act.{Act}
use Rattle.am_group.specs.declared.event.Act.TheVariants as act
use Rattle.am_group.specs.declared.event.Event.{Event}
use Rattle.am_group.specs.Journals.{letter_at}
use Rattle.am_group_defs.specs.World.{World, happens, world_after_events}
use Rattle.am_group_defs.specs.Settle.{event_at, ticks_of_places, hearings_of, hearings_from, hearings}
use Rattle.am_world.specs.Runs.{Play, replay}
use Rattle.am_world.specs.declared.world.WorldRefusal.{WorldRefusal}
use Rattle.am_world.specs.Settling.{is_running, passing_act_at, Did, Stuck}
use Rattle.am_world.proofs.Names.{LivesStayLettersGrow, same_world_lives_stay, lives_stay_through_both, lives_stay_by_tick, lives_stay_by_hearing, lives_stay_by_acts, is_running_after_letters, is_meant_after_letters, hearings_of_after_letters, letter_stays_at_number}
use Rattle.am_world.proofs.Going.{DidSomeOfEvents, replay_of_done_events, no_event_is_done_yet, all_events_are_done, done_events_with_equal_rest, stuck_within_all_events, done_events_with_next_part}
use Rattle.am_world.proofs.SettlingActs.{acts_due_from_place, acts_due_with_next_place, place_hears_letter, acts_due_are_ticks, acts_due_are_hearings}

-- on the way, with the names as they were
pub record DidSomeAndLivesStay (all rest : List Event) (old now : Play) : Type 0 where
  pub going : DidSomeOfEvents all rest old now
  pub names : LivesStayLettersGrow (replay old) (replay now)

way_out : (all rest : List Event) (old : Play) → rest ≡ all → DidSomeAndLivesStay all rest old old
way_out all rest old is = record { going = no_event_is_done_yet all rest old is; names = same_world_lives_stay (replay old) }

-- ---- an act of each place

act_goes : (now new : Play) (due : Bool) (a : Act) (place : ℕ) → ((w : World) → LivesStayLettersGrow w (happens w (event_at place a))) → Did (passing_act_at due a place) now new
    → LivesStayLettersGrow (replay now) (replay new)
unfolding world_after_events
act_goes now new false a place goes did = subst (LivesStayLettersGrow (replay now)) (sym (replay_of_done_events [] now new did)) (same_world_lives_stay (replay now))
act_goes now new true a place goes did = subst (LivesStayLettersGrow (replay now)) (sym (replay_of_done_events (event_at place a ∷ []) now new did)) (goes (replay now))

-- the way at a place, said by whether it is due
at_place : (all : List Event) (due : ℕ → Bool) (a : Act) (place : ℕ) (is_due : Bool) (old now : Play) → place < 16 → is_due ≡ due place
    → DidSomeAndLivesStay all (acts_due_from_place due a place) old now → DidSomeOfEvents all (passing_act_at is_due a place ++ acts_due_from_place due a (place + 1)) old now
at_place all due a place is_due old now low is way =
    done_events_with_equal_rest all (acts_due_from_place due a place) (passing_act_at is_due a place ++ acts_due_from_place due a (place + 1)) old now
    (acts_due_with_next_place due a place low ∙ ap (λ (b : Bool). passing_act_at b a place ++ acts_due_from_place due a (place + 1)) (sym is)) way.going

act_next : (all : List Event) (due : ℕ → Bool) (a : Act) (place : ℕ) (is_due : Bool) (old now new : Play)
    → ((w : World) → LivesStayLettersGrow w (happens w (event_at place a))) → place < 16 → is_due ≡ due place → DidSomeAndLivesStay all (acts_due_from_place due a place) old now
    → Did (passing_act_at is_due a place) now new → DidSomeAndLivesStay all (acts_due_from_place due a (place + 1)) old new
act_next all due a place is_due old now new goes low is way did = record {
  going = done_events_with_next_part all (passing_act_at is_due a place) (acts_due_from_place due a (place + 1)) old now new (at_place all due a place is_due old now low is way) did;
  names = lives_stay_through_both (replay old) (replay now) (replay new) way.names (act_goes now new is_due a place goes did);
}

act_stuck : (all : List Event) (due : ℕ → Bool) (a : Act) (place : ℕ) (is_due : Bool) (old now new : Play) (refusal : WorldRefusal) → place < 16
    → is_due ≡ due place → DidSomeAndLivesStay all (acts_due_from_place due a place) old now → Stuck (passing_act_at is_due a place) now new refusal → Stuck all old new refusal
act_stuck all due a place is_due old now new refusal low is way stuck =
    stuck_within_all_events all (passing_act_at is_due a place) (acts_due_from_place due a (place + 1)) old now new refusal (at_place all due a place is_due old now low is way) stuck

-- ---- the ticks

abbrev pub DidTicksUpToPlace : ℕ → Play → Play → Type 0
DidTicksUpToPlace place old now = DidSomeAndLivesStay (ticks_of_places (replay old)) (acts_due_from_place (is_running (replay old)) act.Tick place) old now

pub did_no_tick_yet : (old : Play) → DidTicksUpToPlace 0 old old
did_no_tick_yet old = way_out (ticks_of_places (replay old)) (acts_due_from_place (is_running (replay old)) act.Tick 0) old (acts_due_are_ticks (replay old))

pub did_tick_at_place : (place : ℕ) (is_due : Bool) (old now new : Play) → place < 16 → is_due ≡ is_running (replay now) place → DidTicksUpToPlace place old now
    → Did (passing_act_at is_due act.Tick place) now new → DidTicksUpToPlace (place + 1) old new
did_tick_at_place place is_due old now new low is way did =
    act_next (ticks_of_places (replay old)) (is_running (replay old)) act.Tick place is_due old now new (lives_stay_by_tick place) low (is
    ∙ is_running_after_letters (replay old) (replay now) way.names place) way did

pub stuck_in_tick_at_place : (place : ℕ) (is_due : Bool) (old now new : Play) (refusal : WorldRefusal) → place < 16 → is_due ≡ is_running (replay now) place
    → DidTicksUpToPlace place old now → Stuck (passing_act_at is_due act.Tick place) now new refusal → Stuck (ticks_of_places (replay old)) old new refusal
stuck_in_tick_at_place place is_due old now new refusal low is way stuck =
    act_stuck (ticks_of_places (replay old)) (is_running (replay old)) act.Tick place is_due old now new refusal low (is
    ∙ is_running_after_letters (replay old) (replay now) way.names place) way stuck

-- ---- the hearings of a letter

abbrev pub DidHearingsUpToPlace : ℕ → Letter → ℕ → Play → Play → Type 0
DidHearingsUpToPlace number l place old now = DidSomeAndLivesStay (hearings_of (replay old) number l) (acts_due_from_place (place_hears_letter (replay old) l) (act.Hear number) place) old now

pub did_no_hearing_yet : (number : ℕ) (l : Letter) (old : Play) → DidHearingsUpToPlace number l 0 old old
did_no_hearing_yet number l old = way_out (hearings_of (replay old) number l) (acts_due_from_place (place_hears_letter (replay old) l) (act.Hear number) 0) old
    (acts_due_are_hearings (replay old) number l)

-- whether a place is to hear a letter is as it was
hears_same : (number : ℕ) (l : Letter) (place : ℕ) (old now : Play) → DidHearingsUpToPlace number l place old now → place_hears_letter (replay now) l place ≡ place_hears_letter (replay old) l place
hears_same number l place old now way =
    rw (is_running_after_letters (replay old) (replay now) way.names place, is_meant_after_letters (replay old) (replay now) way.names l place) refl

abbrev IsHeard : ℕ → Letter → ℕ → Bool → Play → Type 0
IsHeard number l place is_due now = letter_at (replay now).letters number ≡ Some l → is_due ≡ place_hears_letter (replay now) l place

due_as : (number : ℕ) (l : Letter) (place : ℕ) (is_due : Bool) (old now : Play) → letter_at (replay old).letters number ≡ Some l
    → IsHeard number l place is_due now → DidHearingsUpToPlace number l place old now → is_due ≡ place_hears_letter (replay old) l place
due_as number l place is_due old now there is way =
    is (letter_stays_at_number (replay old) (replay now) way.names number l there) ∙ hears_same number l place old now way

pub did_hearing_at_place : (number : ℕ) (l : Letter) (place : ℕ) (is_due : Bool) (old now new : Play) → place < 16 → letter_at (replay old).letters number ≡ Some l
    → IsHeard number l place is_due now → DidHearingsUpToPlace number l place old now → Did (passing_act_at is_due (act.Hear number) place) now new
    → DidHearingsUpToPlace number l (place + 1) old new
did_hearing_at_place number l place is_due old now new low there is way did =
    act_next (hearings_of (replay old) number l) (place_hears_letter (replay old) l) (act.Hear number) place is_due old now new (lives_stay_by_hearing number place) low
    (due_as number l place is_due old now there is way) way did

pub stuck_in_hearing_at_place : (number : ℕ) (l : Letter) (place : ℕ) (is_due : Bool) (old now new : Play) (refusal : WorldRefusal) → place < 16
    → letter_at (replay old).letters number ≡ Some l → IsHeard number l place is_due now → DidHearingsUpToPlace number l place old now
    → Stuck (passing_act_at is_due (act.Hear number) place) now new refusal → Stuck (hearings_of (replay old) number l) old new refusal
stuck_in_hearing_at_place number l place is_due old now new refusal low there is way stuck =
    act_stuck (hearings_of (replay old) number l) (place_hears_letter (replay old) l) (act.Hear number) place is_due old now new refusal low
    (due_as number l place is_due old now there is way) way stuck

-- ---- a wave

abbrev pub DidHearingsUpToLetter : ℕ → ℕ → Play → Play → Type 0
DidHearingsUpToLetter after number old now = DidSomeAndLivesStay (hearings (replay old) after) (hearings_from (replay old) (number + 1) (drop number (replay old).letters)) old now

pub did_no_letter_yet : (after : ℕ) (old : Play) → DidHearingsUpToLetter after after old old
did_no_letter_yet after old = way_out (hearings (replay old) after) (hearings (replay old) after) old refl

-- the letter after so many
record Next (letters : List Letter) (number : ℕ) : Type 0 where
  pub letter : Letter
  pub there : letter_at letters (number + 1) ≡ Some letter
  pub rest : drop number letters ≡ letter ∷ drop (number + 1) letters

next_letter : (letters : List Letter) (number : ℕ) → number < length letters → Next letters number
next_letter [] n low = absurd (omega arith)
next_letter (l ∷ ls) zero low = record { letter = l; there = refl; rest = refl }
next_letter (l ∷ ls) (suc n) low =
    let m = next_letter ls n (omega arith) in
    let e : suc n + 1 ≡ suc (n + 1) = omega arith in
    let f : n + 1 ≡ suc n = omega arith in
    record {
      letter = m.letter;
      there = ap (letter_at (l ∷ ls)) e ∙ ap (slice_get (l ∷ ls)) f ∙ sym (ap (letter_at ls) f) ∙ m.there;
      rest = m.rest ∙ ap (λ k. m.letter ∷ drop k (l ∷ ls)) (sym e);
    }

-- what is left of a wave begins with the hearings of the next letter
at_letter : (after number : ℕ) (old now : Play) (m : Next (replay old).letters number) → DidHearingsUpToLetter after number old now
    → DidSomeOfEvents (hearings (replay old) after) (hearings_of (replay now) (number + 1) m.letter
    ++ hearings_from (replay old) (number + 1 + 1) (drop (number + 1) (replay old).letters)) old now
unfolding hearings_from
at_letter after number old now m way =
    let w = replay old in
    let rest = hearings_from w (number + 1 + 1) (drop (number + 1) w.letters) in
    done_events_with_equal_rest (hearings w after) (hearings_from w (number + 1) (drop number w.letters)) (hearings_of (replay now) (number + 1) m.letter ++ rest) old now
    (ap (hearings_from w (number + 1)) m.rest ∙ ap (λ (es : List Event). es ++ rest) (sym (hearings_of_after_letters w (replay now) way.names (number + 1) m.letter)))
    way.going

hears_go : (number : ℕ) (l : Letter) (now new : Play) → Did (hearings_of (replay now) number l) now new → LivesStayLettersGrow (replay now) (replay new)
hears_go number l now new did =
    subst (LivesStayLettersGrow (replay now)) (sym (replay_of_done_events (hearings_of (replay now) number l) now new did)) (lives_stay_by_acts (act.Hear number) (lives_stay_by_hearing number) (replay now) _)

abbrev HearsIf : ℕ → (List Event → Type 0) → Play → Type 0
HearsIf number P now = (l : Letter) → letter_at (replay now).letters number ≡ Some l → P (hearings_of (replay now) number l)

pub did_hearings_of_letter : (after number : ℕ) (old now new : Play) → number < length (replay old).letters → DidHearingsUpToLetter after number old now
    → HearsIf (number + 1) (λ es. Did es now new) now → DidHearingsUpToLetter after (number + 1) old new
did_hearings_of_letter after number old now new low way did =
    let m = next_letter (replay old).letters number low in
    let here = did m.letter (letter_stays_at_number (replay old) (replay now) way.names (number + 1) m.letter m.there) in
    record {
      going = done_events_with_next_part (hearings (replay old) after) (hearings_of (replay now) (number + 1) m.letter) _ old now new
          (at_letter after number old now m way) here;
      names = lives_stay_through_both (replay old) (replay now) (replay new) way.names (hears_go (number + 1) m.letter now new here);
    }

pub stuck_in_hearings_of_letter : (after number : ℕ) (old now new : Play) (refusal : WorldRefusal) → number < length (replay old).letters → DidHearingsUpToLetter after number old now
    → HearsIf (number + 1) (λ es. Stuck es now new refusal) now → Stuck (hearings (replay old) after) old new refusal
stuck_in_hearings_of_letter after number old now new refusal low way stuck =
    let m = next_letter (replay old).letters number low in
    let here = stuck m.letter (letter_stays_at_number (replay old) (replay now) way.names (number + 1) m.letter m.there) in
    stuck_within_all_events (hearings (replay old) after) (hearings_of (replay now) (number + 1) m.letter) _ old now new refusal (at_letter after number old now m way) here

pub did_hearings_of_all_letters : (after number : ℕ) (old now : Play) → length (replay old).letters ≤ number → DidHearingsUpToLetter after number old now
    → Did (hearings (replay old) after) old now
unfolding hearings_from
did_hearings_of_all_letters after number old now high way =
    all_events_are_done (hearings (replay old) after) _ old now (ap (hearings_from (replay old) (number + 1)) (drop_all number (replay old).letters high)) way.going
