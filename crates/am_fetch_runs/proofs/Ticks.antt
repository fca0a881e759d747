-- How often places tick in exchanges, and in events in turn.
use Rattle.am_fetch_runs.proofs.Words.{◌≡◌, ℕ, zero, suc, ◌+◌, ◌≤◌, ◌==◌, Bool, true, false, List, [], ◌∷◌, ◌++◌, length, refl, ap, ◌∙◌, arith, nat_tests, split_on_bool, place_of_name, Event, World}
use Rattle.std.specs.Prelude.{◌&&◌, if◌then◌else◌}
use Rattle.am_group_defs.specs.World.{world_after_events}
use Rattle.std.specs.Prelude.{◌-◌}
use Rattle.std.proofs.lemmas.List.Sums.{sum_by-append, sum_by-cons}
use Rattle.am_group.specs.declared.event.Act.TheVariants as act
use Rattle.am_group_defs.specs.Settle.{event_at}
use Rattle.am_fetch_runs.specs.Events.{is_tick, ticks_at, exchange_events, hears_new, tick_of, asked, served}
unfoldable use Rattle.am_fetch_runs.specs.Events.{hears_from, events_of_exchanges}

abbrev tick_test : ℕ → Event → Bool
tick_test place e = (e.node == place) && is_tick e.act

pub ticks_of_both : (place : ℕ) (a b : List Event) → ticks_at place (a ++ b) ≡ ticks_at place a + ticks_at place b
ticks_of_both place a b = sum_by-append (λ e. if tick_test place e then 1 else 0) a b

ticks_of_next : (place : ℕ) (e : Event) (es : List Event) → ticks_at place (e ∷ es) ≡ (if tick_test place e then 1 else 0) + ticks_at place es
ticks_of_next place e es = sum_by-cons (λ x. if tick_test place x then 1 else 0) e es

-- an event that is no tick adds none
pub other_event_ticks_not : (place : ℕ) (e : Event) (es : List Event) → is_tick e.act ≡ false → ticks_at place (e ∷ es) ≡ ticks_at place es
other_event_ticks_not place e es none =
    let test : tick_test place e ≡ false = split_on_bool (e.node == place) (λ t. rw (t, none) refl) (λ f. rw f refl) in
    let next : ticks_at place (e ∷ es) ≡ 0 + ticks_at place es = ticks_of_next place e es ∙ ap (λ (t : Bool). (if t then 1 else 0) + ticks_at place es) test in
    omega arith

hearings_tick_not : (place at number many : ℕ) → ticks_at place (hears_from at number many) ≡ 0
unfolding hears_from
hearings_tick_not place at number zero = refl
hearings_tick_not place at number (suc many) =
    other_event_ticks_not place (event_at at (act.Hear number)) (hears_from at (number + 1) many) refl ∙ hearings_tick_not place at (number + 1) many

-- an exchange is one tick
exchange_ticks_once : (place : ℕ) (w : World) (q name : ℕ) → ticks_at place (exchange_events w q name) ≡ (if place_of_name name == place then 1 else 0)
exchange_ticks_once place w q name =
    let asks = hears_new (asked w name) (place_of_name q) (length w.letters) in
    let gets = hears_new (served w q name) (place_of_name name) (length (asked w name).letters) in
    let a = ticks_of_both place (tick_of name) (asks ++ gets) in
    let b = ticks_of_both place asks gets in
    let c = hearings_tick_not place (place_of_name q) (length w.letters + 1) (length (asked w name).letters - length w.letters) in
    let d = hearings_tick_not place (place_of_name name) (length (asked w name).letters + 1) (length (served w q name).letters - length (asked w name).letters) in
    let first : tick_test place (event_at (place_of_name name) act.Tick) ≡ (place_of_name name == place) = split_on_bool (place_of_name name == place) (λ t. rw t refl) (λ f. rw f refl) in
    let one = ticks_of_next place (event_at (place_of_name name) act.Tick) [] in
    split_on_bool (place_of_name name == place)
    (λ t. let k = ap (λ (u : Bool). (if u then 1 else 0) + 0) (first ∙ t) in rw t (omega arith))
    (λ f. let k = ap (λ (u : Bool). (if u then 1 else 0) + 0) (first ∙ f) in rw f (omega arith))

-- so are so many
pub exchanges_tick : (n place : ℕ) (w : World) (q name : ℕ) → ticks_at place (events_of_exchanges n w q name) ≡ (if place_of_name name == place then n else 0)
unfolding events_of_exchanges
exchanges_tick zero place w q name = split_on_bool (place_of_name name == place) (λ t. rw t refl) (λ f. rw f refl)
exchanges_tick (suc n) place w q name =
    let u = world_after_events w (exchange_events w q name) in
    let first = exchange_ticks_once place w q name in
    let rest = exchanges_tick n place u q name in
    let both = ticks_of_both place (exchange_events w q name) (events_of_exchanges n u q name) in
    split_on_bool (place_of_name name == place)
    (λ t. let x = rw t at first in let y = rw t at rest in rw t (omega arith))
    (λ f. let x = rw f at first in let y = rw f at rest in rw f (omega arith))

-- ---- no more than so often

-- a place ticks no more than so often, and no other place does
pub record TicksAtMost (place : ℕ) (events : List Event) (many : ℕ) : Type 0 where
  pub few : ticks_at place events ≤ many
  pub others : (other : ℕ) → (other == place) ≡ false → ticks_at other events ≡ 0

pub no_events_tick : (place : ℕ) → TicksAtMost place [] 0
no_events_tick place = record { few = omega arith; others = λ other f. refl }

pub then_no_tick : (place : ℕ) (e : Event) (es : List Event) (many : ℕ) → is_tick e.act ≡ false → TicksAtMost place es many → TicksAtMost place (e ∷ es) many
then_no_tick place e es many none h = record {
  few = (let x = other_event_ticks_not place e es none in let few = h.few in omega arith);
  others = λ other f. other_event_ticks_not other e es none ∙ h.others other f;
}

pub ticks_in_turn : (place : ℕ) (a b : List Event) (m n : ℕ) → TicksAtMost place a m → TicksAtMost place b n → TicksAtMost place (a ++ b) (m + n)
ticks_in_turn place a b m n h k = record {
  few = (let x = ticks_of_both place a b in let y = h.few in let z = k.few in omega arith);
  others = λ other f. (let x = ticks_of_both other a b in let y = h.others other f in let z = k.others other f in omega arith);
}

pub exchanges_tick_at : (n : ℕ) (w : World) (q name : ℕ) → TicksAtMost (place_of_name name) (events_of_exchanges n w q name) n
exchanges_tick_at n w q name = record {
  few = (let x = exchanges_tick n (place_of_name name) w q name in
      let same : (place_of_name name == place_of_name name) ≡ true = grind (arith, nat_tests) in
      let y = rw same at x in
      omega arith);
  others = λ other f. (let x = exchanges_tick n other w q name in
      let differ : (place_of_name name == other) ≡ false = turned other (place_of_name name) f in
      rw differ at x);
}
  where
    turned : (a b : ℕ) → (a == b) ≡ false → (b == a) ≡ false
    turned a b f = grind (arith, nat_tests)
