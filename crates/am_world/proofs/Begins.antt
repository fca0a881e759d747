-- A world begins as its run.
use Rattle.am_world.proofs.Words.{◌≡◌, ⊎_elim, ℕ, zero, suc, ◌+◌, ◌<◌, Bool, true, false, if◌then◌else◌, List, [], ◌∷◌, ◌++◌, length, replicate, Some}
use Rattle.am_world.proofs.Words.{slice_get, slice_index, slice_index_or, refl, sym, ap, ◌∙◌, subst, arith, length-append, length-replicate, Rules, MayFound}
use Rattle.am_world.proofs.Words.{has, name_of_place_and_life, CoreFrontsAreInOrder, founder, stranger_node, founders_entry, start, first_node, world_after_events, IsEndOf, untrimmed_node_is_own_end, Node, state_of}
use Rattle.am_world.proofs.Words.{AreNodes, AreFirst, AreLives, AreFlags, IsRun, play_of, slice_get_after_push}
use Rattle.am_model.specs.Node as protocol

stranger_order : (rules : Rules) (name : ℕ) → CoreFrontsAreInOrder (stranger_node rules name).core
stranger_order rules name = record { kept = refl; let_go = omega arith; given = omega arith; accepted = omega arith }

founder_order : (rules : Rules) (name : ℕ) → CoreFrontsAreInOrder (founder rules name).core
founder_order rules name = record { kept = refl; let_go = omega arith; given = omega arith; accepted = omega arith }

-- a node of the code that is this one
abbrev pub NodeKeepsEndInOrder : protocol.Node → protocol.Node → Type 0
NodeKeepsEndInOrder all m = IsEndOf all m × CoreFrontsAreInOrder m.core

pub stranger_keeps_end_in_order : (rules : Rules) (name : ℕ) (m : protocol.Node) → m ≡ stranger_node rules name → NodeKeepsEndInOrder (stranger_node rules name) m
stranger_keeps_end_in_order rules name m is = subst (NodeKeepsEndInOrder (stranger_node rules name)) (sym is) (untrimmed_node_is_own_end (stranger_node rules name) refl, stranger_order rules name)

first_case : (rules : Rules) (name : ℕ) (b : Bool) → let n : protocol.Node = if b then founder rules name else stranger_node rules name in NodeKeepsEndInOrder n n
first_case rules name true = (untrimmed_node_is_own_end (founder rules name) refl, founder_order rules name)
first_case rules name false = (untrimmed_node_is_own_end (stranger_node rules name) refl, stranger_order rules name)

first_keeps : (rules : Rules) (name : ℕ) (m : protocol.Node) → m ≡ first_node rules name → NodeKeepsEndInOrder (first_node rules name) m
first_keeps rules name m is = subst (NodeKeepsEndInOrder (first_node rules name)) (sym is) (first_case rules name (has rules.founders name))

-- one node more
pub first_nodes_with_one_more : (rules : Rules) (many : ℕ) (nodes : List Node) (n : Node) → AreFirst many nodes (start rules) → state_of n ≡ first_node rules many
    → AreFirst (many + 1) (nodes ++ n ∷ []) (start rules)
first_nodes_with_one_more rules many nodes n h is = record {
  count = omega (arith, length-append nodes (n ∷ []), h.count);
  each = λ i k at. ⊎_elim
      (λ (old : slice_get nodes i ≡ Some k). h.each i k old)
      (λ (new : (i ≡ length nodes) × (n ≡ k)).
      let here : i ≡ many = new.0 ∙ h.count in
      let now : name_of_place_and_life i 1 ≡ many = omega arith in
      subst (λ j. NodeKeepsEndInOrder (first_node rules j) (state_of k)) (sym now) (first_keeps rules many (state_of k) (ap state_of (sym new.1) ∙ is)))
      (slice_get_after_push nodes n i k at);
}

pub first_nodes_before_any : (rules : Rules) → AreFirst 0 [] (start rules)
first_nodes_before_any rules = record { count = refl; each = λ i n h. absurd (cc) }

pub first_life_at_place : (n place : ℕ) → place < n → slice_index (replicate n 1) place ≡ 1
first_life_at_place zero place h = absurd (omega arith)
first_life_at_place (suc n) zero h = refl
first_life_at_place (suc n) (suc place) h = first_life_at_place n place (omega arith)

pub no_flag_set_at_first : (n name : ℕ) → slice_index_or (replicate n false) name false ≡ false
no_flag_set_at_first zero name = refl
no_flag_set_at_first (suc n) zero = refl
no_flag_set_at_first (suc n) (suc name) = no_flag_set_at_first n name

first_lives : (rules : Rules) → AreLives (replicate 16 1) (start rules)
first_lives rules = record { count = refl; each = λ place h. first_life_at_place 16 place h; within = λ place h. (omega arith, omega arith) }

first_flags : (rules : Rules) → AreFlags (replicate 256 false) (start rules)
first_flags rules = record { count = length-replicate 256 false; each = λ name. no_flag_set_at_first 256 name }

-- a group to which nothing has happened
pub first_world_shows_run : (rules : Rules) (nodes : List Node) → MayFound rules → AreNodes nodes (start rules)
    → IsRun (play_of rules []) nodes (replicate 16 1) (replicate 256 false) [] (founders_entry rules ∷ [])
unfolding world_after_events
first_world_shows_run rules nodes may h = record {
  founded = may;
  few = omega arith;
  short = omega arith;
  shows = record { standing = h; living = first_lives rules; stopped = first_flags rules; recorded = refl; sent = refl; agreed = refl };
}

pub ruleset world_begin_rules = (first_nodes_with_one_more, first_nodes_before_any, first_world_shows_run)
