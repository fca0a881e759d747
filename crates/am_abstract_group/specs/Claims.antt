-- What is claimed of every run.
use Rattle.std.specs.Prelude.{◌≡◌, ℕ, true, List}
use Rattle.am_base.specs.declared.entry.GroupView.{GroupView}
use Rattle.am_base.specs.Whole.{IsBeginningOf}
use Rattle.am_abstract_group.specs.Group.{list_with_chosen_view, Group, chain_of}
use Rattle.am_abstract_group.specs.Moves.{CoordinatorMayDecide, chosen_by}
use Rattle.am_abstract_group.specs.Runs.{Run, Onward}
use Rattle.am_abstract_group.specs.Kept.{GroupKeeps}

-- in a lawful run, all that is kept
abbrev pub RunsKeep : Type 0
RunsKeep = (founders : List ℕ) (first resilience : ℕ) (s : Group) → Run founders first resilience s → GroupKeeps s

-- in a lawful run what a ballot may choose begins with all that was accepted
abbrev pub ChoicesKeep : Type 0
ChoicesKeep = (founders : List ℕ) (first resilience : ℕ) (s : Group) → Run founders first resilience s → (i : ℕ) (v : GroupView)
    → CoordinatorMayDecide s i v → IsBeginningOf s.group (chosen_by (s.node i) v).before

-- what was accepted stays, and a complete view stands in each later line with all that it chose
pub record DecisionsStand (s t : Group) : Type 0 where
  pub group : IsBeginningOf s.group t.group
  pub views : (x : ℕ) → s.views.complete x ≡ true → IsBeginningOf (list_with_chosen_view (s.views.chosen x)) (chain_of t.views)

abbrev pub CompleteViewsStand : Type 0
CompleteViewsStand = (founders : List ℕ) (first resilience : ℕ) (s t : Group) → Run founders first resilience s → Onward s t → DecisionsStand s t
