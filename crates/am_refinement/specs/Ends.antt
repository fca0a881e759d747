-- The end of a step: what is accepted by then, as moves of the group.
use Rattle.std.specs.Prelude.{◌≡◌, ℕ, ◌<◌, ◌≤◌, max, List, [], ◌∷◌, ◌++◌, length, take, true, slice_get, Some}
use Rattle.am_base.specs.declared.entry.Entry.{Entry}
use Rattle.am_group.specs.declared.event.Event.{Event}
use Rattle.am_base.specs.declared.entry.Entry.TheVariants.{Leave}
use Rattle.am_base.specs.Whole.{IsBeginningOf, is_member_at_end, stamp_of_list, key_of_stamp}
use Rattle.am_abstract_group.specs.Group as groups
use Rattle.am_abstract_group.specs.Group.{Group, IsUp, MayAccept, function_with_value}
use Rattle.am_abstract_group.specs.Moves.{node_with_entry}
use Rattle.am_model.specs.declared.status.Status.TheVariants.{Departed}
use Rattle.am_model.specs.Node.{Node, map_with_value, is_sequencer, push_entry, has_departed}
use Rattle.am_model.specs.Refresh.{refresh_at_end}
use Rattle.am_step_laws.specs.Causes.{Cause}
use Rattle.am_model.specs.Emit.{StepResult}
use Rattle.am_group_defs.specs.World.{Decided, World, list_after_step, views_after, world_with_step}
use Rattle.am_refinement.specs.Standing.{FrontsStand, StandsBut, Stands, within}
use Rattle.am_refinement.specs.Moving.{MovesLeadTo}
use Rattle.am_refinement.specs.Steps.{MayMove}

-- what the group accepted after a name's step: nothing more, or the sequencer's list up to what it accepted
pub data GroupAccepts (w : World) (s : Group) (name : ℕ) (n : Node) : Type 0 where
  no_more : list_after_step w.group n ≡ w.group → GroupAccepts w s name n
  rises : groups.Leads name (s.node name) → MayAccept s.node (s.node name).list (length s.group) n.core.acc
      → list_after_step w.group n ≡ take n.core.acc (s.node name).list → GroupAccepts w s name n

-- how far the name's own list is accepted then: it has departed; it had no list and nothing changed; or it has one, and is told of
-- nothing that the group hasn't accepted, nor that a later ballot hadn't chosen
pub record MayLearn (s : Group) (name : ℕ) (n : Node) (group : List Entry) : Type 0 where
  pub up : IsUp (s.node name)
  pub told : max (s.node name).told n.core.told ≤ length group
  pub before : (x : ℕ) → s.views.decided x ≡ true → key_of_stamp (s.node name).promise < x → max (s.node name).told n.core.told ≤ length (s.views.chosen x).before
  pub up_to : (s.node name).acc ≤ n.core.acc
  pub given : n.core.acc ≤ max (s.node name).told n.core.told
  pub within : n.core.acc ≤ length (s.node name).list

pub data Learns (w : World) (s : Group) (name : ℕ) (n : Node) : Type 0 where
  departed : has_departed n.status ≡ true → Learns w s name n
  bare : FrontsStand n (s.node name) → Learns w s name n
  learns : MayLearn s name n (list_after_step w.group n) → Learns w s name n

pub record NeedsEnd (w : World) (s : Group) (name : ℕ) (n : Node) : Type 0 where
  pub few : name < 256
  pub accepts : GroupAccepts w s name n
  -- the group list only grows
  pub grows : IsBeginningOf w.group (list_after_step w.group n)
  pub learns : Learns w s name n
  -- views are of names
  pub noted : (k : ℕ) (v : Decided) → slice_get (views_after w.views (w.nodes name) n) k ≡ Some v → v.stamp.by < 256

-- the world of a step before its end: the views that it noted are there, and the group list is as before
abbrev pub before_end : World → ℕ → Node → World
before_end w name n = record w { nodes = map_with_value w.nodes name n; views = views_after w.views (w.nodes name) n }

abbrev pub EndsStand : Type 0
EndsStand = (w : World) (e : Event) (name : ℕ) (step : StepResult) (s : Group) → NeedsEnd w s name step.node
    → StandsBut name (before_end w name step.node) s → MovesLeadTo (Stands (world_with_step w e name step)) s

-- ---- the last member goes

-- it has its view's line, and is alone; and the group accepts what it does, up to where it is the group that has accepted more
pub record NeedsClose (w : World) (s : Group) (name : ℕ) (n : Node) : Type 0 where
  pub chain : s.views.line (key_of_stamp (stamp_of_list (s.node name).list)) ≡ (s.node name).list
  pub alone : (j : ℕ) → is_member_at_end (s.node name).list j ≡ true → j ≡ name
  pub upto : ℕ
  pub accepts : MayAccept (function_with_value s.node name (node_with_entry (s.node name) (Leave name))) ((s.node name).list ++ Leave name ∷ []) (length s.group) upto
  pub accepted : list_after_step w.group n ≡ take upto ((s.node name).list ++ Leave name ∷ [])
  pub grows : IsBeginningOf w.group (list_after_step w.group n)
  pub no_view : views_after w.views (w.nodes name) n ≡ w.views

-- the node once it numbered its own Leave and departed
abbrev pub after_closing : Node → Node
after_closing x = record (refresh_at_end (push_entry x (Leave x.core.who))) { status = Departed }

-- this ends its step
abbrev pub CloseStands : Type 0
CloseStands = (w : World) (e : Event) (name : ℕ) (c : Cause) (x : Node) (step : StepResult) (s : Group) → MayMove w name c x s → is_sequencer x ≡ true
    → x.leaving ≡ true → step.node ≡ after_closing x
    → NeedsClose w s name step.node → StandsBut name (within w name x) s → MovesLeadTo (Stands (world_with_step w e name step)) s
