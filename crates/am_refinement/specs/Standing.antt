-- What stands for what: a world of the definitions, and a group of whole lists.
use Rattle.std.specs.Prelude.{◌≡◌, ◌≢◌, ℕ, ◌+◌, ◌<◌, ◌≤◌, List, [], ◌∷◌, ◌++◌, length, take, Some, Bool, true, false, slice_get}
use Rattle.am_base.specs.Lists.{Log}
use Rattle.am_base.specs.Whole.{IsBeginningOf, image_of_list, key_of_stamp}
use Rattle.am_abstract_group.specs.Group as groups
use Rattle.am_abstract_group.specs.Group.{Chosen, Group, Views, list_with_chosen_view}
use Rattle.am_abstract_group.specs.Runs as begun
use Rattle.am_base.specs.Founding.{Rules, MayFound}
use Rattle.am_refinement.specs.Moving.{MovesLeadTo}
use Rattle.am_model.specs.declared.status.Status.{Status}
use Rattle.am_model.specs.Node.{Node, map_with_value, lowest_name_or_zero, has_log_by_status, has_departed}
use Rattle.am_model.specs.Calls.{is_unfinished_ballot}
use Rattle.am_group_defs.specs.World.{Decided, World, start, is_stopped}
use Rattle.am_group_defs.specs.Lawful.{whole}
use Rattle.am_group_defs.specs.Claims.{line_of}

-- ---- one name

-- where a list begins, the group had accepted so much, and the list's image tells just that
pub record BeginsIn (w : World) (log : Log) : Type 0 where
  pub within : log.start ≤ length w.group
  pub image : log.image ≡ image_of_list (take log.start w.group)

-- whether a name has a log, has stopped, has departed, and leaves
pub record FlagsStand (status : Status) (leaves stops : Bool) (log halted gone quits : Bool) : Type 0 where
  pub log_ : log ≡ has_log_by_status status
  pub stopped : halted ≡ stops
  pub departed : gone ≡ has_departed status
  pub leaving : quits ≡ leaves

-- what a name has, but for how far its list is accepted
pub record NameStands (w : World) (i : ℕ) (m : Node) (a : groups.ChainNode) : Type 0 where
  pub begins : BeginsIn w m.core.log
  pub list : a.list ≡ whole w m
  pub flags : FlagsStand m.status m.leaving (is_stopped w i) a.has_log a.stopped a.departed a.leaving
  pub open flags use *
  pub promise : a.promise ≡ m.core.promise
  pub ballot : a.ballot ≡ is_unfinished_ballot m.ballot
  -- the number of its Join, where there is a log
  pub start : has_log_by_status m.status ≡ true → a.start ≡ m.core.start

-- how far it is accepted: what the node was told may fall, as where the reports of a decided view begin anew
pub record FrontsStand (m : Node) (a : groups.ChainNode) : Type 0 where
  pub told : m.core.told ≤ a.told
  pub acc : a.acc ≡ m.core.acc

-- ---- decided views

-- a ballot chose this view
pub record ChoseView (chosen : Chosen) (v : Decided) : Type 0 where
  pub stamp : chosen.stamp ≡ v.stamp
  pub members : chosen.members ≡ v.members
  pub resilience : chosen.resilience ≡ v.resilience
  pub number : length chosen.before + 1 ≡ v.number

-- a noted view is a decided one, with the list below its View, and its line is its coordinator's list up to before the next View
pub record NotedStands (w : World) (views : Views) (v : Decided) : Type 0 where
  pub decided : views.decided (key_of_stamp v.stamp) ≡ true
  pub chose : ChoseView (views.chosen (key_of_stamp v.stamp)) v
  pub open chose use *
  pub line : views.line (key_of_stamp v.stamp) ≡ line_of w v.stamp
  pub opens : IsBeginningOf (list_with_chosen_view (views.chosen (key_of_stamp v.stamp))) (views.line (key_of_stamp v.stamp))

-- the view that was noted last
pub record IsLastDecided (w : World) (v : Decided) : Type 0 where
  pub before : List Decided
  pub is : w.views ≡ before ++ v ∷ []

-- a decided ballot's view was noted
pub record WasNoted (w : World) (x : ℕ) : Type 0 where
  pub index : ℕ
  pub view : Decided
  pub there : slice_get w.views index ≡ Some view
  pub is : key_of_stamp view.stamp ≡ x

pub record ViewsStand (w : World) (views : Views) : Type 0 where
  pub noted : (k : ℕ) (v : Decided) → slice_get w.views k ≡ Some v → NotedStands w views v
  pub decided : (x : ℕ) → views.decided x ≡ true → WasNoted w x
  pub current : (v : Decided) → IsLastDecided w v → views.current ≡ v.stamp

-- ---- the whole

-- all but how far one name's list is accepted, as it is within that name's step
pub record StandsBut (name : ℕ) (w : World) (s : Group) : Type 0 where
  pub each : (i : ℕ) → i < 256 → NameStands w i (w.nodes i) (s.node i)
  -- what is accepted isn't tied once a name has departed
  pub fronts : (i : ℕ) → i < 256 → i ≢ name → has_departed (w.nodes i).status ≡ false → FrontsStand (w.nodes i) (s.node i)
  pub views : ViewsStand w s.views
  pub group : s.group ≡ w.group

pub record Stands (w : World) (s : Group) : Type 0 where
  pub each : (i : ℕ) → i < 256 → NameStands w i (w.nodes i) (s.node i)
  pub fronts : (i : ℕ) → i < 256 → has_departed (w.nodes i).status ≡ false → FrontsStand (w.nodes i) (s.node i)
  pub views : ViewsStand w s.views
  pub group : s.group ≡ w.group

-- a world within a step of a name, whose node is this so far
abbrev pub within : World → ℕ → Node → World
within w name x = record w { nodes = map_with_value w.nodes name x }

-- ---- the start

-- from the group's own start some moves lead to one that stands for the world's: each founder is told of the first entry
abbrev pub StartStands : Type 0
StartStands = (rules : Rules) → MayFound rules → MovesLeadTo (Stands (start rules)) (begun.group_start rules.founders (lowest_name_or_zero rules.founders) rules.resilience)
