-- Who is behind the View of a sequencer that runs, where a lawful run ends.
use Rattle.std.specs.Prelude.{◌≡◌, ℕ, ◌+◌, ◌*◌, ◌<◌, ◌≤◌, List, true, false}
use Rattle.am_base.specs.Founding.{Rules, MayFound}
use Rattle.am_base.specs.Names.{has}
use Rattle.am_base.specs.Stamps.{stamp_is_less, stamps_are_equal}
use Rattle.am_group.specs.declared.event.Event.{Event}
use Rattle.am_model.specs.Node.{top, view, image_of_node, members, is_member, is_sequencer}
use Rattle.am_model.specs.Refresh.{refresh_at_end}
use Rattle.am_group_defs.specs.Lawful.{lawful_front}
use Rattle.am_group_defs.specs.World.{World, is_stopped, run}
use Rattle.am_fetch_laws.specs.Exchanges.{exchanges, MayCatchUp, ActsInViewOf}

-- a sequencer that runs, and a Member of its list that runs
pub record RunsInListOf (w : World) (q name : ℕ) : Type 0 where
  pub small_leader : q < 256
  pub small : name < 256
  pub leads : is_sequencer (w.nodes q) ≡ true
  pub leader_runs : is_stopped w q ≡ false
  pub listed : has (members (w.nodes q)) name ≡ true
  pub member_ : is_member (w.nodes name).status ≡ true
  pub runs : is_stopped w name ≡ false

-- such a member has promised no less than the sequencer's view
abbrev pub MembersHavePromised : Type 0
MembersHavePromised = (rules : Rules) (events : List Event) (q name : ℕ) → MayFound rules → lawful_front rules events ≡ events → RunsInListOf (run rules events) q name
    → stamp_is_less ((run rules events).nodes name).core.promise (view ((run rules events).nodes q)) ≡ false

-- it has promised no more, isn't in the view yet, and has taken what the sequencer trims at the end of a step
pub record LagsBehind (w : World) (q name : ℕ) : Type 0 where
  pub among : RunsInListOf w q name
  pub promised : stamp_is_less (view (w.nodes q)) (w.nodes name).core.promise ≡ false
  pub behind : stamps_are_equal (view (w.nodes name)) (view (w.nodes q)) ≡ false
  pub trimmed : (refresh_at_end (w.nodes q)).core.base ≤ (w.nodes name).core.taken

abbrev pub LaggersMayCatchUp : Type 0
LaggersMayCatchUp = (rules : Rules) (events : List Event) (q name : ℕ) → MayFound rules → lawful_front rules events ≡ events → LagsBehind (run rules events) q name
    → MayCatchUp ((run rules events).nodes q) ((run rules events).nodes name)

-- so enough exchanges bring it to that view
abbrev pub LaggersReachView : Type 0
LaggersReachView = (rules : Rules) (events : List Event) (q name many : ℕ) → MayFound rules → lawful_front rules events ≡ events → LagsBehind (run rules events) q name
    → (image_of_node ((run rules events).nodes q)).view_number ≤ top ((run rules events).nodes name) + 8 * many
    → (n : ℕ) × (n ≤ many) × ActsInViewOf ((run rules events).nodes q)
    (exchanges n (record { sequencer = (run rules events).nodes q; member_ = (run rules events).nodes name })).member_
