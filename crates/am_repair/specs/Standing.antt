-- What the way to the claim takes from the argument why a group has one list, where a schedule begins.
use Rattle.std.specs.Prelude.{◌≡◌, ℕ, List, length, take, ◌-◌, ◌<◌, ◌≤◌, Some, true, false, All}
use Rattle.am_base.specs.declared.entry.Entry.{Entry}
use Rattle.am_base.specs.Founding.{Rules, MayFound}
use Rattle.am_base.specs.Names.{has, names_of}
use Rattle.am_base.specs.Lists.{log_image_at, log_entry_at, fits}
use Rattle.am_base.specs.Fronts.{counting_names_at}
use Rattle.am_group.specs.declared.event.Event.{Event}
use Rattle.am_model.specs.Node.{Node, top, image_of_node, members, is_member}
use Rattle.am_group_defs.specs.Settle.{settle_events}
use Rattle.am_group_defs.specs.World.{World, current, is_stopped, world_after_events, run}
use Rattle.am_base.specs.Whole as whole
use Rattle.am_group_defs.specs.Lawful as lists
use Rattle.am_group_defs.specs.Lawful.{lawful_front}
use Rattle.am_step_laws.specs.Letters.{MayTellResult}
use Rattle.am_repair.specs.Claim.{MayRepair, HasCaughtUp}
use Rattle.am_repair.specs.Calm.{AgreesFrom, is_past}

-- a member's list has the sequencer's last View, and agrees with it from there
abbrev pub Agrees : Node → Node → Type 0
Agrees q m = AgreesFrom (image_of_node q).view_number q m

-- its membership has ended in the sequencer's list, and it tells no View of its own
pub record HasLeft (q m : Node) : Type 0 where
  pub past : is_past (image_of_node q) m.core.who ≡ true
  pub tells : MayTellResult m → m.core.promise.by ≡ m.core.who → ⊥

-- of the sequencer of a group that may be repaired
pub record Agree (w : World) (q : Node) : Type 0 where
  pub each : (name : ℕ) → has (members q) name ≡ true → Agrees q (w.nodes name)
  -- no other Member runs, but for those who leave and have left its list, who tell no View of their own
  pub alone : (name : ℕ) → is_member (w.nodes name).status ≡ true → is_stopped w name ≡ false → (w.nodes name).leaving ≡ false
      → has (members q) name ≡ true
  pub left : (name : ℕ) → is_member (w.nodes name).status ≡ true → is_stopped w name ≡ false → (w.nodes name).leaving ≡ true → HasLeft q (w.nodes name)
  -- its entries fit
  pub fit : (number : ℕ) (e : Entry) → log_entry_at q.core.log number ≡ Some e → fits (log_image_at q.core.log (number - 1)) e ≡ true
  -- from the last View on, whose storage counts for what isn't accepted yet is a member still
  pub counted : (number : ℕ) → q.core.acc < number → number ≤ top q → (image_of_node q).view_number ≤ number
      → All (λ name. has (members q) name ≡ true) (names_of (counting_names_at q.core.log number))

-- where lists agree so, a lossless schedule brings each member to where the sequencer stood
abbrev pub RepairsWhereListsAgree : Type 0
RepairsWhereListsAgree = (rules : Rules) (events : List Event) (place : ℕ) → MayFound rules → place < 16 → MayRepair (run rules events) place
    → Agree (run rules events) ((run rules events).nodes (current (run rules events) place))
    → (name : ℕ) → has (members ((run rules events).nodes (current (run rules events) place))) name ≡ true
    → HasCaughtUp ((world_after_events (run rules events) (settle_events rules (run rules events))).nodes name)
    (top ((run rules events).nodes (current (run rules events) place)))

-- ---- what of this one list gives

-- a node's whole list begins the sequencer's; and where it begins itself, the group had accepted so much, and its image tells just that
pub record IsBeginning (w : World) (q m : Node) : Type 0 where
  pub within : m.core.log.start ≤ length w.group
  pub image : m.core.log.image ≡ whole.image_of_list (take m.core.log.start w.group)
  pub begins : whole.IsBeginningOf (lists.whole w m) (lists.whole w q)

-- The sequencer's whole list fits, and the one of each Member that runs begins it. Each of them is a member by it, or was one and leaves. And
-- nobody else of them tells a View of its own.
pub record IsOneList (w : World) (q : Node) : Type 0 where
  pub good : whole.IsGoodList (lists.whole w q)
  pub each : (name : ℕ) → is_member (w.nodes name).status ≡ true → is_stopped w name ≡ false → IsBeginning w q (w.nodes name)
  pub listed : (name : ℕ) → is_member (w.nodes name).status ≡ true → is_stopped w name ≡ false → (w.nodes name).leaving ≡ false
      → whole.is_member_at_end (lists.whole w q) name ≡ true
  pub past : (name : ℕ) → is_member (w.nodes name).status ≡ true → is_stopped w name ≡ false → whole.is_member_at_end (lists.whole w q) name ≡ false
      → is_past (whole.image_of_list (lists.whole w q)) name ≡ true
  pub tells : (name : ℕ) → is_member (w.nodes name).status ≡ true → is_stopped w name ≡ false → MayTellResult (w.nodes name)
      → (w.nodes name).core.promise.by ≡ (w.nodes name).core.who → name ≡ q.core.who

-- what is left: the sequencer trims no more than each member has taken, and who has left is accepted to have left
pub record IsSettled (w : World) (q : Node) : Type 0 where
  pub trims : (name : ℕ) → has (members q) name ≡ true → q.core.base ≤ (w.nodes name).core.taken
  pub counted : (number : ℕ) → q.core.acc < number → number ≤ top q → (image_of_node q).view_number ≤ number
      → All (λ name. has (members q) name ≡ true) (names_of (counting_names_at q.core.log number))

abbrev pub OneListAgrees : Type 0
OneListAgrees = (rules : Rules) (events : List Event) (place : ℕ) → MayFound rules → place < 16 → MayRepair (run rules events) place
    → IsOneList (run rules events) ((run rules events).nodes (current (run rules events) place))
    → IsSettled (run rules events) ((run rules events).nodes (current (run rules events) place))
    → Agree (run rules events) ((run rules events).nodes (current (run rules events) place))

-- both of these are so at the end of each lawful run that may be repaired (am_safety)
abbrev pub RepairableIsOneList : Type 0
RepairableIsOneList = (rules : Rules) (events : List Event) (place : ℕ) → MayFound rules → place < 16 → lawful_front rules events ≡ events
    → MayRepair (run rules events) place
    → IsOneList (run rules events) ((run rules events).nodes (current (run rules events) place))
