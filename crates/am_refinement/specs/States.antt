-- What states keep besides what they share with the group.
use Rattle.std.specs.Prelude.{◌≡◌, ◌≢◌, ◌⊎◌, ℕ, ◌<◌, ◌≤◌, List, [], ◌∷◌, ◌++◌, length, take, Option, Some, None, true, false}
use Rattle.am_base.specs.declared.entry.GroupView.{GroupView}
use Rattle.am_base.specs.declared.image.Report.{Report}
use Rattle.am_base.specs.declared.image.Vote.{Vote}
use Rattle.am_base.specs.declared.entry.Entry.{Entry}
use Rattle.am_base.specs.declared.entry.Entry.TheVariants.{View}
use Rattle.am_base.specs.declared.outcome.Outcome.TheVariants as said
use Rattle.am_base.specs.declared.image.Image.{Image}
use Rattle.am_base.specs.Names.{life_of_name, has}
use Rattle.am_base.specs.Lists.{row_at_place}
use Rattle.am_base.specs.Whole.{IsBeginningOf, image_of_list, is_member_at_end, stamp_of_list, key_of_stamp}
use Rattle.am_abstract_group.specs.Group as groups
use Rattle.am_abstract_group.specs.Group.{Group, list_with_chosen_view, chain_of}
use Rattle.am_model.specs.Node as nodes
use Rattle.am_model.specs.Node.{Node, Ballot, is_member}
use Rattle.am_model.specs.Calls.{is_unfinished_ballot}
use Rattle.am_abstract_group.specs.Runs.{Run}
use Rattle.am_model.specs.Receiving.{body_of_spread_send}
use Rattle.am_group_defs.specs.World.{World}
use Rattle.am_refinement.specs.Letters.{VoteTells, AllShown, IsDecided, WasAsked, line}

-- besides what LinesOpen has of the list of who is up: its view isn't above its promise, and it opens with what its view chose
pub record ListStands (s : Group) (i : ℕ) : Type 0 where
  pub promised : key_of_stamp (stamp_of_list (s.node i).list) ≤ key_of_stamp (s.node i).promise
  pub opens : (s.node i).list ≢ [] → IsBeginningOf (list_with_chosen_view (s.views.chosen (key_of_stamp (stamp_of_list (s.node i).list)))) (s.node i).list

-- an unfinished ballot's kept votes tell what was shown
abbrev pub VotesStand : Group → Option Ballot → Type 0
VotesStand s None = Unit {0}
VotesStand s (Some b) = b.is_over ≡ false → (name : ℕ) (vote : Vote) → b.votes name ≡ Some vote → VoteTells s name b.stamp vote

-- where a node's last ballot was decided and its promise is its own, it is that of the ballot
abbrev pub OwnDecided : Node → Type 0
OwnDecided m = (b : Ballot) (number : ℕ) (names : List ℕ) → m.ballot ≡ Some b → b.answer ≡ said.Decided number names
    → m.core.promise.by ≡ m.core.who → m.core.promise ≡ b.stamp

-- a name is a member after some number from the list's last View on
pub record IsConcerned (list : List Entry) (name : ℕ) : Type 0 where
  pub upto : List Entry
  pub begins : IsBeginningOf upto list
  pub from : (image_of_list list).view_number ≤ length upto
  pub member : is_member_at_end upto name ≡ true

-- A report goes no further than the list. Above the base it is true of a name that is concerned: of a name that was given up, or that
-- joins again, it need not be.
pub record Reporting (node : ℕ → groups.ChainNode) (list : List Entry) (base : ℕ) (reports : ℕ → Report) : Type 0 where
  pub within : (name : ℕ) → (reports name).stored ≤ length list
  pub taken : (name : ℕ) → (reports name).taken ≤ (reports name).stored
  pub true_ : (name : ℕ) → name < 256 → IsConcerned list name → base < (reports name).stored
      → IsBeginningOf (take (reports name).stored list) (node name).list

abbrev pub ReportsStand : Group → ℕ → Node → Type 0
ReportsStand s i m = Reporting s.node (s.node i).list m.core.base m.reports

-- no Join of this name could have come: nobody joined at its place, or a life before it
abbrev pub JoinIsNew : Image → ℕ → Type 0
JoinIsNew image name = ((row_at_place image name).joined ≡ 0) ⊎ ((row_at_place image name).life < life_of_name name)

-- what such a name reported, if it did, is no more than the base
abbrev pub ReportsFresh : Node → Type 0
ReportsFresh m = (name : ℕ) → JoinIsNew (nodes.image_of_node m) name → (m.reports name).stored ≤ m.core.base

-- an unfinished ballot that fetches has been shown all that it needs
abbrev pub FetchesStand : Group → Option Ballot → Type 0
FetchesStand s None = Unit {0}
FetchesStand s (Some b) = b.is_over ≡ false → (from want : ℕ) → b.answer ≡ said.Fetching from want → AllShown s b.stamp from

-- and is of a member that isn't leaving
abbrev pub OpensStand : Node → Type 0
OpensStand m = is_unfinished_ballot m.ballot ≡ true → (is_member m.status ≡ true) × (m.leaving ≡ false)

-- at a decision each other name of the View, whether it stopped or not, had shown a beginning of what was chosen
pub record ChosenShown (s : Group) (x : ℕ) : Type 0 where
  pub each : (name : ℕ) → has (s.views.chosen x).members name ≡ true → name ≢ (s.views.chosen x).stamp.by
      → (list : List Entry) × (s.shown x name ≡ Some list) × IsBeginningOf list (s.views.chosen x).before

-- what begins the line of a view begins the line of its own last View's, which was decided
pub record LineOpens (s : Group) (list : List Entry) : Type 0 where
  pub decided : IsDecided s (stamp_of_list list)
  pub line_ : IsBeginningOf list (line s (stamp_of_list list))

abbrev pub LinesOpen : Group → Type 0
LinesOpen s = (x : ℕ) (list : List Entry) → s.views.decided x ≡ true → list ≢ [] → IsBeginningOf list (s.views.line x) → LineOpens s list

-- in every lawful run of the group
abbrev pub RunsOpen : Type 0
RunsOpen = (founders : List ℕ) (first resilience : ℕ) (s : Group) → Run founders first resilience s → LinesOpen s

-- each body that a node keeps, or waits with, was sent as this request
abbrev pub BodiesAsked : World → Node → Type 0
BodiesAsked w m = (from req : ℕ) (body : List ℕ) → body_of_spread_send m from req ≡ Some body → WasAsked w from req body

-- and a request stands for one body
abbrev pub SendsOnce : World → Type 0
SendsOnce w = (name req : ℕ) (a b : List ℕ) → WasAsked w name req a → WasAsked w name req b → a ≡ b

-- ---- rounds

-- a stamp that isn't none: it has a round
abbrev pub HasRound : ℕ → Type 0
HasRound x = 256 ≤ x

-- each decided view's stamp has one, and each promise of a name with a log
pub record RoundsAreSet (s : Group) : Type 0 where
  pub decided : (x : ℕ) → s.views.decided x ≡ true → HasRound x
  pub promised : (i : ℕ) → (s.node i).has_log ≡ true → HasRound (key_of_stamp (s.node i).promise)

-- in every lawful run of the group
abbrev pub RunsHaveRounds : Type 0
RunsHaveRounds = (founders : List ℕ) (first resilience : ℕ) (s : Group) → Run founders first resilience s → RoundsAreSet s

-- ---- who is left out

-- whom a View on the chain left out has stopped
abbrev pub LeftOutHaveStopped : Group → Type 0
LeftOutHaveStopped s = (a : List Entry) (v : GroupView) (name : ℕ) → IsBeginningOf (a ++ View v ∷ []) (chain_of s.views)
    → is_member_at_end a name ≡ true → has v.members name ≡ false → (s.node name).stopped ≡ true

-- in every lawful run of the group
abbrev pub RunsLeaveOut : Type 0
RunsLeaveOut = (founders : List ℕ) (first resilience : ℕ) (s : Group) → Run founders first resilience s → LeftOutHaveStopped s
