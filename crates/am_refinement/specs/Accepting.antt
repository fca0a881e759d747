-- What a sequencer accepts, from what its names reported.
use Rattle.std.specs.Prelude.{◌≡◌, ℕ, ◌<◌, ◌≤◌, max, nat_lt, List, [], length, true, false}
use Rattle.am_base.specs.declared.entry.Entry.{Entry}
use Rattle.am_base.specs.declared.entry.Entry.TheVariants.{Leave}
use Rattle.am_base.specs.Names.{IsSetOfNames, size}
use Rattle.am_base.specs.Fronts.{counting_names_at}
use Rattle.am_base.specs.declared.name.Stamp.{Stamp}
use Rattle.am_base.specs.Whole.{IsBeginningOf, IsGoodList, key_of_stamp}
use Rattle.am_abstract_group.specs.Group as groups
use Rattle.am_abstract_group.specs.Group.{Group, MayAccept}
use Rattle.am_abstract_group.specs.Kept.{GroupKeeps}
use Rattle.am_model.specs.Node.{Node, top, view, other_members, is_member, is_sequencer, push_entry}
use Rattle.am_model.specs.Refresh.{refresh}
use Rattle.am_group_defs.specs.World.{World, is_stopped, list_after_step}
use Rattle.am_refinement.specs.Standing.{NameStands, within}
use Rattle.am_refinement.specs.Letters.{SequencerSays}
use Rattle.am_refinement.specs.States.{Reporting, ReportsStand}
use Rattle.am_refinement.specs.Ends.{GroupAccepts, MayLearn, NeedsClose, after_closing}

-- who counts at each number above its list's start is a set of names
abbrev pub CountsNames : Node → Type 0
CountsNames x = (n : ℕ) → x.core.log.start < n → IsSetOfNames (counting_names_at x.core.log n)

-- a node that may count: its list is a good one, and its numbers stand in their order
pub record MayCount (x : Node) (list : List Entry) : Type 0 where
  pub good : IsGoodList list
  pub kept : x.core.log.start ≤ x.core.base
  pub base : x.core.base ≤ x.core.taken
  pub taken : x.core.taken ≤ x.core.acc
  pub within : x.core.acc ≤ top x
  pub sets : CountsNames x

-- among these names: what is reported to it is true, and its own list is this one
pub record CountsAmong (node : ℕ → groups.ChainNode) (x : Node) (list : List Entry) : Type 0 where
  pub reports : Reporting node list x.core.base x.reports
  pub own : (node x.core.who).list ≡ list
  pub blank : (h : ℕ) → (node h).has_log ≡ false → (node h).list ≡ []

-- a refresh of a sequencer accepts what enough names hold, and nothing else
abbrev pub RefreshAccepts : Type 0
RefreshAccepts = (v : World) (i : ℕ) (x : Node) (a : groups.ChainNode) (node : ℕ → groups.ChainNode) → NameStands v i x a → is_sequencer x ≡ true
    → MayCount x a.list → CountsAmong node x a.list → MayAccept node a.list x.core.acc (refresh x).core.acc

-- ---- the end of a step

-- nothing was heard of what is accepted, or a sequencer's word: of a stamp that isn't above the promise
pub data SequencersWord (s : Group) (name heard : ℕ) : Type 0 where
  nothing : heard ≡ 0 → SequencersWord s name heard
  of_sequencer : (from : ℕ) (v : Stamp) → key_of_stamp v ≤ key_of_stamp (s.node name).promise → SequencerSays s from v heard → SequencersWord s name heard

-- what a node knows of the group that it comes to, in any world
pub record ComesSo (s : Group) (name heard : ℕ) (x : Node) : Type 0 where
  pub who : x.core.who ≡ name
  pub member : is_member x.status ≡ true
  pub up_to : (s.node name).acc ≤ x.core.acc
  pub given : x.core.acc ≤ max (s.node name).told x.core.told
  pub within : x.core.acc ≤ top x
  pub leads : is_sequencer x ≡ true → MayCount x (s.node name).list × ReportsStand s name x
  pub follows : is_sequencer x ≡ false → x.core.told ≤ max (s.node name).told heard
  pub word : SequencersWord s name heard

-- what a step of a name has come to before its last refresh: it has accepted no more than the group, and no less than before. A sequencer's
-- reports are true; who follows is told of no more than before, or than a sequencer's word
pub record ComesToBeforeEnd (w : World) (s : Group) (name heard : ℕ) (x : Node) : Type 0 where
  pub so : ComesSo s name heard x
  pub open so use *
  pub stands : NameStands (within w name x) name x (s.node name)
  pub group : s.group ≡ w.group
  pub runs : is_stopped w name ≡ false
  pub acc : x.core.acc ≤ length w.group

-- then the group accepts what it does, and the name learns of it
pub record AcceptsAndLearns (w : World) (s : Group) (name : ℕ) (n : Node) : Type 0 where
  pub accepts : GroupAccepts w s name n
  pub grows : IsBeginningOf w.group (list_after_step w.group n)
  pub learns : MayLearn s name n (list_after_step w.group n)

abbrev pub RefreshLearns : Type 0
RefreshLearns = (w : World) (s : Group) (name heard : ℕ) (x : Node) → GroupKeeps s → ComesToBeforeEnd w s name heard x → AcceptsAndLearns w s name (refresh x)

-- ---- the last member goes

-- where all others have gone, and its own Leave ends the step, that needs nothing else
abbrev pub ClosingAccepts : Type 0
ClosingAccepts = (w : World) (s : Group) (name heard : ℕ) (x : Node) → GroupKeeps s → ComesToBeforeEnd w s name heard x → name < 256 → is_sequencer x ≡ true
    → nat_lt 0 (size (other_members x)) ≡ false → CountsNames (push_entry x (Leave x.core.who)) → view (w.nodes name) ≡ view x → NeedsClose w s name (after_closing x)
