-- A call on its way: what it adds to what its caller has seen.
use Rattle.std.specs.Prelude.{◌≡◌, ℕ, ◌+◌, ◌≤◌, List, [], ◌∷◌, ◌++◌, length, max, Option, Some, None, is_some, Bool, true, false, ◌==◌, nat_lt}
use Rattle.std.specs.Prelude.{if◌then◌else◌}
use Rattle.std.specs.List.{list_all}
use Rattle.atomic_table.specs.Seated.{TableId}
use Rattle.am_base.specs.Most.{most_events_of_run}
use Rattle.am_base.specs.declared.outcome.Outcome.{Outcome}
use Rattle.am_base.specs.declared.outcome.Outcome.TheVariants as said
use Rattle.am_base.specs.Names.{place_of_name}
use Rattle.am_group.specs.declared.event.Act.{Act}
use Rattle.am_group.specs.declared.event.Act.TheVariants as act
use Rattle.am_group.specs.declared.event.By.{By}
use Rattle.am_group.specs.declared.event.Part.{Part}
use Rattle.am_group.specs.declared.event.Part.TheVariants.{Call, Check}
use Rattle.am_group.specs.declared.event.Record.{Record}
use Rattle.am_group.specs.declared.plan.RacePlan.{RacePlan}
use Rattle.am_base.specs.declared.event.NodeEvent.{NodeEvent}
use Rattle.am_group_defs.specs.Claims.{packet_heard_by_act}
use Rattle.am_model.specs.Node.{Node}
use Rattle.am_model.specs.Step.{step}
use Rattle.am_shared_journal_defs.specs.Choices.{Luck, after_draw}
use Rattle.am_shared_journal_defs.specs.declared.terms.SharerKey.TheVariants.{Caller}
use Rattle.am_shared_journal_defs.specs.Passes.{Known}
use Rattle.am_shared_journal_defs.specs.Sights.{StartsWith, GoesOn}
use Rattle.am_shared_journal_defs.specs.Stops.{has_stopped}
use Rattle.am_race_laws.specs.declared.answer.CallAnswer.{CallAnswer}
use Rattle.am_race_laws.specs.declared.answer.CallAnswer.TheVariants as answer
use Rattle.am_race_laws.specs.declared.call.Tag.{Tag}
use Rattle.am_race_laws.specs.declared.call.Looked.{Looked}
use Rattle.am_race_laws.specs.declared.call.Looked.TheVariants as looked
use Rattle.am_race_laws.specs.declared.call.Came.{Came}
use Rattle.am_race_laws.specs.Tags.{of_caller, is_own, is_turn_part}
use Rattle.am_race_laws.specs.Answers.{own_answer, end_answer, sent_request, request_of_act, is_take}
use Rattle.am_race_laws.specs.Callers.{is_one_call}
use Rattle.am_race_laws.specs.Callings.{IsAnswerOfCall, IsHand}
use Rattle.am_race_laws.specs.Plans.{has_check}
use Rattle.am_race_laws.specs.Boxes.{Boxed, IsRefused, IsRecord, what_of, node_by}
use Rattle.am_race_laws.specs.Ready.{round_in}

-- ---- a call's parts

-- the tag of a record of a call
abbrev pub by_of : Tag → Part → By
by_of tag part = record { caller = tag.caller; call = tag.call; part = part }

-- what a call does at its end, by what came of its own act
abbrev pub end_act : Act → Option Came → Act
end_act (act.Send body) (Some came) = act.Done (sent_request came.outcome)
end_act act.Join came = act.State
end_act act.Leave came = act.State
end_act (act.Reset least resilience) (Some came) = act.Ask came.round
end_act _ came = act.Take

abbrev pub end_part : Act → Part
end_part a = if is_take a then Call else Check

-- what the outcome of that answers
abbrev pub told_at_end : Act → Outcome → Option CallAnswer
told_at_end a outcome = if is_take a then own_answer a outcome else end_answer a outcome

-- the request of a call that goes on
abbrev pub request_in_call : Act → Option Came → Option ℕ
request_in_call a None = None
request_in_call a (Some came) = request_of_act a came.outcome

-- ---- own acts

-- this came of a call's own act, by its record
pub record IsOwn (a : Act) (came : Came) (r : Record) : Type 0 where
  pub part : is_own r.by.part ≡ true
  pub act_ : r.event.act ≡ a
  pub outcome : r.outcome ≡ came.outcome
  pub round : round_in r.packets ≡ came.round

-- what came of a call's own act is what its record says; a receive hasn't done it yet
abbrev pub IsCame : Act → Option Came → Option Record → Type 0
IsCame a None own = (is_take a ≡ true) × (own ≡ None)
IsCame a (Some came) own = (r : Record) × (own ≡ Some r) × IsOwn a came r

-- the records of a call before its turns: that of its own act, which has no answer; a receive has none
abbrev pub CallHasBegun : Act → Option Came → List Record → Type 0
CallHasBegun a None first = (is_take a ≡ true) × (first ≡ [])
CallHasBegun a (Some came) first = (has_check a ≡ true) × (own_answer a came.outcome ≡ None) × ((r : Record) × (first ≡ r ∷ []) × IsOwn a came r)

-- ---- words

-- one word was drawn where the turn heard or lost a letter, and none where it didn't
abbrev pub luck_behind : Luck → Act → ℕ → Luck
luck_behind luck a lost = if nat_lt 0 (max (packet_heard_by_act a) lost) then record luck { words = after_draw luck.words } else luck

-- ---- one look

-- a caller's hand at an open box that runs, of which it has seen as much as the box
pub record HandIsAtOpenBox (wire : TableId) (plan : RacePlan) (caller : ℕ) (box : Boxed) (share : Known) (luck : Luck) : Type 0 where
  pub hand : IsHand wire plan caller share luck
  pub open_ : box.closed ≡ None
  pub runs : has_stopped box.seen box.name ≡ false
  pub few : length box.seen ≤ most_events_of_run
  pub same : share.seen ≡ box.seen

-- a record stands after what a caller had seen and the others' records since, and the caller has seen it
pub record Grown (caller : ℕ) (old new : List Record) (item : Record) : Type 0 where
  pub before : List Record
  pub goes : GoesOn (Caller caller ∷ []) old before
  pub is : new ≡ before ++ item ∷ []

-- an act that hears nothing and gives nobody up
abbrev pub is_asked : Act → Bool
is_asked (act.Hear number) = false
is_asked (act.Cut number keep) = false
is_asked (act.GiveUp name) = false
is_asked act.Return = false
is_asked _ = true

-- the answer of a node that does what was asked, or stops
abbrev pub ToldBy : Option NodeEvent → Node → Outcome → Type 0
ToldBy None m outcome = outcome ≡ said.Stopped
ToldBy (Some what) m outcome = outcome ≡ (step m what).outcome

-- at this node the end of a call tells its answer
abbrev pub EndTells : Node → Act → Option Came → Type 0
EndTells m a came = (outcome : Outcome) → ToldBy (what_of (end_act a came) None) m outcome → is_some (told_at_end a outcome) ≡ true

-- an own act or an end was done at a name
pub record OwnActIsDone (plan : RacePlan) (name : ℕ) (a : Act) (by : By) (came : Came) (old new : List Record) : Type 0 where
  pub item : Record
  pub grown : Grown by.caller old new item
  pub is : IsRecord name a by came item
  pub told : ToldBy (what_of a None) (node_by plan old name) came.outcome

-- the own act of a call was done at a name
pub record Began (name : ℕ) (tag : Tag) (a : Act) (came : Came) (old new : List Record) : Type 0 where
  pub item : Record
  pub grown : Grown tag.caller old new item
  pub node : item.event.node ≡ name
  pub by_ : item.by ≡ by_of tag Call
  pub own : IsOwn a came item
  pub stops : a ≡ act.Stop → came.outcome ≡ said.Stopped

-- the record of a turn
pub record IsTurned (name : ℕ) (tag : Tag) (outcome : Outcome) (item : Record) : Type 0 where
  pub node : item.event.node ≡ name
  pub caller : item.by.caller ≡ tag.caller
  pub call : item.by.call ≡ tag.call
  pub part : is_turn_part item.by.part ≡ true
  pub came : item.outcome ≡ outcome

-- a turn was made
pub record TurnIsMade (name : ℕ) (tag : Tag) (outcome : Outcome) (old new : List Record) : Type 0 where
  pub item : Record
  pub grown : Grown tag.caller old new item
  pub is : IsTurned name tag outcome item

-- the record of an end
pub record IsRecordOfEnd (name : ℕ) (tag : Tag) (a : Act) (came : Option Came) (outcome : Outcome) (item : Record) : Type 0 where
  pub node : item.event.node ≡ name
  pub act_ : item.event.act ≡ end_act a came
  pub by_ : item.by ≡ by_of tag (end_part a)
  pub told : item.outcome ≡ outcome

-- the end was made
pub record EndIsMade (name : ℕ) (tag : Tag) (a : Act) (came : Option Came) (outcome : Outcome) (old new : List Record) : Type 0 where
  pub item : Record
  pub grown : Grown tag.caller old new item
  pub is : IsRecordOfEnd name tag a came outcome item

-- a look was a turn
abbrev pub HasSpent : ℕ → Tag → List Record → List Record → Looked → Type 0
HasSpent name tag old new (looked.Turn outcome) = TurnIsMade name tag outcome old new
HasSpent name tag old new (looked.End outcome) = ⊥

-- a look was the end, which tells an answer where the node did before
abbrev pub HasEnded : RacePlan → ℕ → Tag → Act → Option Came → List Record → List Record → Looked → Type 0
HasEnded plan name tag a came old new (looked.Turn outcome) = ⊥
HasEnded plan name tag a came old new (looked.End outcome) = (EndTells (node_by plan old name) a came → is_some (told_at_end a outcome) ≡ true)
    × EndIsMade name tag a came outcome old new

-- what a look did: a turn, where it had one; or the end, which has an answer where a turn was left
abbrev pub HasLooked : ℕ → Tag → Act → Option Came → Bool → List Record → List Record → Looked → Type 0
HasLooked name tag a came has_turn old new (looked.Turn outcome) = (has_turn ≡ true) × TurnIsMade name tag outcome old new
HasLooked name tag a came has_turn old new (looked.End outcome) = (has_turn ≡ true → is_some (told_at_end a outcome) ≡ true)
    × EndIsMade name tag a came outcome old new

-- a look was refused; others may have added records
abbrev pub WasRefused : ℕ → ℕ → List Record → List Record → CallAnswer → Type 0
WasRefused name caller old new its = GoesOn (Caller caller ∷ []) old new × IsRefused new name its

-- ---- a call

-- what a caller has seen grew by these records of one call at a place
pub record CallerHasSeenMore (place : ℕ) (tag : Tag) (old new mine : List Record) : Type 0 where
  pub begins : StartsWith new old
  pub all : of_caller tag.caller new ≡ of_caller tag.caller old ++ mine
  pub caller : list_all (λ r. r.by.caller == tag.caller) mine ≡ true
  pub call : list_all (λ r. r.by.call == tag.call) mine ≡ true
  pub place_ : list_all (λ r. place_of_name r.event.node == place) mine ≡ true

-- a call was made at a node, of which these records stood there before; it answers by its records
pub record Made (plan : RacePlan) (node : ℕ) (tag : Tag) (a : Act) (first old new : List Record) (its : CallAnswer) : Type 0 where
  pub mine : List Record
  pub grows : CallerHasSeenMore (place_of_name node) tag old new mine
  pub planned : is_one_call plan.turns a (first ++ mine) ≡ true
  pub most : length (first ++ mine) ≤ plan.turns + 2
  pub spent : its ≡ answer.Spent → length (first ++ mine) ≤ plan.turns + 1
  pub answer_ : IsAnswerOfCall plan.turns (first ++ mine) new node its
