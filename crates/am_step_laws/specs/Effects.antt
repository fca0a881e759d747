-- The effect of a step: its changes, what its answer tells, and its letters.
use Rattle.std.specs.Prelude.{◌≡◌, ◌⊎◌, ℕ, ◌+◌, ◌≤◌, ◌==◌, Some, slice_get, true, false, All}
use Rattle.am_base.specs.declared.entry.Entry.{Entry}
use Rattle.am_base.specs.declared.outcome.Outcome.{Outcome}
use Rattle.am_base.specs.declared.outcome.Outcome.TheVariants as said
use Rattle.am_base.specs.declared.event.NodeEvent.{NodeEvent}
use Rattle.am_base.specs.declared.event.NodeEvent.TheVariants as does
use Rattle.am_base.specs.Lists.{log_entry_at}
use Rattle.am_packet.specs.declared.packet.Packet.{Packet}
use Rattle.am_packet.specs.declared.packet.Packet.TheVariants as packet
use Rattle.am_node_defs.specs.declared.sender.OwnSend.{OwnSend}
use Rattle.am_model.specs.declared.status.Status.TheVariants.{Member, Departed}
use Rattle.am_model.specs.Node.{Node, Ballot, is_member, is_asking_status}
use Rattle.am_model.specs.Emit.{StepResult}
use Rattle.am_model.specs.Step.{step, hear_packet, hear_refused_bytes}
use Rattle.am_step_laws.specs.Causes.{Cause, calls, hears, refuses, cause_of}
use Rattle.am_step_laws.specs.Changes.{Changes}
use Rattle.am_step_laws.specs.Courses.{EndOfStep}
use Rattle.am_step_laws.specs.Letters.{LetterSays}

-- ---- what an answer tells

-- a send has the next request
pub record WasQueued (m n : Node) (req : ℕ) : Type 0 where
  pub next : req ≡ m.sends.last + 1
  pub more : n.sends.last ≡ m.sends.last + 1

-- the application was given the next entry, which is accepted
pub record HasTakenEntry (m : Node) (c : Cause) (n : Node) (number : ℕ) (e : Entry) : Type 0 where
  pub asked : c ≡ calls does.Take
  pub next : number ≡ m.core.taken + 1
  pub there : log_entry_at m.core.log number ≡ Some e
  pub gone_on : number ≤ n.core.taken
  pub some : (m.core.taken == m.core.acc) ≡ false

-- a send of the node's own was settled at this number
pub record WasSettled (m : Node) (c : Cause) (req number : ℕ) : Type 0 where
  pub asked : c ≡ calls (does.Done req)
  pub index : ℕ
  pub send : OwnSend
  pub there : slice_get m.sends.queue index ≡ Some send
  pub request : send.req ≡ req
  pub settled : send.number ≡ Some number

-- a joiner's list has begun
pub record ListHasBegun (m n : Node) (join : ℕ) : Type 0 where
  pub before : is_member m.status ≡ false
  pub asked : is_asking_status m.status ≡ true
  pub member : n.status ≡ Member
  pub start : n.core.start ≡ join

-- what is asked of a ballot is answered by what it was last answered with
pub record AnswersAsk (m : Node) (c : Cause) (o : Outcome) : Type 0 where
  pub round : ℕ
  pub asked : c ≡ calls (does.Ask round)
  pub ballot : Ballot
  pub last : m.ballot ≡ Some ballot
  pub same : o ≡ ballot.answer

-- a joiner is answered so by its Welcome, and by the sequencer that it asks
abbrev pub WasWelcomed : Node → Node → ℕ → Cause → Type 0
WasWelcomed m n join (hears (packet.Welcome s v base number image)) = ListHasBegun m n join
WasWelcomed m n join (hears (packet.JoinAsk s v)) = Unit {0}
WasWelcomed m n join (hears p) = ⊥
WasWelcomed m n join (calls event) = AnswersAsk m (calls event) (said.Welcomed join)
WasWelcomed m n join refuses = ⊥

abbrev pub OutcomeTells : Node → Cause → Node → Outcome → Type 0
OutcomeTells m c n (said.Queued req) = WasQueued m n req ⊎ AnswersAsk m c (said.Queued req)
OutcomeTells m c n (said.Took number e) = HasTakenEntry m c n number e ⊎ AnswersAsk m c (said.Took number e)
OutcomeTells m c n (said.Sent req number) = WasSettled m c req number ⊎ AnswersAsk m c (said.Sent req number)
OutcomeTells m c n (said.Welcomed join) = WasWelcomed m n join c
OutcomeTells m c n _ = Unit {0}

-- ---- an effect

-- What a node was, what made it do the step, and the step: its changes in turn, and in which order they come. Its letters tell of the node
-- as it is then, but for its status where it departs.
pub record Effect (m : Node) (c : Cause) (s : StepResult) : Type 0 where
  pub changes : Changes c s.outcome m s.node
  pub ending : EndOfStep c s.outcome m s.letters s.node
  pub answer : OutcomeTells m c s.node s.outcome
  pub sender : Node
  pub is : s.node ≡ record sender { status = s.node.status }
  pub stays : (s.node.status ≡ sender.status) ⊎ (s.node.status ≡ Departed)
  pub letters : All (LetterSays m c sender) s.letters

-- each row has its effect
abbrev pub StepsHaveEffects : Type 0
StepsHaveEffects = (m : Node) (event : NodeEvent) → Effect m (cause_of event) (step m event)

abbrev pub HearingHasEffects : Type 0
HearingHasEffects = (m : Node) (p : Packet) → Effect m (hears p) (hear_packet m p)

abbrev pub RefusingHasEffects : Type 0
RefusingHasEffects = (m : Node) (cause : ℕ) → Effect m refuses (hear_refused_bytes m cause)
