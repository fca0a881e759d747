-- A run of which no records are kept.
use Rattle.std.specs.Prelude.{◌≡◌, ℕ, ◌+◌, ◌*◌, ◌<◌, ◌≤◌, List, length, replicate, cond, Bool, false}
use Rattle.am_base.specs.Most.{most_events_of_run}
use Rattle.am_base.specs.Names.{place_of_name}
use Rattle.am_base.specs.Outcomes.{is_outcome_took, is_outcome_sent, is_outcome_without_room}
use Rattle.am_base.specs.declared.event.NodeEvent.{NodeEvent}
use Rattle.am_base.specs.declared.outcome.Outcome.{Outcome}
use Rattle.am_packet.specs.Boxes.{Letter}
use Rattle.am_group.specs.declared.event.Act.{Act}
use Rattle.am_group.specs.declared.event.Act.TheVariants as act
use Rattle.am_group.specs.declared.event.Event.{Event}
use Rattle.am_group_defs.specs.World.{current, happens}
use Rattle.am_group_defs.specs.Play.{count_outcomes}
use Rattle.am_generator.specs.declared.course.Course.{Course}
use Rattle.am_generator.specs.declared.course.Counts.{Counts}
use Rattle.am_generator.specs.declared.places.Places.{Places}
use Rattle.am_lawful_watch.specs.declared.watcher.Watcher.{Watcher}
use Rattle.am_journal.specs.declared.asked.Asked.TheVariants as asked
use Rattle.am_world.specs.Asked.{comes}
use Rattle.am_world.specs.Runs.{Play, replay, play_of, IsRun}
use Rattle.am_lawful_watch.specs.Watchers.{watching_of}
use Rattle.am_world.specs.Watched.{IsWatched}

-- each place is in its first life, and no name has stopped
abbrev pub first_lives : List ℕ
first_lives = replicate 16 1

abbrev pub no_flags : List Bool
no_flags = replicate 256 false

-- the nodes, the letters, the group list and what is watched are those of the run, in which nobody has stopped
pub record CourseStands (p : Play) (places : Places) (watcher : Watcher) : Type 0 where
  pub own : play_of p.rules (replay p).records ≡ p
  pub runs : IsRun p places.nodes.items first_lives no_flags (replay p).records places.group.items
  pub sent : places.letters.items ≡ (replay p).letters
  pub few : length places.letters.items ≤ 9 * length p.events
  pub watched : IsWatched p (watching_of watcher)

-- the counts are those of the run
pub record Counted (p : Play) (counts : Counts) : Type 0 where
  pub events : counts.events ≡ length p.events
  pub took : counts.took ≡ count_outcomes (replay p) is_outcome_took
  pub sent : counts.sent ≡ count_outcomes (replay p) is_outcome_sent
  pub held : counts.held ≡ count_outcomes (replay p) is_outcome_without_room

-- which run a course is of
pub record IsCourse (p : Play) (c : Course) : Type 0 where
  pub stands : CourseStands p c.places c.watcher
  pub counted : Counted p c.counts

abbrev pub course_entries : Course → ℕ
course_entries c = length c.places.group.items

abbrev pub events_done : Course → ℕ
events_done c = c.counts.events

abbrev pub letters_sent : Course → List Letter
letters_sent c = c.places.letters.items

-- the acts of a run in which nobody stops, joins or leaves
abbrev pub IsCalmAct : Act → Type 0
IsCalmAct (act.Send body) = Unit {0}
IsCalmAct (act.Done req) = Unit {0}
IsCalmAct act.Take = Unit {0}
IsCalmAct act.Tick = Unit {0}
IsCalmAct (act.Hear number) = Unit {0}
IsCalmAct _ = ⊥

-- an event more, of this outcome
abbrev pub bit : Bool → ℕ
bit b = cond b 1 0

abbrev pub counts_after : Counts → Outcome → Counts
counts_after k outcome = record {
  events = k.events + 1;
  took = k.took + bit (is_outcome_took outcome);
  sent = k.sent + bit (is_outcome_sent outcome);
  held = k.held + bit (is_outcome_without_room outcome);
}

-- each count is below a number
pub record CountsAreBelow (most : ℕ) (k : Counts) : Type 0 where
  pub events : k.events < most
  pub took : k.took < most
  pub sent : k.sent < most
  pub held : k.held < most

-- a name's node is to do a step, which is what an event of a run asks of it
pub record Acts (p : Play) (e : Event) (c : Course) (name : ℕ) (what : NodeEvent) : Type 0 where
  pub course : IsCourse p c
  pub few : length p.events < most_events_of_run
  pub named : name ≡ current (replay p) (place_of_name e.node)
  pub comes_ : happens (replay p) e ≡ comes (replay p) e (asked.Step what)
