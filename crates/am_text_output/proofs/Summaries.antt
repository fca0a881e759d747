-- The summary of a run that was watched tells its numbers.
use Rattle.std.proofs.Common.{◌≡◌, length, refl}
use Rattle.am_base.specs.Outcomes.{is_outcome_took, is_outcome_sent, is_outcome_without_room}
use Rattle.am_group_defs.specs.Lawful.{Watch}
use Rattle.am_group_defs.specs.Play.{count_outcomes, summary_of}
use Rattle.am_text_output.specs.Summaries.{summary_for}

pub summary_of_watched_run : (s : Watch) → summary_of s ≡ summary_for (record {
  events = length s.world.records;
  packets = length s.world.letters;
  entries = length s.world.group;
  took = count_outcomes s.world is_outcome_took;
  sent = count_outcomes s.world is_outcome_sent;
  held = count_outcomes s.world is_outcome_without_room;
  broken = s.broken;
})
unfolding summary_for
summary_of_watched_run s = refl
