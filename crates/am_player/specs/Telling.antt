-- The line that tells of a status on standard error, without its end.
use Rattle.std.specs.Prelude.{ℕ, List, [], ◌++◌, codes, decimal}
use Rattle.am_script_defs.specs.declared.refusal.ScriptRefusal.{ScriptRefusal}
use Rattle.am_script_defs.specs.Refusals.{refusal_number_of, refused_place}
use Rattle.am_player.specs.declared.status.ExitStatus.{ExitStatus}
use Rattle.am_player.specs.declared.status.ExitStatus.TheVariants.{Done, Usage, BadScript, TooLong, ReadFault, WriteFault, NoMemory, Spent, BadText, Disagrees}

abbrev pub bad_script_line : ScriptRefusal → List ℕ
bad_script_line cause = codes "bad script " ++ decimal (refusal_number_of cause) ++ codes " at " ++ decimal (refused_place cause)

abbrev pub bad_text_line : ℕ → List ℕ
bad_text_line line = codes "bad text at " ++ decimal line

abbrev pub status_line : ExitStatus → List ℕ
status_line Done = []
status_line Usage = codes "usage: play | race | gen --seed N --count 1..100000 [--script] | audit | parts | messages | directory | snapshots | node --name PLACE[/LIFE] --founders PLACE,.. [--resilience 0..15] [--window 1..1008] [--pb-up-to 0..1024]"
status_line (BadScript cause) = bad_script_line cause
status_line TooLong = codes "too long"
status_line ReadFault = codes "read fault"
status_line WriteFault = codes "write fault"
status_line NoMemory = codes "no memory"
status_line Spent = codes "spent"
status_line (BadText line) = bad_text_line line
status_line Disagrees = []
