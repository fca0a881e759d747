use Rattle.std.proofs.Common.{◌≡◌, ◌++◌, take, string_bytes}
use Rattle.am_script_defs.specs.Schedules.{others_json}
use Rattle.am_text_output.proofs.script.push_others.Given as goal

abbrev pub invariant-loop-event : goal.invariant-loop-event
invariant-loop-event l = string_bytes l.out ≡ string_bytes l.fn.out ++ others_json l.founding (take l.event-index l.events)
