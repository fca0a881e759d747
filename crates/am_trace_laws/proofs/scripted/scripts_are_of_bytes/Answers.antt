use Rattle.am_trace_laws.proofs.Bodies.{script_plays_are_of_bytes, race_plays_are_of_bytes}
use Rattle.am_trace_laws.proofs.scripted.scripts_are_of_bytes.Goals as goal

pub returns : goal.returns
returns c = record { plays = script_plays_are_of_bytes; races = race_plays_are_of_bytes }
