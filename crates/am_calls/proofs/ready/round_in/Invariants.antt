use Rattle.std.proofs.Common.{◌≡◌, drop}
use Rattle.am_race_laws.specs.Ready.{round_in}
use Rattle.am_calls.proofs.ready.round_in.Given as goal

abbrev pub invariant-loop-letter : goal.invariant-loop-letter
invariant-loop-letter l = round_in l.letters ≡ round_in (drop l.letter-index l.letters)
