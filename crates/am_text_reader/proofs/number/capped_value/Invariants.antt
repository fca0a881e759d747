use Rattle.std.proofs.Common.{◌≡◌, take}
use Rattle.am_text_defs.specs.Fields.{capped_value}
use Rattle.am_text_reader.proofs.number.capped_value.Given as goal

abbrev pub invariant-loop-digit : goal.invariant-loop-digit
invariant-loop-digit l = l.value ≡ capped_value l.most (take l.digit-index l.word)
