use Rattle.std.proofs.Common.{length}
use Rattle.am_text_reader.proofs.name.+names_onto.Given as goal

abbrev pub decreases-names_onto : goal.decreases-names_onto
decreases-names_onto l = length l.text.now
