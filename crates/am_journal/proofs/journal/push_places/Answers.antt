use Rattle.std.proofs.Common.{◌∙◌, append_assoc, refl, arith}
use Rattle.am_journal.proofs.Places.{places_of_next_letter}
use Rattle.am_journal.proofs.journal.push_places.Goals as goal

pub loop-index-preserved : goal.loop-index-preserved
loop-index-preserved c = record {
  items = c.push_reserved.ensures.items ∙ rw (c.loop-index.invariant.items, append_assoc, places_of_next_letter c.args.number c.loop-index.index) refl;
  stored = omega arith;
  room = omega arith;
}
