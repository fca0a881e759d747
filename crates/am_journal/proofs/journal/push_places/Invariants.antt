use Rattle.std.proofs.Common.{◌≡◌, ◌+◌, ◌++◌, vec_len, vec_capacity}
use Rattle.am_journal.specs.Places.{letter_places}
use Rattle.am_journal.proofs.journal.push_places.Given as goal

abbrev pub invariant-loop-index : goal.invariant-loop-index
invariant-loop-index l = record {
  items : l.places.items ≡ l.fn.places.items ++ letter_places l.number l.index;
  stored : vec_len l.places ≡ vec_len l.fn.places + l.index;
  room : vec_capacity l.places ≡ vec_capacity l.fn.places;
}
