use Rattle.std.proofs.Common.{◌≡◌, ◌*◌, ◌++◌, drop, length, vec_capacity}
use Rattle.am_text_defs.specs.Fields.{bytes_in}
use Rattle.am_text_reader.proofs.body.body.Given as goal

abbrev pub invariant-loop-at : goal.invariant-loop-at
invariant-loop-at l = record {
  so_far : l.into.items ++ bytes_in (drop (2 * l.at) l.word) ≡ bytes_in l.word;
  many : length l.into.items ≡ l.at;
  room : vec_capacity l.into ≡ vec_capacity l.fn.into;
}
