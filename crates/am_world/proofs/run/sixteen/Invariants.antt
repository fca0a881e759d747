use Rattle.am_world.proofs.Words.{◌≡◌, start, AreFirst}
use Rattle.std.specs.Prelude.{vec_len, vec_capacity}
use Rattle.am_world.proofs.run.sixteen.Given as goal

abbrev pub invariant-loop-place : goal.invariant-loop-place
invariant-loop-place l = record {
  first : AreFirst l.place l.nodes.items (start l.founding);
  count : vec_len l.nodes ≡ l.place;
  room : vec_capacity l.nodes ≡ 16;
}
