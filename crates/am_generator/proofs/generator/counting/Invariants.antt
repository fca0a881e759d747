use Rattle.am_generator.proofs.Words.{◌≡◌, ℕ, ◌+◌, ◌%◌, ◌<◌, length, slice_index, most_drawn}
use Rattle.am_generator.proofs.generator.counting.Given as goal

abbrev pub invariant-loop-index : goal.invariant-loop-index
invariant-loop-index l =
    (length l.bytes ≡ most_drawn) × (l.next ≡ (l.number + l.index) % 256)
    × ((k : ℕ) → k < l.index → slice_index l.bytes k ≡ (l.number + k) % 256)
