-- What a node's speaking came to, as a status.
use Rattle.std.proofs.Common.{◌≡◌, ℕ, refl}
use Rattle.am_node_lines.specs.declared.ending.SpokenEnd.{SpokenEnd}
use Rattle.am_node_lines.specs.declared.ending.SpokenEnd.TheVariants as ends
use Rattle.am_node_lines.specs.Speaking as speaking
use Rattle.am_player.specs.Statuses.{source_reads_after, sink_writes_after}
use Rattle.am_sim.specs.Speaking.{status_of}

-- ---- faults

pub reads_after_spoken_end : (end : SpokenEnd) (n : ℕ) → speaking.reads_after end n ≡ source_reads_after (status_of end) n
reads_after_spoken_end ends.Done n = refl
reads_after_spoken_end ends.ReadFault n = refl
reads_after_spoken_end ends.WriteFault n = refl
reads_after_spoken_end ends.NoMemory n = refl

pub writes_after_spoken_end : (end : SpokenEnd) (n : ℕ) → speaking.writes_after end n ≡ sink_writes_after (status_of end) n
writes_after_spoken_end ends.Done n = refl
writes_after_spoken_end ends.ReadFault n = refl
writes_after_spoken_end ends.WriteFault n = refl
writes_after_spoken_end ends.NoMemory n = refl
