use Rattle.am_step_laws.proofs.Bounds.RunLimits.{letters_are_packets, sent_letters_are_read, runs_are_same_over_bytes}
use Rattle.am_step_laws.proofs.letters_are_packets.Goals as goal

pub returns : goal.returns
returns c = record { packets = letters_are_packets; read = sent_letters_are_read; bytes = runs_are_same_over_bytes }
