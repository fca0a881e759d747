use Rattle.am_packet_writer.proofs.Pieces.{length_of_rows_bytes}
use Rattle.am_packet_writer.proofs.writer.rows_len.Goals as goal

pub returns-clause-value : goal.returns-clause-value
returns-clause-value c = length_of_rows_bytes c.args.rows.now 16 c.told-rows
