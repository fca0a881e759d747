use Rattle.std.proofs.Common.{Some, None, sym}
use Rattle.std.proofs.Common.{◌∙◌}
use Rattle.am_directory.specs.Reading.{head_read}
use Rattle.am_service_defs.proofs.Limits.{head_read_count_le_most, snapshot_in_without_head, snapshot_in_by_head}
use Rattle.am_directory.proofs.directory.Directory.restore.Goals as goal

pub returns-in_default : goal.returns-in_default
returns-in_default c = snapshot_in_without_head c.args.bytes.now (sym c.in_default.ensures)

pub restore_keys-requires : goal.restore_keys-requires
restore_keys-requires c = head_read_count_le_most c.args.bytes.now (head_read c.in-Some.head) (sym c.in-Some.ensures)

pub returns-in-Some-2 : goal.returns-in-Some-2
returns-in-Some-2 c = snapshot_in_by_head c.args.bytes.now (head_read c.in-Some.head) (Some c.in-Some-2.directory) (sym c.in-Some.ensures) (sym c.in-Some-2.is
    ∙ c.in_ok-directory.ensures)

pub returns-in-None : goal.returns-in-None
returns-in-None c = snapshot_in_by_head c.args.bytes.now (head_read c.in-Some.head) None (sym c.in-Some.ensures) (sym c.in-None.is ∙ c.in_ok-directory.ensures)
