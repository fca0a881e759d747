use Rattle.std.proofs.Common.{sym}
use Rattle.am_directory.specs.Reading.{cut_read}
use Rattle.am_service_defs.proofs.Limits.{field_read_is_value}
use Rattle.am_directory.proofs.restoring.setting_behind.Goals as goal

pub unwrap-requires : goal.unwrap-requires
unwrap-requires c = c.of.ensures.variant.1 (field_read_is_value c.in_ok-number.number.rest.now (cut_read c.in_ok-value.value) (sym c.in_ok-value.ensures))
