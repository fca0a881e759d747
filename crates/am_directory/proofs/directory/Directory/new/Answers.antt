use Rattle.std.proofs.Common.{ℕ, List, Vec, Global}
use Rattle.std.proofs.Common.{sym, subst}
use Rattle.am_service_defs.specs.declared.setting.Setting.{Setting}
use Rattle.am_service_defs.specs.Contents.{IsDirectory}
use Rattle.am_directory.specs.Kept.{contents_in}
use Rattle.am_service_defs.proofs.Keeping.{empty_contents_are_directory}
use Rattle.am_directory.proofs.directory.Directory.new.Goals as goal

pub invariant_of-result : goal.invariant_of-result
invariant_of-result c = subst (λ (es : List (Vec ℕ Global × Setting)). IsDirectory (contents_in es)) (sym c.new.ensures.empty) empty_contents_are_directory
