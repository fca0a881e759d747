-- Every script keeps to the limits.
use Rattle.std.proofs.Common.{Result, IfOk}
use Rattle.serde_json.specs.Data.{Data}
use Rattle.am_script_defs.specs.declared.key.ScriptKey.TheVariants as key
use Rattle.am_script_defs.specs.declared.script.Script.{Script}
use Rattle.am_script_defs.specs.declared.refusal.ScriptRefusal.{ScriptRefusal}
use Rattle.am_script_defs.specs.Refusals.{Answers}
use Rattle.am_script_defs.specs.Limits.{ScriptWithin}
use Rattle.am_script_defs.specs.Scripts.{play_from, document_from}
use Rattle.am_script_defs.proofs.Steps.{answer_behind_key_is_ok}
use Rattle.am_script_defs.proofs.Limits.{play_read_is_within}

pub answered_script_is_within : (d : Data) (r : Result Script ScriptRefusal) → Answers (document_from d) r → IfOk r ScriptWithin
unfolding document_from
answered_script_is_within d r is = answer_behind_key_is_ok ScriptWithin key.Play play_from play_read_is_within d r is
