use Rattle.std.proofs.Common.{string_bytes}
use Rattle.std.proofs.lemmas.Result.{on_ok_weaker}
use Rattle.am_script_defs.specs.Schedules.{founders_json}
use Rattle.am_text_output.proofs.Holding.{text_after_three_writes}
use Rattle.am_text_output.proofs.script.push_founders.Goals as goal

pub returns : goal.returns
unfolding founders_json
returns c = rw (← c.founders.ensures.value) (on_ok_weaker c.write.result
    (λ h. text_after_three_writes (string_bytes c.args.out.now) (string_bytes c.push_str.new.self) (string_bytes c.push_names.new.out)
    (string_bytes c.write.new.self) _ _ _ c.in_ok-push_str.ensures.bytes c.in_ok-push_names.ensures h) c.write.ensures.bytes)
