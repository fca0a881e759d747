use Rattle.std.proofs.Common.{string_bytes}
use Rattle.std.proofs.lemmas.Result.{on_ok_weaker}
use Rattle.am_script_defs.specs.Schedules.{numbers_json}
use Rattle.am_text_output.proofs.Holding.{text_after_three_writes}
use Rattle.am_text_output.proofs.script.push_numbers.Goals as goal

pub returns : goal.returns
unfolding numbers_json
returns c = rw (
  ← c.pb_up_to-pb_up_to.ensures,
  ← c.resilience-resilience.ensures,
  ← c.window-window.ensures.value,
) (on_ok_weaker c.write-3.result
    (λ h. text_after_three_writes (string_bytes c.args.out.now) (string_bytes c.write.new.self) (string_bytes c.write-2.new.self)
    (string_bytes c.write-3.new.self) _ _ _ c.in_ok-write.ensures.bytes c.in_ok-write-2.ensures.bytes h) c.write-3.ensures.bytes)
