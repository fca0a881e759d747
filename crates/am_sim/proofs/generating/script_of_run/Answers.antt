use Rattle.std.proofs.Common.{◌≡◌, ◌++◌, ◌∙◌, ap, string_bytes}
use Rattle.am_group_defs.specs.Text.{newline}
use Rattle.am_script_defs.specs.Schedules.{script_text}
use Rattle.am_generator.proofs.Drives.{events_of_seed_are_count}
use Rattle.am_generator.specs.Generating.{events_of_seed}
use Rattle.am_sim.proofs.Answered.{text_of_seed_is_generated}
use Rattle.am_sim.proofs.generating.script_of_run.Goals as goal

pub returns : goal.returns
returns c =
    let seed = c.args.numbers.seed in
    let count = c.args.numbers.count in
    let events : c.as_slice.result.now ≡ events_of_seed seed count = c.as_slice.ensures ∙ (rw c.in_ok-events.ensures at c.generate_events-made.ensures.events) in
    let text = c.in_ok-text.ensures.text ∙ (λ k. script_text (c.founding-founding.ensures k) (events k)) in
    text_of_seed_is_generated (λ rules events. script_text rules events ++ newline) c.args.numbers (string_bytes c.push_str.new.self) (c.in_ok-push_str.ensures.bytes ∙ ap (λ t. t ++ newline) text) (events_of_seed_are_count seed count)
