use Rattle.std.proofs.Common.{◌∙◌, string_bytes}
use Rattle.am_group_defs.specs.Play.{summary_text_of}
use Rattle.am_generator.proofs.Drives.{events_of_seed_are_count}
use Rattle.am_generator.specs.Generating.{generated_rules, events_of_seed}
use Rattle.am_sim.proofs.Answered.{text_of_seed_is_generated}
use Rattle.am_sim.proofs.generating.summary_of_run.Goals as goal

pub returns : goal.returns
returns c =
    let seed = c.args.numbers.seed in
    let count = c.args.numbers.count in
    let is = rw c.in_ok-course.ensures at c.generate-made.ensures.course in
    let told = c.summary_of-summary.ensures (record { rules = generated_rules; events = events_of_seed seed count }) is in
    text_of_seed_is_generated summary_text_of c.args.numbers (string_bytes c.in_ok-text.text) (c.in_ok-text.ensures ∙ told) (events_of_seed_are_count seed count)
