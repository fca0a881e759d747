use Rattle.am_generator.proofs.Words.{◌∙◌, ap, arith, slice_index, replay}
use Rattle.am_group_defs.proofs.Runs.{one_record_each}
use Rattle.am_generator.proofs.Drives.{sends_by_place_le_records}
use Rattle.am_generator.proofs.generator.Generator.sent_by.Goals as goal

pub returns-clause-value : goal.returns-clause-value
returns-clause-value c = λ d h. ap (slice_index c.args.self.now.sent) c.from.ensures ∙ h.counted.each c.args.place c.requires.place

pub returns-clause-few : goal.returns-clause-few
returns-clause-few c =
    let d = c.requires.driven.0 in
    let h = c.requires.driven.1 in
    let value = ap (slice_index c.args.self.now.sent) c.from.ensures ∙ h.counted.each c.args.place c.requires.place in
    let low = sends_by_place_le_records (replay d.play) c.args.place in
    let each = one_record_each d.play.rules d.play.events in
    let few = h.course.stands.runs.few in
    omega arith
