use Rattle.std.proofs.Common.{ap}
use Rattle.am_generator.specs.declared.course.Counts.{Counts}
use Rattle.am_sim.proofs.Texts.{summary_text_of_course}
use Rattle.am_sim.proofs.generating.summary_of.Goals as goal

pub returns : goal.returns
returns c = λ p is.
    let counts = c.counts-counts.ensures in
    summary_text_of_course p c.args.course.now _ is (ap (λ (k : Counts). k.events) counts) c.packets.ensures c.entries.ensures (ap (λ (k : Counts). k.took) counts)
    (ap (λ (k : Counts). k.sent) counts) (ap (λ (k : Counts). k.held) counts) (c.broken_at.ensures p is)
