use Rattle.am_generator.proofs.Words.{slice_index, sym, ap, ◌∙◌, next_for, replay, progress_at}
use Rattle.am_group.proofs.Seen.{next_for_from_seen}
use Rattle.am_generator.proofs.generator.Generator.ahead.Goals as goal

pub returns : goal.returns
returns c = λ d h.
    let place = c.args.place in
    let seen = c.args.self.now.seen in
    let letters = (replay d.play).letters in
    c.next_for.ensures
    ∙ ap (λ ls. next_for ls c.of_byte.result (slice_index seen c.from.result)) h.course.stands.sent
    ∙ (λ k. next_for letters (c.of_byte.ensures k) (slice_index seen (c.from.ensures k)))
    ∙ sym (next_for_from_seen letters place (progress_at d place).cursor (slice_index seen place) (h.looked.each place c.requires.place))
