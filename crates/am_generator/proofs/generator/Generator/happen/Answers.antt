use Rattle.am_generator.proofs.Words.{◌≡◌, ◌+◌, ◌++◌, ◌∙◌, slice_set, sym, ap, subst, bool_byte, record_of, letters_of_records, letters_of_pushed_record, AreSent, AreSeen, sent_by, play_after, replay, is_outcome_sent, refl}
use Rattle.am_generator.proofs.{Seen.letters_seen_stay_seen, Sends.sends_counted_with_record}
use Rattle.am_generator.proofs.generator.Generator.happen.Goals as goal

pub returns-clause-ok : goal.returns-clause-ok
returns-clause-ok c = λ d h.
    let g = c.args.self.now in
    let e = c.args.event in
    let p = d.play in
    let done = c.in_ok-outcome.ensures.ok p h.course in
    let r = record_of (replay p) e c.in_ok-outcome.outcome done.1.0 in
    let place = c.get-place.ensures.value in
    let told : c.from.result ≡ bool_byte (is_outcome_sent r.outcome) = c.from.ensures ∙ ap bool_byte c.is_sent.ensures in
    let count : c.sent_by-sent.result ≡ sent_by (replay p) e.node = c.sent_by-sent.ensures.value d h ∙ ap (sent_by (replay p)) place in
    let grown = sends_counted_with_record g.sent (replay p) (replay (play_after p e)) r e.node c.from.result h.counted c.requires.place done.1.1 refl told in
    let letters : (replay (play_after p e)).letters ≡ (replay p).letters ++ r.packets =
    sym done.0.stands.runs.shows.sent ∙ ap letters_of_records done.1.1 ∙ letters_of_pushed_record (replay p).records r ∙ ap (λ ls. ls ++ r.packets) h.course.stands.runs.shows.sent in
    record {
      course = done.0;
      words = h.words;
      luck = h.luck;
      progress = h.progress;
      counted = subst (λ i. AreSent (slice_set g.sent i (c.sent_by-sent.result + c.from.result)) (replay (play_after p e))) (sym (c.from-2.ensures ∙ place))
          (subst (λ s. AreSent (slice_set g.sent e.node (s + c.from.result)) (replay (play_after p e))) (sym count) grown);
      looked = subst (AreSeen g.seen d.progress) (sym letters) (letters_seen_stay_seen g.seen d.progress (replay p).letters r.packets h.looked);
    }
