use Rattle.am_generator.proofs.Words.{◌≡◌, length, slice_index, slice_index_or, slice_set, ap, ◌∙◌, subst, next_for, replay, no_progress, progress_at, AreSeen}
use Rattle.am_generator.proofs.Words.{choice_of, progress_after, seen_after}
use Rattle.am_shared_journal_defs.specs.Choices.{luck_after, act_of}
use Rattle.am_generator.proofs.Seen.{letters_seen_by_next_choice}
use Rattle.am_generator.specs.Generating.{act_at, after_turn, choice_at}
use Rattle.am_generator.proofs.generator.Generator.choose.Goals as goal

pub returns : goal.returns
unfolding act_at after_turn
returns c = λ d h.
    let g = c.args.self.now in
    let place = c.args.place in
    let at = c.from-at.ensures in
    let letters = (replay d.play).letters in
    let ahead : c.ahead-ahead.result ≡ next_for letters place (progress_at d place).cursor = c.ahead-ahead.ensures d h in
    let chooses : c.choose-choice.result ≡ choice_of d.luck c.ahead-ahead.result (slice_index_or d.progress c.from-at.result no_progress).last =
    c.choose-choice.ensures.choice ∙ (λ k. choice_of (h.luck k) c.ahead-ahead.result (slice_index_or (h.progress k) c.from-at.result no_progress).last) in
    let chosen : c.choose-choice.result ≡ choice_at d place =
    chooses ∙ (λ k. choice_of d.luck (ahead k) (slice_index_or d.progress (at k) no_progress).last) in
    let goes : c.after.result ≡ progress_after (slice_index_or d.progress c.from-at.result no_progress) c.choose-choice.result =
    c.after.ensures ∙ ap (λ ps. progress_after (slice_index_or ps c.from-at.result no_progress) c.choose-choice.result) h.progress in
    let many : c.packets-many.result ≡ length letters = c.packets-many.ensures ∙ ap length h.course.stands.sent in
    let sees : c.seen_after.result ≡ seen_after c.choose-choice.result (slice_index g.seen c.from-at.result) (length letters) =
    c.seen_after.ensures ∙ ap (seen_after c.choose-choice.result (slice_index g.seen c.from-at.result)) many in
    let looked = letters_seen_by_next_choice g.seen d.progress letters place c.from-at.result c.seen_after.result d.luck c.ahead-ahead.result c.choose-choice.result c.after.result
    h.looked c.requires.place at ahead chooses goes sees in
    let progress : slice_set d.progress c.from-at.result c.after.result ≡ slice_set d.progress place (progress_after (progress_at d place) (choice_at d place)) =
    (λ k. slice_set d.progress (at k) (goes k)) ∙ (λ k. slice_set d.progress place (progress_after (slice_index_or d.progress (at k) no_progress) (chosen k))) in
    record {
      does = c.act.ensures ∙ ap act_of chosen;
      driven = record {
        course = h.course;
        words = h.words;
        luck = c.choose-choice.ensures.drawn ∙ (λ k. luck_after (h.luck k) (ahead k));
        progress = ap (λ ps. slice_set ps c.from-at.result c.after.result) h.progress ∙ progress;
        counted = h.counted;
        looked = subst (λ ps. AreSeen (slice_set g.seen c.from-at.result c.seen_after.result) ps letters) progress looked;
      };
    }
