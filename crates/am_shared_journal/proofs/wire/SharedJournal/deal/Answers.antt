use Rattle.am_shared_journal.proofs.Words.{[], ◌∷◌, ◌++◌, ap, ◌∙◌, arith, ◌<◌, Known}
use Rattle.am_shared_journal.proofs.Dealt.{one_key_more_is_dealt}
use Rattle.am_shared_journal.proofs.wire.SharedJournal.deal.Goals as goal

pub loop-done-preserved : goal.loop-done-preserved
loop-done-preserved g c =
    let below : c.loop-done._done < c.args.count = c.loop-done-test.true in
    let count = c.requires.count in
    let pushed = c.in_ok-push.ensures.items in
    let same = c.part-other.ensures.same in
    let made = c.of.ensures ∙ (λ k. record {
      wire = same.1 k;
      terms = c.part-other.result.me.0.terms;
      keys = c.part-other.result.me.0.keys;
      seen =
          c.part-other.result.me.0.seen;
    }) in
    one_key_more_is_dealt _ _ _ _ _ _ _ _ _ _ _ (omega arith) c.loop-done.invariant same.0 c.part-other.ensures.parts (pushed
    ∙ ap (λ (p : Known). c.loop-done.passes.items ++ p ∷ []) made)
