use Rattle.am_ordering.proofs.SequencingWords.{ap, ◌∙◌, arith, Parts, node_of, untrimmed_node_ends_itself, reply_with_telling, equal_reply_of_equal_plan, reply_quiet_with_outcome, reply_says_and_tells, refl}
use Rattle.am_base.specs.declared.outcome.Outcome.TheVariants as said
use Rattle.am_node_parts.specs.declared.reply.Telling.TheVariants as tell
use Rattle.std.proofs.Common.{ℕ, false}
use Rattle.am_ordering.proofs.SequencingRows.{serve_again_below_base, serve_again_from_base}
use Rattle.am_ordering.proofs.serving.serve_again.Goals as goal

pub returns-then-stored-base : goal.returns-then-stored-base
returns-then-stored-base c =
    let base = c.base.ensures.value ∙ ap (λ (p : Parts). p.core.base) c.parts.view_is in
    let m = node_of c.args.parts.now in
    equal_reply_of_equal_plan (serve_again_below_base m c.args.to c.args.stored (omega arith)) c.quiet.ensures (reply_quiet_with_outcome m m _ (untrimmed_node_ends_itself m))

pub count_above-count-requires : goal.count_above-count-requires
count_above-count-requires c =
    let base = c.base.ensures.value ∙ ap (λ (p : Parts). p.core.base) c.parts.view_is in
    record { low = omega arith; high = c.requires }

pub returns : goal.returns
returns c =
    let base = c.base.ensures.value ∙ ap (λ (p : Parts). p.core.base) c.parts.view_is in
    let m = node_of c.args.parts.now in
    equal_reply_of_equal_plan (serve_again_from_base m c.args.to c.args.stored (omega arith))
    (c.saying.ensures ∙ ap (λ (k : ℕ). reply_with_telling (said.Served k) (tell.Entries c.args.to c.args.stored false)) c.count_above-count.ensures)
    (reply_says_and_tells m m _ (tell.Entries c.args.to c.args.stored false) refl (record { low = omega arith; high = c.requires }) tt (untrimmed_node_ends_itself m))
