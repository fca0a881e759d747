use Rattle.std.proofs.Common.{◌≡◌, [], ◌++◌, length, refl, subst, sym, ap, ◌∙◌}
use Rattle.std.specs.Fmt.{WritesInCalls}
use Rattle.am_group.specs.Deliveries.{deliveries}
use Rattle.am_io.proofs.Writers.{two_words_written_in_calls, all_words_left_at_start, fewer_words_left_to_write, no_word_left_to_write}
use Rattle.am_group_defs.specs.Text.{empty_log_line}
use Rattle.am_report.specs.Logs.{given_lines}
use Rattle.am_report.proofs.Logs.{deliveries_past_last_record, given_lines_with_next_record, deliveries_of_other_record, deliveries_some_by_record, log_text_of_given_entries, log_text_of_nothing_given}
use Rattle.am_report.proofs.play.push_log.Goals as goal

pub loop-item-init : goal.loop-item-init
loop-item-init g c = record { left = all_words_left_at_start g.O.Writer.writes _ _; nothing = λ _none. refl; something = λ never. cc }

pub loop-item-preserved : goal.loop-item-preserved
loop-item-preserved g c = record {
  left = fewer_words_left_to_write g.O.Writer.writes _ _ _ _ _ _ _ c.loop-item.invariant.left c.push_given-some.ensures.text
      (given_lines_with_next_record c.args.founding.now c.args.name c.args.records.now c.loop-item.item-index c.item-item.result c.loop-item-test.true c.item-item.is);
  nothing = deliveries_of_other_record c.args.records.now c.args.name c.loop-item.item-index c.item-item.result c.loop-item.some _ c.loop-item-test.true c.item-item.is c.push_given-some.ensures.some c.loop-item.invariant.nothing;
  something = deliveries_some_by_record c.args.records.now c.args.name c.loop-item.item-index c.item-item.result c.loop-item.some _ c.loop-item-test.true c.item-item.is c.push_given-some.ensures.some c.loop-item.invariant.nothing
      c.loop-item.invariant.something;
}

pub returns : goal.returns
returns g c =
    let rules = c.args.founding.now in
    let name = c.args.name in
    let end = deliveries_past_last_record c.args.records.now name c.loop-item.item-index c.loop-item-test.false in
    let none : deliveries c.args.records.now name ≡ [] = sym (c.loop-item.invariant.nothing c.if-some.false) ∙ end in
    let nothing = no_word_left_to_write g.O.Writer.writes _ _ _ _ c.loop-item.invariant.left (ap (λ given. given_lines rules name given) end) in
    two_words_written_in_calls g.O.Writer.writes _ _ _ _ _ _ nothing c.push_empty_log.ensures
    (ap (λ given. given_lines rules name given ++ empty_log_line name) none ∙ sym (log_text_of_nothing_given rules name _ (ap length none)))

pub returns-then-some : goal.returns-then-some
returns-then-some g c =
    let rules = c.args.founding.now in
    let name = c.args.name in
    let end = deliveries_past_last_record c.args.records.now name c.loop-item.item-index c.loop-item-test.false in
    subst (λ text. WritesInCalls g.O.Writer.writes c.args.out.now text c.loop-item.out)
    (sym (log_text_of_given_entries rules name _ (c.loop-item.invariant.something c.if-some.true)))
    (no_word_left_to_write g.O.Writer.writes _ _ _ _ c.loop-item.invariant.left (ap (λ given. given_lines rules name given) end))
