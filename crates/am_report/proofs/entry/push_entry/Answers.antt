use Rattle.std.proofs.Common.{sym, ap, ◌∙◌}
use Rattle.am_base.specs.Entries.{entry_of_parts}
use Rattle.am_io.proofs.Writers.{two_words_written_in_calls, five_words_written_in_calls}
use Rattle.am_group_defs.specs.Text.{entry_text}
use Rattle.am_report.proofs.entry.push_entry.Goals as goal

pub returns-in-Data : goal.returns-in-Data
unfolding entry_text
returns-in-Data g c =
    let is = ap (entry_text c.args.founding.now) (ap entry_of_parts (sym c.in-Data.is) ∙ c.parts.ensures) in
    five_words_written_in_calls g.O.Writer.writes _ _ _ _ _ _ _ _ _ _ _ _ c.put.ensures c.push_name.ensures c.push_behind.ensures c.put-in-Data.ensures c.push_body.ensures
    (rw (c.from.ensures, c.bytes.ensures.value) is)

pub returns-in-Join : goal.returns-in-Join
unfolding entry_text
returns-in-Join g c =
    two_words_written_in_calls g.O.Writer.writes _ _ _ _ _ _ c.put-in-Join.ensures c.push_name-in-Join.ensures
    (ap (entry_text c.args.founding.now) (ap entry_of_parts (sym c.in-Join.is) ∙ c.parts.ensures))

pub returns-in-Leave : goal.returns-in-Leave
unfolding entry_text
returns-in-Leave g c =
    two_words_written_in_calls g.O.Writer.writes _ _ _ _ _ _ c.put-in-Leave.ensures c.push_name-in-Leave.ensures
    (ap (entry_text c.args.founding.now) (ap entry_of_parts (sym c.in-Leave.is) ∙ c.parts.ensures))

pub returns-in-View : goal.returns-in-View
unfolding entry_text
returns-in-View g c =
    five_words_written_in_calls g.O.Writer.writes _ _ _ _ _ _ _ _ _ _ _ _ c.put-in-View.ensures c.push_stamp.ensures c.put-in-View-2.ensures c.push_names.ensures
    c.push_resilience.ensures (ap (entry_text c.args.founding.now) (ap entry_of_parts (sym c.in-View.is) ∙ c.parts.ensures))
