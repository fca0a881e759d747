-- The summary of a run.
use Rattle.std.specs.Prelude.{ℕ, ◌++◌, List, codes}
use Rattle.am_group_defs.specs.Text.{mark_line}
use Rattle.am_group_defs.specs.Play.{count_line}
use Rattle.am_text_output.specs.declared.summary.Summary.{Summary}

unfoldable pub summary_for : Summary → List ℕ
summary_for s =
    count_line (codes "events") s.events
    ++ (count_line (codes "packets") s.packets
    ++ (count_line (codes "entries") s.entries
    ++ (count_line (codes "took") s.took
    ++ (count_line (codes "sent") s.sent
    ++ (count_line (codes "held") s.held
    ++ mark_line s.broken)))))
