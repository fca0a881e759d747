use Rattle.std.proofs.Common.{◌++◌, refl, sym, ◌∙◌}
use Rattle.std.proofs.lemmas.List.{take-append-drop}
use Rattle.am_io.proofs.Writers.{all_words_left_at_start, fewer_words_left_to_write, last_word_left_is_written}
use Rattle.am_report.proofs.Digits.{hex_digits_of_split_bytes}
use Rattle.am_report.proofs.entry.push_bytes.Goals as goal

pub chunks-init : goal.chunks-init
chunks-init g c = all_words_left_at_start g.O.Writer.writes _ _

pub chunks-preserved : goal.chunks-preserved
chunks-preserved g c = fewer_words_left_to_write g.O.Writer.writes _ _ _ _ _ _ _ c.chunks.invariant c.push_chunk.ensures (hex_digits_of_split_bytes _ _ _
    (sym (take-append-drop 64 c.chunks.rest.now) ∙ (λ k. sym c.split_at.ensures.front k ++ sym c.split_at.ensures.back k)))

pub returns : goal.returns
returns g c = last_word_left_is_written g.O.Writer.writes _ _ _ _ _ _ c.chunks.invariant c.push_chunk-2.ensures refl
