use Rattle.std.proofs.Common.{rules, ◌≡◌, ℕ, List, Option, Some, subst, sym}
use Rattle.std.specs.Io.KnownBytes.{Appends}
use Rattle.am_io.specs.Outside.{ReadToEnd, GaveMore, GaveAtMost}
use Rattle.am_cli_words.specs.declared.form.Form.{Form}
use Rattle.am_cli_words.specs.declared.form.Form.TheVariants as form
use Rattle.am_cli_words.specs.Forms.{Generates}
use Rattle.am_player.specs.Statuses.{IfBadScript, OnDone, OnWriteFault, WroteTextPart}
use Rattle.am_sim.specs.Simulation.{form_of_words, most_bytes_of, FormReads, ReadsScript, InputIsRefused, IsTextOfForm}
use Rattle.am_player.proofs.Statuses.{status_counts_reads, status_took_more_than_limit, status_took_at_most_limit, status_counts_writes, status_wrote_part_of_text, status_wrote_whole_text, status_wrote_nothing}
use Rattle.am_sim.proofs.Answered.{bad_script_claim_holds, bad_script_form_reads_script}
use Rattle.am_sim.proofs.simulate.simulate.Given.{Over}
use Rattle.am_sim.proofs.simulate.simulate.Goals as goal

is_asked : (g : Over) (c : goal.After-race_script g) → form_of_words c.args.words.now ≡ Some form.Race
is_asked g c = search (rules, c.form_of-asked.ensures.value, c.in-Some-Race.is, c.in-Some-Race.field-0-is)

pub returns-in-Some-Race-clause-usage : goal.returns-in-Some-Race-clause-usage
returns-in-Some-Race-clause-usage g c =
    let same = is_asked g c in
    (λ e. absurd (c.race_script.ensures.not_usage e), λ e. cc)

pub returns-in-Some-Race-clause-unread : goal.returns-in-Some-Race-clause-unread
returns-in-Some-Race-clause-unread g c = λ none. absurd (none (subst FormReads (sym (is_asked g c)) tt))

pub returns-in-Some-Race-clause-generates : goal.returns-in-Some-Race-clause-generates
returns-in-Some-Race-clause-generates g c = λ gen. absurd (subst Generates (is_asked g c) gen)

pub returns-in-Some-Race-clause-bad_script : goal.returns-in-Some-Race-clause-bad_script
returns-in-Some-Race-clause-bad_script g c =
    subst (λ (a : Option Form). IfBadScript c.race_script.result (λ cause. (x : List ℕ)
    × ReadToEnd (g.S.Source.left c.args.source.now) (g.S.Source.left c.race_script.new.source) x
    × InputIsRefused a x cause)) (sym (is_asked g c)) c.race_script.ensures.bad_script

pub returns-in-Some-Race-clause-scripts : goal.returns-in-Some-Race-clause-scripts
returns-in-Some-Race-clause-scripts g c =
    bad_script_claim_holds c.race_script.result (ReadsScript (form_of_words c.args.words.now)) (subst ReadsScript (sym (is_asked g c)) tt)

pub returns-in-Some-Race-clause-part : goal.returns-in-Some-Race-clause-part
returns-in-Some-Race-clause-part g c = λ not_node.
    subst (λ (a : Option Form). OnWriteFault c.race_script.result ((x : List ℕ)
    × IsTextOfForm a (g.S.Source.left c.args.source.now) (g.S.Source.left c.race_script.new.source) x
    × WroteTextPart (g.K.Sink.contents c.args.sink.now) (g.K.Sink.contents c.race_script.new.sink) x)) (sym (is_asked g c))
    (status_wrote_part_of_text g.K.Sink.contents g.K.Sink.count _ c.race_script.result _ _ c.race_script.ensures.wrote)

pub returns-in-Some-Race-clause-done : goal.returns-in-Some-Race-clause-done
returns-in-Some-Race-clause-done g c =
    subst (λ (a : Option Form). OnDone c.race_script.result ((x : List ℕ)
    × IsTextOfForm a (g.S.Source.left c.args.source.now) (g.S.Source.left c.race_script.new.source) x
    × Appends (g.K.Sink.contents c.args.sink.now) (g.K.Sink.contents c.race_script.new.sink) x)) (sym (is_asked g c))
    (status_wrote_whole_text g.K.Sink.contents g.K.Sink.count _ c.race_script.result _ _ c.race_script.ensures.wrote)

pub returns-in-Some-Race-clause-within : goal.returns-in-Some-Race-clause-within
returns-in-Some-Race-clause-within g c = λ not_node other.
    subst (λ (a : Option Form). GaveAtMost (most_bytes_of a) (g.S.Source.left c.args.source.now) (g.S.Source.left c.race_script.new.source)) (sym (is_asked g c))
    (status_took_at_most_limit g.S.Source.left g.S.Source.count _ c.race_script.result _ _ other c.race_script.ensures.took)

pub returns-in-Some-Race-clause-too_long : goal.returns-in-Some-Race-clause-too_long
returns-in-Some-Race-clause-too_long g c = λ is.
    subst (λ (a : Option Form). GaveMore (most_bytes_of a) (g.S.Source.left c.args.source.now) (g.S.Source.left c.race_script.new.source)) (sym (is_asked g c))
    (status_took_more_than_limit g.S.Source.left g.S.Source.count _ c.race_script.result _ _ is c.race_script.ensures.took)

pub returns-in-Some-Race-clause-reads : goal.returns-in-Some-Race-clause-reads
returns-in-Some-Race-clause-reads g c = status_counts_reads g.S.Source.left g.S.Source.count _ c.race_script.result _ _ c.race_script.ensures.took

pub returns-in-Some-Race-clause-writes : goal.returns-in-Some-Race-clause-writes
returns-in-Some-Race-clause-writes g c = status_counts_writes g.K.Sink.contents g.K.Sink.count _ c.race_script.result _ _ c.race_script.ensures.wrote

pub returns-in-Some-Race-clause-unwritten : goal.returns-in-Some-Race-clause-unwritten
returns-in-Some-Race-clause-unwritten g c = λ not_node none.
    status_wrote_nothing g.K.Sink.contents g.K.Sink.count _ c.race_script.result _ _ none c.race_script.ensures.wrote

pub returns-clause-within : goal.returns-clause-within
returns-clause-within g c = λ not_node other.
    status_took_at_most_limit g.S.Source.left g.S.Source.count _ c.in-Some.status _ _ other c.in-Some.ensures.took

pub returns-clause-scripts : goal.returns-clause-scripts
returns-clause-scripts g c = bad_script_form_reads_script (form_of_words c.args.words.now) c.in-Some.status c.in-Some.ensures.scripts
