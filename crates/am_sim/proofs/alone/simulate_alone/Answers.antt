use Rattle.std.proofs.Common.{rules, ◌≡◌, ℕ, List, Option, Some, subst}
use Rattle.am_io.specs.Outside.{ReadToEnd}
use Rattle.am_cli_words.specs.declared.form.Form.{Form}
use Rattle.am_cli_words.specs.declared.form.Form.TheVariants as form
use Rattle.am_player.specs.Statuses.{IfBadScript, Took, Wrote}
use Rattle.am_player.proofs.Statuses.{status_wrote_by_implied_text}
use Rattle.am_sim.specs.Simulation.{form_of_words, most_bytes_of, Plays, InputIsRefused, IsAnswerAlone}
use Rattle.am_sim.proofs.Answered.{bad_script_claim_holds, text_of_shown_is_played}
use Rattle.am_sim.proofs.alone.simulate_alone.Given.{Over}
use Rattle.am_sim.proofs.alone.simulate_alone.Goals as goal

same : (g : Over) (c : goal.After-play g) → Some (form.Play c.in-Some-Play.shown) ≡ form_of_words c.args.words.now
same g c = search (rules, c.requires.form_, c.in-Some-Play.is, c.in-Some-Play.field-0-is, c.in-Some-Play.shown-is)

pub returns-in-Some-Play-clause-bad_script : goal.returns-in-Some-Play-clause-bad_script
returns-in-Some-Play-clause-bad_script g c =
    subst (λ (a : Option Form). IfBadScript c.play.result (λ cause. (x : List ℕ)
    × ReadToEnd (g.S.Source.left c.args.source.now) (g.S.Source.left c.play.new.source) x
    × InputIsRefused a x cause)) (same g c) c.play.ensures.bad_script

pub returns-in-Some-Play-clause-scripts : goal.returns-in-Some-Play-clause-scripts
returns-in-Some-Play-clause-scripts g c = bad_script_claim_holds c.play.result (Plays (form_of_words c.args.words.now)) (subst Plays (same g c) tt)

pub returns-in-Some-Play-clause-plays : goal.returns-in-Some-Play-clause-plays
returns-in-Some-Play-clause-plays g c = λ is. subst Plays (same g c) tt

pub returns-in-Some-Play-clause-took : goal.returns-in-Some-Play-clause-took
returns-in-Some-Play-clause-took g c =
    subst (λ (a : Option Form). Took g.S.Source.left g.S.Source.count (most_bytes_of a) c.play.result c.args.source.now c.play.new.source) (same g c) c.play.ensures.took

pub returns-in-Some-Play-clause-wrote : goal.returns-in-Some-Play-clause-wrote
returns-in-Some-Play-clause-wrote g c =
    subst (λ (a : Option Form). Wrote g.K.Sink.contents g.K.Sink.count (IsAnswerAlone a (g.S.Source.left c.args.source.now) (g.S.Source.left c.play.new.source))
    c.play.result c.args.sink.now c.play.new.sink) (same g c)
    (status_wrote_by_implied_text g.K.Sink.contents g.K.Sink.count _ _ c.play.result _ _ (text_of_shown_is_played c.in-Some-Play.shown _ _) c.play.ensures.wrote)
