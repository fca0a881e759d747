use Rattle.std.proofs.Common.{subst, sym}
use Rattle.am_io.specs.Outside.{ReadToEnd}
use Rattle.am_player.proofs.Given.{source_gave_whole_within_limit}
use Rattle.am_player.proofs.Statuses.{bad_script_by_implied_claim, status_took_what_was_given, status_wrote_by_implied_text}
use Rattle.am_player.proofs.play.play.Goals as goal

pub returns-clause-took : goal.returns-clause-took
returns-clause-took g c =
    status_took_what_was_given g.S.Source.left g.S.Source.count _ c.play_bytes.result _ _ c.play_bytes.ensures.not_of_read
    (source_gave_whole_within_limit _ _ _ _ c.in-Ok.ensures.ok c.in-Ok.ensures.within) c.in-Ok.ensures.counts

pub returns-clause-bad_script : goal.returns-clause-bad_script
returns-clause-bad_script g c =
    let whole = subst (ReadToEnd _ _) (sym c.as_slice.ensures.value) c.in-Ok.ensures.ok in
    bad_script_by_implied_claim c.play_bytes.result (λ cause is. (_, whole, is)) c.play_bytes.ensures.bad_script

pub returns-clause-spent : goal.returns-clause-spent
returns-clause-spent g c =
    let whole = subst (ReadToEnd _ _) (sym c.as_slice.ensures.value) c.in-Ok.ensures.ok in
    λ is. (_, whole, c.play_bytes.ensures.spent is)

pub returns-clause-wrote : goal.returns-clause-wrote
returns-clause-wrote g c =
    let whole = subst (ReadToEnd _ _) (sym c.as_slice.ensures.value) c.in-Ok.ensures.ok in
    status_wrote_by_implied_text g.K.Sink.contents g.K.Sink.count _ _ c.play_bytes.result _ _ (λ text is. (_, whole, is)) c.play_bytes.ensures.wrote
