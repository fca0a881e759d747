use Rattle.std.proofs.lemmas.Result.{on_ok_weaker}
use Rattle.am_player.proofs.Played.{text_of_script_is_played}
use Rattle.am_player.proofs.play.answer.Goals as goal

pub returns-clause-played : goal.returns-clause-played
returns-clause-played g c =
    on_ok_weaker c.show_script.result (λ shown. (shown.0, text_of_script_is_played _ c.args.bytes.now shown.0 c.in-Ok.script c.in-Ok.ensures.ok c.in-Ok.ensures.within shown.1, shown.2)) c.show_script.ensures.shown
