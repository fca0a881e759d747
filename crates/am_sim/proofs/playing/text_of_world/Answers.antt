use Rattle.std.proofs.Common.{sym, ap, ◌∙◌, string_bytes}
use Rattle.std.proofs.lemmas.Result.{IfOk-weaker}
use Rattle.am_group_defs.specs.Lawful.{watch_run}
use Rattle.am_services.specs.Texts.{directories_text, snapshots_text}
use Rattle.am_cli_words.specs.declared.form.RunText.TheVariants as shown
use Rattle.am_sim.specs.Playing.{shown_text}
use Rattle.am_sim.proofs.Texts.{messages_shown_of_world, logs_shown_of_world, directories_text_is_shown, snapshots_text_is_shown}
use Rattle.am_sim.proofs.playing.text_of_world.Goals as goal

pub returns-in-Messages : goal.returns-in-Messages
returns-in-Messages c =
    let p = c.args.world.now in
    IfOk-weaker c.messages_text.result _ _ (λ text is. messages_shown_of_world p (string_bytes text) c.records.result.now c.args.names.now
    c.broken_at-broken.result (c.records.ensures.value ∙ c.journal-journal.ensures.records) c.requires.named c.broken_at-broken.ensures is
    ∙ ap (λ what. shown_text what p.rules (watch_run p.rules p.events)) (sym c.in-Messages.is)) c.messages_text.ensures

pub returns-in-Directories : goal.returns-in-Directories
returns-in-Directories c =
    let p = c.args.world.now in
    let j = c.journal-journal in
    IfOk-weaker c.directories_text.result _ _ (λ text is. logs_shown_of_world shown.Directories directories_text directories_text_is_shown p (string_bytes text)
    j.result.now.founding j.result.now.records c.args.names.now c.broken_at-broken.result j.ensures.founding j.ensures.records c.requires.named c.broken_at-broken.ensures is
    ∙ ap (λ what. shown_text what p.rules (watch_run p.rules p.events)) (sym c.in-Directories.is)) c.directories_text.ensures

pub returns-in-Snapshots : goal.returns-in-Snapshots
returns-in-Snapshots c =
    let p = c.args.world.now in
    IfOk-weaker c.snapshots_text.result _ _ (λ text is. logs_shown_of_world shown.Snapshots snapshots_text snapshots_text_is_shown p (string_bytes text)
    c.journal-journal.result.now.founding c.journal-journal.result.now.records c.args.names.now c.broken_at-broken.result
    c.journal-journal.ensures.founding c.journal-journal.ensures.records c.requires.named c.broken_at-broken.ensures is
    ∙ ap (λ what. shown_text what p.rules (watch_run p.rules p.events)) (sym c.in-Snapshots.is)) c.snapshots_text.ensures
