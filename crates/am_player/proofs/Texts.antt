-- What is written of a world, as what is shown of its run.
use Rattle.std.proofs.Common.{◌≡◌, ℕ, List, Option, sym, ap, ◌∙◌}
use Rattle.am_base.specs.Founding.{Rules}
use Rattle.am_base.specs.declared.entry.Entry.{Entry}
use Rattle.am_group.specs.declared.event.Record.{Record}
use Rattle.am_group_defs.specs.World.{World}
use Rattle.am_group_defs.specs.Group.{logs}
use Rattle.am_group_defs.specs.Lawful.{watch_run, broken_at}
use Rattle.am_group_defs.specs.Text.{play_text}
use Rattle.am_group_defs.specs.Play.{text_of_watch}
use Rattle.am_group_defs.proofs.Runs.{watched_is_run}
use Rattle.am_report.specs.Logs.{logs_for}
use Rattle.am_report.proofs.Logs.{logs_of_names_with_log}
use Rattle.am_world.specs.Runs as worlds
use Rattle.am_world.specs.Runs.{replay}
use Rattle.am_player.specs.Runs.{logged_in}

-- what is written of a founding, records, a group list, the names with a list, and what broke, is that of the watched run
pub text_told_of_watched_run : (T : Rules → List Record → List Entry → List (ℕ × List (ℕ × Entry)) → Option ℕ → List ℕ)
    (p : worlds.Play) (text : List ℕ) (founding : Rules) (records : List Record) (group : List Entry) (each : List ℕ) (broken : Option ℕ)
    → founding ≡ p.rules → records ≡ (replay p).records → group ≡ (replay p).group → each ≡ logged_in (replay p)
    → broken ≡ broken_at p.rules p.events → text ≡ T founding records group (logs_for records each) broken
    → text ≡ T p.rules (watch_run p.rules p.events).world.records (watch_run p.rules p.events).world.group (logs (watch_run p.rules p.events).world)
    (broken_at p.rules p.events)
text_told_of_watched_run T p text founding records group each broken rules recorded agreed named mark is =
    is
    ∙ (λ k. T (rules k) (recorded k) (agreed k) (logs_for (recorded k) (named k)) (mark k))
    ∙ ap (λ ls. T p.rules (replay p).records (replay p).group ls (broken_at p.rules p.events)) (sym (logs_of_names_with_log (replay p)))
    ∙ ap (λ (w : World). T p.rules w.records w.group (logs w) (broken_at p.rules p.events)) (sym (watched_is_run p.rules p.events))

pub text_of_world_is_watched : (p : worlds.Play) (text : List ℕ) (founding : Rules) (records : List Record) (group : List Entry) (each : List ℕ) (broken : Option ℕ)
    → founding ≡ p.rules → records ≡ (replay p).records → group ≡ (replay p).group → each ≡ logged_in (replay p)
    → broken ≡ broken_at p.rules p.events → text ≡ play_text founding records group (logs_for records each) broken
    → text ≡ text_of_watch p.rules (watch_run p.rules p.events)
text_of_world_is_watched p text founding records group each broken rules recorded agreed named mark is =
    text_told_of_watched_run play_text p text founding records group each broken rules recorded agreed named mark is
