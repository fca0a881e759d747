-- What is shown of a play's run.
use Rattle.std.specs.Prelude.{ℕ, List}
use Rattle.am_base.specs.Founding.{Rules}
use Rattle.am_group_defs.specs.Lawful.{Watch}
use Rattle.am_group_defs.specs.Play.{text_of_watch}
use Rattle.am_group_defs.specs.Group.{logs}
use Rattle.am_services.specs.Texts.{messages_text, directories_text, snapshots_text}
use Rattle.am_cli_words.specs.declared.form.RunText.{RunText}
use Rattle.am_cli_words.specs.declared.form.RunText.TheVariants as shown

-- what is shown of a run that was watched
unfoldable pub shown_text : RunText → Rules → Watch → List ℕ
shown_text shown.Text rules s = text_of_watch rules s
shown_text shown.Messages rules s = messages_text (logs s.world) s.broken
shown_text shown.Directories rules s = directories_text rules (logs s.world) s.broken
shown_text shown.Snapshots rules s = snapshots_text rules (logs s.world) s.broken
