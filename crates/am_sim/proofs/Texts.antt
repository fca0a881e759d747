-- What is shown of a world, and its summary.
use Rattle.std.proofs.Common.{◌≡◌, ℕ, List, length, Option, refl, sym, ap, ◌∙◌}
use Rattle.am_base.specs.Founding.{Rules}
use Rattle.am_base.specs.declared.entry.Entry.{Entry}
use Rattle.am_group.specs.declared.event.Record.{Record}
use Rattle.am_group_defs.specs.World.{World}
use Rattle.am_group_defs.specs.Group.{logs}
use Rattle.am_group_defs.specs.Lawful.{Watch, watch_run, broken_at}
use Rattle.am_group_defs.specs.Play.{text_of_watch, summary_of, summary_text_of}
use Rattle.am_services.specs.Texts.{messages_text, directories_text, snapshots_text}
use Rattle.am_cli_words.specs.declared.form.RunText.{RunText}
use Rattle.am_cli_words.specs.declared.form.RunText.TheVariants as shown
use Rattle.am_sim.specs.Playing.{shown_text}
use Rattle.am_group_defs.proofs.Runs.{watched_is_run, one_record_each}
use Rattle.am_report.specs.Logs.{logs_for}
use Rattle.am_text_output.specs.declared.summary.Summary.{Summary}
use Rattle.am_text_output.specs.Summaries.{summary_for}
use Rattle.am_generator.specs.declared.course.Course.{Course}
use Rattle.am_generator.specs.Courses.{IsCourse, letters_sent, course_entries}
use Rattle.am_world.specs.Runs as worlds
use Rattle.am_world.specs.Runs.{replay}
use Rattle.am_player.specs.Runs.{logged_in}
use Rattle.am_player.proofs.Texts.{text_told_of_watched_run}

pub text_shown_of_world : (p : worlds.Play) (text : List ℕ) → text ≡ text_of_watch p.rules (watch_run p.rules p.events)
    → text ≡ shown_text shown.Text p.rules (watch_run p.rules p.events)
unfolding shown_text
text_shown_of_world p text is = is

pub messages_shown_of_world : (p : worlds.Play) (text : List ℕ) (records : List Record) (each : List ℕ) (broken : Option ℕ)
    → records ≡ (replay p).records → each ≡ logged_in (replay p) → broken ≡ broken_at p.rules p.events
    → text ≡ messages_text (logs_for records each) broken → text ≡ shown_text shown.Messages p.rules (watch_run p.rules p.events)
unfolding shown_text
messages_shown_of_world p text records each broken recorded named mark is =
    text_told_of_watched_run (λ rules records group logs broken. messages_text logs broken) p text p.rules records (replay p).group each broken refl recorded refl named mark is

-- a text of the founding, the logs and what broke, as a word asks for it
pub logs_shown_of_world : (what : RunText) (tell : Rules → List (ℕ × List (ℕ × Entry)) → Option ℕ → List ℕ)
    → ((rules : Rules) (s : Watch) → tell rules (logs s.world) s.broken ≡ shown_text what rules s)
    → (p : worlds.Play) (text : List ℕ) (founding : Rules) (records : List Record) (each : List ℕ) (broken : Option ℕ)
    → founding ≡ p.rules → records ≡ (replay p).records → each ≡ logged_in (replay p) → broken ≡ broken_at p.rules p.events
    → text ≡ tell founding (logs_for records each) broken → text ≡ shown_text what p.rules (watch_run p.rules p.events)
logs_shown_of_world what tell shows p text founding records each broken rules recorded named mark is =
    text_told_of_watched_run (λ rules records group logs broken. tell rules logs broken) p text founding records (replay p).group each broken rules recorded refl named mark is
    ∙ shows p.rules (watch_run p.rules p.events)

pub directories_text_is_shown : (rules : Rules) (s : Watch) → directories_text rules (logs s.world) s.broken ≡ shown_text shown.Directories rules s
unfolding shown_text
directories_text_is_shown rules s = refl

pub snapshots_text_is_shown : (rules : Rules) (s : Watch) → snapshots_text rules (logs s.world) s.broken ≡ shown_text shown.Snapshots rules s
unfolding shown_text
snapshots_text_is_shown rules s = refl

-- ---- a summary

-- what is told of a course is what its run gives
pub summary_text_of_course : (p : worlds.Play) (c : Course) (s : Summary) → IsCourse p c → s.events ≡ c.counts.events → s.packets ≡ length (letters_sent c)
    → s.entries ≡ course_entries c → s.took ≡ c.counts.took → s.sent ≡ c.counts.sent → s.held ≡ c.counts.held → s.broken ≡ broken_at p.rules p.events
    → summary_for s ≡ summary_text_of p.rules p.events
unfolding summary_for
summary_text_of_course p c s is events packets entries took sent held broken =
    let w = replay p in
    let counted = is.counted in
    let many : s.events ≡ length w.records = events ∙ counted.events ∙ sym (one_record_each p.rules p.events) in
    let letters : s.packets ≡ length w.letters = packets ∙ ap length is.stands.sent in
    let listed : s.entries ≡ length w.group = entries ∙ ap length is.stands.runs.shows.agreed in
    (λ k. summary_for (record {
      events = many k;
      packets = letters k;
      entries = listed k;
      took = (took ∙ counted.took) k;
      sent = (sent ∙ counted.sent) k;
      held = (held ∙ counted.held) k;
      broken = broken k;
    }))
    ∙ ap (λ (v : World). summary_of (record (watch_run p.rules p.events) { world = v })) (sym (watched_is_run p.rules p.events))
