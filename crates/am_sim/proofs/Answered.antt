-- What was answered, and what every run keeps.
use Rattle.std.proofs.Common.{◌≡◌, ℕ, List, [], length, Bool, Option, Some, None, subst, Ok, ◌∙◌, sym, ap, refl, arith}
use Rattle.am_io.specs.Outside.{GaveAtMost}
use Rattle.am_base.specs.Founding.{Rules, MayFound}
use Rattle.am_group.specs.declared.event.Event.{Event}
use Rattle.am_group.specs.declared.plan.RacePlan.{RacePlan}
use Rattle.am_group_defs.specs.Play.{text_of_watch, play_text_of}
use Rattle.am_trace_laws.specs.Claims.{ReadsAs, AgreesAs, IsOfOneList}
use Rattle.am_cli_words.specs.declared.form.RunText.TheVariants as shown
use Rattle.am_cli_words.specs.declared.form.Form.{Form}
use Rattle.am_cli_words.specs.declared.form.Form.TheVariants as forms
use Rattle.am_cli_words.specs.declared.form.RunText.{RunText}
use Rattle.am_service_laws.proofs.Sends.{delivered_messages_end_in_list}
use Rattle.am_service_laws.proofs.Holding.{all_replicas_hold}
use Rattle.am_generator.specs.Generating.{generated_rules, events_of_seed}
use Rattle.am_generator.proofs.Rules.{generated_rules_may_found}
use Rattle.am_cli_words.specs.declared.form.SeedAndCount.{SeedAndCount}
use Rattle.am_script_defs.specs.Races.{race_reading}
use Rattle.am_script_defs.specs.RaceLimits.{RaceWithin}
use Rattle.am_audit_defs.specs.Lines.{Reading, read_text}
use Rattle.am_audit_defs.specs.Verdicts.{verdict_of, verdict_line}
use Rattle.am_audit_defs.proofs.Wrongs.{agreeing_verdict_means_agreed, agreeing_lists_verdict_means_lists}
use Rattle.am_player.specs.Plays.{KeepsRun, PlayedBy, IsPlayedBy}
use Rattle.am_player.specs.Runs.{done_of, run_watch}
use Rattle.am_player.specs.Statuses.{IfBadScript, Took}
use Rattle.am_player.specs.declared.status.ExitStatus.{ExitStatus}
use Rattle.am_player.specs.declared.status.ExitStatus.TheVariants.{Done, BadScript, WriteFault, NoMemory}
use Rattle.am_player.proofs.Played.{run_of_script_is_kept, watch_run_of_done_script}
use Rattle.am_sim.specs.Playing.{shown_text}
use Rattle.am_sim.specs.Racing.{events_of, IsRaceText}
use Rattle.am_sim.specs.Simulation.{Plays, ReadsScript, SimulatedRunKeeps, Played, IsPlayed, GeneratedAs, Raced, Audited, EndsGen, IsTextOfForm, IsAnswerAlone}
use Rattle.am_sim.proofs.Reread.{text_of_play_is_read, text_of_play_agrees, race_script_is_read_again, text_of_race_is_read, text_of_race_agrees}

-- ---- what every run keeps

-- beside what am_player says of it, its messages and its replicas
keeps_more : (rules : Rules) (events : List Event) → MayFound rules → KeepsRun rules events → SimulatedRunKeeps rules events
keeps_more rules events may kept = record {
  run = kept;
  messages = λ name some. delivered_messages_end_in_list rules events name may some;
  replicas = λ name has. all_replicas_hold rules events name may has;
}

-- each run keeps what is claimed
keeps_all : (rules : Rules) (events : List Event) → MayFound rules → SimulatedRunKeeps rules events
keeps_all rules events may = keeps_more rules events may (run_of_script_is_kept rules events may)

-- ---- a play

-- the text of a run that was settled, or not
run_text : (founding : Rules) (events : List Event) (settles : Bool) (text : List ℕ) → text ≡ shown_text shown.Text founding (run_watch founding events settles)
    → play_text_of founding (done_of founding events settles) ≡ text
unfolding shown_text
run_text founding events settles text is = ap (text_of_watch founding) (watch_run_of_done_script founding events settles) ∙ sym is

-- what am_player says of what was read and written is all that is claimed of a play
played_by : (what : RunText) (bytes text : List ℕ) → PlayedBy (shown_text what) bytes text → Played what bytes text
played_by what bytes text p =
    let done = done_of p.founding p.events p.settles in
    let whole : what ≡ shown.Text → play_text_of p.founding done ≡ text =
    λ is. run_text p.founding p.events p.settles text (p.written ∙ ap (λ w. shown_text w p.founding (run_watch p.founding p.events p.settles)) is) in
    let reads : what ≡ shown.Text → ReadsAs p.founding done text =
    λ is. subst (ReadsAs p.founding done) (whole is) (text_of_play_is_read bytes p.founding p.events p.settles p.script p.within p.few) in
    let agrees : what ≡ shown.Text → IsOfOneList p.founding done → AgreesAs p.founding done text =
    λ is one. subst (AgreesAs p.founding done) (whole is) (text_of_play_agrees bytes p.founding p.events p.settles p.script p.within p.few one) in
    search (p.founding, p.events, p.settles, p, keeps_more p.founding done p.within.may_found p.keeps, reads, agrees)

pub text_of_shown_is_played : (what : RunText) (before after : Option (List ℕ)) (text : List ℕ) → IsPlayedBy (shown_text what) before after text → IsPlayed what before after text
text_of_shown_is_played what before after text x = (x.0, x.1, played_by what x.0 text x.2)

-- ---- a generated run

pub text_of_seed_is_generated : (what : Rules → List Event → List ℕ) (numbers : SeedAndCount) (text : List ℕ) → text ≡ what generated_rules (events_of_seed numbers.seed numbers.count)
    → length (events_of_seed numbers.seed numbers.count) ≡ numbers.count → GeneratedAs what numbers text
text_of_seed_is_generated what numbers text is many = record {
  written = is;
  count = many;
  keeps = keeps_all generated_rules (events_of_seed numbers.seed numbers.count) generated_rules_may_found;
}

-- ---- what was given

gave_none : (limit : ℕ) (left : Option (List ℕ)) → GaveAtMost limit left left
gave_none limit (Some left) = ([], refl, omega arith)
gave_none limit None = ([], tt, omega arith)

-- gen takes nothing
pub gen_took_nothing : {S : Type 0} (left : S → Option (List ℕ)) (count : S → ℕ) (limit : ℕ) (status : ExitStatus) (source : S) → EndsGen status
    → Took left count limit status source source
gen_took_nothing left count limit Done source ends = (gave_none limit (left source), refl)
gen_took_nothing left count limit WriteFault source ends = (gave_none limit (left source), refl)
gen_took_nothing left count limit NoMemory source ends = (gave_none limit (left source), refl)
gen_took_nothing left count limit _ source ends = absurd ends

-- ---- a status that tells of a script

pub bad_script_claim_holds : (status : ExitStatus) (P : Type 0) → P → IfBadScript status (λ cause. P)
bad_script_claim_holds (BadScript cause) P is = is
bad_script_claim_holds _ P is = tt

plays_reads : (form : Option Form) → Plays form → ReadsScript form
plays_reads (Some (forms.Play what)) is = tt
plays_reads _ is = absurd is

pub bad_script_form_reads_script : (form : Option Form) (status : ExitStatus) → IfBadScript status (λ cause. Plays form) → IfBadScript status (λ cause. ReadsScript form)
bad_script_form_reads_script form (BadScript cause) is = plays_reads form is
bad_script_form_reads_script form _ is = tt

-- ---- what is answered

-- what waits for nobody is answered as its form asks
pub answer_alone_is_answer : (form : Option Form) (before after : Option (List ℕ)) (text : List ℕ) → IsAnswerAlone form before after text → IsTextOfForm form before after text
answer_alone_is_answer (Some (forms.Play what)) before after text is = is
answer_alone_is_answer (Some forms.Audit) before after text is = is
answer_alone_is_answer (Some forms.Parts) before after text is = is
answer_alone_is_answer (Some forms.Race) before after text is = absurd is
answer_alone_is_answer (Some (forms.Node node)) before after text is = absurd is
answer_alone_is_answer _ before after text is = is

pub race_text_is_raced : (bytes text : List ℕ) (plan : RacePlan) → race_reading bytes ≡ Ok plan → RaceWithin plan → IsRaceText plan text → Raced bytes text
race_text_is_raced bytes text plan is within (journal, raced, same, again) = record {
  plan = plan;
  script = is;
  journal = journal;
  raced = raced;
  written = same;
  again = race_script_is_read_again bytes plan journal is within raced again;
  keeps = keeps_all plan.founding (events_of journal) within.may_found;
  reads = rw same (text_of_race_is_read bytes plan journal is within raced);
  agrees = λ one. rw same (text_of_race_agrees bytes plan journal is within raced one);
}

-- ---- a text that is audited

pub verdict_line_is_audited : (bytes text : List ℕ) (reading : Reading) → read_text bytes ≡ Ok reading → text ≡ verdict_line (verdict_of reading) reading.void_from
    → Audited bytes text
verdict_line_is_audited bytes text reading is same = record {
  reading = reading;
  read = is;
  written = same;
  agrees = agreeing_verdict_means_agreed reading;
  lists_agree = agreeing_lists_verdict_means_lists reading;
}
