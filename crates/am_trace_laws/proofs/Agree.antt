-- The text of a run whose list fits agrees.
use Rattle.am_trace_laws.proofs.Words.{◌≡◌, ℕ, suc, ◌≤◌, ◌==◌, true, false, if◌then◌else◌, List, [], ◌∷◌, length, take, unwrap_or, refl, sym, ap, ◌∙◌, arith}
use Rattle.am_trace_laws.proofs.Words.{subst, Option, None, ⊎_elim, All, range_with_len, take_all, All-nil, All-cons, All-head, All-tail, place_of_name, Rules}
use Rattle.am_trace_laws.proofs.Words.{MayFound, blank, AllEntriesFit, Entry, Act, Event, item_at, deliveries, Node, founders_entry, has_log_by_status, World, run, logs, play_text_of}
use Rattle.am_trace_laws.proofs.Words.{NoBallot, Segment, Once, Sent, broken_at, watch_run, lawful_front, events_before_break, watched_is_run, one_record_each}
use Rattle.am_trace_laws.proofs.Words.{IsOfBytes, AreOfBytes, IsRunWithinScriptLimits, BodyIsWithinLimit, run_has_names, number_bounds_hold_in_runs, GroupListFits, unballoted_runs_hold, unballoted_group_lists_fit}
use Rattle.am_trace_laws.proofs.Words.{headline_holds, lists_of_runs_fit, Reading, or_else, first_fault, first_astray, first_lost, first_early, first_misfit}
use Rattle.am_trace_laws.proofs.Words.{first_skipped, first_unsent, first_unlogged, first_untaken, lines_of, wrong_lists, wrong_events, verdict_of, IsSayable}
use Rattle.am_trace_laws.proofs.Words.{AsksBytes, IsRaised, records_are_sound, short_runs_stay_in_range, requests_in_turn, resiliences_hold, sends_of, record_answers, take_lines_of}
use Rattle.am_trace_laws.proofs.Words.{entry_texts_of}
use Rattle.am_trace_laws.proofs.Words.{logs_in, reading_of, right_verdict, AgreesAs, RunsHaveTheirTexts, LawfulTextsAgree}
use Rattle.am_trace_laws.proofs.{Runs.group_begins_with_founders_view, Runs.run_text_is_read, Fitting.fitting_list_has_no_misfit, Logs.GroupListIsReadable, Logs.first_fault_of_good_logs, Logs.first_astray_of_good_logs, Logs.first_early_of_good_logs, Logs.logs_of_run_come_next}
use Rattle.am_trace_laws.proofs.{Sends.first_lost_of_standing_answers, Sends.accepted_answers_stand_once, Sends.first_skipped_of_turn, Sends.numbers_of_sends_are_requests, Asked.LineRequestsInTurn, Asked.first_unsent_of_asked_entries}
use Rattle.am_trace_laws.proofs.{Asked.recorded_send_was_asked, Asked.all_entries_were_asked, Takes.ListlessNamesGotNothing, Takes.first_unlogged_of_same_lines, Takes.first_untaken_of_same_lines, Takes.name_takes_are_its_log, Takes.name_logs_are_its_log}
use Rattle.am_group.specs.declared.event.Act.TheVariants as acts
use Rattle.am_audit_defs.specs.declared.verdict.Verdict.TheVariants as verdicts

-- ---- bodies

asks_by : (act : Act) → BodyIsWithinLimit act → IsOfBytes act → AsksBytes act
asks_by (acts.Send body) within bytes = (bytes, within)
asks_by _ within bytes = tt

all_ask : (events : List Event) → All (λ (e : Event). BodyIsWithinLimit e.act) events → AreOfBytes events → All (λ (e : Event). AsksBytes e.act) events
all_ask [] within bytes = All-nil (λ (e : Event). AsksBytes e.act)
all_ask (e ∷ es) within bytes = All-cons (λ (x : Event). AsksBytes x.act) e es
    (asks_by e.act (All-head (λ (x : Event). BodyIsWithinLimit x.act) e es within) (All-head (λ (x : Event). IsOfBytes x.act) e es bytes))
    (all_ask es (All-tail (λ (x : Event). BodyIsWithinLimit x.act) e es within) (All-tail (λ (x : Event). IsOfBytes x.act) e es bytes))

-- ---- what a run is whose list fits

record IsFit (rules : Rules) (events : List Event) : Type 0 where
  short : IsRunWithinScriptLimits rules events
  asks : All (λ (e : Event). AsksBytes e.act) events
  segment : Segment rules (run rules events)
  once : Once (run rules events)
  sent : Sent rules events
  lists : GroupListFits (run rules events)

right : (rules : Rules) (events : List Event) → IsFit rules events → GroupListIsReadable rules (run rules events).group
right rules events h =
    let begins = group_begins_with_founders_view rules events in
    record {
      fits = h.lists.fits;
      say = (records_are_sound rules events (short_runs_stay_in_range rules events h.short) h.asks).group;
      raised = (resiliences_hold rules events h.short.founds).group;
      rest = begins.0;
      begins = begins.1;
    }

-- ---- who was given something has a list

no_log : (w : World) → GroupListFits w → ListlessNamesGotNothing w
no_log w fits name none = by (deliveries w.records name) refl
  where
    by : (given : List (ℕ × Entry)) → deliveries w.records name ≡ given → deliveries w.records name ≡ []
    by [] is = is
    by (x ∷ xs) is = absurd (
        let has = fits.listed name (λ empty. let no : x ∷ xs ≡ [] = sym is ∙ empty in absurd (cc)) in
        let no : true ≡ false = sym has ∙ none in cc)

no_name : (rules : Rules) (events : List Event) → MayFound rules → ListlessNamesGotNothing (run rules events) → (name : ℕ) → 256 ≤ name
    → deliveries (run rules events).records name ≡ []
no_name rules events may listed name above =
    let w = run rules events in
    let named = run_has_names rules events may in
    let most = named.most (place_of_name name) in
    let strange = named.unborn name (omega arith) in
    listed name (ap (λ (n : Node). has_log_by_status n.status) strange)

-- ---- the verdict

lists_right : (rules : Rules) (events : List Event) (broken : Option ℕ) (s : Reading) → IsFit rules events
    → s.group ≡ entry_texts_of rules (run rules events).group → s.logs ≡ logs_in rules (logs (run rules events))
    → s.answers ≡ record_answers (run rules events).records → wrong_lists s ≡ None
unfolding wrong_lists
lists_right rules events broken s h group lines answers =
    let w = run rules events in
    let r = right rules events h in
    let go = logs_of_run_come_next rules w r h.segment in
    let long = (number_bounds_hold_in_runs rules events).group in
    let few = h.short.few in
    let may = h.short.founds in
    let fault : first_fault [] s.logs ≡ None = ap (first_fault []) lines ∙ first_fault_of_good_logs rules w.group [] (logs_in rules (logs w)) r tt go in
    let astray : first_astray s.group s.logs ≡ None =
    ap (λ g. first_astray g s.logs) group ∙ ap (first_astray (entry_texts_of rules w.group)) lines ∙ first_astray_of_good_logs rules w.group [] (logs_in rules (logs w)) go in
    let lost : first_lost s.group s.answers ≡ None =
    ap (λ g. first_lost g s.answers) group ∙ ap (first_lost (entry_texts_of rules w.group)) answers
    ∙ first_lost_of_standing_answers rules w.group (record_answers w.records) r.say (accepted_answers_stand_once w.group w.records h.once.each) in
    let early : first_early [] s.logs ≡ None = ap (first_early []) lines ∙ first_early_of_good_logs rules w.group [] (logs_in rules (logs w)) go in
    let same : length w.group ≡ length (founders_entry rules ∷ r.rest) = ap length r.begins in
    let misfit : first_misfit 1 blank s.group ≡ None =
    ap (first_misfit 1 blank) (group ∙ ap (entry_texts_of rules) r.begins)
    ∙ fitting_list_has_no_misfit rules r.rest may (subst (AllEntriesFit blank 1) r.begins r.fits) (subst (All IsSayable) r.begins r.say)
    (subst (All (IsRaised rules)) r.begins r.raised) (omega arith) in
    ap (λ o. or_else o (or_else (first_astray s.group s.logs) (or_else (first_lost s.group s.answers) (or_else (first_early [] s.logs) (first_misfit 1 blank
    s.group))))) fault
    ∙ ap (λ o. or_else o (or_else (first_lost s.group s.answers) (or_else (first_early [] s.logs) (first_misfit 1 blank s.group)))) astray
    ∙ ap (λ o. or_else o (or_else (first_early [] s.logs) (first_misfit 1 blank s.group))) lost
    ∙ ap (λ o. or_else o (first_misfit 1 blank s.group)) early ∙ misfit

in_turn : (rules : Rules) (events : List Event) → IsFit rules events → LineRequestsInTurn (sends_of (run rules events).records)
in_turn rules events h = λ name.
    let w = run rules events in
    let is = numbers_of_sends_are_requests name w.records (records_are_sound rules events (short_runs_stay_in_range rules events h.short) h.asks).records in
    is ∙ requests_in_turn rules events h.short.founds name ∙ ap (λ (l : List ℕ). range_with_len 1 (length l)) (sym is)

events_right : (rules : Rules) (events : List Event) (s : Reading) → IsFit rules events
    → s.group ≡ entry_texts_of rules (run rules events).group → s.logs ≡ logs_in rules (logs (run rules events))
    → s.sends ≡ sends_of (run rules events).records → s.takes ≡ take_lines_of rules (run rules events).records → wrong_events s ≡ None
unfolding wrong_events
events_right rules events s h group lines sends takes =
    let w = run rules events in
    let r = right rules events h in
    let sound = records_are_sound rules events (short_runs_stay_in_range rules events h.short) h.asks in
    let turn = in_turn rules events h in
    let skipped : first_skipped [] s.sends ≡ None = ap (first_skipped []) sends ∙ first_skipped_of_turn [] (sends_of w.records) (λ name. refl) turn in
    let asked = all_entries_were_asked (sends_of w.records) w.group (λ k from req body at.
    let all : run rules (take (length events) events) ≡ w = ap (run rules) (take_all (length events) events (omega arith)) in
    let was = h.sent.each (length events) (suc k) from req body (ap (λ (v : World). item_at v.group (suc k)) all ∙ at) in
    recorded_send_was_asked w.records was.0 was.1 from req body was.3 was.4) in
    let unsent : first_unsent s.sends s.group ≡ None =
    ap (λ l. first_unsent l s.group) sends ∙ ap (first_unsent (sends_of w.records)) group
    ∙ first_unsent_of_asked_entries rules (sends_of w.records) w.group turn r.say asked in
    let listed = no_log w h.lists in
    let logged : (name : ℕ) → lines_of name s.takes ≡ lines_of name s.logs = λ name.
    ap (lines_of name) takes ∙ name_takes_are_its_log rules name w.records sound.records
    ∙ sym (name_logs_are_its_log rules w name listed (no_name rules events h.short.founds listed)) ∙ ap (lines_of name) (sym lines) in
    let unlogged : first_unlogged s.logs [] s.takes ≡ None = first_unlogged_of_same_lines s.logs s.takes logged in
    ap (λ o. or_else o (or_else (first_unsent s.sends s.group) (or_else (first_unlogged s.logs [] s.takes) (first_untaken s.takes [] s.logs)))) skipped
    ∙ ap (λ o. or_else o (or_else (first_unlogged s.logs [] s.takes) (first_untaken s.takes [] s.logs))) unsent
    ∙ ap (λ o. or_else o (first_untaken s.takes [] s.logs)) unlogged ∙ first_untaken_of_same_lines s.logs s.takes logged

agrees_by : (s : Reading) (events : List Event) → wrong_lists s ≡ None → wrong_events s ≡ None → s.events ≡ length events → verdict_of s ≡ right_verdict events
unfolding verdict_of
agrees_by s events lists deeds many =
    ap (λ o. unwrap_or o (if s.events == 0 then verdicts.ListsAgree else unwrap_or (wrong_events s) verdicts.Agrees)) lists
    ∙ ap (λ o. if s.events == 0 then verdicts.ListsAgree else unwrap_or o verdicts.Agrees) deeds
    ∙ ap (λ n. if n == 0 then verdicts.ListsAgree else verdicts.Agrees) many

fit_agrees : (rules : Rules) (events : List Event) → IsFit rules events → AgreesAs rules events (play_text_of rules events)
fit_agrees rules events h =
    let s = watch_run rules events in
    let is = watched_is_run rules events in
    let r = right rules events h in
    let reading = reading_of rules s in
    let group : reading.group ≡ entry_texts_of rules (run rules events).group = ap (λ (w : World). entry_texts_of rules w.group) is in
    let lines : reading.logs ≡ logs_in rules (logs (run rules events)) = ap (λ (w : World). logs_in rules (logs w)) is in
    let answers : reading.answers ≡ record_answers (run rules events).records = ap (λ (w : World). record_answers w.records) is in
    let sends : reading.sends ≡ sends_of (run rules events).records = ap (λ (w : World). sends_of w.records) is in
    let takes : reading.takes ≡ take_lines_of rules (run rules events).records = ap (λ (w : World). take_lines_of rules w.records) is in
    let many : reading.events ≡ length events = ap (λ (w : World). length w.records) is ∙ one_record_each rules events in
    record {
      reads = run_text_is_read rules events h.short h.asks;
      verdict = agrees_by reading events (lists_right rules events s.broken reading h group lines answers)
          (events_right rules events reading h group lines sends takes) many;
    }

-- ---- what is claimed

unballoted_is_fit : (rules : Rules) (events : List Event) → IsRunWithinScriptLimits rules events → AreOfBytes events → NoBallot (run rules events) → IsFit rules events
unballoted_is_fit rules events short bytes none =
    let holds = unballoted_runs_hold rules events short.founds none in
    record {
      short = short;
      asks = all_ask events short.bodies bytes;
      segment = holds.segment;
      once = holds.once;
      sent = holds.sent;
      lists = unballoted_group_lists_fit rules events short.founds none;
    }

lawful_is_fit : (rules : Rules) (events : List Event) → IsRunWithinScriptLimits rules events → AreOfBytes events → broken_at rules events ≡ None → IsFit rules events
lawful_is_fit rules events short bytes whole =
    let all : lawful_front rules events ≡ events = ap (events_before_break events) whole in
    let front = (headline_holds rules events short.founds).front in
    record {
      short = short;
      asks = all_ask events short.bodies bytes;
      segment = subst (λ (es : List Event). Segment rules (run rules es)) all front.segment;
      once = subst (λ (es : List Event). Once (run rules es)) all front.once;
      sent = subst (λ (es : List Event). Sent rules es) all front.sent;
      lists = lists_of_runs_fit rules events short.founds whole;
    }

pub lawful_texts_agree : LawfulTextsAgree
lawful_texts_agree rules events short bytes one = ⊎_elim
    (λ whole. fit_agrees rules events (lawful_is_fit rules events short bytes whole))
    (λ none. fit_agrees rules events (unballoted_is_fit rules events short bytes none))
    one

pub runs_have_their_texts : RunsHaveTheirTexts
runs_have_their_texts rules events short bytes = run_text_is_read rules events short (all_ask events short.bodies bytes)
