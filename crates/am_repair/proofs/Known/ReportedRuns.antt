-- In each run what anybody knows a name to have taken was taken, or is no more than its own base.
use Rattle.am_repair.proofs.RepairWords.{eqb-true, number_equals_itself, MayFound, Rules, has, Outcome, Event, actor_is_below_256, HeardWelcomeImageIsUsed, HeardStampsHaveNames, heard_stamps_have_names, split_on_bool, Node}
use Rattle.am_repair.proofs.RepairWords.{Packet, ◌≡◌, ℕ, ◌<◌, ◌≤◌, ◌==◌, List, refl, sym, ap, ◌∙◌, subst, arith, All, All-nil, All-append, All-weaker, Letter}
use Rattle.am_repair.proofs.RepairWords.{World, start, world_with_step, run, packet_heard_by_act, Cause, hears, LetterSays, Changes, no_change, changed, acting_name}
use Rattle.am_repair.proofs.RepairWords.{WasSentTo, IsCause, all_gives_item_at, EventsKeep, StepsKeepLaw, HasSameWorldParts, events_keep_by_steps, runs_keep_what_events_keep, TrimsOnlyTakenAlongStep, changes_trim_only_taken, WorldTrimsOnlyTaken}
use Rattle.am_repair.proofs.RepairWords.{heard_welcome_image_is_used, each_node_trims_only_taken, events_trim_only_taken, start_trims_only_taken, KnownIsTaken}
use Rattle.am_repair.proofs.Known.Reported.{ReportTellsTaken, CauseReportsTaken, ReportsAreTruly, BaseAndTakenRise, reports_stay_true_by_change, base_and_taken_rise, letter_of_node_reports_taken}

-- ---- a step

record Told (nodes : ℕ → Node) (m n : Node) : Type 0 where
  truly : ReportsAreTruly nodes n
  rises : BaseAndTakenRise m n

told_changes : (rules : Rules) (nodes : ℕ → Node) {c : Cause} {o : Outcome} (m n : Node) → HeardStampsHaveNames c → HeardWelcomeImageIsUsed c → CauseReportsTaken nodes c
    → Changes c o m n → TrimsOnlyTakenAlongStep rules m → ReportsAreTruly nodes m → Told nodes m n
told_changes rules nodes m n names used w no_change a h = record { truly = h; rises = record { base = omega arith; taken = omega arith } }
told_changes rules nodes m n names used w (changed {n = x} one more) a h =
    let next = told_changes rules nodes x n names used w more (changes_trim_only_taken rules m x names used (changed one no_change) a)
    (reports_stay_true_by_change nodes _ _ m x w a.blanked one h) in
    let r = base_and_taken_rise _ _ m x a.blanked a.owned.fronts one in
    record { truly = next.truly; rises = record { base = omega arith; taken = omega arith } }

-- ---- worlds

abbrev LetterTaken : (ℕ → Node) → Letter → Type 0
LetterTaken nodes l = ReportTellsTaken nodes l.packet

pub record AllReportsAreTrue (rules : Rules) (w : World) : Type 0 where
  pub laws : WorldTrimsOnlyTaken rules w
  pub each : (i : ℕ) → i < 256 → ReportsAreTruly w.nodes (w.nodes i)
  pub letters : All (LetterTaken w.nodes) w.letters

more_taken : (old new : ℕ → Node) → ((name : ℕ) → (old name).core.taken ≤ (new name).core.taken) → (p : Packet) → ReportTellsTaken old p → ReportTellsTaken new p
more_taken old new up (Packet.Request s v report req body) h = let a = up s in omega arith
more_taken old new up (Packet.Spread s v report req body) h = let a = up s in omega arith
more_taken old new up (Packet.Ack s v report) h = let a = up s in omega arith
more_taken old new up (Packet.Nack s v report) h = let a = up s in omega arith
more_taken old new up (Packet.LeaveAsk s v report) h = let a = up s in omega arith
more_taken old new up _ h = tt

more_truly : (old new : ℕ → Node) → ((name : ℕ) → (old name).core.taken ≤ (new name).core.taken) → (m : Node) → ReportsAreTruly old m → ReportsAreTruly new m
more_truly old new up m h name other = let a = h name other in let b = up name in omega arith

pub cause_of_run_reports_taken : (w : World) (e : Event) (c : Cause) → All (LetterTaken w.nodes) w.letters → IsCause w (acting_name w e) e.act c → CauseReportsTaken w.nodes c
cause_of_run_reports_taken w e (hears p) all cause =
    let was : WasSentTo w (acting_name w e) e.act p = cause in
    subst (ReportTellsTaken w.nodes) was.is (all_gives_item_at (LetterTaken w.nodes) w.letters (packet_heard_by_act e.act) was.letter all was.there)
cause_of_run_reports_taken w e _ all cause = tt

told_step : (rules : Rules) → StepsKeepLaw (WorldTrimsOnlyTaken rules) (AllReportsAreTrue rules)
unfolding world_with_step
told_step rules w e c s cause effect laws h =
    let name = acting_name w e in
    let n = s.node in
    let few = actor_is_below_256 rules w e h.laws.blanks.base.named in
    let a = told_changes rules w.nodes (w.nodes name) n (heard_stamps_have_names rules w e c h.laws.blanks.base cause) (heard_welcome_image_is_used rules w e c h.laws cause)
    (cause_of_run_reports_taken w e c h.letters cause) effect.changes (each_node_trims_only_taken rules w name few h.laws) (h.each name few) in
    let v = world_with_step w e name s in
    let itself_ = number_equals_itself name in
    let here : v.nodes name ≡ n = rw itself_ refl in
    let up : (other : ℕ) → (w.nodes other).core.taken ≤ (v.nodes other).core.taken = λ other. split_on_bool (other == name)
    (λ t. let is = eqb-true other name t in rw (t, is) a.rises.taken) (λ f. rw f (omega arith)) in
    let sender = effect.sender in
    let who : n.core.who ≡ name = ap (λ (x : Node). x.core.who) (sym here) ∙ laws.blanks.base.named.who name in
    let same_who : sender.core.who ≡ name = sym (ap (λ (x : Node). x.core.who) effect.is) ∙ who in
    let same_taken : n.core.taken ≡ sender.core.taken = ap (λ (x : Node). x.core.taken) effect.is in
    let at : (v.nodes sender.core.who).core.taken ≡ n.core.taken = ap (λ k. (v.nodes k).core.taken) same_who ∙ ap (λ (x : Node). x.core.taken) here in
    let low : sender.core.taken ≤ (v.nodes sender.core.who).core.taken = omega arith in
    record {
      laws = laws;
      each = λ other small. split_on_bool (other == name)
          (λ t. rw t (more_truly w.nodes v.nodes up n a.truly))
          (λ f. rw f (more_truly w.nodes v.nodes up (w.nodes other) (h.each other small)));
      letters = All-append (LetterTaken v.nodes) w.letters s.letters
          (All-weaker (LetterTaken w.nodes) (LetterTaken v.nodes) (λ l x. more_taken w.nodes v.nodes up l.packet x) w.letters h.letters)
          (All-weaker (LetterSays (w.nodes name) c sender) (LetterTaken v.nodes)
          (λ l x. letter_of_node_reports_taken v.nodes (w.nodes name) sender c l.to l.packet low x.says) s.letters effect.letters);
    }

told_same : (rules : Rules) (w v : World) → HasSameWorldParts w v → WorldTrimsOnlyTaken rules v → AllReportsAreTrue rules w → AllReportsAreTrue rules v
told_same rules w v same laws h = record {
  laws = laws;
  each = rw same.nodes h.each;
  letters = rw (same.nodes, same.letters) h.letters;
}

each_told : (rules : Rules) → EventsKeep (AllReportsAreTrue rules)
each_told rules = events_keep_by_steps (WorldTrimsOnlyTaken rules) (AllReportsAreTrue rules) (events_trim_only_taken rules) (λ w h. h.laws) (told_step rules) (told_same rules)

told_start : (rules : Rules) → MayFound rules → AllReportsAreTrue rules (start rules)
told_start rules may = record {
  laws = start_trims_only_taken rules may;
  each = λ i few name other. split_on_bool (has rules.founders i) (λ t. rw t (split_on_bool (has rules.founders name) (λ a. rw a (omega arith)) (λ b. rw b (omega arith))))
      (λ f. rw f (omega arith));
  letters = All-nil (LetterTaken (start rules).nodes);
}

pub reports_of_runs_are_true : (rules : Rules) (events : List Event) → MayFound rules → AllReportsAreTrue rules (run rules events)
reports_of_runs_are_true rules events may = runs_keep_what_events_keep (AllReportsAreTrue rules) (each_told rules) (start rules) events (told_start rules may)

pub known_is_taken : KnownIsTaken
known_is_taken rules events q name may few small =
    let all = reports_of_runs_are_true rules events may in
    let w = run rules events in
    let who = all.laws.blanks.base.named.who q in
    split_on_bool (name == q)
    (λ t. let is = eqb-true name q t in
    let own = (all.laws.each q few).fronts.reported in
    let a = ap (λ k. ((w.nodes q).reports k).taken) (is ∙ sym who) in
    let b = ap (λ k. (w.nodes k).core.taken) is in
    omega arith)
    (λ f. all.each q few name (ap (λ k. name == k) who ∙ f))
