-- The text of a run is read as its records, its list and its logs.
use Rattle.am_trace_laws.proofs.Words.{◌≡◌, ℕ, zero, suc, ◌+◌, ◌*◌, ◌/◌, ◌%◌, ◌≤◌, ◌==◌, if◌then◌else◌, List, [], ◌∷◌, ◌++◌, length, map, refl, sym, ap, ◌∙◌}
use Rattle.am_trace_laws.proofs.Words.{arith, subst, Ok, Option, Some, None, All, flat_map, range_with_len, All-head, All-tail, greatest_number, Rules, Entry}
use Rattle.am_trace_laws.proofs.Words.{Outcome, split_on_bool, Act, Event, Record, acting_name_of_record, entry_taken_by_outcome, entries_given_to, deliveries, founders_entry, has_log_by_status, Decided, World}
use Rattle.am_trace_laws.proofs.Words.{happens, world_after_events, run, logs, Watch, watch_start, watch_event, watch_events, watch_run, greatest_complete, is_lawful, first_unlawful_event_so_far}
use Rattle.am_trace_laws.proofs.Words.{play_text_of, play_text, watched_is_run, one_record_each, run_begins_longer_run, IsOfBytes, Reading, read_text, IsRunWithinScriptLimits, number_bounds_hold_in_runs}
use Rattle.am_trace_laws.proofs.Words.{IsSayable, AsksBytes, IsAnswerOfAct, ReturnAnswerHasLife, IsSound, LivesTold, lives_are_told, records_are_sound, short_runs_stay_in_range, IsRaised}
use Rattle.am_trace_laws.proofs.Words.{GivesRaised}
use Rattle.am_trace_laws.proofs.Words.{GaveRaised, resiliences_hold, reading_of}
use Rattle.am_trace_laws.proofs.Reading.{RecordIsReadable, RecordsAreReadable, EntryIsReadable, EntriesAreReadable, DeliveriesAreReadable, LogsAreReadable, BreakNumberIsWithinLimits}
use Rattle.am_trace_laws.proofs.{Chars.OutcomeEntryIsBytes, Outcomes.QueuedRequestIsNumber, Outcomes.OutcomeAnswersRequest, Outcomes.TakenEntryIsRead, Outcomes.CountedActIsWithinLimits, Whole.WholePrintIsReadable, Whole.whole_reading_of}
use Rattle.am_trace_laws.proofs.{Whole.whole_text_is_read, Entries.sayable_entry_body_is_bytes, Entries.printed_entry_is_read}
use Rattle.am_base.specs.declared.outcome.Outcome.TheVariants as said
use Rattle.am_group.specs.declared.event.Act.TheVariants as acts

-- ---- records

asks_bytes : (act : Act) → AsksBytes act → IsOfBytes act
asks_bytes (acts.Send body) asks = asks.0
asks_bytes _ asks = tt

gives_bytes : (act : Act) (outcome : Outcome) → IsAnswerOfAct act outcome → OutcomeEntryIsBytes outcome
gives_bytes act (said.Took number entry) answer = sayable_entry_body_is_bytes entry answer.2
gives_bytes act _ answer = tt

queued : (act : Act) (outcome : Outcome) → IsAnswerOfAct act outcome → QueuedRequestIsNumber outcome
queued act (said.Queued req) answer = answer.1
queued act _ answer = tt

same_asked : (asked req : ℕ) → acts.Done asked ≡ acts.Done req → asked ≡ req
same_asked asked req is = cc

answered : (asked : ℕ) (outcome : Outcome) → IsAnswerOfAct (acts.Done asked) outcome → OutcomeAnswersRequest asked outcome
answered asked (said.Sent req number) answer = (same_asked asked req answer.0, answer.1, answer.2)
answered asked _ answer = tt

taken : (rules : Rules) (act : Act) (outcome : Outcome) → IsAnswerOfAct act outcome → GivesRaised rules outcome → TakenEntryIsRead rules outcome
taken rules act (said.Took number entry) answer raised = (answer.1, printed_entry_is_read rules entry answer.2 raised)
taken rules act _ answer raised = tt

counted : (rules : Rules) (act : Act) (outcome : Outcome) → AsksBytes act → IsAnswerOfAct act outcome → ReturnAnswerHasLife act outcome → GivesRaised rules outcome
    → CountedActIsWithinLimits rules act outcome
counted rules (acts.Send body) outcome asks answer back raised = (asks.0, asks.1, queued (acts.Send body) outcome answer)
counted rules (acts.Done req) outcome asks answer back raised = answered req outcome answer
counted rules acts.Take outcome asks answer back raised = taken rules acts.Take outcome answer raised
counted rules acts.Return outcome asks answer back raised = back
counted rules _ outcome asks answer back raised = tt

shown : (rules : Rules) (r : Record) → IsSound r → GivesRaised rules r.outcome → RecordIsReadable rules r
shown rules r sound raised = record {
  asks = asks_bytes r.event.act sound.asks;
  gives = gives_bytes r.event.act r.outcome sound.answer;
  counts = counted rules r.event.act r.outcome sound.asks sound.answer sound.back raised;
}

all_shown : (rules : Rules) (records : List Record) → All IsSound records → All (GaveRaised rules) records → RecordsAreReadable rules records
all_shown rules [] sound raised = tt
all_shown rules (r ∷ rs) sound raised = (
  shown rules r (All-head IsSound r rs sound) (All-head (GaveRaised rules) r rs raised),
  all_shown rules rs (All-tail IsSound r rs sound) (All-tail (GaveRaised rules) r rs raised),
)

-- ---- the list and the logs

listed : (rules : Rules) (e : Entry) → IsSayable e → IsRaised rules e → EntryIsReadable rules e
listed rules e say raised = record { bytes = sayable_entry_body_is_bytes e say; read = printed_entry_is_read rules e say raised }

all_listed : (rules : Rules) (es : List Entry) → All IsSayable es → All (IsRaised rules) es → EntriesAreReadable rules es
all_listed rules [] say raised = tt
all_listed rules (e ∷ es) say raised = (
  listed rules e (All-head IsSayable e es say) (All-head (IsRaised rules) e es raised),
  all_listed rules es (All-tail IsSayable e es say) (All-tail (IsRaised rules) e es raised),
)

given_more : (rules : Rules) (xs ys : List (ℕ × Entry)) → DeliveriesAreReadable rules xs → DeliveriesAreReadable rules ys → DeliveriesAreReadable rules (xs ++ ys)
given_more rules [] ys h k = k
given_more rules (x ∷ xs) ys h k = (h.0, given_more rules xs ys h.1 k)

taken_given : (rules : Rules) (act : Act) (outcome : Outcome) → IsAnswerOfAct act outcome → GivesRaised rules outcome → DeliveriesAreReadable rules (entry_taken_by_outcome outcome)
taken_given rules act (said.Took number entry) answer raised = (record { number = answer.1; entry = listed rules entry answer.2 raised }, tt)
taken_given rules act _ answer raised = tt

all_given : (rules : Rules) (name : ℕ) (records : List Record) → All IsSound records → All (GaveRaised rules) records → DeliveriesAreReadable rules (deliveries records name)
all_given rules name [] sound raised = tt
all_given rules name (r ∷ rs) sound raised =
    let answer = (All-head IsSound r rs sound).answer in
    given_more rules (entries_given_to name r) (deliveries rs name)
    (split_on_bool (acting_name_of_record r == name)
    (λ t. rw t (taken_given rules r.event.act r.outcome answer (All-head (GaveRaised rules) r rs raised)))
    (λ f. rw f tt))
    (all_given rules name rs (All-tail IsSound r rs sound) (All-tail (GaveRaised rules) r rs raised))

logs_more : (rules : Rules) (xs ys : List (ℕ × List (ℕ × Entry))) → LogsAreReadable rules xs → LogsAreReadable rules ys → LogsAreReadable rules (xs ++ ys)
logs_more rules [] ys h k = k
logs_more rules (x ∷ xs) ys h k = (h.0, h.1, logs_more rules xs ys h.2 k)

logs_from : (rules : Rules) (w : World) (a n : ℕ) → a + n ≤ 256 → ((name : ℕ) → DeliveriesAreReadable rules (deliveries w.records name))
    → LogsAreReadable rules (flat_map (λ name. if has_log_by_status (w.nodes name).status then (name, deliveries w.records name) ∷ [] else [])
    (map (λ rank. rank / 16 + 16 * (rank % 16)) (range_with_len a n)))
logs_from rules w a zero low given = tt
logs_from rules w a (suc n) low given =
    let name = a / 16 + 16 * (a % 16) in
    logs_more rules (if has_log_by_status (w.nodes name).status then (name, deliveries w.records name) ∷ [] else []) _
    (split_on_bool (has_log_by_status (w.nodes name).status) (λ t. rw t (omega arith, given name, tt)) (λ f. rw f tt))
    (logs_from rules w (a + 1) n (omega arith) given)

all_logs : (rules : Rules) (w : World) → ((name : ℕ) → DeliveriesAreReadable rules (deliveries w.records name)) → LogsAreReadable rules (logs w)
all_logs rules w given = logs_from rules w 0 256 (omega arith) given

-- ---- where a run broke

MarkUpTo : ℕ → Option ℕ → Type 0
MarkUpTo most None = Unit {0}
MarkUpTo most (Some number) = number ≤ most

marked_now : (w : World) (v : Decided) (count : ℕ) (broken : Option ℕ) → MarkUpTo count broken → MarkUpTo (count + 1) (first_unlawful_event_so_far w v (count + 1) broken)
unfolding MarkUpTo
marked_now w v count (Some k) h = omega arith
marked_now w v count None h = split_on_bool (is_lawful w v) (λ t. rw t tt) (λ f. rw f (omega arith))

marked : (s : Watch) (es : List Event) → MarkUpTo s.count s.broken → MarkUpTo (s.count + length es) (watch_events s es).broken
unfolding watch_events watch_event
marked s [] h = let z : s.count ≡ s.count + 0 = omega arith in subst (λ (n : ℕ). MarkUpTo n s.broken) z h
marked s (e ∷ es) h =
    let z : s.count + 1 + length es ≡ s.count + length (e ∷ es) = omega arith in
    let w = happens s.world e in
    subst (λ (n : ℕ). MarkUpTo n (watch_events (watch_event s e) es).broken) z
    (marked (watch_event s e) es (marked_now w (greatest_complete w s.complete w.views) s.count s.broken h))

mark_low : (most : ℕ) (broken : Option ℕ) → most ≤ greatest_number → MarkUpTo most broken → BreakNumberIsWithinLimits broken
unfolding MarkUpTo
mark_low most None low h = tt
mark_low most (Some number) low h = omega arith

start_mark : (rules : Rules) → MarkUpTo 0 (watch_start rules).broken
unfolding MarkUpTo
start_mark rules = tt

run_marked : (rules : Rules) (events : List Event) → MarkUpTo (length events) (watch_run rules events).broken
run_marked rules events =
    let z : 0 + length events ≡ length events = omega arith in
    subst (λ (n : ℕ). MarkUpTo n (watch_run rules events).broken) z (marked (watch_start rules) events (start_mark rules))

-- ---- the text

-- the list begins with the founders' view
pub group_begins_with_founders_view : (rules : Rules) (events : List Event) → (rest : List Entry) × ((run rules events).group ≡ founders_entry rules ∷ rest)
unfolding world_after_events
group_begins_with_founders_view rules events = (run_begins_longer_run rules events 0).group

text_by : (rules : Rules) (s : Watch) (group : List Entry) (first : Entry) (others : List Entry) → group ≡ first ∷ others → s.world.group ≡ group
    → WholePrintIsReadable rules s.world.records first others (logs s.world) s.broken
    → read_text (play_text rules s.world.records s.world.group (logs s.world) s.broken)
    ≡ Ok (whole_reading_of rules s.world.records (first ∷ others) (logs s.world) s.broken)
text_by rules s group first others is same printed =
    ap (λ (g : List Entry). read_text (play_text rules s.world.records g (logs s.world) s.broken)) (same ∙ is)
    ∙ whole_text_is_read rules s.world.records first others (logs s.world) s.broken printed

printed_run : (rules : Rules) (events : List Event) (rest : List Entry) → IsRunWithinScriptLimits rules events → All (λ (e : Event). AsksBytes e.act) events
    → (run rules events).group ≡ founders_entry rules ∷ rest
    → WholePrintIsReadable rules (run rules events).records (founders_entry rules) rest (logs (run rules events)) (watch_run rules events).broken
printed_run rules events rest short asks group =
    let w = run rules events in
    let sound = records_are_sound rules events (short_runs_stay_in_range rules events short) asks in
    let raised = resiliences_hold rules events short.founds in
    let few = short.few in
    let many = one_record_each rules events in
    let long = (number_bounds_hold_in_runs rules events).group in
    let same = ap (λ (g : List Entry). length g) group in
    record {
      told = (lives_are_told rules events).each;
      shown = all_shown rules w.records sound.records raised.given;
      few = omega arith;
      listed = subst (EntriesAreReadable rules) group (all_listed rules w.group sound.group raised.group);
      short = omega arith;
      given = all_logs rules w (λ name. all_given rules name w.records sound.records raised.given);
      mark = mark_low (length events) (watch_run rules events).broken (omega arith) (run_marked rules events);
    }

read_run : (rules : Rules) (s : Watch) (rest : List Entry) → LivesTold s.world → s.world.group ≡ founders_entry rules ∷ rest
    → whole_reading_of rules s.world.records (founders_entry rules ∷ rest) (logs s.world) s.broken ≡ reading_of rules s
read_run rules s rest told group =
    ap (λ (g : List Entry). whole_reading_of rules s.world.records g (logs s.world) s.broken) (sym group)
    ∙ ap (λ (names : List ℕ). record (whole_reading_of rules s.world.records s.world.group (logs s.world) s.broken) { names = names }) told.last

-- the text of a run
pub run_text_is_read : (rules : Rules) (events : List Event) → IsRunWithinScriptLimits rules events → All (λ (e : Event). AsksBytes e.act) events
    → read_text (play_text_of rules events) ≡ Ok (reading_of rules (watch_run rules events))
run_text_is_read rules events short asks =
    let s = watch_run rules events in
    let same : run rules events ≡ s.world = sym (watched_is_run rules events) in
    let begins = group_begins_with_founders_view rules events in
    let group : s.world.group ≡ founders_entry rules ∷ begins.0 = ap (λ (w : World). w.group) (sym same) ∙ begins.1 in
    let printed = subst (λ (w : World). WholePrintIsReadable rules w.records (founders_entry rules) begins.0 (logs w) s.broken) same
    (printed_run rules events begins.0 short asks begins.1) in
    let told = subst LivesTold same (lives_are_told rules events) in
    text_by rules s s.world.group (founders_entry rules) begins.0 group refl printed
    ∙ ap (λ (r : Reading). Ok r) (read_run rules s begins.0 told group)
