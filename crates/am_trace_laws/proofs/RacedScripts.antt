-- The events of a race are within the limits of scripts.
use Rattle.am_trace_laws.proofs.ScriptWords.{◌≡◌, ℕ, zero, suc, ◌+◌, ◌<◌, ◌≤◌, ◌==◌, not, true, false, true≢false, is_some, List, [], ◌∷◌, ◌++◌, length, Some, refl}
use Rattle.am_trace_laws.proofs.ScriptWords.{sym, ap, ◌∙◌, subst, arith, ⊎_elim, All, and_parts, nat_tests, length-map, length-append, All-map, All-weaker}
use Rattle.am_trace_laws.proofs.ScriptWords.{none-some, slice_get_within, most_events_of_run, most_bytes_of_body, place_of_name, Outcome, Letter, letters_of_records, letter_at, Act, Record}
use Rattle.am_trace_laws.proofs.ScriptWords.{RacePlan, ThreadPlan, Node, World, current, world_after_act, run, BodyIsWithinLimit, NodeNumbers, number_bounds_hold_in_runs, IsCount, ActWithin}
use Rattle.am_trace_laws.proofs.ScriptWords.{EventWithin, CallWithin, ThreadWithin, RaceWithin, EachComesNext, has_stopped, own_answer, send_answer, ballot_answer}
use Rattle.am_trace_laws.proofs.ScriptWords.{sent_request, same_act, asks, IsLawfulRecord, terms_of, IsLegalWithTags, calls_of, is_ready, round_in, is_turn_part, of_call}
use Rattle.am_trace_laws.proofs.ScriptWords.{own_of, up_to_last, world_after, letter_lost_by_part, is_waited, is_least, is_turn_of, is_turn, events_of_records, told_world_is_events_run, stopped_names_are_set}
use Rattle.am_trace_laws.proofs.ScriptWords.{HasBody, ThreadHasBodies, RacesHaveScripts}
use Rattle.am_race_laws.specs.Plans.{is_call}
use Rattle.am_trace_laws.proofs.{RacedBodies.race_sends_have_planned_bodies, Letters.record_sends_nine_at_most, Letters.letters_le_nine_each_record, Own.unanswered_send_has_next_request, Own.unanswered_reset_has_next_round}
use Rattle.am_trace_laws.proofs.{Planned.same_bytes_gives_equal_lists, Planned.all_rest_of_each_record, Planned.all_of_append_gives_first, Planned.ActPropertyIsKept, Planned.record_is_turn_or_planned, Told.legal_journal_follows_lawful, Told.follows_of_journal_front}
use Rattle.am_trace_laws.proofs.{Told.name_acting_at_record, Told.record_of_act_tells_step}
use Rattle.am_base.specs.declared.event.NodeEvent.TheVariants as does
use Rattle.am_group.specs.declared.event.Act.TheVariants as act

-- ---- what a call asks

-- what a call asks at its end has a number that is a count
abbrev AsksCount : Act → Outcome → List Letter → Type 0
AsksCount (act.Send body) o letters = IsCount (sent_request o)
AsksCount (act.Reset least resilience) o letters = IsCount (round_in letters)
AsksCount _ o letters = Unit {0}

-- a call's own act that isn't answered
record IsGood (r : Record) : Type 0 where
  asked : is_some (own_answer r.event.act r.outcome) ≡ false → AsksCount r.event.act r.outcome r.packets

count_is : (a b : ℕ) → (a == b) ≡ true → IsCount b → IsCount a
count_is a b is h = let same : a ≡ b = grind (arith, nat_tests) in subst IsCount (sym same) h

asks_within : (a : Act) (o : Outcome) (letters : List Letter) (b : Act) → AsksCount a o letters → asks a o letters b ≡ true → ActWithin b
asks_within (act.Send body) o letters (act.Done req) count h = count_is req (sent_request o) h count
asks_within (act.Reset least resilience) o letters (act.Ask round) count h = count_is round (round_in letters) h count
asks_within act.Join o letters act.State count h = tt
asks_within act.Leave o letters act.State count h = tt
asks_within _ o letters _ count h = absurd (true≢false (sym h))

-- ---- planned acts

planned_within : (a b : Act) → same_act a b ≡ true → ActWithin a → ActWithin b
planned_within (act.Send x) (act.Send y) h within = subst (λ (z : List ℕ). length z ≤ most_bytes_of_body) (same_bytes_gives_equal_lists x y h) within
planned_within (act.Reset x y) (act.Reset z u) h within =
    let parts = and_parts (x == z) (y == u) h in
    let one = parts.0 in
    let two = parts.1 in
    let least : x ≡ z = grind (arith, nat_tests) in
    let resilience : y ≡ u = grind (arith, nat_tests) in
    subst (λ (n : ℕ). (0 < n) × (n ≤ 16) × (u ≤ 15)) least (subst (λ (n : ℕ). (0 < x) × (x ≤ 16) × (n ≤ 15)) resilience within)
planned_within act.Take act.Take h within = tt
planned_within act.Join act.Join h within = tt
planned_within act.Leave act.Leave h within = tt
planned_within act.Stop act.Stop h within = tt
planned_within _ _ h within = absurd (true≢false (sym h))

-- what a call within its limits is
pub call_within_limits_is_call : (a : Act) → CallWithin a → (is_call a ≡ true) × ActWithin a
call_within_limits_is_call (act.Send body) h = (refl, h)
call_within_limits_is_call (act.Reset least resilience) h = (refl, h)
call_within_limits_is_call act.Take h = (refl, tt)
call_within_limits_is_call act.Join h = (refl, tt)
call_within_limits_is_call act.Leave h = (refl, tt)
call_within_limits_is_call act.Stop h = (refl, tt)
call_within_limits_is_call _ h = absurd h

-- ---- letters

letter_low : (letters : List Letter) (number : ℕ) (letter : Letter) → letter_at letters number ≡ Some letter → (0 < number) × (number ≤ length letters)
letter_low letters zero letter is = absurd (none-some letter is)
letter_low letters (suc k) letter is = let low = slice_get_within letters k letter is in (omega arith, omega arith)

kept : ActPropertyIsKept ActWithin IsGood
kept = record {
  take_ = tt;
  planned = planned_within;
  asked = λ own b good unanswered h. asks_within own.event.act own.outcome own.packets b (good.asked unanswered) h;
}

-- ---- a journal

module _ (plan : RacePlan) (journal : List Record) (within : RaceWithin plan) (threads : All ThreadHasBodies plan.threads) (few : length journal ≤ most_events_of_run)
    (legal : IsLegalWithTags plan (calls_of plan) journal) where
  follows : EachComesNext (IsLawfulRecord (terms_of plan)) journal
  follows = legal_journal_follows_lawful plan (calls_of plan) journal legal

  bodies : All (λ (r : Record). BodyIsWithinLimit r.event.act) journal
  bodies = All-weaker (λ (r : Record). HasBody r.event.act) (λ (r : Record). BodyIsWithinLimit r.event.act) (λ r h. h.within) journal
      (race_sends_have_planned_bodies plan journal threads legal)

  -- ---- what comes before a record

  module _ (before rest : List Record) (r : Record) (is : journal ≡ before ++ r ∷ rest) where
    begins : EachComesNext (IsLawfulRecord (terms_of plan)) before
    begins = follows_of_journal_front (IsLawfulRecord (terms_of plan)) journal before (r ∷ rest) follows is

    own : IsLawfulRecord (terms_of plan) before r
    own = follows before rest r is

    shorter : length before < length journal
    shorter = let sum = length-append before (r ∷ rest) in let same = ap length is in omega arith

    numbers : (name : ℕ) → (g : ℕ) × NodeNumbers (length before) g ((world_after plan.founding before).nodes name)
    unfolding events_of_records
    numbers name =
        let told_run = told_world_is_events_run (terms_of plan) before begins in
        let many : length (events_of_records before) ≡ length before = length-map before (λ (q : Record). q.event) in
        let g = length (run plan.founding (events_of_records before)).group in (
          g,
          subst (λ (w : World). NodeNumbers (length before) g (w.nodes name)) (sym told_run)
              (subst (λ (k : ℕ). NodeNumbers k g ((run plan.founding (events_of_records before)).nodes name)) many
              ((number_bounds_hold_in_runs plan.founding (events_of_records before)).each name)),
        )

    -- the request of a send that is queued
    sends : (body : List ℕ) → r.event.act ≡ act.Send body → is_some (send_answer r.outcome) ≡ false → IsCount (sent_request r.outcome)
    sends body does_send unanswered =
        let m = (world_after plan.founding before).nodes (name_acting_at_record plan.founding before r) in
        let t = record_of_act_tells_step plan before r (does.Send body) begins own (λ w name. ap (λ (a : Act). world_after_act w r.event name a) does_send) in
        let asked = unanswered_send_has_next_request m body (ap (λ (o : Outcome). is_some (send_answer o)) (sym t.outcome) ∙ unanswered) in
        let request : sent_request r.outcome ≡ m.sends.last + 1 = ap sent_request t.outcome ∙ asked in
        let low = (numbers (name_acting_at_record plan.founding before r)).1.requests in
        let less = shorter in
        (omega arith, omega arith)

    -- the round of a reset that began
    resets : (least resilience : ℕ) → r.event.act ≡ act.Reset least resilience → is_some (ballot_answer r.outcome) ≡ false → IsCount (round_in r.packets)
    resets least resilience does_reset unanswered =
        let m = (world_after plan.founding before).nodes (name_acting_at_record plan.founding before r) in
        let t = record_of_act_tells_step plan before r (does.Reset least resilience) begins own
        (λ w name. ap (λ (a : Act). world_after_act w r.event name a) does_reset)
        in
        let asked = unanswered_reset_has_next_round m least resilience (ap (λ (o : Outcome). is_some (ballot_answer o)) (sym t.outcome) ∙ unanswered) in
        let round : round_in r.packets ≡ m.core.promise.round + 1 = ap round_in t.packets ∙ asked in
        let low = (numbers (name_acting_at_record plan.founding before r)).1.round in
        let less = shorter in
        (omega arith, omega arith)

    good : IsGood r
    unfolding own_answer
    good = record { asked = by_act r.event.act refl }
      where
        by_act : (a : Act) → r.event.act ≡ a → is_some (own_answer a r.outcome) ≡ false → AsksCount a r.outcome r.packets
        by_act (act.Send body) same unanswered = sends body same unanswered
        by_act (act.Reset least resilience) same unanswered = resets least resilience same unanswered
        by_act _ same unanswered = tt

    -- at most nine letters
    packets : length r.packets ≤ 9
    packets =
        let first = subst (All (λ (q : Record). BodyIsWithinLimit q.event.act)) is bodies in
        let less = shorter in
        record_sends_nine_at_most plan before r within.may_found (all_of_append_gives_first (λ (q : Record). BodyIsWithinLimit q.event.act) before (r ∷ rest) first) (omega arith) begins own

  all_good : All IsGood journal
  all_good = all_rest_of_each_record IsGood journal [] journal (λ before rest r is. good before rest r is) refl

  all_few : EachComesNext (λ before r. length r.packets ≤ 9) journal
  all_few before rest r is = packets before rest r is

  calls_within : All (λ (thread : ThreadPlan). All ActWithin thread.calls) plan.threads
  calls_within = All-weaker ThreadWithin (λ (thread : ThreadPlan). All ActWithin thread.calls)
      (λ thread t. All-weaker CallWithin ActWithin (λ a call. (call_within_limits_is_call a call).1) thread.calls t.calls) plan.threads within.each

  -- ---- a record

  module _ (before rest : List Record) (r : Record) (is : journal ≡ before ++ r ∷ rest) where
    heard : (number : ℕ) → r.event.act ≡ act.Hear number → IsCount number
    heard number hears =
        let sent = (own before rest r is).hears number hears in
        let at = letter_low (letters_of_records before) number sent.letter sent.there in
        let many = letters_le_nine_each_record before (follows_of_journal_front (λ b q. length q.packets ≤ 9) journal before (r ∷ rest) all_few is) in
        let less = shorter before rest r is in
        let low = at.0 in
        let high = at.1 in
        (low, omega arith)

    given : (other : ℕ) → has_stopped before other ≡ true → other < 256
    given other gone = let low = (stopped_names_are_set (terms_of plan) before (begins before rest r is)).low other gone in omega arith

    turn_within : is_turn_part r.by.part ≡ true → ActWithin r.event.act
    unfolding is_turn
    turn_within turn =
        let w = world_after plan.founding before in
        let name = current w (place_of_name r.event.node) in
        let t = (and_parts (not (is_ready (w.nodes name) (own_of (of_call r.by.caller r.by.call before)))) _ (legal.turns before rest r is turn)).1 in
        by_act (up_to_last (place_of_name name) r.by.caller before) (w.nodes name) name (letter_lost_by_part r.by.part) r.event.act refl t
      where
        by_act : (knew : List Record) (m : Node) (name lost : ℕ) (a : Act) → r.event.act ≡ a → is_turn_of plan before knew m name r.by.caller a lost ≡ true
            → ActWithin a
        by_act knew m name lost act.Tick same h = tt
        by_act knew m name lost (act.Hear number) same h = heard number same
        by_act knew m name lost (act.GiveUp other) same h =
            let waited = (and_parts (is_waited m before other) (is_least m knew other) (and_parts (lost == 0) _ h).1).0 in
            given other (and_parts _ (has_stopped before other) waited).1
        by_act knew m name lost _ same h = absurd (true≢false (sym h))

    event_within : EventWithin r.event
    event_within = (
      (own before rest r is).node,
      ⊎_elim turn_within (λ fits. fits)
          (record_is_turn_or_planned ActWithin IsGood kept plan journal before rest r calls_within all_good legal is),
    )

pub races_have_scripts : RacesHaveScripts
races_have_scripts plan journal within threads few legal = record {
  may_found = within.may_found;
  each = All-map EventWithin (λ (r : Record). r.event) journal (all_rest_of_each_record (λ (r : Record). EventWithin r.event) journal [] journal
      (λ before rest r is. event_within plan journal within threads few legal before rest r is) refl);
}
