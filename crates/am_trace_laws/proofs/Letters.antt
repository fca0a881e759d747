-- How many letters a race sends: nine at most for each record.
use Rattle.am_trace_laws.proofs.ScriptWords.{◌≡◌, ℕ, ◌+◌, ◌*◌, ◌≤◌, not, Bool, true, false, true≢false, if◌then◌else◌, List, [], ◌∷◌, ◌++◌, length, Option, Some}
use Rattle.am_trace_laws.proofs.ScriptWords.{None, refl, sym, ap, ◌∙◌, subst, arith, append-nil, All, length-append, length-map, flat_map-append, All-map}
use Rattle.am_trace_laws.proofs.ScriptWords.{most_events_of_run, MayFound, place_of_name, NodeEvent, Outcome, Letter, IsPacket, spelling, is_for, letters_of_records, letter_at, Act}
use Rattle.am_trace_laws.proofs.ScriptWords.{Event, Record, RacePlan, StepResult, step, hear_packet, step_sends_at_most_nine, World, current, is_stopped, world_with_record, world_with_step, world_after_node_event}
use Rattle.am_trace_laws.proofs.ScriptWords.{world_after_give_up, world_after_hearing, world_after_stop, world_after_act, happens, spelled_packet_is_heard, BodyIsWithinLimit, IsRunWithinScriptLimits, letters_are_packets, EachComesNext}
use Rattle.am_trace_laws.proofs.ScriptWords.{is_of_race, IsLawfulRecord, terms_of, world_after, events_of_records, told_world_is_events_run, journal_keeps_what_records_keep, told_record_is_its_event}
use Rattle.am_base.specs.declared.event.NodeEvent.TheVariants as does
use Rattle.am_group.specs.declared.event.Act.TheVariants as act

-- ---- an event

-- a world has at most nine letters more
record Few (w v : World) : Type 0 where
  few : length v.letters ≤ length w.letters + 9

few_if : (w : World) (b : Bool) (x y : World) → Few w x → Few w y → Few w (if b then x else y)
few_if w true x y f g = f
few_if w false x y f g = g

few_unchanged : (w : World) (e : Event) (o : Outcome) → Few w (world_with_record w e o)
unfolding world_with_record
few_unchanged w e o = record { few = omega arith }

few_stopped : (w : World) (e : Event) (o : Outcome) (stopped : List ℕ) → Few w (world_with_record (record w { stopped = stopped }) e o)
unfolding world_with_record
few_stopped w e o stopped = record { few = omega arith }

few_stepped : (w : World) (e : Event) (name : ℕ) (s : StepResult) → length s.letters ≤ 9 → Few w (world_with_step w e name s)
unfolding world_with_step
few_stepped w e name s low = record { few = (let sum = length-append w.letters s.letters in omega arith) }

few_done : (w : World) (e : Event) (name : ℕ) (event : NodeEvent) → Few w (world_after_node_event w e name event)
few_done w e name event =
    few_if w (is_stopped w name) _ _ (few_unchanged w e _) (few_stepped w e name (step (w.nodes name) event) (step_sends_at_most_nine (w.nodes name) event))

few_given_up : (w : World) (e : Event) (name other : ℕ) → Few w (world_after_give_up w e name other)
few_given_up w e name other =
    few_if w (is_stopped w name) _ _ (few_unchanged w e _) (few_if w (is_stopped w other) _ _
    (few_stepped w e name (step (w.nodes name) (does.GiveUp other)) (step_sends_at_most_nine (w.nodes name) (does.GiveUp other))) (few_unchanged w e _))

few_stop : (w : World) (e : Event) (name : ℕ) → Few w (world_after_stop w e name)
few_stop w e name = few_if w (is_stopped w name) _ _ (few_unchanged w e _) (few_stopped w e _ _)

-- all letters hold packets
abbrev ArePackets : List Letter → Type 0
ArePackets letters = (number : ℕ) (letter : Letter) → letter_at letters number ≡ Some letter → IsPacket letter.packet

few_heard : (w : World) (e : Event) (name : ℕ) (l : Option Letter) → ((letter : Letter) → l ≡ Some letter → IsPacket letter.packet)
    → Few w (world_after_hearing w e name (hear_packet (w.nodes name)) l)
few_heard w e name None packets = few_unchanged w e _
few_heard w e name (Some l) packets =
    let same = spelled_packet_is_heard (w.nodes name) l.packet (packets l refl) in
    few_if w (not (is_for l name)) _ _ (few_unchanged w e _) (few_if w (is_stopped w name) _ _ (few_unchanged w e _)
    (few_stepped w e name (hear_packet (w.nodes name) l.packet)
    (subst (λ (s : StepResult). length s.letters ≤ 9) same (step_sends_at_most_nine (w.nodes name) (does.Hear (spelling l.packet))))))

few_acts : (w : World) (e : Event) (name : ℕ) (a : Act) → is_of_race a ≡ true → ArePackets w.letters → Few w (world_after_act w e name a)
few_acts w e name (act.GiveUp other) race packets = few_given_up w e name other
few_acts w e name act.Stop race packets = few_stop w e name
few_acts w e name (act.Hear number) race packets = few_heard w e name (letter_at w.letters number) (λ letter there. packets number letter there)
few_acts w e name (act.Cut number keep) race packets = absurd (true≢false (sym race))
few_acts w e name act.Return race packets = absurd (true≢false (sym race))
few_acts w e name _ race packets = few_done w e name _

few_happen : (w : World) (e : Event) → is_of_race e.act ≡ true → ArePackets w.letters → Few w (happens w e)
unfolding happens
few_happen w e race packets = few_acts w e (current w (place_of_name e.node)) e.act race packets

-- ---- a record

-- the letters before a record hold packets
packets_before : (plan : RacePlan) (before : List Record) → MayFound plan.founding → All (λ (r : Record). BodyIsWithinLimit r.event.act) before
    → length before ≤ most_events_of_run → EachComesNext (IsLawfulRecord (terms_of plan)) before → ArePackets (world_after plan.founding before).letters
unfolding events_of_records
packets_before plan before founds bodies few follows number letter there =
    let is = told_world_is_events_run (terms_of plan) before follows in
    let many : length (events_of_records before) ≡ length before = length-map before (λ (r : Record). r.event) in
    let short : IsRunWithinScriptLimits plan.founding (events_of_records before) = record {
      founds = founds;
      bodies = All-map (λ (e : Event). BodyIsWithinLimit e.act) (λ (r : Record). r.event) before bodies;
      few = omega arith;
    }
    in
    letters_are_packets plan.founding (events_of_records before) short number letter (ap (λ (w : World). letter_at w.letters number) (sym is) ∙ there)

pub record_sends_nine_at_most : (plan : RacePlan) (before : List Record) (r : Record) → MayFound plan.founding → All (λ (q : Record). BodyIsWithinLimit q.event.act) before
    → length before ≤ most_events_of_run → EachComesNext (IsLawfulRecord (terms_of plan)) before → IsLawfulRecord (terms_of plan) before r → length r.packets ≤ 9
record_sends_nine_at_most plan before r founds bodies few follows own =
    let w = world_after plan.founding before in
    let more = few_happen w r.event own.act_ (packets_before plan before founds bodies few follows) in
    let same : w.letters ++ r.packets ≡ (happens w r.event).letters = ap (λ (v : World). v.letters) (told_record_is_its_event plan.founding before r own.next) in
    let sum = length-append w.letters r.packets in
    let long = ap length same in
    let high = more.few in
    omega arith

-- ---- a journal

abbrev FewLetters : List Record → Type 0
FewLetters before = length (letters_of_records before) ≤ 9 * length before

pub letters_le_nine_each_record : (journal : List Record) → EachComesNext (λ before r. length r.packets ≤ 9) journal → length (letters_of_records journal) ≤ 9 * length journal
letters_le_nine_each_record journal follows = journal_keeps_what_records_keep FewLetters (λ before r. length r.packets ≤ 9) next [] journal (omega arith) follows
  where
    next : (done : List Record) (r : Record) → length r.packets ≤ 9 → FewLetters done → FewLetters (done ++ r ∷ [])
    next done r low so_far =
        let sent : letters_of_records (done ++ r ∷ []) ≡ letters_of_records done ++ r.packets = flat_map-append (λ (q : Record). q.packets) done (r ∷ [])
        ∙ ap (λ (ls : List Letter). letters_of_records done ++ ls) (append-nil r.packets)
        in
        let sum = length-append (letters_of_records done) r.packets in
        let long = length-append done (r ∷ []) in
        let same = ap length sent in
        omega arith
