-- In every run each own send that stands in a node's list, up to what it has accepted, is answered.
use Rattle.am_step_laws.proofs.Words.{number_equals_itself, ◌≡◌, ◌≢◌, ◌⊎◌, inl, inr, ⊎_elim, ℕ, ◌+◌, ◌-◌, ◌<◌, ◌≤◌, ◌==◌, max, min, true, false}
use Rattle.am_step_laws.proofs.Words.{List, []}
use Rattle.am_step_laws.proofs.Words.{◌∷◌, ◌++◌, if◌then◌else◌, find, Option, Some, None, refl, sym, ap, ◌∙◌, subst, arith, split_on_bool, nat_tests, All}
use Rattle.am_step_laws.proofs.Words.{Stamp}
use Rattle.am_step_laws.proofs.Words.{Image, Entry, Data, Leave, Outcome, Log, log_entry_at, Rules, MayFound, Packet, Letter, OwnSend, Event, Node, push_entry}
use Rattle.am_step_laws.proofs.Words.{settle_waiting_send}
use Rattle.am_step_laws.proofs.Words.{refresh, refresh_at_end, StepResult, step, row, done_row, finish, World, start, founder, stranger_node, world_with_record}
use Rattle.am_step_laws.proofs.Words.{world_with_step, happens}
use Rattle.am_step_laws.proofs.Words.{world_after_events, run, Cause, calls, hears, Change, Changes, departs, looks, changed, unchanged, Effect, acting_name, IsCause, EventHappens}
use Rattle.am_step_laws.proofs.Words.{steps}
use Rattle.am_step_laws.proofs.Words.{changes_keep_property, refresh_changes_only_fronts, settle_changes_only_sends, refresh_rests_with_list, entry_at_number_of_log, asking_status_has_no_log, heard_packet_has_property, events_have_effects, item_of_index_has_property}
use Rattle.am_step_laws.proofs.Words.{top}
use Rattle.std.proofs.Common.{eqb-true, append-nil, append_assoc}
use Rattle.am_base.specs.declared.outcome.Outcome.TheVariants as said
use Rattle.am_base.specs.declared.event.NodeEvent.TheVariants as does
use Rattle.am_packet.specs.declared.packet.Packet.TheVariants as packet
use Rattle.am_node_defs.specs.Cores.{CoreState}
use Rattle.am_node_defs.specs.Sends as own
use Rattle.am_node_defs.specs.Sends.{unsettled_sends_are_in_line, next_unsettled_request, is_unsettled, send_has_request}
use Rattle.am_model.specs.declared.status.Status.TheVariants.{Departed}
use Rattle.am_step_laws.specs.Courses.{ChangesWithLook, plainly, looked, EndOfStep, at_end, let_go, closing}
use Rattle.am_step_laws.specs.Effects.{OutcomeTells, HasTakenEntry, AnswersAsk, ListHasBegun}
use Rattle.am_step_laws.proofs.Plans.{course_gives_changes}
use Rattle.am_step_laws.proofs.Numbers.RunCounts.{number_bounds_hold_in_runs, set_node_keeps_property, founder_or_stranger_has}
use Rattle.am_step_laws.proofs.Named.{run_has_names, actor_is_below_256, change_keeps_name}
use Rattle.am_step_laws.proofs.Blank.{blank_lists_hold_in_runs}
use Rattle.am_step_laws.proofs.Trimming.TakenRuns.{trimmed_was_taken_in_runs}
use Rattle.am_group_defs.proofs.Runs.{runs_go_on}
use Rattle.am_repair.proofs.Answered.Lined.{SendsOfNodeInLine, NextRequestRose, next_request_rose_by_changes, next_request_rose_by_refresh, greatest_request_sent}
use Rattle.am_repair.proofs.Answered.Outs.{EntryHasGoneOut, SendsOfNodeHaveGoneOut, PacketHasGoneOut, greatest_requests_gone_out, sends_gone_out_after_changes, sends_gone_out_after_push, sends_gone_out_below_more, packet_gone_out_below_more, run_sends_have_gone_out}
use Rattle.am_repair.proofs.Answered.Settled.{entry_number_above_start, entry_at_in_older_log, OwnSendsAreSettled, sends_are_settled_by_settle, AcceptedFrontWent, accepted_front_went_by_push, accepted_front_went_by_change, TakenFrontIsLow, taken_front_low_after_change}

-- ---- what the node is before the end of a step

-- what may have gone out, of this name up to what a node says
abbrev risen : (ℕ → ℕ) → ℕ → Node → ℕ → ℕ
risen most name x other = if other == name then greatest_request_sent x else most other

record Comes (most : ℕ → ℕ) (name : ℕ) (m x : Node) : Type 0 where
  rose : NextRequestRose m x
  who : x.core.who ≡ name
  out : SendsOfNodeHaveGoneOut (risen most name x) x
  went : AcceptedFrontWent m x

-- what is so of the node before it, and of what made it do the step
record Before (most : ℕ → ℕ) (name : ℕ) (c : Cause) (o : Outcome) (m : Node) : Type 0 where
  lined : SendsOfNodeInLine m
  who : m.core.who ≡ name
  own_ : most name ≡ greatest_request_sent m
  out : SendsOfNodeHaveGoneOut most m
  heard : (p : Packet) → c ≡ hears p → PacketHasGoneOut most p
  begins : (s : ℕ) (v : Stamp) (base join : ℕ) (image : Image) → c ≡ hears (packet.Welcome s v base join image) → o ≡ said.Welcomed join → m.core.acc ≡ 0

comes : (most : ℕ → ℕ) (name : ℕ) {c : Cause} {o : Outcome} (m x : Node) → Before most name c o m → Changes c o m x → Comes most name m x
comes most name m x b changes =
    let risen_ = next_request_rose_by_changes changes b.lined in
    let last = risen_.last in
    let next = risen_.next in
    let own_ = b.own_ in
    let up : (other : ℕ) → most other ≤ risen most name x other = λ other. split_on_bool (other == name)
    (λ t. let same : most other ≡ most name = ap most (eqb-true other name t) in rw t (omega arith))
    (λ f. rw f (omega arith)) in
    let now : greatest_request_sent x ≤ risen most name x name = rw (number_equals_itself name) (omega arith) in
    record {
      rose = risen_;
      who = changes_keep_property (λ (y : Node). y.core.who ≡ name) (change_keeps_name name) changes b.who;
      out = sends_gone_out_after_changes (risen most name x) name m x (λ p is. packet_gone_out_below_more most (risen most name x) p up (b.heard p is)) now changes b.lined b.who
          (sends_gone_out_below_more most (risen most name x) m up b.out);
      went = changes_keep_property (AcceptedFrontWent m) (λ y z. accepted_front_went_by_change m y z b.begins) changes (inl (record {
        acc = omega arith;
        begins = refl;
        from = refl;
        more = [];
        entries = sym (append-nil m.core.log.entries);
      }));
    }

last_change : {c : Cause} {o : Outcome} {m n k : Node} → Changes c o m n → Change c o n k → Changes c o m k
last_change unchanged z = changed z unchanged
last_change (changed {n = x} y ys) z = changed {n = x} y (last_change ys z)

deeds : {c : Cause} {o : Outcome} {m x : Node} → ChangesWithLook c o m x → Changes c o m x
deeds (plainly h) = course_gives_changes h
deeds (looked {n = n} b verdict h over why look is) = last_change (course_gives_changes h) (looks {m = n} b verdict over why look is)

-- the node before the refresh at the end
record Ended (most : ℕ → ℕ) (name : ℕ) (m n : Node) : Type 0 where
  x : Node
  comes_ : Comes most name m x
  core : n.core ≡ (refresh_at_end x).core
  sends : n.sends ≡ (refresh_at_end x).sends

ended : (most : ℕ → ℕ) (name : ℕ) {c : Cause} {o : Outcome} {letters : List Letter} (m n : Node) → Before most name c o m → EndOfStep c o m letters n
    → Ended most name m n
ended most name m n b (at_end {x = x} d) = record { x = x; comes_ = comes most name m x b (deeds d); core = refl; sends = refl }
ended most name m n b (let_go s v number is heard leaves) =
    let x = record m { status = Departed } in
    record { x = x; comes_ = comes most name m x b (changed {n = x} (departs s v number is heard leaves) unchanged); core = refl; sends = refl }
ended most name m n b (closing {x = x} event is course leads leaves alone room view) =
    let k = comes most name m x b (course_gives_changes course) in
    let y = push_entry x (Leave x.core.who) in
    record {
      x = y;
      comes_ = record {
        rose = record { line = k.rose.line; last = k.rose.last; next = k.rose.next };
        who = k.who;
        out = sends_gone_out_after_push (risen most name x) x (Leave x.core.who) tt k.out;
        went = accepted_front_went_by_push m x (Leave x.core.who) k.went;
      };
      core = refl;
      sends = refl;
    }

-- ---- a step

-- an entry of a list is one of its entries
of_entry : (P : Entry → Type 0) (log : Log) (number : ℕ) (e : Entry) → All P log.entries → log_entry_at log number ≡ Some e → P e
of_entry P log number e h is =
    let above = entry_number_above_start log number e is in
    let k = number - log.start - 1 in
    item_of_index_has_property P log.entries k e h (sym (entry_at_number_of_log log number k (omega arith)) ∙ is)

-- where the base is no higher than what was accepted, or passed over
settled_end : (most : ℕ → ℕ) (name : ℕ) (m x : Node) → Comes most name m x → OwnSendsAreSettled m.core m.sends → m.core.who ≡ name → m.core.acc ≤ top m
    → (settle_waiting_send (refresh x)).core.log.start ≤ (settle_waiting_send (refresh x)).core.base
    → (settle_waiting_send (refresh x)).core.base ≤ max m.core.acc ((settle_waiting_send (refresh x)).core.start - 1)
    → OwnSendsAreSettled (settle_waiting_send (refresh x)).core (settle_waiting_send (refresh x)).sends
settled_end most name m x h old named accepted kept base =
    let y = refresh x in
    let r = refresh_rests_with_list x in
    let same : (settle_waiting_send y).core ≡ y.core = ap (λ (z : Node). z.core) (settle_changes_only_sends y) in
    let sends : y.sends ≡ x.sends = ap (λ (z : Node). z.sends) (refresh_changes_only_fronts x) in
    let who : y.core.who ≡ name = r.rests.who ∙ h.who in
    let risen_ = next_request_rose_by_refresh m x h.rose in
    let up = risen_.next in
    let base_ = ap (λ (c : CoreState). c.base) same in
    let start_ = ap (λ (c : CoreState). c.start) same in
    let from_ = ap (λ (c : CoreState). c.log.start) same in
    sends_are_settled_by_settle y (record {
      line = risen_.line;
      kept = omega arith;
      out = λ number req body at.
          let e : log_entry_at x.core.log number ≡ Some (Data y.core.who req body) = ap (λ (l : Log). log_entry_at l number) (sym r.log) ∙ at in
          let low : req ≤ risen most name x y.core.who = of_entry (EntryHasGoneOut (risen most name x)) x.core.log number (Data y.core.who req body) h.out.entries e in
          let here : (y.core.who == name) ≡ true = grind (arith, nat_tests, who) in
          let now : req ≤ greatest_request_sent x = rw here at low in
          subst (λ (s : own.Sends). req ≤ min s.last (own.next_request s)) (sym sends) now;
      low = λ number req body from low at.
          let e : log_entry_at x.core.log number ≡ Some (Data y.core.who req body) = ap (λ (l : Log). log_entry_at l number) (sym r.log) ∙ at in
          let begins = r.begins in
          by number req body from low e h.went;
    })
  where
    by : (number req : ℕ) (body : List ℕ) → (refresh x).core.start ≤ number → number ≤ (refresh x).core.base
        → log_entry_at x.core.log number ≡ Some (Data (refresh x).core.who req body) → AcceptedFrontWent m x → req < own.next_request (refresh x).sends
    by number req body from low e (inl g) =
        let y = refresh x in
        let r = refresh_rests_with_list x in
        let same : (settle_waiting_send y).core ≡ y.core = ap (λ (z : Node). z.core) (settle_changes_only_sends y) in
        let base_ = ap (λ (c : CoreState). c.base) same in
        let start_ = ap (λ (c : CoreState). c.start) same in
        let who : y.core.who ≡ m.core.who = r.rests.who ∙ h.who ∙ sym named in
        let begins = r.begins in
        let begins_ = g.begins in
        let up = (next_request_rose_by_refresh m x h.rose).next in
        let e1 : log_entry_at x.core.log number ≡ Some (Data m.core.who req body) = subst (λ k. log_entry_at x.core.log number ≡ Some (Data k req body)) who e in
        let e2 = entry_at_in_older_log m.core.log x.core.log g.more number (Data m.core.who req body) g.from g.entries (omega arith) e1 in
        let low_ = old number req body (omega arith) (omega arith) e2 in
        omega arith
    by number req body from low e (inr none) =
        let y = refresh x in
        let same : (settle_waiting_send y).core ≡ y.core = ap (λ (z : Node). z.core) (settle_changes_only_sends y) in
        let base_ = ap (λ (c : CoreState). c.base) same in
        let start_ = ap (λ (c : CoreState). c.start) same in
        let above = entry_number_above_start x.core.log number _ e in
        absurd (omega arith)

-- ---- runs

abbrev AllSettled : World → Type 0
AllSettled w = (name : ℕ) → OwnSendsAreSettled (w.nodes name).core (w.nodes name).sends

-- the node after a step of a run
settled_step : (rules : Rules) (events : List Event) (e : Event) (c : Cause) (s : StepResult) → MayFound rules
    → IsCause (run rules events) (acting_name (run rules events) e) e.act c → Effect ((run rules events).nodes (acting_name (run rules events) e)) c s
    → (run rules (events ++ e ∷ [])).nodes (acting_name (run rules events) e) ≡ s.node → AllSettled (run rules events) → OwnSendsAreSettled s.node.core s.node.sends
unfolding refresh_at_end
settled_step rules events e c s may cause effect is h =
    let w = run rules events in
    let name = acting_name w e in
    let m = w.nodes name in
    let n = s.node in
    let all = run_sends_have_gone_out rules events may in
    let named = run_has_names rules events may in
    let few = actor_is_below_256 rules w e named in
    let numbers = (number_bounds_hold_in_runs rules events).each name in
    let given = numbers.given in
    let begins : (s_ : ℕ) (v : Stamp) (base join : ℕ) (image : Image) → c ≡ hears (packet.Welcome s_ v base join image) → s.outcome ≡ said.Welcomed join
    → m.core.acc ≡ 0 = λ s_ v base join image from says.
    let a : OutcomeTells m c n (said.Welcomed join) = subst (OutcomeTells m c n) says effect.answer in
    let b : ListHasBegun m n join = subst (λ k. OutcomeTells m k n (said.Welcomed join)) from a in
    (blank_lists_hold_in_runs rules events name may few (asking_status_has_no_log m.status b.asked)).acc in
    let took : (number : ℕ) (x : Entry) → c ≡ calls does.Take → s.outcome ≡ said.Took number x → number ≤ m.core.acc = λ number x from says.
    let a : HasTakenEntry m c n number x ⊎ AnswersAsk m c (said.Took number x) = subst (OutcomeTells m c n) says effect.answer in
    ⊎_elim
    (λ (t : HasTakenEntry m c n number x). let next = t.next in let some = t.some in grind (arith, nat_tests))
    (λ (q : AnswersAsk m c (said.Took number x)). let other : calls does.Take ≡ calls (does.Ask q.round) = sym from ∙ q.asked in absurd (cc))
    a in
    let before : Before (greatest_requests_gone_out w) name c s.outcome m = record {
      lined = all.lined name;
      who = named.who name;
      own_ = refl;
      out = all.each name;
      heard = λ p from. heard_packet_has_property (PacketHasGoneOut (greatest_requests_gone_out w)) w e c p cause from all.letters;
      begins = begins;
    } in
    let k = ended (greatest_requests_gone_out w) name m n before effect.ending in
    let x = k.x in
    let front_low : TakenFrontIsLow m n = changes_keep_property (TakenFrontIsLow m) (λ y z. taken_front_low_after_change m y z took) effect.changes (omega arith) in
    let later = (number_bounds_hold_in_runs rules (events ++ e ∷ [])).each name in
    let kept : n.core.log.start ≤ n.core.base = subst (λ (y : Node). y.core.log.start ≤ y.core.base) is later.kept in
    let trims : n.core.base ≤ n.core.taken = subst (λ (y : Node). y.core.base ≤ y.core.taken) is (trimmed_was_taken_in_runs rules (events ++ e ∷ []) name may few) in
    let base : n.core.base ≤ max m.core.acc (n.core.start - 1) = omega arith in
    let accepted = numbers.accepted in
    let done = settled_end (greatest_requests_gone_out w) name m x k.comes_ (h name) (named.who name) accepted
    (subst (λ (c_ : CoreState). c_.log.start ≤ c_.base) k.core kept)
    (subst (λ (c_ : CoreState). c_.base ≤ max m.core.acc (c_.start - 1)) k.core base) in
    subst (λ (c_ : CoreState). OwnSendsAreSettled c_ n.sends) (sym k.core) (subst (λ (s_ : own.Sends). OwnSendsAreSettled (settle_waiting_send (refresh x)).core s_) (sym k.sends) done)

settled_after : (rules : Rules) (events : List Event) (e : Event) (v : World) → MayFound rules → EventHappens (run rules events) e v
    → run rules (events ++ e ∷ []) ≡ v → AllSettled (run rules events) → AllSettled v
unfolding world_with_record world_with_step
settled_after rules events e v may (steps c s runs cause effect) is h =
    let w = run rules events in
    let name = acting_name w e in
    let here : (run rules (events ++ e ∷ [])).nodes name ≡ s.node =
    ap (λ (u : World). u.nodes name) is ∙ ap (λ b. if b then s.node else w.nodes name) (number_equals_itself name) in
    set_node_keeps_property (λ (x : Node). OwnSendsAreSettled x.core x.sends) w.nodes name s.node h (settled_step rules events e c s may cause effect here h)
settled_after rules events e v may _ is h = h

settled_start : (rules : Rules) → AllSettled (start rules)
settled_start rules name = founder_or_stranger_has (λ (x : Node). OwnSendsAreSettled x.core x.sends) rules name
    (λ number req body from low at. absurd (let one : number ≡ 1 = omega arith in
    let there = subst (λ k. log_entry_at (founder rules name).core.log k ≡ Some (Data name req body)) one at in cc))
    (λ number req body from low at. absurd (let above = entry_number_above_start (stranger_node rules name).core.log number _ at in omega arith))

along_run : (rules : Rules) (before events : List Event) → MayFound rules → AllSettled (run rules before) → AllSettled (run rules (before ++ events))
unfolding world_after_events
along_run rules before [] may h = subst (λ (es : List Event). AllSettled (run rules es)) (sym (append-nil before)) h
along_run rules before (e ∷ es) may h =
    let next : run rules (before ++ e ∷ []) ≡ happens (run rules before) e = runs_go_on (start rules) before (e ∷ []) in
    let one = settled_after rules before e (happens (run rules before) e) may (events_have_effects (run rules before) e) next h in
    subst (λ (xs : List Event). AllSettled (run rules xs)) (append_assoc before (e ∷ []) es)
    (along_run rules (before ++ e ∷ []) es may (subst AllSettled (sym next) one))

run_settled : (rules : Rules) (events : List Event) → MayFound rules → AllSettled (run rules events)
unfolding world_after_events
run_settled rules events may = along_run rules [] events may (settled_start rules)

-- ---- what is answered

-- what is below the next request isn't pending
below_next : (last req : ℕ) (q : List OwnSend) (s : OwnSend) → unsettled_sends_are_in_line last q ≡ true → find (send_has_request req) q ≡ Some s → s.number ≡ None
    → next_unsettled_request last q ≤ req
below_next last req [] s line is none = absurd (cc)
below_next last req (x ∷ xs) s line is none = split_on_bool (is_unsettled x)
    (λ t.
    let l = rw t at line in
    let rest : unsettled_sends_are_in_line last xs ≡ true = grind (arith, nat_tests) in
    let next : next_unsettled_request last xs ≡ x.req + 1 = grind (arith, nat_tests) in
    rw t (split_on_bool (send_has_request req x)
    (λ here. let same : x.req ≡ req = grind (arith, nat_tests) in omega arith)
    (λ other. let low = below_next last req xs s rest (rw other at is) none in omega arith)))
    (λ f.
    let l = rw f at line in
    let rest : unsettled_sends_are_in_line last xs ≡ true = grind (arith, nat_tests) in
    rw f (split_on_bool (send_has_request req x)
    (λ here. absurd (let found = rw here at is in let same : x ≡ s = cc in
    let un : is_unsettled x ≡ true = ap is_unsettled same ∙ unsettled s none in let no : true ≡ false = sym un ∙ f in cc))
    (λ other. below_next last req xs s rest (rw other at is) none)))
  where
    unsettled : (s : OwnSend) → s.number ≡ None → is_unsettled s ≡ true
    unsettled s none = rw none refl

not_pending : (sends : own.Sends) (req : ℕ) → unsettled_sends_are_in_line sends.last sends.queue ≡ true → req < own.next_request sends
    → own.collect_outcome req sends ≢ said.Pending req
not_pending sends req line low = by (find (send_has_request req) sends.queue) refl
  where
    by_number : (s : OwnSend) (number : Option ℕ) → find (send_has_request req) sends.queue ≡ Some s → s.number ≡ number → own.outcome_of_collecting req number ≡ said.Pending req → ⊥
    by_number s None at is says = let high = below_next sends.last req sends.queue s line at is in omega arith
    by_number s (Some number) at is says = cc

    by : (found : Option OwnSend) → find (send_has_request req) sends.queue ≡ found → own.outcome_of_done req found ≡ said.Pending req → ⊥
    by None at says = cc
    by (Some s) at says = by_number s s.number at refl says

pub accepted_send_is_not_pending : (rules : Rules) (events : List Event) (name number req : ℕ) (body : List ℕ) → MayFound rules → ((run rules events).nodes name).core.start ≤ number
    → number ≤ ((run rules events).nodes name).core.acc
    → log_entry_at ((run rules events).nodes name).core.log number ≡ Some (Data ((run rules events).nodes name).core.who req body)
    → (step ((run rules events).nodes name) (does.Done req)).outcome ≢ said.Pending req
unfolding step row done_row finish
accepted_send_is_not_pending rules events name number req body may from low at =
    not_pending ((run rules events).nodes name).sends req ((run_sends_have_gone_out rules events may).lined name).line (run_settled rules events may name number req body from low at)
