-- What each run keeps of what its applications were given: gapless, from where a name began, and each send that was settled at its number.
use Rattle.am_lawful_runs.proofs.Words.{set_node_keeps_others_property, eqb-true, number_equals_itself, ◌≡◌, either, inl, ℕ, zero, suc, ◌+◌, ◌-◌, ◌<◌, ◌≤◌, ◌==◌, nat_le, true, false, List}
use Rattle.am_lawful_runs.proofs.Words.{[], ◌∷◌, ◌++◌, length, Option, Some, None, refl, sym, ap, ◌∙◌, subst, append-nil, length-append, arith, All, flat_map}
use Rattle.am_lawful_runs.proofs.Words.{nat_tests, All-nil, All-cons, All-append, All-push, All-weaker, Entry, Data, Join, Outcome, Rules, MayFound, has, Packet}
use Rattle.am_lawful_runs.proofs.Words.{log_entry_at, entry_at_is_slice_get, Letter, Event, Record, acting_name_of_record, entry_taken_by_outcome, entries_given_to, deliveries, item_at, IsGoodList, list_begins_itself}
use Rattle.am_lawful_runs.proofs.Words.{begins_through_both, beginning_of_good_is_good, Group, Node, waiting_send_of, is_asking_status, founder, stranger_node, founders_entry, lowest_name_or_zero, has_log_by_status}
use Rattle.am_lawful_runs.proofs.Words.{has_departed, StepResult, accepted_send_of_outcome, accepted_sends, whole, World, record_of, start, world_with_step, run, packet_heard_by_act, split_on_bool, Cause}
use Rattle.am_lawful_runs.proofs.Words.{hears, Changes, unchanged, changed, Effect, OutcomeTells, HasTakenEntry, AnswersAsk, LetterSays, acting_name, IsCause}
use Rattle.am_lawful_runs.proofs.Words.{IsIdle, WasSentTo, item_of_index_has_property, IsBlank, IsBlankWithoutLog, change_keeps_list_blank, blank_lists_hold_in_runs, number_bounds_hold_in_runs, actor_is_below_256, run_trims_only_taken, NodePartsHaveNames}
use Rattle.am_lawful_runs.proofs.Words.{HeardStampsHaveNames, change_keeps_stamp_names, NodeBallotFits, change_keeps_list_and_ballot, heard_stamps_have_names, IsOfBallot, LastBallotIsSound, ballots_are_of_own_names, lists_only_grow_in_runs, front_of_given}
use Rattle.am_lawful_runs.proofs.Words.{GaveByAnswer, nothing, took, began, taken_below_accepted_passes_low, AcceptedStandsAt, ListBeginsAtJoin, OwnSendIsSettledRight, SettledSendStands, sends_settled_in_longer_list, item_at_number_is_within, idle_outcome_takes_nothing}
use Rattle.am_lawful_runs.proofs.Words.{idle_outcome_welcomes_nobody, idle_outcome_sends_nothing, deliveries_of_pushed_record, record_of_nothing_keeps_given, record_of_other_gives_nothing, record_without_take_gives_nothing, given_holds_in_longer_list, accepted_sends_in_longer_list, accepted_sends_with_next_record}
use Rattle.am_lawful_runs.proofs.Words.{welcomes_in_record, welcomes_of_pushed_record, record_without_welcome_welcomes_none, record_of_other_welcomes_none, record_holds_with_more_letters, outcome_takes_nothing_or_entry, nil_from_length, given_with_next_entry, step_record_tells_earlier_letter}
use Rattle.am_lawful_runs.proofs.Words.{welcomes_after_step, GivenAreListEntries, start_of_joined_list, WelcomeRecordTellsEarlierLetter, AcceptedSendStandsAt, group_run_is_kept, Following}
use Rattle.am_group_defs.specs.Claims.{welcome_numbers_of}
use Rattle.am_run_laws.proofs.UnballotedKept.{list_begins_in_longer_list}
use Rattle.am_base.specs.declared.outcome.Outcome.TheVariants as said
use Rattle.am_abstract_group.specs.Group as groups
use Rattle.am_lawful_runs.proofs.Lists.{item_stays_in_longer_list}
use Rattle.am_lawful_runs.proofs.Shapes.{ListGoesAlong, running_name_goes_along_itself, name_goes_along_by_moves}
use Rattle.am_lawful_runs.proofs.Ways.{change_has_its_kind}
use Rattle.am_safety.proofs.Inside.{IsFreshEntryForNode, SendIsSettledInStep}
use Rattle.am_safety.proofs.Inside.{SendIsInGroupInStep, NodeWithinItsStep, node_within_step_by_kind}
use Rattle.am_safety.proofs.Joined.{GroupOpensWithFounders, IsAnyLetter, welcome_gives_number_of_join}
use Rattle.am_lawful_runs.proofs.OneStep.{OneStepWithGroup}
use Rattle.am_lawful_runs.proofs.OneStep.{parts_of_one_step, one_step_grows_group}
use Rattle.am_safety.proofs.Own.{item_of_whole_list, accepted_item_is_in_group, step_item_is_in_group}

-- ---- what is kept

-- of a name alone, whatever the group lists
pub record NameHasTakenAlone (rules : Rules) (i : ℕ) (m : Node) : Type 0 where
  pub passed : m.core.taken < m.core.start - 1 → m.core.acc ≤ m.core.taken
  pub gone : has_departed m.status ≡ true → m.leaving ≡ true
  pub silent : m.leaving ≡ true → waiting_send_of m ≡ None
  pub founder : has rules.founders i ≡ true → has_log_by_status m.status ≡ true
  pub blank : has_log_by_status m.status ≡ false → (m.core.taken ≡ 0) × (m.core.start ≡ 0)

pub record NameHasTakenInTurn (rules : Rules) (group : List Entry) (i : ℕ) (m : Node) : Type 0 where
  pub alone : NameHasTakenAlone rules i m
  pub open alone use *
  pub begins : has_log_by_status m.status ≡ true → ListBeginsAtJoin rules group (length group) i m.core.start
  pub sends : All (OwnSendIsSettledRight group (length group) i) m.sends.queue

pub record NamesHaveTakenInTurn (rules : Rules) (w : World) : Type 0 where
  pub opens : GroupOpensWithFounders rules w.group
  pub any : All IsAnyLetter w.letters
  pub each : (i : ℕ) → NameHasTakenInTurn rules w.group i (w.nodes i)
  pub given : (i : ℕ) → GivenAreListEntries w.group (length w.group) (w.nodes i) (deliveries w.records i)
  pub welcomed : (i : ℕ) → has rules.founders i ≡ false → welcome_numbers_of w i ≡ start_of_joined_list (w.nodes i)
  pub heard : All (WelcomeRecordTellsEarlierLetter (length w.letters)) w.records
  pub accepted : All (AcceptedSendStandsAt w.group (length w.group)) (accepted_sends w.records)

-- ---- the group list goes on

name_more : (rules : Rules) (group more : List Entry) (i : ℕ) (m : Node) → NameHasTakenInTurn rules group i m → NameHasTakenInTurn rules (group ++ more) i m
name_more rules group more i m h =
    let long = length-append group more in
    record {
      alone = h.alone;
      begins = λ t. list_begins_in_longer_list rules group more (length group) (length (group ++ more)) i m.core.start (omega arith) (h.begins t);
      sends = sends_settled_in_longer_list group more (length group) (length (group ++ more)) i m.sends.queue (omega arith) h.sends;
    }

-- ---- an event that changes no node

pub record WorldsHaveSameNodes (w v : World) : Type 0 where
  pub nodes : v.nodes ≡ w.nodes
  pub letters : v.letters ≡ w.letters
  pub group : v.group ≡ w.group

-- what is said of its parts goes along
carried : (w v : World) (records : List Record) → WorldsHaveSameNodes w v → v.records ≡ records
    → (P : (ℕ → Node) → List Letter → List Entry → List Record → Type 0) → P w.nodes w.letters w.group records → P v.nodes v.letters v.group v.records
carried w v records is same P x =
    subst (λ n. P n v.letters v.group v.records) (sym is.nodes) (subst (λ l. P w.nodes l v.group v.records) (sym is.letters)
    (subst (λ g. P w.nodes w.letters g v.records) (sym is.group) (subst (P w.nodes w.letters w.group) (sym same) x)))

pub same_world_taken_in_turn : (rules : Rules) (w v : World) → WorldsHaveSameNodes w v → v.records ≡ w.records → NamesHaveTakenInTurn rules w → NamesHaveTakenInTurn rules v
same_world_taken_in_turn rules w v is records h =
    let all = carried w v w.records is records in
    record {
      opens = all (λ n l g r. GroupOpensWithFounders rules g) h.opens;
      any = all (λ n l g r. All IsAnyLetter l) h.any;
      each = all (λ n l g r. (i : ℕ) → NameHasTakenInTurn rules g i (n i)) h.each;
      given = all (λ n l g r. (i : ℕ) → GivenAreListEntries g (length g) (n i) (deliveries r i)) h.given;
      welcomed = all (λ n l g r. (i : ℕ) → has rules.founders i ≡ false → flat_map (welcomes_in_record l i) r ≡ start_of_joined_list (n i)) h.welcomed;
      heard = all (λ n l g r. All (WelcomeRecordTellsEarlierLetter (length l)) r) h.heard;
      accepted = all (λ n l g r. All (AcceptedSendStandsAt g (length g)) (accepted_sends r)) h.accepted;
    }

pub idle_record_taken_in_turn : (rules : Rules) (w v : World) (r : Record) → WorldsHaveSameNodes w v → IsIdle r.outcome → v.records ≡ w.records ++ r ∷ [] → NamesHaveTakenInTurn rules w → NamesHaveTakenInTurn rules v
idle_record_taken_in_turn rules w v r is idle records h =
    let all = carried w v (w.records ++ r ∷ []) is records in
    record {
      opens = all (λ n l g rs. GroupOpensWithFounders rules g) h.opens;
      any = all (λ n l g rs. All IsAnyLetter l) h.any;
      each = all (λ n l g rs. (i : ℕ) → NameHasTakenInTurn rules g i (n i)) h.each;
      given = all (λ n l g rs. (i : ℕ) → GivenAreListEntries g (length g) (n i) (deliveries rs i))
          (λ i. record_of_nothing_keeps_given w.group (length w.group) (w.nodes i) w.records r i (record_without_take_gives_nothing r i (idle_outcome_takes_nothing r.outcome idle)) (h.given i));
      welcomed = all (λ n l g rs. (i : ℕ) → has rules.founders i ≡ false → flat_map (welcomes_in_record l i) rs ≡ start_of_joined_list (n i))
          (λ i f. (ap (λ l. flat_map (welcomes_in_record l i) (w.records ++ r ∷ [])) (sym (append-nil w.letters)) ∙ welcomes_of_pushed_record w.letters [] i w.records r h.heard)
          ∙ ap (λ l. l ++ welcomes_in_record (w.letters ++ []) i r) (h.welcomed i f)
          ∙ ap (λ l. start_of_joined_list (w.nodes i) ++ l) (record_without_welcome_welcomes_none (w.letters ++ []) i r (idle_outcome_welcomes_nobody r.outcome idle)) ∙ append-nil (start_of_joined_list (w.nodes i)));
      heard = all (λ n l g rs. All (WelcomeRecordTellsEarlierLetter (length l)) rs)
          (All-push (WelcomeRecordTellsEarlierLetter (length w.letters)) w.records r h.heard (λ some. absurd (some (idle_outcome_welcomes_nobody r.outcome idle))));
      accepted = all (λ n l g rs. All (AcceptedSendStandsAt g (length g)) (accepted_sends rs))
          (accepted_sends_with_next_record w.group (length w.group) w.records r
          (subst (All (AcceptedSendStandsAt w.group (length w.group))) (sym (idle_outcome_sends_nothing (acting_name_of_record r) r.outcome idle)) (All-nil (AcceptedSendStandsAt w.group (length w.group))))
          h.accepted);
    }

-- ---- a step: within it

inside_chain : (group : List Entry) (i : ℕ) (c : Cause) (o : Outcome) (m x n : Node) → HeardStampsHaveNames c → Changes c o x n → NodePartsHaveNames x → NodeBallotFits x → IsBlankWithoutLog x
    → NodeWithinItsStep group i c o m x → NodeWithinItsStep group i c o m n
inside_chain group i c o m x n heard unchanged names k b h = h
inside_chain group i c o m x n heard (changed {n = y} one more) names k b h =
    inside_chain group i c o m y n heard more (change_keeps_stamp_names heard x y one names) (change_keeps_list_and_ballot heard x y one names k).balloted (change_keeps_list_blank x y one k b)
    (node_within_step_by_kind group i c o m x y (change_has_its_kind x y one) (λ none. (b none).told_) h)

in_terms : (group : List Entry) (i : ℕ) (m : Node) (req : ℕ) (number : Option ℕ) → SettledSendStands group (length group) i req number → SendIsSettledInStep group i m m req number
in_terms group i m req None h = tt
in_terms group i m req (Some number) h = inl (h.0, h.1.there)

inside_start : (rules : Rules) (group : List Entry) (i : ℕ) (c : Cause) (o : Outcome) (m : Node) → m.core.log.start ≤ m.core.base → m.core.taken ≤ m.core.acc
    → (has_log_by_status m.status ≡ false → m.core.acc ≡ 0) → NameHasTakenInTurn rules group i m → NodeWithinItsStep group i c o m m
inside_start rules group i c o m kept taken bare h = record {
  gave = nothing refl refl refl;
  order = record { kept = kept; taken = taken; passed = h.passed };
  departed = λ t. (t, refl);
  leaves = λ t. t;
  gone = h.gone;
  silent = h.silent;
  bare = bare;
  sends = All-weaker (OwnSendIsSettledRight group (length group) i) (SendIsInGroupInStep group i m m) (λ s. in_terms group i m s.req s.number) m.sends.queue h.sends;
}

-- ---- what a step answers

-- an Ask is answered by nothing that an application is given
not_asked : (rules : Rules) (events : List Event) (may : MayFound rules) (i : ℕ) (c : Cause) (o : Outcome) → (IsOfBallot o → ⊥)
    → AnswersAsk ((run rules events).nodes i) c o → ⊥
not_asked rules events may i c o none h =
    let ok : LastBallotIsSound (run rules events) i ((run rules events).nodes i).core.promise (Some h.ballot) = subst
    (LastBallotIsSound (run rules events) i ((run rules events).nodes i).core.promise) h.last ((ballots_are_of_own_names rules events may).each i) in
    none (subst IsOfBallot (sym h.same) ok.answer)

was_taken : (rules : Rules) (events : List Event) (may : MayFound rules) (i : ℕ) (c : Cause) (n : Node) (o : Outcome) (number : ℕ) (e : Entry)
    → o ≡ said.Took number e → OutcomeTells ((run rules events).nodes i) c n o → HasTakenEntry ((run rules events).nodes i) c n number e
was_taken rules events may i c n o number e is h = either (subst (OutcomeTells ((run rules events).nodes i) c n) is h)
    (λ x. x)
    (λ x. absurd (not_asked rules events may i c _ (λ z. z) x))

-- ---- one name's node

entry_low : (m : Node) (number : ℕ) (e : Entry) → log_entry_at m.core.log (number + 1) ≡ Some e → m.core.log.start ≤ number
entry_low m number e is = split_on_bool (nat_le m.core.log.start number) (λ t. grind (arith, nat_tests))
    (λ f. let z : number + 1 ≡ suc number = omega arith in
    let at : log_entry_at m.core.log (suc number) ≡ Some e = ap (log_entry_at m.core.log) (sym z) ∙ is in
    let none = rw f at at in absurd (cc))

-- ---- within a step

-- an entry that is given: of the name's own list, and accepted there; it hadn't departed
pub record EntryMayBeTaken (m : Node) (number : ℕ) (e : Entry) : Type 0 where
  pub there : log_entry_at m.core.log number ≡ Some e
  pub low : number ≤ m.core.acc
  pub stays : has_departed m.status ≡ false

module _ (rules : Rules) (events : List Event) (e : Event) (c : Cause) (step : StepResult) (may : MayFound rules)
    (cause : IsCause (run rules events) (acting_name (run rules events) e) e.act c)
    (effect : Effect ((run rules events).nodes (acting_name (run rules events) e)) c step) (h : NamesHaveTakenInTurn rules (run rules events)) where
  abbrev before : Node
  before = (run rules events).nodes (acting_name (run rules events) e)

  inside_step : NodeWithinItsStep (run rules events).group (acting_name (run rules events) e) c step.outcome before step.node
  inside_step =
      let i = acting_name (run rules events) e in
      let few = actor_is_below_256 rules (run rules events) e (run_trims_only_taken rules events may).blanks.base.named in
      let views = (run_trims_only_taken rules events may).blanks in
      let k = views.base.each i few in
      let num = (number_bounds_hold_in_runs rules events).each i in
      inside_chain (run rules events).group i c step.outcome before before step.node (heard_stamps_have_names rules (run rules events) e c views.base cause)
      effect.changes k.names
      k.balloted (views.each i few)
      (inside_start rules (run rules events).group i c step.outcome before num.kept num.given (λ none. (blank_lists_hold_in_runs rules events i may few none).acc)
      (h.each i))

  -- whose front stays is given nothing
  none_taken : (number : ℕ) (x : Entry) → step.outcome ≡ said.Took number x → front_of_given step.node ≡ front_of_given before → ⊥
  none_taken number x says f =
      let i = acting_name (run rules events) e in
      let y = was_taken rules events may i c step.node step.outcome number x says effect.answer in
      let low = ((number_bounds_hold_in_runs rules events).each i).given in
      let less : before.core.taken < before.core.acc = grind (arith, nat_tests) in
      let p = taken_below_accepted_passes_low before.core.taken before.core.acc (before.core.start - 1) (h.each i).passed less in
      omega arith

  pub entry_taken_by_step : (number : ℕ) (x : Entry) → step.outcome ≡ said.Took number x → EntryMayBeTaken before number x
  entry_taken_by_step number x says =
      let i = acting_name (run rules events) e in
      let y = was_taken rules events may i c step.node step.outcome number x says effect.answer in
      let order = ((number_bounds_hold_in_runs rules events).each i).given in
      let less : before.core.taken < before.core.acc = grind (arith, nat_tests) in
      record {
        there = y.there;
        low = omega arith;
        stays = split_on_bool (has_departed before.status) (λ u. absurd (none_taken number x says (inside_step.departed u).1)) (λ f. f);
      }

-- ---- a step

-- what is given stands in the group list
pub entry_taken_is_in_group : (rules : Rules) (w : World) (s : Group) (i number : ℕ) (x : Entry) → Following rules w s → i < 256 → EntryMayBeTaken (w.nodes i) number x
    → item_at w.group number ≡ Some x
entry_taken_is_in_group rules w s i zero x old few y = absurd (let z = y.there in cc)
entry_taken_is_in_group rules w s i (suc j) x old few y =
    let m = w.nodes i in
    let kept = group_run_is_kept rules.founders (lowest_name_or_zero rules.founders) rules.resilience s old.group in
    let one : j + 1 ≡ suc j = omega arith in
    let at : log_entry_at m.core.log (j + 1) ≡ Some x = ap (log_entry_at m.core.log) one ∙ y.there in
    let low = entry_low m j x at in
    let got = entry_at_is_slice_get m.core.log j x low at in
    let within = (old.stands.each i few).begins.within in
    let number : m.core.log.start + (j - m.core.log.start) + 1 ≡ suc j = omega arith in
    let item : item_at (whole w m) (suc j) ≡ Some x = ap (item_at (whole w m)) (sym number) ∙ item_of_whole_list w m (j - m.core.log.start) x within got in
    accepted_item_is_in_group w s i (suc j) x kept (old.stands.each i few) (old.stands.fronts i few y.stays) old.stands.group y.low item

module _ (rules : Rules) (events : List Event) (e : Event) (c : Cause) (step : StepResult) (s t : Group) (one : OneStepWithGroup rules events e c step s t)
    (h : NamesHaveTakenInTurn rules (run rules events)) where
  open parts_of_one_step rules events e step use {w, i, m, n, v}
  open one use {step_.{may, runs, cause, effect}, old, path}
  open one_step_grows_group one use {few, kept_s, node_v, group_v, run_v, node_run, stands_n, group_grows}

  abbrev inside : NodeWithinItsStep w.group i c step.outcome m n
  inside = inside_step rules events e c step may cause effect h

  acc_v : n.core.acc ≤ length v.group
  acc_v = subst (λ (x : World). n.core.acc ≤ length x.group) run_v
      (subst (λ (x : Node). x.core.acc ≤ length (run rules (events ++ e ∷ [])).group) node_run ((number_bounds_hold_in_runs rules (events ++ e ∷ [])).each i).acc)

  adds_start : n.core.log.start ≤ length w.group
  adds_start = (lists_only_grow_in_runs rules events e c step may runs cause effect).begins

  own_v : n.core.who ≡ i
  own_v = (lists_only_grow_in_runs rules events e c step may runs cause effect).own

  -- a name that hadn't departed stands on the chain, or has nothing
  along : has_departed m.status ≡ false → ListGoesAlong s t i
  along stays =
      let a = old.stands.each i few in
      let there : groups.IsThere (s.node i) = record { goes = a.stopped ∙ runs; stays = a.departed ∙ stays } in
      name_goes_along_by_moves rules.founders (lowest_name_or_zero rules.founders) rules.resilience s s t i (list_begins_itself s.group) old.group path (split_on_bool (s.node i).has_log
      (λ log. running_name_goes_along_itself s i kept_s (record { log = log; there = there }))
      (λ none number entry low at. absurd (let nil = (kept_s.each i).blank none in no_item number entry (ap (λ l. item_at l number) (sym nil) ∙ at))))
    where
      no_item : (number : ℕ) (entry : Entry) → item_at [] number ≡ Some entry → ⊥
      no_item zero entry z = cc
      no_item (suc k) entry z = cc

  fresh_stands : (req number : ℕ) → IsFreshEntryForNode m n req number → (body : List ℕ) × AcceptedStandsAt v.group (length v.group) number (Data i req body)
  fresh_stands req number f =
      let a = acc_v in
      let low = f.low in
      let there = step_item_is_in_group w v s t i f.index number (Data n.core.who req f.body) n (along f.stays) old.stands.group stands_n group_v group_grows adds_start
      stands_n.begins.within f.at f.low acc_v f.there in
      (f.body, record { low = omega arith; there = there ∙ ap (λ k. Some (Data k req f.body)) own_v })

  settled_stands : (req : ℕ) (number : Option ℕ) → SendIsSettledInStep w.group i m n req number → SettledSendStands v.group (length v.group) i req number
  settled_stands req None x = tt
  settled_stands req (Some number) x = either x
      (λ a. (let there = item_stays_in_longer_list number (Data i req a.0) group_grows a.1 in
      let low = item_at_number_is_within v.group number (Data i req a.0) there in (a.0, record { low = low.1; there = there })))
      (λ a. fresh_stands req number a)

  -- ---- where a list begins

  abbrev more : List Entry
  more = group_grows.rest

  still : NameHasTakenInTurn rules v.group i m
  still = subst (λ g. NameHasTakenInTurn rules g i m) group_grows.same (name_more rules w.group more i m (h.each i))

  begins_now : has_log_by_status n.status ≡ true → ListBeginsAtJoin rules v.group (length v.group) i n.core.start
  begins_now log = by_way inside.gave
    where
      by_way : GaveByAnswer c step.outcome m n → ListBeginsAtJoin rules v.group (length v.group) i n.core.start
      by_way (nothing f start same) = subst (ListBeginsAtJoin rules v.group (length v.group) i) (sym start) (still.begins (sym same ∙ log))
      by_way (took k x says a b start low ln lm) = subst (ListBeginsAtJoin rules v.group (length v.group) i) (sym start) (still.begins lm)
      by_way (began from stamp base join image heard says lm ln start f up) =
          subst (ListBeginsAtJoin rules v.group (length v.group) i) (sym start) (record {
            some = up;
            founder = λ y. absurd (let z = (h.each i).founder y in cc);
            joiner = λ no. (let sent : WasSentTo w i e.act (Packet.Welcome from stamp base join image) = subst (IsCause w i e.act) heard cause in
                let there = welcome_gives_number_of_join rules w s i (packet_heard_by_act e.act) sent.letter from stamp base join image old (group_good) h.opens h.any few runs
                (asks join says) sent.there
                sent.addressed sent.is no in
                let there_v = item_stays_in_longer_list join (Join i) group_grows there in
                let low = item_at_number_is_within v.group join (Join i) there_v in record { low = low.1; there = there_v });
          })
        where
          group_good : IsGoodList w.group
          group_good = subst IsGoodList old.stands.group (beginning_of_good_is_good kept_s.group kept_s.views.good)

          asks : (join : ℕ) → step.outcome ≡ said.Welcomed join → is_asking_status m.status ≡ true
          asks join says = was_asking c join (subst (λ (z : Cause). OutcomeTells m z n (said.Welcomed join)) heard (subst (OutcomeTells m c n) says effect.answer))
            where
              was_asking : (c : Cause) (join : ℕ) → OutcomeTells m (hears (Packet.Welcome from stamp base join image)) n (said.Welcomed join)
                  → is_asking_status m.status ≡ true
              was_asking c join z = z.asked

  name_now : NameHasTakenInTurn rules v.group i n
  name_now = record {
    alone = record {
      passed = inside.passed;
      gone = inside.gone;
      silent = inside.silent;
      founder = λ y. logged_still inside.gave ((h.each i).founder y);
      blank = λ none. (let b = blank_now none in (b.taken, b.start));
    };
    begins = begins_now;
    sends = All-weaker (SendIsInGroupInStep w.group i m n) (OwnSendIsSettledRight v.group (length v.group) i) (λ x. settled_stands x.req x.number) n.sends.queue inside.sends;
  }
    where
      logged_still : GaveByAnswer c step.outcome m n → has_log_by_status m.status ≡ true → has_log_by_status n.status ≡ true
      logged_still (nothing f start same) log = same ∙ log
      logged_still (took k x says a b start low ln lm) log = ln
      logged_still (began from stamp base join image heard says lm ln start f up) log = ln

      blank_now : has_log_by_status n.status ≡ false → IsBlank n
      blank_now none =
          subst IsBlank node_run (blank_lists_hold_in_runs rules (events ++ e ∷ []) i may few (ap (λ (x : Node). has_log_by_status x.status) node_run ∙ none))

  -- ---- what was given

  given_before : GivenAreListEntries v.group (length v.group) m (deliveries w.records i)
  given_before = subst (λ g. GivenAreListEntries g (length g) m (deliveries w.records i)) group_grows.same
      (let long = length-append w.group more in given_holds_in_longer_list w.group more (length w.group) (length (w.group ++ more)) m (deliveries w.records i) (omega arith)
      (h.given i))

  given_now : GivenAreListEntries v.group (length v.group) n (deliveries w.records i ++ entry_taken_by_outcome step.outcome)
  given_now = by_way inside.gave
    where
      given : List (ℕ × Entry)
      given = deliveries w.records i

      by_way : GaveByAnswer c step.outcome m n → GivenAreListEntries v.group (length v.group) n (given ++ entry_taken_by_outcome step.outcome)
      by_way (nothing f start log) = either (outcome_takes_nothing_or_entry step.outcome)
          (λ x. subst (GivenAreListEntries v.group (length v.group) n) (ap (λ l. given ++ l) (sym x))
          (subst (GivenAreListEntries v.group (length v.group) n) (sym (append-nil given))
          (record {
            count = ap (λ y. length given + (y - 1)) start ∙ given_before.count ∙ sym f;
            each = λ k number x at. (let z = given_before.each k number x at in
                (z.0 ∙ ap (λ y. y + k) (sym start), subst (λ y. AcceptedStandsAt v.group (length v.group) (y + k) x) (sym start) z.1));
          })))
          (λ x. absurd (none_taken rules events e c step may cause effect h x.0 x.1 x.2 f))
      by_way (took k x says a b start low ln lm) =
          let y = entry_taken_by_step rules events e c step may cause effect h (k + 1) x says in
          let item = there k x y in
          let at : AcceptedStandsAt v.group (length v.group) (k + 1) x = record { low = (item_at_number_is_within v.group (k + 1) x item).1; there = item } in
          let begun = (still.begins lm).some in
          subst (GivenAreListEntries v.group (length v.group) n) (ap (λ z. given ++ entry_taken_by_outcome z) (sym says))
          (given_with_next_entry v.group (length v.group) m n given k x given_before start a b begun (let st = ap (λ z. z - 1) start in omega arith) at)
        where
          there : (k : ℕ) (x : Entry) → EntryMayBeTaken m (k + 1) x → item_at v.group (k + 1) ≡ Some x
          there k x y =
              item_stays_in_longer_list (k + 1) x group_grows (entry_taken_is_in_group rules w s i (k + 1) x old few y)
      by_way (began from stamp base join image heard says lm ln start f up) =
          let b = (h.each i).blank lm in
          let count = given_before.count in
          let empty : given ≡ [] = nil_from_length given (omega arith) in
          subst (λ g. GivenAreListEntries v.group (length v.group) n (g ++ entry_taken_by_outcome step.outcome)) (sym empty)
          (subst (GivenAreListEntries v.group (length v.group) n) (ap entry_taken_by_outcome (sym says)) (record { count = omega arith; each = λ k number x y. absurd (cc) }))

  sent_now : (o : Outcome) → OutcomeTells m c n o → All (AcceptedSendStandsAt v.group (length v.group)) (accepted_send_of_outcome i o)
  sent_now (said.Sent req number) answer = either answer
      (λ x. (
      let ok = item_of_index_has_property (OwnSendIsSettledRight v.group (length v.group) i) m.sends.queue x.index x.send still.sends x.there in
      let stands : SettledSendStands v.group (length v.group) i x.send.req (Some number) = subst (SettledSendStands v.group (length v.group) i x.send.req) x.settled ok in
      let mine : (body : List ℕ) × AcceptedStandsAt v.group (length v.group) number (Data i req body) = subst
      (λ r. (body : List ℕ) × AcceptedStandsAt v.group (length v.group) number (Data i r body)) x.request stands in
      All-cons (AcceptedSendStandsAt v.group (length v.group)) _ [] mine (All-nil (AcceptedSendStandsAt v.group (length v.group)))))
      (λ x. absurd (not_asked rules events may i c _ (λ z. z) x))
  sent_now _ answer = All-nil (AcceptedSendStandsAt v.group (length v.group))

  -- ---- the world after it

  pub taken_in_turn_after_step : NamesHaveTakenInTurn rules v
  unfolding world_with_step
  taken_in_turn_after_step =
      let r = record_of w e step.outcome step.letters in
      let own : (acting_name_of_record r == i) ≡ true = number_equals_itself i in
      let long = length-append w.letters step.letters in
      let all_more : (j : ℕ) → NameHasTakenInTurn rules v.group j (w.nodes j) = λ j. subst (λ g. NameHasTakenInTurn rules g j (w.nodes j)) group_grows.same
      (name_more rules w.group more j (w.nodes j) (h.each j)) in
      let given_all : (j : ℕ) → GivenAreListEntries v.group (length v.group) (w.nodes j) (deliveries w.records j) = λ j.
      subst (λ g. GivenAreListEntries g (length g) (w.nodes j) (deliveries w.records j)) group_grows.same
      (let l = length-append w.group more in given_holds_in_longer_list w.group more (length w.group) (length (w.group ++ more)) (w.nodes j) (deliveries w.records j)
      (omega arith) (h.given j)) in
      record {
        opens = record { first = begins_through_both h.opens.first group_grows };
        any = All-append IsAnyLetter w.letters step.letters h.any
            (All-weaker (LetterSays m c effect.sender) IsAnyLetter (λ l x. x.any) step.letters effect.letters);
        each = set_node_keeps_others_property (λ j x. NameHasTakenInTurn rules v.group j x) w.nodes i n name_now (λ j d. all_more j);
        given = set_node_keeps_others_property (λ j x. GivenAreListEntries v.group (length v.group) x (deliveries (w.records ++ r ∷ []) j)) w.nodes i n
            (let mine : entries_given_to i r ≡ entry_taken_by_outcome step.outcome = rw own refl in
            subst (GivenAreListEntries v.group (length v.group) n) (sym (deliveries_of_pushed_record w.records r i ∙ ap (λ l. deliveries w.records i ++ l) mine)) given_now)
            (λ j d. record_of_nothing_keeps_given v.group (length v.group) (w.nodes j) w.records r j (record_of_other_gives_nothing r j (λ same. d (by_number r own same))) (given_all j));
        welcomed = λ j. set_node_keeps_others_property (λ x y. has rules.founders x ≡ false → welcome_numbers_of v x ≡ start_of_joined_list y) w.nodes i n
            (λ f. welcomes_of_pushed_record w.letters step.letters i w.records r h.heard ∙ ap (λ l. l ++ welcomes_in_record (w.letters ++ step.letters) i r) (h.welcomed i f)
            ∙ welcomes_after_step w i m n c r step.letters (by_own r own) cause effect.answer inside.gave)
            (λ x d f. welcomes_of_pushed_record w.letters step.letters x w.records r h.heard ∙ ap (λ l. l ++ welcomes_in_record (w.letters ++ step.letters) x r) (h.welcomed x f)
            ∙ ap (λ l. start_of_joined_list (w.nodes x) ++ l) (record_of_other_welcomes_none (w.letters ++ step.letters) x r (λ same. d (by_number r own same))) ∙ append-nil
            (start_of_joined_list (w.nodes x))) j;
        heard = All-push (WelcomeRecordTellsEarlierLetter (length (w.letters ++ step.letters))) w.records r
            (All-weaker (WelcomeRecordTellsEarlierLetter (length w.letters)) (WelcomeRecordTellsEarlierLetter (length (w.letters ++ step.letters)))
            (λ x. record_holds_with_more_letters (length w.letters) (length (w.letters ++ step.letters)) x (omega arith)) w.records h.heard)
            (step_record_tells_earlier_letter w i m n c r (length (w.letters ++ step.letters)) cause (omega arith) effect.answer);
        accepted = accepted_sends_with_next_record v.group (length v.group) w.records r (subst (λ k. All (AcceptedSendStandsAt v.group (length v.group)) (accepted_send_of_outcome k step.outcome))
            (sym (by_own r own))
            (sent_now step.outcome effect.answer))
            (subst (λ g. All (AcceptedSendStandsAt g (length g)) (accepted_sends w.records)) group_grows.same
            (let l = length-append w.group more in accepted_sends_in_longer_list w.group more (length w.group) (length (w.group ++ more)) (accepted_sends w.records)
            (omega arith) h.accepted));
      }
    where
      by_own : (r : Record) → (acting_name_of_record r == i) ≡ true → acting_name_of_record r ≡ i
      by_own r own = eqb-true (acting_name_of_record r) i own

      by_number : (r : Record) → (acting_name_of_record r == i) ≡ true → {j : ℕ} → acting_name_of_record r ≡ j → i ≡ j
      by_number r own same = sym (by_own r own) ∙ same

-- ---- the start

stranger_told : (rules : Rules) (i : ℕ) → has rules.founders i ≡ false → NameHasTakenInTurn rules (founders_entry rules ∷ []) i (stranger_node rules i)
stranger_told rules i none = record {
  alone = record {
    passed = λ below. omega arith;
    gone = λ t. absurd (cc);
    silent = λ t. absurd (cc);
    founder = λ t. absurd (cc);
    blank = λ t. (refl, refl);
  };
  begins = λ t. absurd (cc);
  sends = All-nil _;
}

founder_told : (rules : Rules) (i : ℕ) → has rules.founders i ≡ true → NameHasTakenInTurn rules (founders_entry rules ∷ []) i (founder rules i)
founder_told rules i there = record {
  alone = record {
    passed = λ below. absurd (omega arith);
    gone = λ t. absurd (cc);
    silent = λ t. absurd (cc);
    founder = λ t. refl;
    blank = λ t. absurd (cc);
  };
  begins = λ t. record { some = omega arith; founder = λ u. refl; joiner = λ none. absurd (cc) };
  sends = All-nil _;
}

pub taken_in_turn_at_start : (rules : Rules) → NamesHaveTakenInTurn rules (start rules)
taken_in_turn_at_start rules = record {
  opens = record { first = list_begins_itself (founders_entry rules ∷ []) };
  any = All-nil IsAnyLetter;
  each = λ i. split_on_bool (has rules.founders i) (λ t. rw t (founder_told rules i t)) (λ f. rw f (stranger_told rules i f));
  given = λ i. split_on_bool (has rules.founders i)
      (λ t. rw t (record { count = omega arith; each = λ k number e at. absurd (cc) }))
      (λ f. rw f (record { count = omega arith; each = λ k number e at. absurd (cc) }));
  welcomed = λ i f. rw f refl;
  heard = All-nil _;
  accepted = All-nil _;
}
