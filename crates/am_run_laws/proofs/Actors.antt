-- A step of any name, and of the first founder.
use Rattle.am_run_laws.proofs.UnballotedWords.{◌≡◌, ◌≢◌, ⊎_elim, ℕ, zero, suc, ◌-◌, ◌≤◌, ◌==◌, true, false, List, [], ◌∷◌, ◌++◌, length, take, drop, None, refl}
use Rattle.am_run_laws.proofs.UnballotedWords.{sym, ap, ◌∙◌, subst, append_assoc, append-nil, arith, All, nat_tests, take-append-le, length-take-le, All-weaker}
use Rattle.am_run_laws.proofs.UnballotedWords.{Stamp, Entry, View, Outcome, Rules, Log, CoreState, Letter, Act, Event, Record, Departed, Node, view, map_with_value}
use Rattle.am_run_laws.proofs.UnballotedWords.{has_log_by_status, StepResult, World, record_of, list_after_step, world_with_step, packet_heard_by_act, split_on_bool, Cause, hears, Change, refreshes, settles}
use Rattle.am_run_laws.proofs.UnballotedWords.{numbers, stores, begins_list, opens, looks, fetches, stores_view, closes, LetterSays, OutcomeTells, WasQueued, AnswersAsk}
use Rattle.am_run_laws.proofs.UnballotedWords.{Effect, acting_name, IsCause, all_gives_item_at, refresh_rests_with_list, own_leave_rests, settle_changes_only_sends, NodeBodiesWereSent, CauseCarriesSentBodies, change_keeps_sent_bodies, WorldBodiesWereSent}
use Rattle.am_run_laws.proofs.UnballotedWords.{all_sent_in_longer_records, records_after_step, cause_of_step_was_sent, member_status_has_log}
use Rattle.am_base.specs.declared.outcome.Outcome.TheVariants as said
use Rattle.am_run_laws.proofs.Chains.{no_ballot_after_none_before, changes_without_ballot_keep, changes_keep_start_without_welcome, last_request_le_after_changes, GaveByAnswer, nothing, each_change_gives_by_answer}
use Rattle.am_run_laws.proofs.{UnballotedKept.first_founder_of, UnballotedKept.UnballotedNodeKeeps, UnballotedKept.ListIsOfTheWhole, UnballotedKept.UnballotedFrontsAreInOrder, UnballotedKept.UnballotedLetterSays}
use Rattle.am_run_laws.proofs.{UnballotedKept.UnballotedPacketSays, UnballotedKept.UnballotedCauseSays, Others.HeardInUnballotedRun, Others.look_leaves_a_ballot, Others.change_keeps_other_unballoted_node, First.ListHasOnlyFoundersView}
use Rattle.am_run_laws.proofs.{First.FirstFounderBase, First.FirstFounderStaysMember, FirstChanges.change_keeps_first_founder, FirstChanges.view_of_first_founder, FirstChanges.logged_node_is_not_welcomed, Says.UnballotedSender}
use Rattle.am_run_laws.proofs.{Says.FirstFounderHasWholeList, Says.FetchedNodeKeepsStart, Says.unballoted_letter_says_so, Worlds.RequestsAreAskedOnce, Worlds.asked_once_means_one_body, Worlds.send_record_keeps_requests_once, Worlds.WorldKeepsWholeList, Worlds.UnballotedWorldHolds}
use Rattle.am_run_laws.proofs.{Steps.no_ballot_answers_no_ask, Goes.step_keeps_unballoted_list}

-- ---- what makes a name do a step

cause_ok : (rules : Rules) (list : List Entry) (acc i : ℕ) (w : World) (a : Act) (c : Cause) → All (UnballotedLetterSays rules list acc) w.letters → IsCause w i a c
    → UnballotedCauseSays rules list acc i c
cause_ok rules list acc i w a (hears p) h is =
    let l = all_gives_item_at (UnballotedLetterSays rules list acc) w.letters (packet_heard_by_act a) is.letter h is.there in
    subst (UnballotedPacketSays rules list acc i) is.is (l.heard i is.addressed)
cause_ok rules list acc i w a _ h is = tt

asked_step : (w : World) (e : Event) (c : Cause) (s : StepResult) → RequestsAreAskedOnce w.records w.nodes → Effect (w.nodes (acting_name w e)) c s → s.node.ballot ≡ None
    → RequestsAreAskedOnce (records_after_step w e s) (map_with_value w.nodes (acting_name w e) s.node)
asked_step w e c s h effect none =
    let i = acting_name w e in
    let m = w.nodes i in
    send_record_keeps_requests_once w.records w.nodes i s.node (record_of w e s.outcome s.letters) refl (last_request_le_after_changes effect.changes none)
    (λ req body is. ⊎_elim
    (λ (x : WasQueued m s.node req). (let next = x.next in let more = x.more in (next, omega arith)))
    (λ (x : AnswersAsk m c (said.Queued req)). absurd (no_ballot_answers_no_ask m c _ (no_ballot_after_none_before effect.changes none) x))
    (subst (OutcomeTells m c s.node) is.answered effect.answer)) h

-- ---- the sender of its letters

sends_of : (rules : Rules) (list : List Entry) (acc i : ℕ) (m : Node) (c : Cause) (s : StepResult) (effect : Effect m c s) → UnballotedNodeKeeps rules list acc i s.node
    → s.node.ballot ≡ None → UnballotedSender rules list acc i m effect.sender
sends_of rules list acc i m c s effect h none =
    let core : s.node.core ≡ effect.sender.core = ap (λ (x : Node). x.core) effect.is in
    record {
      who = ap (λ (x : CoreState). x.who) (sym core) ∙ h.who;
      log = subst (λ (x : CoreState). ListIsOfTheWhole list acc x.log) core h.log;
      fronts = subst (λ (x : CoreState). UnballotedFrontsAreInOrder (first_founder_of rules) acc i x) core h.fronts;
      promise = λ t. ap (λ (x : CoreState). x.promise) (sym core)
          ∙ h.status.promise (⊎_elim (λ (x : s.node.status ≡ effect.sender.status). ap has_log_by_status x
          ∙ member_status_has_log effect.sender.status t) (λ (x : s.node.status ≡ Departed). ap has_log_by_status x) effect.stays);
      none = ap (λ (x : Node). x.ballot) (sym effect.is) ∙ none;
      before = no_ballot_after_none_before effect.changes none;
    }

fetched_of : (rules : Rules) (list : List Entry) (acc i : ℕ) (m : Node) (c : Cause) (s : StepResult) (effect : Effect m c s) → UnballotedNodeKeeps rules list acc i m
    → s.node.ballot ≡ None → FetchedNodeKeepsStart c m effect.sender
fetched_of rules list acc i m c s effect h none name v stored is =
    let same = changes_keep_start_without_welcome (λ a b d f g heard. (let z = sym is ∙ heard in absurd (cc))) effect.changes none in
    let core = ap (λ (x : Node). x.core.log.start) effect.is in
    omega arith

-- ---- another name

record OtherOk (rules : Rules) (list : List Entry) (acc i : ℕ) (all : List Record) (c : Cause) (o : Outcome) (m x : Node) : Type 0 where
  pub sent : NodeBodiesWereSent all i x
  pub node : UnballotedNodeKeeps rules list acc i x
  pub gave : GaveByAnswer c o m x

-- nobody but the first founder accepts more
pub group_after_of_low_accepted : (group : List Entry) (n : Node) → n.core.acc ≤ length group → list_after_step group n ≡ group
group_after_of_low_accepted group n low =
    let z : n.core.acc - length group ≡ 0 = omega arith in
    split_on_bool ((view n).by == n.core.who)
    (λ t. rw t (ap (λ k. group ++ take k (drop (length group - n.core.log.start) n.core.log.entries)) z ∙ append-nil group))
    (λ f. rw f refl)

accepted_within : (rules : Rules) (m : Node) → FirstFounderBase rules m → m.core.acc ≤ length m.core.log.entries
accepted_within rules m h = let w = h.node.fronts.within in let s = h.start in omega arith

module _ (rules : Rules) (w : World) (e : Event) (c : Cause) (s : StepResult) (h : UnballotedWorldHolds rules w) (sent : WorldBodiesWereSent w) (d : acting_name w e ≢ first_founder_of rules)
    (cause : IsCause w (acting_name w e) e.act c) (effect : Effect (w.nodes (acting_name w e)) c s) (none : s.node.ballot ≡ None) where
  abbrev i : ℕ
  i = acting_name w e

  abbrev m : Node
  m = w.nodes (acting_name w e)

  abbrev first : Node
  first = w.nodes (first_founder_of rules)

  abbrev list : List Entry
  list = (w.nodes (first_founder_of rules)).core.log.entries

  abbrev acc : ℕ
  acc = (w.nodes (first_founder_of rules)).core.acc

  asked : RequestsAreAskedOnce (records_after_step w e s) (map_with_value w.nodes i s.node)
  asked = asked_step w e c s h.asked effect none

  within : acc ≤ length list
  within = accepted_within rules first h.first.base

  ok : UnballotedCauseSays rules list acc i c
  ok = cause_ok rules list acc i w e.act c h.kept.letters cause

  -- what the step comes to
  other_chain : OtherOk rules list acc i (records_after_step w e s) c s.outcome m s.node
  other_chain =
      let all = records_after_step w e s in
      let old = all_sent_in_longer_records w.records (record_of w e s.outcome s.letters ∷ []) w.nodes w.letters w.group sent.all in
      let was : CauseCarriesSentBodies all i s.outcome c = cause_of_step_was_sent w e s c sent cause in
      let heard : HeardInUnballotedRun rules list acc i all s.outcome c = record {
        cause = ok;
        within = within;
        unique = asked_once_means_one_body all (map_with_value w.nodes i s.node) asked;
        sent = (old.each (first_founder_of rules)).entries;
      } in
      let before : OtherOk rules list acc i all c s.outcome m m = record { sent = old.each i; node = h.kept.each i; gave = nothing refl refl refl } in
      changes_without_ballot_keep (OtherOk rules list acc i all c s.outcome m)
      (λ x y z n q. record {
        sent = change_keeps_sent_bodies all i c s.outcome x y was z q.sent;
        node = change_keeps_other_unballoted_node rules list acc i all c s.outcome x y heard d z n q.sent q.node;
        gave = each_change_gives_by_answer rules list acc i m x y q.node z n q.gave;
      })
      effect.changes none before

  pub other_step_keeps_unballoted_world : UnballotedWorldHolds rules (world_with_step w e i s)
  unfolding world_with_step
  other_step_keeps_unballoted_world =
      let p = other_chain in
      let back = append-nil list in
      let node : UnballotedNodeKeeps rules (list ++ []) acc i s.node = subst (λ l. UnballotedNodeKeeps rules l acc i s.node) (sym back) p.node in
      let sends = sends_of rules list acc i m c s effect p.node none in
      let fetched = fetched_of rules list acc i m c s effect (h.kept.each i) none in
      let says : (l : Letter) → LetterSays m c effect.sender l
      → UnballotedLetterSays rules (list ++ []) acc l = λ l x. subst (λ t. UnballotedLetterSays rules t acc l) (sym back)
      (unballoted_letter_says_so rules list list acc acc i m effect.sender c l sends (λ q. absurd (d q)) fetched ok x) in
      let low : s.node.core.acc ≤ length w.group = (let a = p.node.fronts.accepted in let b = length-take-le acc list within in let g = ap length h.kept.group
      in
      omega arith) in
      let group : list_after_step w.group s.node ≡ take acc (list ++ []) = group_after_of_low_accepted w.group s.node low ∙ h.kept.group ∙ ap (take acc) (sym back) in
      let kept = step_keeps_unballoted_list rules list [] acc acc w e c s h.kept within (omega arith) node group
      (All-weaker (LetterSays m c effect.sender) (UnballotedLetterSays rules (list ++ []) acc) says s.letters effect.letters) p.gave cause effect.answer
      (no_ballot_after_none_before effect.changes none) in
      let differs : (first_founder_of rules == i) ≡ false = split_on_bool (first_founder_of rules == i) (λ t. absurd (d (grind (arith, nat_tests)))) (λ f. f) in
      let same : first ≡ map_with_value w.nodes i s.node (first_founder_of rules) = rw differs refl in
      record {
        first = subst (FirstFounderStaysMember rules) same h.first;
        kept = subst (λ (n : Node). WorldKeepsWholeList rules n.core.log.entries n.core.acc (world_with_step w e i s)) same
            (subst (λ l. WorldKeepsWholeList rules l acc (world_with_step w e i s)) back kept);
        asked = asked;
      }

-- ---- the first founder

-- the list goes on, and more is accepted
record Grown (m x : Node) : Type 0 where
  pub more : List Entry
  pub is : x.core.log.entries ≡ m.core.log.entries ++ more
  pub up : m.core.acc ≤ x.core.acc

grown_by : (k m n : Node) (es : List Entry) → n.core.log.entries ≡ m.core.log.entries ++ es → m.core.acc ≤ n.core.acc → Grown k m → Grown k n
grown_by k m n es e up h = record {
  more = h.more ++ es;
  is = e ∙ ap (λ l. l ++ es) h.is ∙ append_assoc k.core.log.entries h.more es;
  up = let u = h.up in
      omega arith;
}

grown_same : (k m n : Node) → n.core.log.entries ≡ m.core.log.entries → m.core.acc ≤ n.core.acc → Grown k m → Grown k n
grown_same k m n e up h = grown_by k m n [] (e ∙ sym (append-nil m.core.log.entries)) up h

grown_change : {c : Cause} {o : Outcome} (rules : Rules) (k m n : Node) → FirstFounderStaysMember rules m → Change c o m n → n.ballot ≡ None → Grown k m → Grown k n
grown_change rules k m n f refreshes none h = let r = refresh_rests_with_list m in grown_same k m n (ap (λ (l : Log). l.entries) r.log) r.rests.acc h
grown_change rules k m n f settles none h = subst (Grown k) (sym (settle_changes_only_sends m)) (grown_same k m _ refl (omega arith) h)
grown_change rules k m n f (numbers e leads room why) none h = grown_by k m n (e ∷ []) refl (omega arith) h
grown_change rules k m n f (stores s v base a number e by heard plain may) none h = grown_by k m n (e ∷ []) refl (omega arith) h
grown_change rules k m n f (begins_list s v base join image is says may) none h = absurd (logged_node_is_not_welcomed m s v base join image may f.base.log)
grown_change rules k m n f (opens least resilience by may) none h = absurd (cc)
grown_change rules k m n f (looks b verdict over why look is) none h = absurd (look_leaves_a_ballot m b verdict look none)
grown_change rules k m n f (fetches s v base number e is heard promise below from may) none h = grown_by k m n (e ∷ []) refl (omega arith) h
grown_change rules k m n f (stores_view s base number v is heard own other promise below may) none h =
    grown_by k m n (View v ∷ []) refl (omega arith) h
grown_change rules k m n f (closes leads leaves last room) none h = let r = own_leave_rests m in grown_by k m n r.more r.entries r.acc h
grown_change rules k m n f _ none h = grown_same k m n refl (omega arith) h

record FirstGoes (rules : Rules) (c : Cause) (o : Outcome) (m x : Node) : Type 0 where
  pub ok : FirstFounderStaysMember rules x
  pub grown : Grown m x
  pub gave : GaveByAnswer c o m x

take_none : {A : Type 0} (n : ℕ) → take {A = A} n [] ≡ []
take_none zero = refl
take_none (suc n) = refl

take_rest : {A : Type 0} (xs : List A) (a b : ℕ) → a ≤ b → take a xs ++ take (b - a) (drop a xs) ≡ take b xs
take_rest xs zero b low = ap (λ n. take n xs) (let z : b - 0 ≡ b = omega arith in z)
take_rest xs (suc a) zero low = absurd (omega arith)
take_rest [] (suc a) (suc b) low = take_none (suc b - suc a)
take_rest (x ∷ xs) (suc a) (suc b) low =
    let z : suc b - suc a ≡ b - a = omega arith in
    ap (λ n. x ∷ (take a xs ++ take n (drop a xs))) z ∙ ap (λ l. x ∷ l) (take_rest xs a b (omega arith))

-- the first founder's list grows, and the group's with what it accepts
first_group : (rules : Rules) (group list more : List Entry) (acc : ℕ) (n : Node) → FirstFounderBase rules n → n.core.log.entries ≡ list ++ more → acc ≤ n.core.acc
    → acc ≤ length list → group ≡ take acc list → list_after_step group n ≡ take n.core.acc (list ++ more)
first_group rules group list more acc n h is up low same =
    let v = view_of_first_founder rules n h in
    let by : ((view n).by == n.core.who) ≡ true = (let b = ap (λ (x : Stamp). x.by) v in grind (arith, nat_tests)) in
    let long : length group ≡ acc = ap length same ∙ length-take-le acc list low in
    let begins : group ≡ take acc (list ++ more) = same ∙ sym (take-append-le acc list more low) in
    let skip : length group - n.core.log.start ≡ acc = omega arith in
    let count : n.core.acc - length group ≡ n.core.acc - acc = omega arith in
    rw by ((λ j. begins j ++ take (count j) (drop (skip j) (is j))) ∙ take_rest (list ++ more) acc n.core.acc up)

-- the first founder's node, before its step
record FirstNow (rules : Rules) (w : World) (i : ℕ) (c : Cause) : Type 0 where
  first : FirstFounderStaysMember rules (w.nodes i)
  kept : WorldKeepsWholeList rules (w.nodes i).core.log.entries (w.nodes i).core.acc w
  cause : UnballotedCauseSays rules (w.nodes i).core.log.entries (w.nodes i).core.acc i c

first_now : (rules : Rules) (w : World) (e : Event) (c : Cause) → UnballotedWorldHolds rules w → acting_name w e ≡ first_founder_of rules → IsCause w (acting_name w e) e.act c
    → FirstNow rules w (acting_name w e) c
first_now rules w e c h eq cause =
    let i = acting_name w e in
    let m = w.nodes i in
    let here : w.nodes (first_founder_of rules) ≡ m = ap w.nodes (sym eq) in
    let kept : WorldKeepsWholeList rules m.core.log.entries m.core.acc w = subst (λ (x : Node). WorldKeepsWholeList rules x.core.log.entries x.core.acc w) here h.kept in
    record {
      first = subst (FirstFounderStaysMember rules) here h.first;
      kept = kept;
      cause = cause_ok rules m.core.log.entries m.core.acc i w e.act c kept.letters cause;
    }

first_chain : (rules : Rules) (w : World) (e : Event) (c : Cause) (s : StepResult) → UnballotedWorldHolds rules w → acting_name w e ≡ first_founder_of rules → IsCause w (acting_name w e) e.act c
    → Effect (w.nodes (acting_name w e)) c s → s.node.ballot ≡ None → FirstGoes rules c s.outcome (w.nodes (acting_name w e)) s.node
first_chain rules w e c s h eq cause effect none =
    let i = acting_name w e in
    let m = w.nodes i in
    let now = first_now rules w e c h eq cause in
    let ok_first : UnballotedCauseSays rules m.core.log.entries m.core.acc (first_founder_of rules) c = subst (λ x. UnballotedCauseSays rules m.core.log.entries m.core.acc x c) eq now.cause in
    let before : FirstGoes rules c s.outcome m m = record {
      ok = now.first;
      grown = record { more = []; is = sym (append-nil m.core.log.entries); up = omega arith };
      gave = nothing refl refl refl;
    } in
    changes_without_ballot_keep (FirstGoes rules c s.outcome m)
    (λ x y z n q. record {
      ok = change_keeps_first_founder rules m.core.log.entries m.core.acc c s.outcome x y ok_first z n q.ok;
      grown = grown_change rules m x y q.ok z n q.grown;
      gave = each_change_gives_by_answer rules x.core.log.entries x.core.acc (first_founder_of rules) m x y q.ok.base.node z n q.gave;
    })
    effect.changes none before

pub founder_step_keeps_unballoted_world : (rules : Rules) (w : World) (e : Event) (c : Cause) (s : StepResult) → UnballotedWorldHolds rules w → acting_name w e ≡ first_founder_of rules → IsCause w (acting_name w e) e.act c
    → Effect (w.nodes (acting_name w e)) c s → s.node.ballot ≡ None → UnballotedWorldHolds rules (world_with_step w e (acting_name w e) s)
unfolding world_with_step
founder_step_keeps_unballoted_world rules w e c s h eq cause effect none =
    let i = acting_name w e in
    let m = w.nodes i in
    let list = m.core.log.entries in
    let acc = m.core.acc in
    let now = first_now rules w e c h eq cause in
    let p = first_chain rules w e c s h eq cause effect none in
    let n = s.node in
    let g = p.grown in
    let to = n.core.acc in
    let within = accepted_within rules m now.first.base in
    let node_i : UnballotedNodeKeeps rules n.core.log.entries to i n = subst (λ x. UnballotedNodeKeeps rules n.core.log.entries to x n) (sym eq) p.ok.base.node in
    let node : UnballotedNodeKeeps rules (list ++ g.more) to i n = subst (λ l. UnballotedNodeKeeps rules l to i n) g.is node_i in
    let sends = sends_of rules (list ++ g.more) to i m c s effect node none in
    let fetched = fetched_of rules list acc i m c s effect (now.kept.each i) none in
    let core : n.core ≡ effect.sender.core = ap (λ (x : Node). x.core) effect.is in
    let first : FirstFounderHasWholeList rules (list ++ g.more) to m effect.sender = record {
      high = subst (λ (x : CoreState). acc ≤ x.acc) core g.up;
      list_ = sym g.is ∙ ap (λ (x : CoreState). x.log.entries) core;
      acc_ = ap (λ (x : CoreState). x.acc) core;
      start = ap (λ (x : CoreState). x.log.start) (sym core) ∙ p.ok.base.start;
      group = subst (ListHasOnlyFoundersView rules) g.is p.ok.base.group;
    } in
    let says : (l : Letter) → LetterSays m c effect.sender l
    → UnballotedLetterSays rules (list ++ g.more) to l =
    λ l x. unballoted_letter_says_so rules (list ++ g.more) list to acc i m effect.sender c l sends (λ q. first) fetched now.cause x in
    let group = first_group rules w.group list g.more acc n p.ok.base g.is g.up within now.kept.group in
    let kept = step_keeps_unballoted_list rules list g.more acc to w e c s now.kept within g.up node group
    (All-weaker (LetterSays m c effect.sender) (UnballotedLetterSays rules (list ++ g.more) to) says s.letters effect.letters) p.gave cause effect.answer
    (no_ballot_after_none_before effect.changes none) in
    let mine : (first_founder_of rules == i) ≡ true = grind (arith, nat_tests) in
    let same : n ≡ map_with_value w.nodes i n (first_founder_of rules) = rw mine refl in
    record {
      first = subst (FirstFounderStaysMember rules) same p.ok;
      kept = subst (λ (x : Node). WorldKeepsWholeList rules x.core.log.entries x.core.acc (world_with_step w e i s)) same
          (subst (λ l. WorldKeepsWholeList rules l to (world_with_step w e i s)) (sym g.is) kept);
      asked = asked_step w e c s h.asked effect none;
    }

-- ---- what was given

pub step_gives_what_it_answers : (rules : Rules) (w : World) (e : Event) (c : Cause) (s : StepResult) → UnballotedWorldHolds rules w → WorldBodiesWereSent w → IsCause w (acting_name w e) e.act c
    → Effect (w.nodes (acting_name w e)) c s → s.node.ballot ≡ None → GaveByAnswer c s.outcome (w.nodes (acting_name w e)) s.node
step_gives_what_it_answers rules w e c s h sent cause effect none = split_on_bool (acting_name w e == first_founder_of rules)
    (λ t. let is : acting_name w e ≡ first_founder_of rules = grind (arith, nat_tests) in (first_chain rules w e c s h is cause effect none).gave)
    (λ f. (other_chain rules w e c s h sent (λ q. let z : ⊥ = grind (arith, nat_tests) in z) cause effect none).gave)
