-- Each event keeps what a world keeps.
use Rattle.am_run_laws.proofs.UnballotedWords.{◌≡◌, ◌≢◌, ℕ, ◌≤◌, ◌==◌, true, false, List, [], ◌∷◌, ◌++◌, length, take, None, refl, sym, ap, ◌∙◌, subst, append-nil}
use Rattle.am_run_laws.proofs.UnballotedWords.{length-append, arith, All, flat_map, nat_tests, All-nil, All-append, All-push, All-weaker, Entry, Rules, has, Event}
use Rattle.am_run_laws.proofs.UnballotedWords.{Record, acting_name_of_record, entry_taken_by_outcome, entries_given_to, deliveries, Node, map_with_value, StepResult, World, record_of, list_after_step, world_with_step}
use Rattle.am_run_laws.proofs.UnballotedWords.{accepted_sends, welcome_numbers_of, split_on_bool, Cause, OutcomeTells, acting_name, IsCause, IsIdle}
use Rattle.am_run_laws.proofs.Worlds.{GivenAreListEntries, start_of_joined_list, WelcomeRecordTellsEarlierLetter, AcceptedSendStandsAt, RequestsAreAskedOnce, other_record_keeps_requests_once, WorldKeepsWholeList, UnballotedWorldHolds}
use Rattle.am_run_laws.proofs.Records.{idle_outcome_takes_nothing, idle_outcome_welcomes_nobody, idle_outcome_sends_nothing, idle_outcome_queues_nothing, deliveries_of_pushed_record, record_of_nothing_keeps_given, record_of_other_gives_nothing, record_without_take_gives_nothing, given_holds_in_longer_list}
use Rattle.am_run_laws.proofs.Records.{accepted_sends_in_longer_list, accepted_sends_with_next_record, welcomes_in_record, welcomes_of_pushed_record, record_without_welcome_welcomes_none, record_of_other_welcomes_none, record_holds_with_more_letters}
use Rattle.am_run_laws.proofs.{UnballotedKept.first_founder_of, UnballotedKept.UnballotedNodeKeeps, UnballotedKept.UnballotedLetterSays, UnballotedKept.unballoted_node_in_longer_list, UnballotedKept.unballoted_letter_in_longer_list, First.FirstFounderStaysMember, Chains.GaveByAnswer, Steps.given_after_step}
use Rattle.am_run_laws.proofs.{Steps.accepted_sends_of_step_stand, Welcomes.step_record_tells_earlier_letter, Welcomes.welcomes_after_step}

-- ---- one name's node

pub set_node_keeps_others_property : (P : ℕ → Node → Type 0) (nodes : ℕ → Node) (i : ℕ) (n : Node) → P i n → ((j : ℕ) → i ≢ j → P j (nodes j)) → (j : ℕ) → P j (map_with_value nodes i n j)
set_node_keeps_others_property P nodes i n k h j = split_on_bool (j == i)
    (λ t. let is : i ≡ j = grind (arith, nat_tests) in rw t (subst (λ x. P x n) is k))
    (λ f. rw f (h j (λ e. let z : ⊥ = grind (arith, nat_tests) in z)))

-- ---- a step

pub step_keeps_unballoted_list : (rules : Rules) (list more : List Entry) (acc to : ℕ) (w : World) (e : Event) (c : Cause) (s : StepResult) → WorldKeepsWholeList rules list acc w
    → acc ≤ length list → acc ≤ to → UnballotedNodeKeeps rules (list ++ more) to (acting_name w e) s.node → list_after_step w.group s.node ≡ take to (list ++ more)
    → All (UnballotedLetterSays rules (list ++ more) to) s.letters → GaveByAnswer c s.outcome (w.nodes (acting_name w e)) s.node → IsCause w (acting_name w e) e.act c
    → OutcomeTells (w.nodes (acting_name w e)) c s.node s.outcome → (w.nodes (acting_name w e)).ballot ≡ None
    → WorldKeepsWholeList rules (list ++ more) to (world_with_step w e (acting_name w e) s)
unfolding world_with_step
step_keeps_unballoted_list rules list more acc to w e c s h low up node group letters gave cause answer none =
    let i = acting_name w e in
    let m = w.nodes i in
    let r = record_of w e s.outcome s.letters in
    let own : (acting_name_of_record r == i) ≡ true = grind (arith, nat_tests) in
    let long = length-append w.letters s.letters in
    record {
      each = set_node_keeps_others_property (λ j x. UnballotedNodeKeeps rules (list ++ more) to j x) w.nodes i s.node node (λ j d. unballoted_node_in_longer_list rules list more acc to j (w.nodes j) up (h.each j));
      group = group;
      letters = All-append (UnballotedLetterSays rules (list ++ more) to) w.letters s.letters
          (All-weaker (UnballotedLetterSays rules list acc) (UnballotedLetterSays rules (list ++ more) to) (λ l. unballoted_letter_in_longer_list rules list more acc to l low up) w.letters h.letters)
          letters;
      given = set_node_keeps_others_property (λ j x. GivenAreListEntries (list ++ more) to x (deliveries (w.records ++ r ∷ []) j)) w.nodes i s.node
          (let old = given_holds_in_longer_list list more acc to m (deliveries w.records i) up (h.given i) in
          let new = given_after_step rules list more acc to i m s.node c s.outcome (deliveries w.records i) (h.each i) node none answer old gave in
          let mine : entries_given_to i r ≡ entry_taken_by_outcome s.outcome = rw own refl in
          subst (GivenAreListEntries (list ++ more) to s.node) (sym (deliveries_of_pushed_record w.records r i ∙ ap (λ l. deliveries w.records i ++ l) mine)) new)
          (λ j d. record_of_nothing_keeps_given (list ++ more) to (w.nodes j) w.records r j (record_of_other_gives_nothing r j d)
          (given_holds_in_longer_list list more acc to (w.nodes j) (deliveries w.records j) up (h.given j)));
      welcomed = λ j. set_node_keeps_others_property (λ x n. has rules.founders x ≡ false → welcome_numbers_of (world_with_step w e i s) x ≡ start_of_joined_list n) w.nodes i s.node
          (λ f. welcomes_of_pushed_record w.letters s.letters i w.records r h.heard ∙ ap (λ l. l ++ welcomes_in_record (w.letters ++ s.letters) i r) (h.welcomed i f)
          ∙ welcomes_after_step w i m s.node c r s.letters refl cause answer gave)
          (λ x d f. welcomes_of_pushed_record w.letters s.letters x w.records r h.heard ∙ ap (λ l. l ++ welcomes_in_record (w.letters ++ s.letters) x r) (h.welcomed x f)
          ∙ ap (λ l. start_of_joined_list (w.nodes x) ++ l) (record_of_other_welcomes_none (w.letters ++ s.letters) x r d) ∙ append-nil (start_of_joined_list (w.nodes x))) j;
      heard = All-push (WelcomeRecordTellsEarlierLetter (length (w.letters ++ s.letters))) w.records r
          (All-weaker (WelcomeRecordTellsEarlierLetter (length w.letters)) (WelcomeRecordTellsEarlierLetter (length (w.letters ++ s.letters)))
          (λ x. record_holds_with_more_letters (length w.letters) (length (w.letters ++ s.letters)) x (omega arith)) w.records h.heard)
          (step_record_tells_earlier_letter w i m s.node c r (length (w.letters ++ s.letters)) cause (omega arith) answer);
      accepted = accepted_sends_with_next_record (list ++ more) to w.records r (accepted_sends_of_step_stand rules list more acc to i m s.node c s.outcome (h.each i) up none answer)
          (accepted_sends_in_longer_list list more acc to _ up h.accepted);
    }

-- ---- an event that no node does

kept_idle : (rules : Rules) (list : List Entry) (acc : ℕ) (w v : World) (r : Record) → v.nodes ≡ w.nodes → v.letters ≡ w.letters → v.group ≡ w.group
    → v.records ≡ w.records ++ r ∷ [] → IsIdle r.outcome → WorldKeepsWholeList rules list acc w → WorldKeepsWholeList rules list acc v
kept_idle rules list acc w v r a b d g idle h = record {
  each = subst (λ nodes. (i : ℕ) → UnballotedNodeKeeps rules list acc i (nodes i)) (sym a) h.each;
  group = d ∙ h.group;
  letters = subst (All (UnballotedLetterSays rules list acc)) (sym b) h.letters;
  given = λ i. subst (λ n. GivenAreListEntries list acc n (deliveries v.records i)) (ap (λ f. f i) (sym a))
      (subst (λ rs. GivenAreListEntries list acc (w.nodes i) (deliveries rs i)) (sym g)
      (record_of_nothing_keeps_given list acc (w.nodes i) w.records r i (record_without_take_gives_nothing r i (idle_outcome_takes_nothing r.outcome idle)) (h.given i)));
  welcomed = λ i f. (λ j. flat_map (welcomes_in_record (b j) i) (g j))
      ∙ (ap (λ l. flat_map (welcomes_in_record l i) (w.records ++ r ∷ [])) (sym (append-nil w.letters)) ∙ welcomes_of_pushed_record w.letters [] i w.records r h.heard)
      ∙ ap (λ l. l ++ welcomes_in_record (w.letters ++ []) i r) (h.welcomed i f)
      ∙ ap (λ l. start_of_joined_list (w.nodes i) ++ l) (record_without_welcome_welcomes_none (w.letters ++ []) i r (idle_outcome_welcomes_nobody r.outcome idle)) ∙ append-nil (start_of_joined_list (w.nodes i))
      ∙ ap (λ f_. start_of_joined_list (f_ i)) (sym a);
  heard = subst (λ rs. All (WelcomeRecordTellsEarlierLetter (length v.letters)) rs) (sym g)
      (All-push (WelcomeRecordTellsEarlierLetter (length v.letters)) w.records r (subst (λ ls. All (WelcomeRecordTellsEarlierLetter (length ls)) w.records) (sym b) h.heard)
      (λ some. absurd (some (idle_outcome_welcomes_nobody r.outcome idle))));
  accepted = subst (λ rs. All (AcceptedSendStandsAt list acc) (accepted_sends rs)) (sym g)
      (accepted_sends_with_next_record list acc w.records r (subst (All (AcceptedSendStandsAt list acc)) (sym (idle_outcome_sends_nothing (acting_name_of_record r) r.outcome idle)) (All-nil (AcceptedSendStandsAt list acc)))
      h.accepted);
}

pub idle_event_keeps_unballoted_world : (rules : Rules) (w v : World) (r : Record) → v.nodes ≡ w.nodes → v.letters ≡ w.letters → v.group ≡ w.group → v.records ≡ w.records ++ r ∷ []
    → IsIdle r.outcome → UnballotedWorldHolds rules w → UnballotedWorldHolds rules v
idle_event_keeps_unballoted_world rules w v r a b d g idle h =
    let first = ap (λ f. f (first_founder_of rules)) a in
    record {
      first = subst (FirstFounderStaysMember rules) (sym first) h.first;
      kept = subst (λ (n : Node). WorldKeepsWholeList rules n.core.log.entries n.core.acc v) (sym first) (kept_idle rules _ _ w v r a b d g idle h.kept);
      asked = subst (λ nodes. RequestsAreAskedOnce v.records nodes) (sym a)
          (subst (λ rs. RequestsAreAskedOnce rs w.nodes) (sym g) (other_record_keeps_requests_once w.records w.nodes r (λ name req body is. idle_outcome_queues_nothing r.outcome req idle is.answered) h.asked));
    }
