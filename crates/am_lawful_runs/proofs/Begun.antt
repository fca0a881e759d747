-- At the start there is a group that follows the world, and so there is up to the lawful front.
use Rattle.am_lawful_runs.proofs.Words.{watch_all_with_one_more, ◌≡◌, ℕ, zero, suc, ◌<◌, ◌≤◌, ◌==◌, true, List, [], ◌∷◌, ◌++◌, length, take, None, Some, refl, sym, ap, ◌∙◌}
use Rattle.am_lawful_runs.proofs.Words.{subst, arith, Contains, slice_index_or, nat_tests, take_all, All-nil, All-cons, View, Rules, MayFound, has, Event, IsGoodList}
use Rattle.am_lawful_runs.proofs.Words.{key_of_stamp, list_begins_itself, empty_list_begins_all, beginning_of_good_is_good, Group, chain_of, GroupMayBegin, founded, group_run_is_kept_lawful, lowest_name_or_zero, founding_stamp}
use Rattle.am_lawful_runs.proofs.Words.{has_departed, Decided, World, start, first_node, founders_decided, world_after_events, run, Watch, watch_events, watch_run, watch_start}
use Rattle.am_lawful_runs.proofs.Words.{broken_at, BecameComplete, split_on_bool, lowest_founder_founds, NamesNamed, GroupFor, first_nodes_keep_at_start, branches_begin_chain, group_goes_on_by_moves, group_stands_at_start}
use Rattle.am_lawful_runs.proofs.Words.{Following, StepsMove, founding_view}
use Rattle.am_abstract_group.specs.Runs as begun
use Rattle.am_lawful_runs.proofs.Shapes.{ListsAreShaped, lists_are_shaped_after_moves}
use Rattle.am_lawful_runs.proofs.Greatest.{watch_unbroken_before_event}
use Rattle.am_lawful_runs.proofs.Fold.{PropertyIsKeptByRuns, HeldUpToFront, complete_marks_stay_by_moves, held_after_next_event}

abbrev first_group : Rules → Group
first_group rules = begun.group_start rules.founders (lowest_name_or_zero rules.founders) rules.resilience

-- ---- the group's own start

may_begin : (rules : Rules) → MayFound rules → GroupMayBegin rules.founders (lowest_name_or_zero rules.founders) rules.resilience
may_begin rules may =
    let f = lowest_founder_founds rules may in
    record { small = omega arith; among = f.founds }

first_ok : (rules : Rules) → MayFound rules → GroupFor rules (first_group rules)
first_ok rules may =
    let begin = may_begin rules may in
    record {
      run = founded begin;
      branches = branches_begin_chain rules.founders (lowest_name_or_zero rules.founders) rules.resilience begin;
      named = All-cons NamesNamed (View (founding_view rules)) [] may.names (All-nil NamesNamed);
    }

own_key : (rules : Rules) → (key_of_stamp (founding_stamp rules) == key_of_stamp (founding_stamp rules)) ≡ true
own_key rules = grind (arith, nat_tests)

first_shaped : (rules : Rules) → MayFound rules → ListsAreShaped (first_group rules)
first_shaped rules may = record {
  lines = λ i some. split_on_bool (has rules.founders i)
      (λ t. record { view = key_of_stamp (founding_stamp rules); decided = own_key rules; line = rw t (list_begins_itself _) })
      (λ f. absurd (some (rw f refl)));
  sets = λ x d. may.names;
  good = λ i. (let k = group_run_is_kept_lawful rules.founders (lowest_name_or_zero rules.founders) rules.resilience (first_group rules) (founded (may_begin rules may)) in
      split_on_bool (has rules.founders i)
      (λ t. beginning_of_good_is_good ((k.kept.each i).list (record { log = t; there = record { goes = refl; stays = refl } })) k.kept.views.good)
      (λ f. subst IsGoodList (sym ((k.kept.each i).blank f)) (beginning_of_good_is_good (empty_list_begins_all (chain_of (first_group rules).views)) k.kept.views.good)));
}

-- ---- the start

none_gone : (rules : Rules) (i : ℕ) → has_departed (first_node rules i).status ≡ true → ⊥
none_gone rules i = split_on_bool (has rules.founders i) (λ t. rw t (λ z. absurd (cc))) (λ f. rw f (λ z. absurd (cc)))

record Started (rules : Rules) : Type 0 where
  pub to : Group
  pub follows : Following rules (start rules) to
  pub shaped : ListsAreShaped to
  pub marks : to.views.complete ≡ (first_group rules).views.complete

start_follows : (rules : Rules) → MayFound rules → Started rules
start_follows rules may =
    let s = first_group rules in
    let leads = group_stands_at_start rules may in
    let first = first_ok rules may in
    let on = group_goes_on_by_moves rules.founders (lowest_name_or_zero rules.founders) rules.resilience s leads.to first leads.path in
    record {
      to = leads.to;
      follows = record {
        group = on.group_;
        stands = leads.is;
        nodes = λ i few stays. first_nodes_keep_at_start rules leads.to on.group_ leads.is i few;
        gone = λ i few left. absurd (none_gone rules i left);
        letters = λ k letter at. absurd (cc);
      };
      shaped = lists_are_shaped_after_moves rules.founders (lowest_name_or_zero rules.founders) rules.resilience s leads.to first leads.path (first_shaped rules may);
      marks = complete_marks_stay_by_moves leads.path;
    }

-- ---- up to the lawful front

split_last : (events : List Event) (n : ℕ) → length events ≡ suc n → (before : List Event) × (e : Event) × (events ≡ before ++ e ∷ []) × (length before ≡ n)
split_last (e ∷ []) n h = ([], e, refl, omega arith)
split_last (e ∷ f ∷ es) (suc n) h =
    let r = split_last (f ∷ es) n (omega arith) in
    (e ∷ r.0, r.1, ap (λ l. e ∷ l) r.2, omega arith)
split_last _ _ h = absurd (omega arith)

only_in : (first d : Decided) (k : ℕ) → k < 1 → slice_index_or (first ∷ []) k d ≡ d → first ≡ d
only_in first d zero low is = is
only_in first d (suc k) low is = absurd (omega arith)

-- the founders' view is the only one then
only : (rules : Rules) (d : Decided) → BecameComplete rules [] d → founders_decided rules ≡ d
unfolding world_after_events
only rules d (k, among, done) =
    let low : length {A = Event} [] ≤ k = omega arith in
    let none : take k [] ≡ [] = take_all k [] low in
    let c = subst (λ (l : List Event). Contains (run rules l).views d) none among in
    only_in (founders_decided rules) d c.0 c.1 c.2

module _ (P : World → Group → Type 0) (rules : Rules) (keeps : PropertyIsKeptByRuns P rules) (moving : StepsMove) (may : MayFound rules)
    (begins : (t : Group) → Following rules (start rules) t → P (start rules) t) where
  held_none : HeldUpToFront P rules []
  unfolding world_after_events watch_events
  held_none =
      let s = start_follows rules may in
      let first = founders_decided rules in
      let is_marked : s.to.views.complete (key_of_stamp first.stamp) ≡ true = ap (λ f. f (key_of_stamp first.stamp)) s.marks ∙ own_key rules in
      record {
        followed = record { to = s.to; follows = s.follows; shaped = s.shaped; is = begins s.to s.follows };
        tied = record {
          index = 0;
          noted = refl;
          marked_ = is_marked;
          most = λ x done. (let was : (x == key_of_stamp first.stamp) ≡ true = ap (λ f. f x) (sym s.marks) ∙ done in
              let same : x ≡ key_of_stamp first.stamp = grind (arith, nat_tests) in omega arith);
        };
        became = λ d c. (let same = only rules d c in
            record { marked_ = ap (λ (x : Decided). s.to.views.complete (key_of_stamp x.stamp)) (sym same) ∙ is_marked; index = 0; there = ap Some same });
      }

  held_of : (n : ℕ) (events : List Event) → length events ≡ n → broken_at rules events ≡ None → HeldUpToFront P rules events
  held_of zero events long whole = subst (HeldUpToFront P rules) (sym (none_of events long)) held_none
    where
      none_of : (l : List Event) → length l ≡ 0 → l ≡ []
      none_of [] h = refl
      none_of (e ∷ es) h = absurd (omega arith)
  held_of (suc n) events long whole =
      let r = split_last events n long in
      let all : broken_at rules (r.0 ++ r.1 ∷ []) ≡ None = ap (broken_at rules) (sym r.2) ∙ whole in
      let before = watch_unbroken_before_event (watch_run rules r.0) r.1 (ap (λ (x : Watch). x.broken) (sym (watch_all_with_one_more (watch_start rules) r.0 r.1)) ∙ all) in
      subst (HeldUpToFront P rules) (sym r.2) (held_after_next_event P rules keeps moving may r.0 r.1 (held_of n r.0 r.3 before.before) all)

  pub group_follows_unbroken_run : (events : List Event) → broken_at rules events ≡ None → HeldUpToFront P rules events
  group_follows_unbroken_run events whole = held_of (length events) events refl whole
