-- What every run keeps.
use Rattle.am_abstract_group.proofs.Words.{◌≡◌, ℕ, zero, suc, ◌&&◌, not, Bool, true, false, List, [], ◌∷◌, ◌++◌, length, take, refl, sym, ◌∙◌, subst, arith, Entry}
use Rattle.am_abstract_group.proofs.Words.{Leave, IsBeginningOf, list_begins_itself, begins_through_both, taken_front_begins_list, shorter_beginning_begins_longer, length_of_taken_list, count_of_passing_below, ChainNode, list_with_chosen_view, Group, chain_of}
use Rattle.am_abstract_group.proofs.Words.{MayAccept, function_with_value, Move, numbers, stores, accepts, learns, begins, raises, shows, serves, fetches, decides, gives_over, welcomes}
use Rattle.am_abstract_group.proofs.Words.{asks, departs, closes, stops, node_with_entry, GroupStep, IsLawful, group_start, Run, founded, more, Onward, here, onward, counts_for, GroupKeeps}
use Rattle.am_abstract_group.proofs.Words.{RunsKeep, ChoicesKeep, CompleteViewsStand, front_begins_append}
use Rattle.am_abstract_group.proofs.Decide.{decision_keeps_group, earlier_choice_stays, earlier_decision_stays, group_begins_deciding_list}
use Rattle.am_abstract_group.proofs.{Start.start_group_is_kept, Steps.quiet_move_keeps_group, Marks.completed_view_keeps_group}

-- what grows along a run
record Grows (s t : Group) : Type 0 where
  group : IsBeginningOf s.group t.group
  decided : (x : ℕ) → s.views.decided x ≡ true → t.views.decided x ≡ true
  chosen : (x : ℕ) → s.views.decided x ≡ true → t.views.chosen x ≡ s.views.chosen x
  complete : (x : ℕ) → s.views.complete x ≡ true → t.views.complete x ≡ true

accept_grows : (node : ℕ → ChainNode) (group list chain : List Entry) (to : ℕ) → IsBeginningOf group chain → IsBeginningOf list chain → MayAccept node list (length group) to
    → IsBeginningOf group (take to list)
accept_grows node group list chain to g l may =
    let long = length_of_taken_list to list may.within in
    shorter_beginning_begins_longer g (begins_through_both (taken_front_begins_list to list) l) (omega arith)

-- a move leaves what is decided, and what was accepted
grows_on : {s t : Group} → GroupKeeps s → IsLawful s → Move s t → Grows s t
grows_on k law (accepts {s = s} i n a b) = assumption (
    accept_grows s.node s.group (s.node i).list (chain_of s.views) n k.group ((k.each i).list a.up) b
    )
grows_on k law (decides {s = s} i v a) = record {
  group = list_begins_itself s.group;
  decided = earlier_decision_stays s k law i v a;
  chosen = earlier_choice_stays s k law i v a;
  complete = λ x h. h;
}
grows_on k law (closes {s = s} i n a b c d) =
    let o = (k.each i).leads a in
    let whole = front_begins_append (s.node i).list (Leave i ∷ []) in
    let up : IsBeginningOf s.group ((s.node i).list ++ Leave i ∷ []) = begins_through_both (subst (IsBeginningOf s.group) (sym o.chain) k.group) whole in
    assumption (
    accept_grows (function_with_value s.node i (node_with_entry (s.node i) (Leave i))) s.group ((s.node i).list ++ Leave i ∷ []) ((s.node i).list ++ Leave i ∷ []) n up
    (list_begins_itself ((s.node i).list ++ Leave i ∷ [])) d
    )
grows_on {s} k law _ = record { group = list_begins_itself s.group; decided = λ x h. h; chosen = λ x h. refl; complete = λ x h. h }

move_keeps : {s t : Group} → GroupKeeps s → IsLawful s → Move s t → GroupKeeps t
move_keeps k law (decides {s = s} i v a) = decision_keeps_group s k law i v a
move_keeps k law (numbers i e a b c) = quiet_move_keeps_group (numbers i e a b c) tt k
move_keeps k law (stores i e a b c d f) = quiet_move_keeps_group (stores i e a b c d f) tt k
move_keeps k law (accepts i n a b) = quiet_move_keeps_group (accepts i n a b) tt k
move_keeps k law (learns i told acc a b c d e f g) = quiet_move_keeps_group (learns i told acc a b c d e f g) tt k
move_keeps k law (begins i a b c d) = quiet_move_keeps_group (begins i a b c d) tt k
move_keeps k law (raises i stamp a b) = quiet_move_keeps_group (raises i stamp a b) tt k
move_keeps k law (shows i a b c d e) = quiet_move_keeps_group (shows i a b c d e) tt k
move_keeps k law (serves i list a b c) = quiet_move_keeps_group (serves i list a b c) tt k
move_keeps k law (fetches i h list e a b c d f) = quiet_move_keeps_group (fetches i h list e a b c d f) tt k
move_keeps k law (gives_over i) = quiet_move_keeps_group (gives_over i) tt k
move_keeps k law (welcomes j stamp base join a) = quiet_move_keeps_group (welcomes j stamp base join a) tt k
move_keeps k law (asks i a b) = quiet_move_keeps_group (asks i a b) tt k
move_keeps k law (departs i before a) = quiet_move_keeps_group (departs i before a) tt k
move_keeps k law (closes i n a b c d) = quiet_move_keeps_group (closes i n a b c d) tt k
move_keeps k law (stops i) = quiet_move_keeps_group (stops i) tt k

-- a move, and the views that complete
step_keeps : (s t : Group) → GroupKeeps s → IsLawful s → GroupStep s t → GroupKeeps t
step_keeps s t k law step = subst GroupKeeps (sym step.is) (completed_view_keeps_group step.moved (move_keeps k law step.move) step.complete step.stay step.marks)

step_grows : (s t : Group) → GroupKeeps s → IsLawful s → GroupStep s t → Grows s t
step_grows s t k law step =
    let g = grows_on k law step.move in
    subst (Grows s) (sym step.is) (record { group = g.group; decided = g.decided; chosen = g.chosen; complete = λ x h. step.stay x (g.complete x h) })

none_pass : (p : ℕ → Bool) (n : ℕ) → ((j : ℕ) → p j ≡ false) → count_of_passing_below p n ≡ 0
unfolding count_of_passing_below
none_pass p zero h = refl
none_pass p (suc n) h = let z = h n in let r = none_pass p n h in rw (z, r) refl

and_false : (a b : Bool) → (a && (false && b)) ≡ false
and_false true b = refl
and_false false b = refl

start_lawful : (founders : List ℕ) (first resilience : ℕ) → IsLawful (group_start founders first resilience)
start_lawful founders first resilience view h g =
    let z = none_pass (λ name. counts_for (group_start founders first resilience) view name && (false && not false)) 256
    (λ j. and_false (counts_for (group_start founders first resilience) view j) (not false)) in
    rw z (omega arith)

pub record GroupIsKeptAndLawful (s : Group) : Type 0 where
  pub kept : GroupKeeps s
  pub lawful : IsLawful s

pub group_run_is_kept_lawful : (founders : List ℕ) (first resilience : ℕ) (s : Group) → Run founders first resilience s → GroupIsKeptAndLawful s
group_run_is_kept_lawful founders first resilience s (founded may) = record {
  kept = start_group_is_kept founders first resilience may;
  lawful = start_lawful founders first resilience;
}
group_run_is_kept_lawful founders first resilience t (more {s = s} run step law) = let o = group_run_is_kept_lawful founders first resilience s run in
    record { kept = step_keeps s t o.kept o.lawful step; lawful = law }

pub lawful_group_runs_are_kept : RunsKeep
lawful_group_runs_are_kept founders first resilience s run = (group_run_is_kept_lawful founders first resilience s run).kept

pub choices_keep_what_was_accepted : ChoicesKeep
choices_keep_what_was_accepted founders first resilience s run i v may = let o = group_run_is_kept_lawful founders first resilience s run in
    group_begins_deciding_list s o.kept o.lawful i v may

-- from a moment that is kept
record Since (s t : Group) : Type 0 where
  kept : GroupKeeps t
  lawful : IsLawful t
  grows : Grows s t

since : {s t : Group} → GroupKeeps s → IsLawful s → Onward s t → Since s t
since k law (here {s = s}) = assumption (list_begins_itself s.group)
since k law (onward {s = s} {t = t} {u = u} on step after) =
    let o = since k law on in
    let g = step_grows t u o.kept o.lawful step in
    let h = o.grows in
    record {
      kept = step_keeps t u o.kept o.lawful step;
      lawful = after;
      grows = record {
        group = begins_through_both h.group g.group;
        decided = λ x d. g.decided x (h.decided x d);
        chosen = λ x d. g.chosen x (h.decided x d) ∙ h.chosen x d;
        complete = λ x d. g.complete x (h.complete x d);
      };
    }

pub complete_views_stand : CompleteViewsStand
complete_views_stand founders first resilience s t run on =
    let o = group_run_is_kept_lawful founders first resilience s run in
    let k = o.kept in
    let n = since k o.lawful on in
    record {
      group = n.grows.group;
      views = λ x h. subst (λ ch. IsBeginningOf (list_with_chosen_view ch) (chain_of t.views)) (n.grows.chosen x (k.views.marked x h))
          (n.kept.views.complete x (n.grows.complete x h));
    }
