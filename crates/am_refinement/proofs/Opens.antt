-- What begins the line of a decided view begins the line of its own last View's, in every lawful run of the group.
use Rattle.am_refinement.proofs.Words.{◌≡◌, ◌≢◌, either, ℕ, ◌==◌, List, [], ◌∷◌, ◌++◌, true, refl, sym, ap, ◌∙◌, subst, arith, Entry, Leave, View}
use Rattle.am_refinement.proofs.Words.{GroupView, Stamp, IsBeginningOf, IsNotView, stamp_of_list, key_of_stamp, view_after_pushed_view, view_stays_by_pushed_non_view, list_begins_itself, front_begins_append, begins_through_both}
use Rattle.am_refinement.proofs.Words.{begins_push_or_is_push, Group, function_with_value, list_with_chosen_view, IsUp, Move, MayNumber, CoordinatorMayDecide, group_with_line, group_with_choice, chosen_by}
use Rattle.am_refinement.proofs.Words.{node_with_entry, numbers, closes, GroupKeeps, founded, more, group_start, first_stamp, put_at_same_index, put_at_other_index, put_at_same_or_other, put_keeps_property, group_run_is_kept_lawful}
use Rattle.am_refinement.proofs.Words.{LineOpens, LinesOpen, RunsOpen, first_choice, number_equals_itself}
use Rattle.am_abstract_group.specs.Group.{Leads}
use Rattle.am_abstract_group.specs.Moves.{decides}
use Rattle.am_abstract_group.specs.Group as groups
use Rattle.am_refinement.proofs.Growing.{line_of_leading_view, beginning_of_nil_is_nil}

-- ---- an entry more of a sequencer

line_opens : (s : Group) (i : ℕ) (e : Entry) (b : groups.ChainNode) → GroupKeeps s → Leads i (s.node i) → IsNotView e → b.list ≡ (s.node i).list ++ e ∷ [] → LinesOpen s
    → LinesOpen (group_with_line s i b)
line_opens s i e b k leads plain is h x list d some part =
    let old = (s.node i).list in
    let at = key_of_stamp (stamp_of_list old) in
    let chain : s.views.line at ≡ old = line_of_leading_view s i k leads in
    let up : (y : ℕ) → IsBeginningOf (s.views.line y) (function_with_value s.views.line at b.list y) = λ y. put_keeps_property (λ z l. IsBeginningOf (s.views.line z) l) s.views.line at b.list
    (subst (λ l. IsBeginningOf l b.list) (sym chain) (subst (IsBeginningOf old) (sym is) (front_begins_append old (e ∷ [])))) (λ z other. list_begins_itself (s.views.line z)) y in
    let before : IsBeginningOf list (s.views.line x)
    → LineOpens (group_with_line s i b) list = λ low. (let o = h x list d some low in
    record { decided = o.decided; line_ = begins_through_both o.line_ (up (key_of_stamp (stamp_of_list list))) }) in
    either (put_at_same_or_other s.views.line at b.list x)
    (λ z. either (begins_push_or_is_push e (subst (IsBeginningOf list) is (subst (IsBeginningOf list) z.1 part)))
    (λ low. before (subst (λ y. IsBeginningOf list (s.views.line y)) (sym z.0) (subst (IsBeginningOf list) (sym chain) low)))
    (λ all. (let same : stamp_of_list list ≡ stamp_of_list old = ap stamp_of_list all ∙ view_stays_by_pushed_non_view old e plain in
    let decided : s.views.decided at ≡ true = ap s.views.decided (sym z.0) ∙ d in
    record {
      decided = ap (λ (u : Stamp). s.views.decided (key_of_stamp u)) same ∙ decided;
      line_ = subst (λ (u : Stamp). IsBeginningOf list (function_with_value s.views.line at b.list (key_of_stamp u))) (sym same)
          (subst (IsBeginningOf list) (sym (put_at_same_index s.views.line at b.list)) (subst (IsBeginningOf list) (all ∙ sym is) (list_begins_itself list)));
    })))
    (λ z. before (subst (IsBeginningOf list) z.1 part))

-- the list of who is up is such a beginning
pub up_name_list_opens_line : (s : Group) (i : ℕ) → GroupKeeps s → LinesOpen s → IsUp (s.node i) → (s.node i).list ≢ [] → LineOpens s (s.node i).list
up_name_list_opens_line s i k h up some = h (key_of_stamp s.views.current) (s.node i).list k.views.now some ((k.each i).list up)

-- ---- a decision

choice_opens : (s : Group) (i : ℕ) (v : GroupView) → GroupKeeps s → CoordinatorMayDecide s i v → LinesOpen s
    → LinesOpen (group_with_choice s i v)
choice_opens s i v k may h x list d some part =
    let a = s.node i in
    let at = key_of_stamp a.promise in
    let all = list_with_chosen_view (chosen_by a v) in
    let fresh : (y : ℕ) → s.views.decided y ≡ true → y ≢ at = λ y is same.
    (let above = ((k.each i).ballot may.up may.ballot).above in let most = k.views.order y is in omega arith) in
    let before : (y : ℕ) → s.views.decided y ≡ true → IsBeginningOf list (s.views.line y) → LineOpens (group_with_choice s i v) list = λ y is low.
    (let o = h y list is some low in
    let other = fresh (key_of_stamp (stamp_of_list list)) o.decided in
    record {
      decided = put_at_other_index s.views.decided at true (key_of_stamp (stamp_of_list list)) other ∙ o.decided;
      line_ = subst (IsBeginningOf list) (sym (put_at_other_index s.views.line at all (key_of_stamp (stamp_of_list list)) other)) o.line_;
    }) in
    either (put_at_same_or_other s.views.line at all x)
    (λ z. either (begins_push_or_is_push (View (chosen_by a v).view) (subst (IsBeginningOf list) z.1 part))
    (λ low. before (key_of_stamp s.views.current) k.views.now (begins_through_both low ((k.each i).list may.up)))
    (λ whole. (let same : stamp_of_list list ≡ a.promise = ap stamp_of_list whole ∙ view_after_pushed_view a.list (chosen_by a v).view in
    record {
      decided = ap (λ (u : Stamp). function_with_value s.views.decided at true (key_of_stamp u)) same ∙ put_at_same_index s.views.decided at true;
      line_ = subst (λ (u : Stamp). IsBeginningOf list (function_with_value s.views.line at all (key_of_stamp u))) (sym same)
          (subst (IsBeginningOf list) (sym (put_at_same_index s.views.line at all)) (subst (IsBeginningOf list) whole (list_begins_itself list)));
    })))
    (λ z. before x (sym (put_at_other_index s.views.decided at true x z.0) ∙ d)
    (subst (IsBeginningOf list) z.1 part))

-- ---- each move

same_lines : (s t : Group) → t.views.decided ≡ s.views.decided → t.views.line ≡ s.views.line → LinesOpen s → LinesOpen t
same_lines s t decided lines h x list d some part =
    let o = h x list (ap (λ f. f x) (sym decided) ∙ d) some (subst (λ f. IsBeginningOf list (f x)) lines part) in
    record { decided = ap (λ f. f (key_of_stamp (stamp_of_list list))) decided ∙ o.decided; line_ = subst (λ f. IsBeginningOf list (f (key_of_stamp (stamp_of_list list)))) (sym lines) o.line_ }

pub numbered_entry_is_not_view : (node : ℕ → groups.ChainNode) (i : ℕ) (e : Entry) → MayNumber node i e → IsNotView e
numbered_entry_is_not_view node i (View v) may = may
numbered_entry_is_not_view node i _ may = tt

pub moves_keep_lines_open : (s t : Group) → Move s t → GroupKeeps s → LinesOpen s → LinesOpen t
moves_keep_lines_open s t (numbers i e leads fit may) k h = line_opens s i e (node_with_entry (s.node i) e) k leads (numbered_entry_is_not_view s.node i e may) refl h
moves_keep_lines_open s t (decides i v may) k h = choice_opens s i v k may h
moves_keep_lines_open s t (closes i n leads leaving alone may) k h =
    let b = record (node_with_entry (s.node i) (Leave i)) { departed = true } in
    same_lines (group_with_line s i b) t refl refl (line_opens s i (Leave i) b k leads tt refl h)
moves_keep_lines_open s t _ k h = same_lines s t refl refl h

-- ---- each run

start_opens : (founders : List ℕ) (first resilience : ℕ) → LinesOpen (group_start founders first resilience)
start_opens founders first resilience x list d some part = either (begins_push_or_is_push (View (first_choice founders first resilience).view) part)
    (λ low. absurd (some (beginning_of_nil_is_nil list low)))
    (λ all. (let same : stamp_of_list list ≡ first_stamp first = ap stamp_of_list all ∙ view_after_pushed_view [] (first_choice founders first resilience).view in
    record {
      decided = ap (λ (u : Stamp). key_of_stamp u == key_of_stamp (first_stamp first)) same ∙ number_equals_itself (key_of_stamp (first_stamp first));
      line_ = subst (IsBeginningOf list) all (list_begins_itself list);
    }))

pub group_runs_keep_lines_open : RunsOpen
group_runs_keep_lines_open founders first resilience s (founded may) = start_opens founders first resilience
group_runs_keep_lines_open founders first resilience t (more {s = s} run step law) =
    let moved = moves_keep_lines_open s step.moved step.move (group_run_is_kept_lawful founders first resilience s run).kept (group_runs_keep_lines_open founders first resilience s run) in
    subst LinesOpen (sym step.is) (same_lines step.moved
    (record (step.moved) { views = record (step.moved.views) { complete = step.complete } }) refl refl moved)
