-- In every lawful run of the group, whom a View on the chain left out has stopped.
use Rattle.am_refinement.proofs.Words.{split_on_bool, ◌≡◌, either, ℕ, List, [], ◌∷◌, ◌++◌, length, true, false, refl, sym, ap, ◌∙◌, subst, arith, Entry, Leave, View}
use Rattle.am_refinement.proofs.Words.{GroupView, has, IsBeginningOf, IsNotView, is_member_at_end, stamp_of_list, key_of_stamp, front_begins_append, begins_through_both, beginning_is_no_longer, begins_push_or_is_push, length_of_pushed_list}
use Rattle.am_refinement.proofs.Words.{beginning_of_good_is_good, leaver_was_member, leaver_is_no_member, member_of_both_is_between, empty_list_has_no_member, Group, function_with_value, list_with_chosen_view, chain_of, Move, CoordinatorMayDecide, group_with_line}
use Rattle.am_refinement.proofs.Words.{group_with_choice, chosen_by, node_with_entry, numbers, stores, learns, begins, raises, fetches, gives_over, welcomes, asks, departs}
use Rattle.am_refinement.proofs.Words.{closes, stops, GroupKeeps, IsLawful, founded, more, group_start, put_at_same_index, put_keeps_property, deciding_list_begins_chain, departed_leave_in_deciding_list, group_run_is_kept_lawful, LeftOutHaveStopped}
use Rattle.am_refinement.proofs.Words.{RunsLeaveOut, first_choice, ◌+◌, ◌<◌, nat_tests, Stamp, first_stamp, put_at_same_or_other, HasRound, RoundsAreSet, RunsHaveRounds}
use Rattle.am_abstract_group.specs.Group.{Leads}
use Rattle.am_abstract_group.specs.Moves.{decides}
use Rattle.am_abstract_group.specs.Group as groups
use Rattle.am_refinement.proofs.{Growing.move_grows_each_name, Opens.numbered_entry_is_not_view}
use Rattle.std.proofs.lemmas.List.{same_from_push}

-- ---- in every run of the group each decided stamp has a round, and each promise of a name with a log

some_round : (round by : ℕ) → 0 < round → HasRound (key_of_stamp (record { round = round; by = by }))
unfolding key_of_stamp
some_round round by some = omega arith

-- a move of one node
put_rounds : (s t : Group) (i : ℕ) (b : groups.ChainNode) → t.node ≡ function_with_value s.node i b → t.views.decided ≡ s.views.decided
    → (b.has_log ≡ true → HasRound (key_of_stamp b.promise)) → RoundsAreSet s → RoundsAreSet t
put_rounds s t i b node decided new h = record {
  decided = λ x d. h.decided x (ap (λ f. f x) (sym decided) ∙ d);
  promised = λ j. subst (λ (f : ℕ → groups.ChainNode). (f j).has_log ≡ true → HasRound (key_of_stamp (f j).promise)) (sym node)
      (put_keeps_property (λ k (m : groups.ChainNode). m.has_log ≡ true → HasRound (key_of_stamp m.promise)) s.node i b new (λ k other. h.promised k) j);
}

choice_rounds : (s t : Group) (i : ℕ) (b : groups.ChainNode) → t.node ≡ function_with_value s.node i b → t.views.decided ≡ function_with_value s.views.decided (key_of_stamp (s.node i).promise) true
    → b.promise ≡ (s.node i).promise → (s.node i).has_log ≡ true → RoundsAreSet s → RoundsAreSet t
choice_rounds s t i b node decided promise log h =
    let mine = h.promised i log in
    record {
      decided = λ x d. either (put_at_same_or_other s.views.decided (key_of_stamp (s.node i).promise) true x)
          (λ z. subst HasRound (sym z.0) mine)
          (λ z. h.decided x (sym z.1 ∙ ap (λ f. f x) (sym decided) ∙ d));
      promised = λ j. subst (λ (f : ℕ → groups.ChainNode). (f j).has_log ≡ true → HasRound (key_of_stamp (f j).promise)) (sym node)
          (put_keeps_property (λ k (m : groups.ChainNode). m.has_log ≡ true → HasRound (key_of_stamp m.promise)) s.node i b
          (λ t. subst (λ (u : Stamp). HasRound (key_of_stamp u)) (sym promise) mine) (λ k other. h.promised k) j);
    }

same_rounds : (s t : Group) → t.node ≡ s.node → t.views.decided ≡ s.views.decided → RoundsAreSet s → RoundsAreSet t
same_rounds s t node decided h = record {
  decided = λ x d. h.decided x (ap (λ f. f x) (sym decided) ∙ d);
  promised = λ i. subst (λ (f : ℕ → groups.ChainNode). (f i).has_log ≡ true → HasRound (key_of_stamp (f i).promise)) (sym node) (h.promised i);
}

moves_rounds : (s t : Group) → Move s t → RoundsAreSet s → RoundsAreSet t
moves_rounds s t (numbers i e leads fit may) h = put_rounds s t i _ refl refl (h.promised i) h
moves_rounds s t (stores i e up decided other stays next) h = put_rounds s t i _ refl refl (h.promised i) h
moves_rounds s t (learns i told acc up rises within before up_to given low) h = put_rounds s t i _ refl refl (h.promised i) h
moves_rounds s t (begins i few up stays member) h = put_rounds s t i _ refl refl (λ log. some_round ((s.node i).promise.round + 1) i (omega arith)) h
moves_rounds s t (raises i stamp there above) h =
    put_rounds s t i (record (s.node i) { promise = stamp; ballot = false }) refl refl
    (λ log. (let old = h.promised i log in let up = above.greater in omega arith)) h
moves_rounds s t (fetches i f list e up ballot served shown next) h = put_rounds s t i _ refl refl (h.promised i) h
moves_rounds s t (decides i v may) h = choice_rounds s t i _ refl refl refl may.up.log h
moves_rounds s t (gives_over i) h = put_rounds s t i _ refl refl (h.promised i) h
moves_rounds s t (welcomes j stamp base join may) h = put_rounds s t j _ refl refl (λ log. h.decided (key_of_stamp stamp) may.decided) h
moves_rounds s t (asks i up none) h = put_rounds s t i _ refl refl (h.promised i) h
moves_rounds s t (departs i before may) h = put_rounds s t i _ refl refl (h.promised i) h
moves_rounds s t (closes i n leads leaving alone may) h = put_rounds s t i _ refl refl (h.promised i) h
moves_rounds s t (stops i) h = put_rounds s t i _ refl refl (h.promised i) h
moves_rounds s t _ h = same_rounds s t refl refl h

start_rounds : (founders : List ℕ) (first resilience : ℕ) → RoundsAreSet (group_start founders first resilience)
start_rounds founders first resilience = record {
  decided = λ x d. (let same : x ≡ key_of_stamp (first_stamp first) = grind (arith, nat_tests) in subst HasRound (sym same) (some_round 1 first (omega arith)));
  promised = λ i log. rw log (some_round 1 first (omega arith));
}

pub group_runs_have_rounds : RunsHaveRounds
group_runs_have_rounds founders first resilience s (founded may) = start_rounds founders first resilience
group_runs_have_rounds founders first resilience t (more {s = s} run step law) =
    let moved = moves_rounds s step.moved step.move (group_runs_have_rounds founders first resilience s run) in
    subst RoundsAreSet (sym step.is)
    (same_rounds step.moved (record (step.moved) { views = record (step.moved.views) { complete = step.complete } }) refl refl moved)

-- ---- who stopped stays so

same_left : (s t : Group) → ((j : ℕ) → (s.node j).stopped ≡ true → (t.node j).stopped ≡ true) → chain_of t.views ≡ chain_of s.views → LeftOutHaveStopped s → LeftOutHaveStopped t
same_left s t stays chain h a v name part member out =
    stays name (h a v name (subst (IsBeginningOf (a ++ View v ∷ [])) chain part) member out)

-- ---- an entry more, that is no View

is_no_view : (e : Entry) (v : GroupView) → IsNotView e → View v ≡ e → ⊥
is_no_view (View u) v plain same = plain
is_no_view _ v plain same = cc

line_left : (s t : Group) (e : Entry) → ((j : ℕ) → (s.node j).stopped ≡ true → (t.node j).stopped ≡ true) → IsNotView e
    → chain_of t.views ≡ chain_of s.views ++ e ∷ [] → LeftOutHaveStopped s → LeftOutHaveStopped t
line_left s t e stays plain chain h a v name part member out = either (begins_push_or_is_push e (subst (IsBeginningOf (a ++ View v ∷ [])) chain part))
    (λ z. stays name (h a v name z member out))
    (λ z. absurd (is_no_view e v plain (same_from_push a (chain_of s.views) (View v) e z).1))

-- the chain of who numbers
pub chain_after_numbered_entry : (s : Group) (i : ℕ) (b : groups.ChainNode) (e : Entry) → GroupKeeps s → Leads i (s.node i) → b.list ≡ (s.node i).list ++ e ∷ []
    → chain_of (group_with_line s i b).views ≡ chain_of s.views ++ e ∷ []
chain_after_numbered_entry s i b e k leads is =
    let ok = (k.each i).leads leads in
    let viewed : stamp_of_list (s.node i).list ≡ s.views.current = ap stamp_of_list ok.chain ∙ k.views.view in
    ap (function_with_value s.views.line (key_of_stamp (stamp_of_list (s.node i).list)) b.list) (ap key_of_stamp (sym viewed)) ∙ put_at_same_index s.views.line (key_of_stamp (stamp_of_list (s.node i).list)) b.list
    ∙ is ∙ ap (λ l. l ++ e ∷ []) ok.chain

-- ---- a decision

-- who departed is no member of what is chosen
pub departed_is_in_no_choice : (s : Group) (k : GroupKeeps s) (lawful : IsLawful s) (c : ℕ) (v : GroupView) (d : CoordinatorMayDecide s c v) (j : ℕ)
    → is_member_at_end (s.node c).list j ≡ true → (s.node j).departed ≡ true → ⊥
departed_is_in_no_choice s k lawful c v d j member gone =
    let o = k.departed j gone in
    let inside = departed_leave_in_deciding_list s k lawful c v d j gone in
    let good = beginning_of_good_is_good (begins_through_both inside (deciding_list_begins_chain s k lawful c v d)) k.views.good in
    leaver_is_no_member o.before j good (member_of_both_is_between j (beginning_of_good_is_good (deciding_list_begins_chain s k lawful c v d) k.views.good)
    (front_begins_append o.before (Leave j ∷ [])) inside (leaver_was_member o.before j good) member)

choice_left : (s : Group) (k : GroupKeeps s) (lawful : IsLawful s) (c : ℕ) (v : GroupView) → CoordinatorMayDecide s c v
    → ((j : ℕ) → (s.node j).stopped ≡ true → ((group_with_choice s c v).node j).stopped ≡ true) → LeftOutHaveStopped s → LeftOutHaveStopped (group_with_choice s c v)
choice_left s k lawful c v d stays h a u name part member out =
    let old = (s.node c).list in
    let e = View (chosen_by (s.node c) v).view in
    let all = list_with_chosen_view (chosen_by (s.node c) v) in
    let is : chain_of (group_with_choice s c v).views ≡ all = put_at_same_index s.views.line (key_of_stamp (s.node c).promise) all in
    either (begins_push_or_is_push e (subst (IsBeginningOf (a ++ View u ∷ [])) is part))
    (λ z. stays name (h a u name (begins_through_both z (deciding_list_begins_chain s k lawful c v d)) member out))
    (λ z. (let last = (same_from_push a old (View u) e z).1 in
    let its : u.members ≡ v.members = ap (λ x. names_of_view x) last in
    let front : a ≡ old = same_front a old (View u) e z in
    let here = subst (λ l. is_member_at_end l name ≡ true) front member in
    stays name (split_on_bool (s.node name).stopped
    (λ t. t)
    (λ goes. split_on_bool (s.node name).departed
    (λ gone. absurd (departed_is_in_no_choice s k lawful c v d name here gone))
    (λ there. absurd (let in_ = d.all name here (record { goes = goes; stays = there }) in let o = ap (λ set. has set name) its ∙ in_ in cc))))))
  where
    names_of_view : Entry → List ℕ
    names_of_view (View seen) = seen.members
    names_of_view _ = []

    same_front : (a b : List Entry) (x y : Entry) → a ++ x ∷ [] ≡ b ++ y ∷ [] → a ≡ b
    same_front [] [] x y same = refl
    same_front [] (b ∷ bs) x y same = absurd (let z = ap length same in let u = length_of_pushed_list bs y in omega arith)
    same_front (a ∷ as_) [] x y same = absurd (let z = ap length same in let u = length_of_pushed_list as_ x in omega arith)
    same_front (a ∷ as_) (b ∷ bs) x y same =
        let first : a ≡ b = cc in
        let rest : as_ ++ x ∷ [] ≡ bs ++ y ∷ [] = cc in
        (λ i. first i ∷ same_front as_ bs x y rest i)

-- ---- each move

move_left : (s t : Group) → Move s t → GroupKeeps s → IsLawful s → ((j : ℕ) → (s.node j).stopped ≡ true → (t.node j).stopped ≡ true) → LeftOutHaveStopped s → LeftOutHaveStopped t
move_left s t (numbers i e leads fit may) k law stays h = line_left s t e stays (numbered_entry_is_not_view s.node i e may)
    (chain_after_numbered_entry s i (node_with_entry (s.node i) e) e k leads refl) h
move_left s t (decides i v may) k law stays h = choice_left s k law i v may stays h
move_left s t (closes i n leads leaving alone may) k law stays h =
    line_left s t (Leave i) stays tt (chain_after_numbered_entry s i (record (node_with_entry (s.node i) (Leave i)) { departed = true }) (Leave i) k leads refl) h
move_left s t _ k law stays h = same_left s t stays refl h

moves_left : (s t : Group) → Move s t → GroupKeeps s → IsLawful s → LeftOutHaveStopped s → LeftOutHaveStopped t
moves_left s t move k law h = move_left s t move k law (λ j. (move_grows_each_name s t move k j).stopped) h

-- ---- each run

start_left : (founders : List ℕ) (first resilience : ℕ) → LeftOutHaveStopped (group_start founders first resilience)
start_left founders first resilience a v name part member out = either
    (begins_push_or_is_push {b = []} (View (first_choice founders first resilience).view) part)
    (λ low. absurd (let long = beginning_is_no_longer low in let one = length_of_pushed_list a (View v) in omega arith))
    (λ all. absurd (let long = ap length all in
    let one = length_of_pushed_list a (View v) in
    empty_list_has_no_member name (subst (λ l. is_member_at_end l name ≡ true) (nothing a (omega arith)) member)))
  where
    nothing : (l : List Entry) → length l ≡ 0 → l ≡ []
    nothing [] none = refl
    nothing (x ∷ xs) none = absurd (omega arith)

pub left_out_names_have_stopped : RunsLeaveOut
left_out_names_have_stopped founders first resilience s (founded may) = start_left founders first resilience
left_out_names_have_stopped founders first resilience t (more {s = s} run step law) =
    let o = group_run_is_kept_lawful founders first resilience s run in
    let moved = moves_left s step.moved step.move o.kept o.lawful (left_out_names_have_stopped founders first resilience s run) in
    subst LeftOutHaveStopped (sym step.is) (same_left step.moved (record (step.moved) { views = record (step.moved.views) { complete = step.complete } })
    (λ j z. z) refl moved)
