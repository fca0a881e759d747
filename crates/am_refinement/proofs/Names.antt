-- What one name has stands for what it had, where only some of it changes.
use Rattle.am_refinement.proofs.Words.{◌≡◌, ◌≢◌, ℕ, ◌<◌, ◌≤◌, ◌==◌, false, List, ◌++◌, length, take, slice_get, refl, sym, ap, ◌∙◌, subst, arith, Some, nat_tests}
use Rattle.am_refinement.proofs.Words.{Stamp, Entry, Log, IsBeginningOf, image_of_list, key_of_stamp, Group, Views, function_with_value, list_with_chosen_view, Move, Node, has_departed, Decided, World, is_stopped}
use Rattle.am_refinement.proofs.Words.{up_to_next, line_of, split_on_bool, NameStands, NotedStands, FrontsStand, ViewsStand, StandsBut, within, FrontsStay, MoveIsSound, none}
use Rattle.am_refinement.proofs.Words.{moves, MovesLeadTo, beginning_is_no_longer, list_begins_itself, Bool, BeginsIn}
use Rattle.am_abstract_group.specs.Group as groups
use Rattle.std.proofs.lemmas.List.{take-append-le}

-- ---- moves in turn

pub move_leads_to_property : (P : Group → Type 0) (s t : Group) (move : Move s t) → MoveIsSound move → P t → MovesLeadTo P s
move_leads_to_property P s t m ok h = record { to = t; path = moves m ok none; is = h }

pub no_move_leads_to_property : (P : Group → Type 0) (s : Group) → P s → MovesLeadTo P s
no_move_leads_to_property P s h = record { to = s; path = none; is = h }

-- ---- moves within a step of a name, which leave its fronts

abbrev pub MovesOntoStandingGroup : ℕ → World → Group → Type 0
MovesOntoStandingGroup name v s = MovesLeadTo (λ t. StandsBut name v t × FrontsStay name s t) s

pub standing_group_without_move : (name : ℕ) (v : World) (s : Group) → StandsBut name v s → MovesOntoStandingGroup name v s
standing_group_without_move name v s h = no_move_leads_to_property (λ t. StandsBut name v t × FrontsStay name s t) s (h, record { told = refl; acc = refl })

pub standing_group_after_one_move : (name : ℕ) (v : World) (s t : Group) (move : Move s t) → MoveIsSound move → (b : groups.ChainNode) → t.node name ≡ b → b.told ≡ (s.node name).told
    → b.acc ≡ (s.node name).acc → StandsBut name v t → MovesOntoStandingGroup name v s
standing_group_after_one_move name v s t move ok b is told_ acc_ h = move_leads_to_property (λ u. StandsBut name v u × FrontsStay name s u) s t move ok
    (h, record { told = ap (λ (a : groups.ChainNode). a.told) is ∙ told_; acc = ap (λ (a : groups.ChainNode). a.acc) is ∙ acc_ })

-- ---- one name

-- ---- a longer group list

pub take_of_longer_list : (n : ℕ) (old new : List Entry) → IsBeginningOf old new → n ≤ length old → take n new ≡ take n old
take_of_longer_list n old new h low = ap (take n) (sym h.same) ∙ take-append-le n old h.rest low

-- in another world, whose group list goes on, where it stopped or not
pub name_stands_in_later_world : (w v : World) (i : ℕ) (m : Node) (a : groups.ChainNode) (stops : Bool) → IsBeginningOf w.group v.group → stops ≡ is_stopped v i → NameStands w i m a
    → NameStands v i m (record a { stopped = stops })
name_stands_in_later_world w v i m a stops grows now h =
    let more = beginning_is_no_longer grows in
    let same = take_of_longer_list m.core.log.start w.group v.group grows h.begins.within in
    let begins : BeginsIn v m.core.log = record { within = omega arith; image = h.begins.image ∙ ap image_of_list (sym same) } in
    assumption (h.list ∙ ap (λ (l : List Entry). l ++ m.core.log.entries) (sym same))

pub name_stands_in_grown_world : (w v : World) (i : ℕ) (m : Node) (a : groups.ChainNode) → IsBeginningOf w.group v.group → is_stopped v i ≡ is_stopped w i → NameStands w i m a
    → NameStands v i m a
name_stands_in_grown_world w v i m a grows stopped h = name_stands_in_later_world w v i m a a.stopped grows (h.stopped ∙ sym stopped) h

-- and with the same group list
pub name_stands_with_same_group : (w v : World) (i : ℕ) (m : Node) (a : groups.ChainNode) → v.group ≡ w.group → is_stopped v i ≡ is_stopped w i → NameStands w i m a → NameStands v i m a
name_stands_with_same_group w v i m a group stopped h = name_stands_in_grown_world w v i m a (subst (IsBeginningOf w.group) (sym group) (list_begins_itself w.group)) stopped h

-- ---- views

-- with another line
pub noted_view_with_other_line : (w v : World) (views : Views) (d : Decided) (line : ℕ → List Entry) → line (key_of_stamp d.stamp) ≡ line_of v d.stamp
    → IsBeginningOf (list_with_chosen_view (views.chosen (key_of_stamp d.stamp))) (line (key_of_stamp d.stamp)) → NotedStands w views d → NotedStands v (record views { line = line }) d
noted_view_with_other_line w v views d line is opens n = record { decided = n.decided; chose = n.chose; line = is; opens = opens }

-- where the lines of the noted views stay
pub views_stand_if_noted_lines_stay : (w v : World) (views : Views) → v.views ≡ w.views
    → ((k : ℕ) (d : Decided) → slice_get w.views k ≡ Some d → line_of v d.stamp ≡ line_of w d.stamp) → ViewsStand w views → ViewsStand v views
views_stand_if_noted_lines_stay w v views same lines h = record {
  noted = λ k d at. (let there = ap (λ (l : List Decided). slice_get l k) (sym same) ∙ at in let n = h.noted k d there in
      noted_view_with_other_line w v views d views.line (n.line ∙ sym (lines k d there)) n.opens n);
  decided = λ x t. (let n = h.decided x t in
      record { index = n.index; view = n.view; there = ap (λ (l : List Decided). slice_get l n.index) same ∙ n.there; is = n.is });
  current = λ d last. h.current d (record { before = last.before; is = sym same ∙ last.is });
}

pub views_stand_if_lines_stay : (w v : World) (views : Views) → v.views ≡ w.views → ((stamp : Stamp) → line_of v stamp ≡ line_of w stamp) → ViewsStand w views
    → ViewsStand v views
views_stand_if_lines_stay w v views same lines h = views_stand_if_noted_lines_stay w v views same (λ k d at. lines d.stamp) h

-- ---- a world within a step

-- the lines where a node keeps its list
pub lines_stay_with_same_log : (w : World) (name : ℕ) (x y : Node) → y.core.log ≡ x.core.log → (stamp : Stamp)
    → line_of (within w name y) stamp ≡ line_of (within w name x) stamp
lines_stay_with_same_log w name x y log stamp = split_on_bool (stamp.by == name)
    (λ t. rw t (ap (λ (l : Log). up_to_next stamp (take l.start w.group ++ l.entries)) log))
    (λ f. rw f refl)

-- a node that takes another's place, for a changed part of the group
pub others_stand_within_changed_node : (w : World) (name : ℕ) (x y : Node) (s : Group) (b : groups.ChainNode)
    → (NameStands (within w name x) name x (s.node name) → NameStands (within w name y) name y b)
    → ((i : ℕ) → i < 256 → NameStands (within w name x) i ((within w name x).nodes i) (s.node i))
    → (i : ℕ) → i < 256 → NameStands (within w name y) i ((within w name y).nodes i) (function_with_value s.node name b i)
unfolding function_with_value
others_stand_within_changed_node w name x y s b f h i few = split_on_bool (i == name)
    (λ t.
    let same : i ≡ name = grind (arith, nat_tests) in
    let old : NameStands (within w name x) i x (s.node i) = rw t at (h i few) in
    let mine : NameStands (within w name x) name x (s.node name) = subst (λ k. NameStands (within w name x) k x (s.node k)) same old in
    let new : NameStands (within w name y) i y b = subst (λ k. NameStands (within w name y) k y b) (sym same) (f mine) in
    rw t new)
    (λ g.
    let old : NameStands (within w name x) i (w.nodes i) (s.node i) = rw g at (h i few) in
    rw g (name_stands_with_same_group (within w name x) (within w name y) i (w.nodes i) (s.node i) refl refl old))

pub fronts_stand_within_changed_node : (w : World) (name : ℕ) (x y : Node) (s : Group) (b : groups.ChainNode)
    → ((i : ℕ) → i < 256 → i ≢ name → has_departed ((within w name x).nodes i).status ≡ false → FrontsStand ((within w name x).nodes i) (s.node i))
    → (i : ℕ) → i < 256 → i ≢ name → has_departed ((within w name y).nodes i).status ≡ false → FrontsStand ((within w name y).nodes i) (function_with_value s.node name b i)
unfolding function_with_value
fronts_stand_within_changed_node w name x y s b h i few other = split_on_bool (i == name)
    (λ t. absurd (let same : i ≡ name = grind (arith, nat_tests) in other same))
    (λ f. rw f (λ d. (let old : has_departed (w.nodes i).status ≡ false → FrontsStand (w.nodes i) (s.node i) = rw f at (h i few other) in old d)))
