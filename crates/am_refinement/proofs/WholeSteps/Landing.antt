-- Where a step's moves lead: a group that stands for the world after it, and each node keeps what it keeps.
use Rattle.am_refinement.proofs.WholeSteps.StepWords.{◌≡◌, ℕ, suc, ◌<◌, ◌==◌, true, false, List, [], ◌∷◌, ◌++◌, slice_get, Some, refl, sym, ◌∙◌, subst, arith, All, nat_tests}
use Rattle.am_refinement.proofs.WholeSteps.StepWords.{All-nil, All-cons, All-append, Rules, Event, IsBeginningOf, list_begins_itself, Group, map_with_value, lowest_name_or_zero, has_departed, StepResult}
use Rattle.am_refinement.proofs.WholeSteps.StepWords.{is_unfinished_ballot, World, list_after_step, views_after, world_with_step, split_on_bool, Cause, item_of_index_has_property, records_after_step, NameStands, FrontsStand}
use Rattle.am_refinement.proofs.WholeSteps.StepWords.{ViewsStand, StandsBut, Stands, within, Grows, Moves, GroupFor, NodeStandsKept, Stepping, Following, MovesLeadToFollowing, ShowsMore}
use Rattle.am_refinement.proofs.WholeSteps.StepWords.{LetterStampIsBegun, moves_are_transitive, letters_stay_as_group_grows, name_stands_with_same_group, views_stand_if_lines_stay, group_goes_on_by_moves, group_growth_is_transitive, node_keeps_as_others_stop, other_nodes_keep_through_change}
use Rattle.am_abstract_group.specs.Group as groups
use Rattle.am_refinement.proofs.WholeSteps.Starting.{with_records}
use Rattle.am_refinement.proofs.WholeSteps.Deeds.{with_group_and_views}
use Rattle.am_refinement.proofs.WholeSteps.StepLetters.{LettersToldByMoves}

-- all that follows at the group that moves led to, but for the letters
pub record StepLandsInGroup (rules : Rules) (v : World) (s t : Group) : Type 0 where
  pub path : Moves s t
  pub grows : Grows s t
  pub group : GroupFor rules t
  pub stands : Stands v t
  pub nodes : (i : ℕ) → i < 256 → has_departed (v.nodes i).status ≡ false → NodeStandsKept v t i (v.nodes i)
  pub gone : (i : ℕ) → i < 256 → has_departed (v.nodes i).status ≡ true → is_unfinished_ballot (v.nodes i).ballot ≡ false

-- ---- the others

-- from a group that stands for the world after the step, where the acting name keeps it
pub step_lands_where_group_stands : (rules : Rules) (w : World) (e : Event) (name : ℕ) (step : StepResult) (s t : Group) → Following rules w s → (path : Moves s t)
    → Stands (world_with_step w e name step) t → (has_departed step.node.status ≡ false → NodeStandsKept (world_with_step w e name step) t name step.node)
    → (has_departed step.node.status ≡ true → is_unfinished_ballot step.node.ballot ≡ false) → StepLandsInGroup rules (world_with_step w e name step) s t
unfolding world_with_step
step_lands_where_group_stands rules w e name step s t h path stands mine closed =
    let v = world_with_step w e name step in
    let on = group_goes_on_by_moves rules.founders (lowest_name_or_zero rules.founders) rules.resilience s t h.group path in
    let more : IsBeginningOf w.group v.group = subst (λ g. IsBeginningOf g v.group) h.stands.group (subst (IsBeginningOf s.group) stands.group on.grows.group) in
    record {
      path = path;
      grows = on.grows;
      group = on.group_;
      stands = stands;
      nodes = λ i few d. split_on_bool (i == name)
          (λ u. (let same : name ≡ i = grind (arith, nat_tests) in
          let here : has_departed step.node.status ≡ false → NodeStandsKept v t i step.node =
          subst (λ k. has_departed step.node.status ≡ false → NodeStandsKept v t k step.node) same mine in
          let stays : has_departed step.node.status ≡ false = rw u at d in
          rw u (here stays)))
          (λ f. (let there : NameStands v i (w.nodes i) (t.node i) = rw f at (stands.each i few) in
          let stays : has_departed (w.nodes i).status ≡ false = rw f at d in
          rw f (other_nodes_keep_through_change w v s t i (w.nodes i) (λ j z. z) on.grows (h.stands.each i few) there more (h.nodes i few stays))));
      gone = λ i few d. split_on_bool (i == name)
          (λ u. (let left : has_departed step.node.status ≡ true = rw u at d in rw u (closed left)))
          (λ f. (let left : has_departed (w.nodes i).status ≡ true = rw f at d in rw f (h.gone i few left)));
    }

-- ---- the end of a step that goes on

-- within a step, of a node as it is at the end: this is the world after the step
abbrev pub world_at_step_end : World → Event → ℕ → StepResult → World
world_at_step_end w e name step = with_group_and_views (with_records w (records_after_step w e step)) (list_after_step w.group step.node) (views_after w.views (w.nodes name) step.node)

-- what stands for it stands for the world after the step
pub group_stands_after_step : (w : World) (e : Event) (name : ℕ) (step : StepResult) (t : Group) → StandsBut name (within (world_at_step_end w e name step) name step.node) t
    → (has_departed step.node.status ≡ false → FrontsStand step.node (t.node name)) → Stands (world_with_step w e name step) t
unfolding world_with_step
group_stands_after_step w e name step t k own =
    let n = step.node in
    let u = within (world_at_step_end w e name step) name n in
    let v = world_with_step w e name step in
    record {
      each = λ i few. name_stands_with_same_group u v i (map_with_value w.nodes name n i) (t.node i) refl refl (k.each i few);
      fronts = λ i few d. split_on_bool (i == name)
          (λ z. (let same : name ≡ i = grind (arith, nat_tests) in
          let mine : has_departed n.status ≡ false → FrontsStand n (t.node i) =
          subst (λ j. has_departed n.status ≡ false → FrontsStand n (t.node j)) same own in
          let there : has_departed n.status ≡ false = rw z at d in
          rw z (mine there)))
          (λ f. k.fronts i few (λ same. (let z : (i == name) ≡ true = grind (arith, nat_tests) in cc)) d);
      views = views_stand_if_lines_stay u v t.views refl (λ stamp. refl) k.views;
      group = k.group;
    }

pub node_keeps_after_step : (rules : Rules) (w : World) (e : Event) (name : ℕ) (c : Cause) (step : StepResult) (t : Group)
    → Stepping rules (world_at_step_end w e name step) name c step.node t → NodeStandsKept (world_with_step w e name step) t name step.node
unfolding world_with_step
node_keeps_after_step rules w e name c step t h = node_keeps_as_others_stop (world_at_step_end w e name step) (world_with_step w e name step) t name step.node (λ j z. z) h.keeps

-- ---- with its letters

get_all : {A : Type 0} (P : A → Type 0) (xs : List A) → ((k : ℕ) (x : A) → slice_get xs k ≡ Some x → P x) → All P xs
get_all P [] f = All-nil P
get_all P (x ∷ xs) f = All-cons P x xs (f 0 x refl) (get_all P xs (λ k y is. f (suc k) y is))

same_stands : (v : World) (s t : Group) → ShowsMore s t → Stands v s → Stands v t
same_stands v s t same h = record {
  each = subst (λ (f : ℕ → groups.ChainNode). (i : ℕ) → i < 256 → NameStands v i (v.nodes i) (f i)) (sym same.node) h.each;
  fronts = subst (λ (f : ℕ → groups.ChainNode). (i : ℕ) → i < 256 → has_departed (v.nodes i).status ≡ false → FrontsStand (v.nodes i) (f i))
      (sym same.node) h.fronts;
  views = subst (ViewsStand v) (sym same.views) h.views;
  group = same.group_ ∙ h.group;
}

-- a group in which its letters are so follows
pub landed_group_with_told_letters : (rules : Rules) (w : World) (e : Event) (name : ℕ) (step : StepResult) (s t : Group) → Following rules w s
    → StepLandsInGroup rules (world_with_step w e name step) s t → LettersToldByMoves rules (world_with_step w e name step) step.letters t → MovesLeadToFollowing rules (world_with_step w e name step) s
unfolding world_with_step
landed_group_with_told_letters rules w e name step s t h land told =
    let v = world_with_step w e name step in
    let grows = group_growth_is_transitive s t told.to land.grows told.grows in
    let stands = same_stands v t told.to told.same land.stands in
    let older : All (LetterStampIsBegun v told.to) w.letters = get_all (LetterStampIsBegun v told.to) w.letters
    (λ k l at. letters_stay_as_group_grows w v s told.to l.to l.packet (_, refl) grows (h.letters k l at)) in
    let all = All-append (LetterStampIsBegun v told.to) w.letters step.letters older told.says in
    record {
      to = told.to;
      path = moves_are_transitive land.path told.path;
      grows = grows;
      is = record {
        group = told.group;
        stands = stands;
        nodes = λ i few d. other_nodes_keep_through_change v v t told.to i (v.nodes i) (λ j z. z) told.grows (land.stands.each i few) (stands.each i few) (list_begins_itself v.group)
            (land.nodes i few d);
        gone = land.gone;
        letters = λ k l at. item_of_index_has_property (LetterStampIsBegun v told.to) (w.letters ++ step.letters) k l all at;
      };
    }
