-- A world within a step whose group list, and views, have gone on.
use Rattle.am_refinement.proofs.WholeSteps.StepWords.{◌≡◌, ℕ, ◌<◌, List, ◌++◌, Some, slice_get, refl, sym, ap, ◌∙◌, Entry, Record, IsBeginningOf, Group, group_with_node, Node, Decided, World}
use Rattle.am_refinement.proofs.WholeSteps.StepWords.{up_to_next, NameStands, StandsBut, within, WasAsked, SendsOnce, views_stand_if_noted_lines_stay, others_stand_within_changed_node, fronts_stand_within_changed_node, lines_stay_with_same_log}
use Rattle.am_refinement.proofs.WholeSteps.StepWords.{views_stand_if_lines_stay, IsSameToGroup, same_node_keeps_name_standing, take_of_longer_list, name_stands_in_grown_world}
use Rattle.am_abstract_group.specs.Group as groups

-- views were noted by names
abbrev pub ViewsAreNotedByNames : List Decided → Type 0
ViewsAreNotedByNames views = (k : ℕ) (d : Decided) → slice_get views k ≡ Some d → d.stamp.by < 256

abbrev pub with_group_list : World → List Entry → World
with_group_list w group = record w { group = group }

-- ---- what stands

-- with more accepted
pub group_stands_with_more_accepted : (v : World) (group : List Entry) (name : ℕ) (s : Group) → IsBeginningOf v.group group → ViewsAreNotedByNames v.views → StandsBut name v s
    → StandsBut name (with_group_list v group) (record s { group = group })
group_stands_with_more_accepted v group name s grows noted h = record {
  each = λ i few. name_stands_in_grown_world v (with_group_list v group) i (v.nodes i) (s.node i) grows refl (h.each i few);
  fronts = h.fronts;
  views = views_stand_if_noted_lines_stay v (with_group_list v group) s.views refl (λ k d at. (let m = v.nodes d.stamp.by in
      ap (λ l. up_to_next d.stamp (l ++ m.core.log.entries))
      (take_of_longer_list m.core.log.start v.group group grows (h.each d.stamp.by (noted k d at)).begins.within))) h.views;
  group = refl;
}

-- a node that is the same to the group, and that has learned
abbrev pub with_told_and_accepted : groups.ChainNode → ℕ → ℕ → groups.ChainNode
with_told_and_accepted a told acc = record a { told = told; acc = acc }

name_learned : (v : World) (i : ℕ) (m : Node) (a : groups.ChainNode) (told acc : ℕ) → NameStands v i m a → NameStands v i m (with_told_and_accepted a told acc)
name_learned v i m a told acc h = assumption

pub group_stands_with_learned_fronts : (w : World) (name : ℕ) (x y : Node) (s : Group) (told acc : ℕ) → IsSameToGroup x y → StandsBut name (within w name x) s
    → StandsBut name (within w name y) (group_with_node s name (with_told_and_accepted (s.node name) told acc))
group_stands_with_learned_fronts w name x y s told acc u h = record {
  each = others_stand_within_changed_node w name x y s (with_told_and_accepted (s.node name) told acc)
      (λ k. name_learned (within w name y) name y (s.node name) told acc (same_node_keeps_name_standing w name name x y (s.node name) u k)) h.each;
  fronts = fronts_stand_within_changed_node w name x y s (with_told_and_accepted (s.node name) told acc) h.fronts;
  views = views_stand_if_lines_stay (within w name x) (within w name y) s.views refl (lines_stay_with_same_log w name x y u.log) h.views;
  group = h.group;
}

-- ---- what a node keeps, and what was asked

pub sends_once_with_same_records : (w v : World) → v.records ≡ w.records → SendsOnce w → SendsOnce v
sends_once_with_same_records w v same h name req a b p q = h name req a b (asked_in name req a p) (asked_in name req b q)
  where
    asked_in : (name req : ℕ) (body : List ℕ) → WasAsked v name req body → WasAsked w name req body
    asked_in name req body k = record { index = k.index; done = k.done; there = ap (λ (l : List Record). slice_get l k.index) (sym same) ∙ k.there; is = k.is }
