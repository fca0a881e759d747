-- What a name accepted of its own list stands in the group list.
use Rattle.am_lawful_runs.proofs.Words.{◌≡◌, either, ℕ, suc, ◌+◌, ◌-◌, ◌<◌, ◌≤◌, ◌==◌, List, ◌++◌, length, take, drop, Some, slice_get, refl, sym, ap, ◌∙◌}
use Rattle.am_lawful_runs.proofs.Words.{subst, arith, length-take-le, Entry, slice_get-drop, item_at, slice_get_of_append_back, IsBeginningOf, Group, GroupKeeps, Node, view, whole, World}
use Rattle.am_lawful_runs.proofs.Words.{list_with_accepted, list_after_step, split_on_bool, NameStands, FrontsStand, slice_get_is_item_at, item_at_of_take, le_or_gt}
use Rattle.am_lawful_runs.proofs.Lists.{item_stays_in_longer_list}
use Rattle.am_lawful_runs.proofs.Shapes.{ListGoesAlong}

-- ---- numbers in a name's whole list

pub item_of_whole_list : (w : World) (m : Node) (index : ℕ) (e : Entry) → m.core.log.start ≤ length w.group → slice_get m.core.log.entries index ≡ Some e
    → item_at (whole w m) (m.core.log.start + index + 1) ≡ Some e
item_of_whole_list w m index e low at =
    let front = take m.core.log.start w.group in
    let long : length front ≡ m.core.log.start = length-take-le m.core.log.start w.group low in
    slice_get_is_item_at (whole w m) (m.core.log.start + index + 1) (length front + index) e (omega arith) (slice_get_of_append_back front m.core.log.entries index ∙ at)

-- ---- by the group's own numbers

-- what a name that hasn't departed accepted is accepted
pub accepted_item_is_in_group : (w : World) (s : Group) (i number : ℕ) (e : Entry) → GroupKeeps s → NameStands w i (w.nodes i) (s.node i) → FrontsStand (w.nodes i) (s.node i)
    → s.group ≡ w.group → number ≤ (w.nodes i).core.acc → item_at (whole w (w.nodes i)) number ≡ Some e → item_at w.group number ≡ Some e
accepted_item_is_in_group w s i number e k h f group low at =
    let a = s.node i in
    let mine : item_at a.list number ≡ Some e = ap (λ l. item_at l number) h.list ∙ at in
    let there = item_stays_in_longer_list number e (k.each i).fronts.delivered (item_at_of_take a.acc a.list number e (omega arith) mine) in
    ap (λ l. item_at l number) (sym group) ∙ there

-- ---- by what the group list is after a step

-- a new number of the group list has the entry of the name's list
grown_item : (group : List Entry) (n : Node) (index number : ℕ) (e : Entry) → n.core.log.start ≤ length group → number ≡ n.core.log.start + index + 1
    → length group < number → number ≤ n.core.acc → slice_get n.core.log.entries index ≡ Some e → item_at (list_with_accepted group n.core) number ≡ Some e
grown_item group n index number e start is above low at =
    let j = number - length group - 1 in
    let more = take (n.core.acc - length group) (drop (length group - n.core.log.start) n.core.log.entries) in
    let place : (length group - n.core.log.start) + j ≡ index = omega arith in
    let dropped : slice_get (drop (length group - n.core.log.start) n.core.log.entries) j ≡ Some e = slice_get-drop (length group - n.core.log.start) j
    n.core.log.entries
    ∙ ap (slice_get n.core.log.entries) place ∙ at in
    let item : item_at (drop (length group - n.core.log.start) n.core.log.entries) (j + 1) ≡ Some e = slice_get_is_item_at _ (j + 1) j e refl dropped in
    let taken : item_at more (j + 1) ≡ Some e = item_at_of_take (n.core.acc - length group) _ (j + 1) e (omega arith) item in
    let got : slice_get more j ≡ Some e = next more j ∙ taken in
    slice_get_is_item_at (group ++ more) number (length group + j) e (omega arith) (slice_get_of_append_back group more j ∙ got)
  where
    next : (xs : List Entry) (j : ℕ) → slice_get xs j ≡ item_at xs (j + 1)
    next xs j = let z : suc j ≡ j + 1 = omega arith in ap (item_at xs) z

after_item : (group : List Entry) (n : Node) (index number : ℕ) (e : Entry) → n.core.log.start ≤ length group → number ≡ n.core.log.start + index + 1
    → length group < number → number ≤ n.core.acc → n.core.acc ≤ length (list_after_step group n) → slice_get n.core.log.entries index ≡ Some e
    → item_at (list_after_step group n) number ≡ Some e
after_item group n index number e start is above low within at = split_on_bool ((view n).by == n.core.who)
    (λ t. rw t (grown_item group n index number e start is above low at))
    (λ f. absurd (let z : n.core.acc ≤ length group = rw f at within in omega arith))

-- what is accepted of the list that a name has after its step, whether it departs then or not
pub step_item_is_in_group : (w v : World) (s t : Group) (i index number : ℕ) (e : Entry) (n : Node) → ListGoesAlong s t i → s.group ≡ w.group → NameStands v i n (t.node i)
    → v.group ≡ list_after_step w.group n → IsBeginningOf w.group v.group → n.core.log.start ≤ length w.group → n.core.log.start ≤ length v.group
    → number ≡ n.core.log.start + index + 1 → number ≤ n.core.acc → n.core.acc ≤ length v.group → slice_get n.core.log.entries index ≡ Some e
    → item_at v.group number ≡ Some e
step_item_is_in_group w v s t i index number e n along group stands after grows start start_v is low within at = either (le_or_gt number (length w.group))
    (λ old. (let mine : item_at (t.node i).list number ≡ Some e = ap (λ l. item_at l number) stands.list
    ∙ ap (item_at (whole v n)) is ∙ item_of_whole_list v n index e start_v at in
    let there = along number e (subst (λ (g : List Entry). number ≤ length g) (sym group) old) mine in
    item_stays_in_longer_list number e grows (ap (λ l. item_at l number) (sym group) ∙ there)))
    (λ new. ap (λ l. item_at l number) after
    ∙ after_item w.group n index number e start is new low (subst (λ (g : List Entry). n.core.acc ≤ length g) after within) at)
