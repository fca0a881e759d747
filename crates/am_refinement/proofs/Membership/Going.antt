-- The Gone that is sent is so: its name has stopped, or all who have to have stored its Leave.
use Rattle.am_refinement.proofs.Words.{only_name_has_just_itself, split_on_bool, ◌≡◌, ◌≢◌, ℕ, ◌+◌, ◌-◌, ◌<◌, ◌≤◌, ◌==◌, ◌&&◌, nat_lt, nat_le, true, false, List, [], ◌∷◌, ◌++◌, length, take}
use Rattle.am_refinement.proofs.Words.{set, get_or, slice_index, Option, Some, None, refl, sym, ap, ◌∙◌, subst, arith, nat_tests, length-set, get_or-set_other}
use Rattle.am_refinement.proofs.Words.{Entry, Leave, View, Image, place_of_name, life_of_name, name_of_place_and_life, has, without_name, top_of_log, members_of_image, log_members_at, row_of_name, union_of_members_at}
use Rattle.am_refinement.proofs.Words.{unions_have_sixteen_places, union_is_within_bound, member_life_is_within_union, least_of_names_le_each, IsBeginningOf, image_of_list, is_member_at_end, list_begins_itself, front_begins_append, begins_through_both, shorter_beginning_begins_longer}
use Rattle.am_refinement.proofs.Words.{taken_front_begins_list, length_of_pushed_list, length_of_taken_list, mod_sixteen_lt, beginning_of_good_is_good, image_has_sixteen_rows, member_of_both_is_between, leaver_is_no_member, Group, IsThere, Node}
use Rattle.am_refinement.proofs.Words.{is_sequencer, set_of_one_name, concerned_names, all_others_stored, World, both_of_and, NameStands, FrontsStand, Trimmed, GoneSays}
use Rattle.am_refinement.proofs.Words.{has_stopped, ReportsStand, LeftOutHaveStopped}
use Rattle.am_model.specs.Joining.{leaver_may_go}
use Rattle.am_model.specs.Sequencing.{row_of_name_in_list}
use Rattle.am_abstract_group.specs.Group as groups
use Rattle.am_model.specs.Node as nodes
use Rattle.am_refinement.specs.Letters as letters
use Rattle.am_refinement.proofs.Changes.{image_of_whole_list, length_of_whole_list}
use Rattle.am_refinement.proofs.Membership.Leaving.{LeftListAt, by_leave, by_view, row_tells_where_name_left}
use Rattle.am_refinement.proofs.Parts.{image_at_of_whole_list}
use Rattle.am_refinement.proofs.{Parts.view_number_le_length, Sent.ListIsTheChain, Sent.sequencer_list_is_chain, Sent.SpeaksForItsName}

-- ---- who is concerned, by numbers

-- a member at each number from what is accepted on is one of those whose reports hold back
pub member_above_accepted_is_concerned : (v : World) (i : ℕ) (n : Node) (a : groups.ChainNode) (j : ℕ) → NameStands v i n a → n.core.log.start ≤ n.core.acc → n.core.acc ≤ nodes.top n
    → ((k : ℕ) → n.core.acc ≤ k → k ≤ nodes.top n → is_member_at_end (take k a.list) j ≡ true) → has (concerned_names n) j ≡ true
unfolding is_member_at_end
member_above_accepted_is_concerned v i n a j h low high each =
    let log = n.core.log in
    let acc = n.core.acc in
    let more = top_of_log log - acc in
    let place = place_of_name j in
    let at : (k : ℕ) → acc ≤ k → k ≤ acc + more → slice_index (log_members_at log k) place ≡ life_of_name j = λ k from to.
    (let is : has (log_members_at log k) j ≡ true = ap (λ (g : Image). has (members_of_image g) j) (image_at_of_whole_list v i k n a h (omega arith)) ∙ each k from (omega arith) in
    grind (arith, nat_tests)) in
    let first = at acc (omega arith) (omega arith) in
    let least = member_life_is_within_union log acc more place acc (mod_sixteen_lt j) (omega arith) (omega arith) in
    let most = union_is_within_bound log acc more place (life_of_name j) (mod_sixteen_lt j) (λ k from to. (let z = at k from to in omega arith)) in
    let is : slice_index (union_of_members_at log acc more) place ≡ life_of_name j = omega arith in
    grind (arith, nat_tests)

pub length_of_concerned_names : (v : World) (i : ℕ) (n : Node) (a : groups.ChainNode) → NameStands v i n a → n.core.log.start ≤ n.core.acc → length (concerned_names n) ≡ 16
length_of_concerned_names v i n a h low =
    unions_have_sixteen_places n.core.log n.core.acc (top_of_log n.core.log - n.core.acc)
    (ap (λ (g : Image). length g.rows) (image_at_of_whole_list v i n.core.acc n a h low) ∙ image_has_sixteen_rows (take n.core.acc a.list))

-- another name is one of the others
without_has : (names : List ℕ) (who j : ℕ) → length names ≡ 16 → has names j ≡ true → j ≢ who → has (without_name names who) j ≡ true
without_has names who j long in_ other = split_on_bool (has names who)
    (λ t.
    let at : slice_index names (place_of_name j) ≡ life_of_name j = grind (arith, nat_tests) in
    let own : slice_index names (place_of_name who) ≡ life_of_name who = grind (arith, nat_tests) in
    let apart : place_of_name j ≢ place_of_name who = λ same. (let life : life_of_name j ≡ life_of_name who = sym at ∙ ap (slice_index names) same ∙ own in other (omega arith)) in
    let there : get_or (set names (place_of_name who) 0) (place_of_name j) 0 ≡ life_of_name j = get_or-set_other names (place_of_name who) (place_of_name j) 0 0 apart ∙ at in
    let is : (slice_index (set names (place_of_name who) 0) (place_of_name j) == life_of_name j) ≡ true = grind (arith, nat_tests) in
    rw t is)
    (λ f. rw f in_)

without_long : (names : List ℕ) (who : ℕ) → length (without_name names who) ≡ length names
without_long names who = split_on_bool (has names who) (λ t. rw t (length-set names (place_of_name who) 0)) (λ f. rw f refl)

-- each of a set has reported what all have
stored_by : (n : Node) (names : List ℕ) (number j : ℕ) → length names ≡ 16 → has names j ≡ true → all_others_stored n names number ≡ true
    → number ≤ (n.reports j).stored
stored_by n names number j long in_ all =
    let f : ℕ → ℕ = λ name. (n.reports name).stored in
    let at : slice_index names (place_of_name j) ≡ life_of_name j = grind (arith, nat_tests) in
    let found = least_of_names_le_each f names 0 (place_of_name j) (omega arith) (omega arith) in
    let name : name_of_place_and_life (0 + place_of_name j) (slice_index names (place_of_name j)) ≡ j = omega arith in
    let is = ap f name in
    let least : nat_le number found.0 ≡ true = ap (λ (o : Option ℕ). elim o [ None ↦ true | Some least ↦ nat_le number least ]) (sym found.1) ∙ all in
    let low : number ≤ found.0 = grind (arith, nat_tests) in
    omega arith

-- ---- who has to have stored a Leave

-- what is known of a sequencer that lets a name go
pub record SequencerMayLetGo (v : World) (i : ℕ) (n : Node) (s : Group) : Type 0 where
  pub speaks : SpeaksForItsName v i n s
  pub leads : is_sequencer n ≡ true
  pub fronts : FrontsStand n (s.node i)
  pub kept : n.core.log.start ≤ n.core.base
  pub base : n.core.base ≤ n.core.acc
  pub within : n.core.acc ≤ nodes.top n
  pub names : (j : ℕ) → has (concerned_names n) j ≡ true → j < 256
  pub reports : ReportsStand s i n
  pub trimmed : Trimmed s n.core.base
  pub left_out : LeftOutHaveStopped s

module _ (v : World) (i : ℕ) (n : Node) (s : Group) (h : SequencerMayLetGo v i n s) (name : ℕ) (left : ℕ) (before : List Entry) (size : length before + 1 ≡ left)
    (part : IsBeginningOf (before ++ Leave name ∷ []) (s.node i).list) (low : left ≤ n.core.acc)
    (all : all_others_stored n (without_name (concerned_names n) name) left ≡ true) where
  abbrev list : List Entry
  list = (s.node i).list

  open sequencer_list_is_chain v i n s h.speaks h.leads use {chain, good, group_in}

  front : IsBeginningOf before list
  front = begins_through_both (front_begins_append before (Leave name ∷ [])) part

  -- who was a member before it, is there and stays, is a member at the end, and isn't the leaver
  member_at_end : (j : ℕ) → is_member_at_end before j ≡ true → IsThere (s.node j) → (s.node j).leaving ≡ false → is_member_at_end list j ≡ true
  member_at_end j member there stays =
      subst (λ l. is_member_at_end l j ≡ true) (sym chain) ((h.speaks.kept.each j).stays there stays before (subst (IsBeginningOf before) chain front) member)

  member_between : (j : ℕ) → is_member_at_end before j ≡ true → is_member_at_end list j ≡ true → (k : ℕ) → length before ≤ k → k ≤ length list → is_member_at_end (take k list) j ≡ true
  member_between j member last k up within =
      let long = length_of_taken_list k list within in
      member_of_both_is_between j good (shorter_beginning_begins_longer front (taken_front_begins_list k list) (omega arith)) (taken_front_begins_list k list) member last

  no_leaver : (j : ℕ) → is_member_at_end before j ≡ true → is_member_at_end list j ≡ true → j ≢ name
  no_leaver j member last same =
      leaver_is_no_member before name (beginning_of_good_is_good part good)
      (member_of_both_is_between name good (front_begins_append before (Leave name ∷ [])) part (subst (λ k. is_member_at_end before k ≡ true) same member)
      (subst (λ k. is_member_at_end list k ≡ true) same last))

  has_stored_it : (j : ℕ) → is_member_at_end before j ≡ true → IsThere (s.node j) → (s.node j).leaving ≡ false → IsBeginningOf (before ++ Leave name ∷ []) (s.node j).list
  has_stored_it j member there stays =
      let last = member_at_end j member there stays in
      let long = length_of_whole_list v i n (s.node i) h.speaks.stands in
      let more = length_of_pushed_list before (Leave name) in
      let in_all = member_above_accepted_is_concerned v i n (s.node i) j h.speaks.stands (omega arith) h.within
      (λ k from to. member_between j member last k (omega arith) (omega arith)) in
      let size_all = length_of_concerned_names v i n (s.node i) h.speaks.stands (omega arith) in
      let others = without_has (concerned_names n) name j size_all in_all (no_leaver j member last) in
      let stored = stored_by n (without_name (concerned_names n) name) left j (without_long (concerned_names n) name ∙ size_all) others all in
      let no_more = h.reports.within j in
      let fronts = (h.speaks.kept.each i).fronts in
      split_on_bool (nat_lt n.core.base (n.reports j).stored)
      (λ t.
      let above : n.core.base < (n.reports j).stored = grind (arith, nat_tests) in
      let has_it = h.reports.true_ j (h.names j in_all) (record { upto = list; begins = list_begins_itself list; from = view_number_le_length list; member = last }) above in
      let cut = length_of_taken_list (n.reports j).stored list no_more in
      begins_through_both (shorter_beginning_begins_longer part (taken_front_begins_list (n.reports j).stored list) (omega arith)) has_it)
      (λ f.
      let below : (n.reports j).stored ≤ n.core.base = grind (arith, nat_tests) in
      let cut = length_of_taken_list n.core.base s.group h.trimmed.accepted in
      let cut_in : IsBeginningOf (take n.core.base s.group) list = begins_through_both (taken_front_begins_list n.core.base s.group) group_in in
      let there_then = member_of_both_is_between j good (shorter_beginning_begins_longer front cut_in (omega arith)) cut_in member last in
      begins_through_both (shorter_beginning_begins_longer part cut_in (omega arith)) (h.trimmed.stored j there stays there_then))

-- ---- the letter

gone_said : (v : World) (i : ℕ) (n : Node) (s : Group) (name : ℕ) → SequencerMayLetGo v i n s → leaver_may_go n name ≡ true → GoneSays s (row_of_name_in_list n name).left name
gone_said v i n s name h may =
    let list = (s.node i).list in
    let some = both_of_and (nat_lt 0 (row_of_name_in_list n name).left)
    (nat_le (row_of_name_in_list n name).left n.core.acc && all_others_stored n (without_name (concerned_names n) name) (row_of_name_in_list n name).left) may in
    let rest = both_of_and (nat_le (row_of_name_in_list n name).left n.core.acc) (all_others_stored n (without_name (concerned_names n) name) (row_of_name_in_list n name).left) some.1 in
    let up : 0 < (row_of_name_in_list n name).left = (let z = some.0 in grind (arith, nat_tests)) in
    let low : (row_of_name_in_list n name).left ≤ n.core.acc = (let z = rest.0 in grind (arith, nat_tests)) in
    let same : (row_of_name (image_of_list list) name).left ≡ (row_of_name_in_list n name).left = ap (λ (g : Image). (row_of_name g name).left) (image_of_whole_list v i n (s.node i) h.speaks.stands)
    in
    elim (subst (LeftListAt list name) same (row_tells_where_name_left list name (omega arith))) [
      | by_leave before size part ↦
          let fronts = (h.speaks.kept.each i).fronts in
          let more = length_of_pushed_list before (Leave name) in
          letters.may_go before size
          (shorter_beginning_begins_longer part chained.group_in (omega arith))
          (has_stored_it v i n s h name (row_of_name_in_list n name).left before size part low rest.1)
      | by_view before w size member out part ↦
          has_stopped (h.left_out before w name
          (subst (IsBeginningOf (before ++ View w ∷ [])) chained.chain part) member out)
    ]
  where
    chained : ListIsTheChain s (s.node i).list
    chained = sequencer_list_is_chain v i n s h.speaks h.leads

-- to the leaver alone
pub sent_gone_says_so : (v : World) (i : ℕ) (n : Node) (s : Group) (name : ℕ) → SequencerMayLetGo v i n s → leaver_may_go n name ≡ true → (j : ℕ) → has (set_of_one_name name) j ≡ true
    → GoneSays s (row_of_name_in_list n name).left j
sent_gone_says_so v i n s name h may j in_ = subst (GoneSays s (row_of_name_in_list n name).left) (sym (only_name_has_just_itself name j in_)) (gone_said v i n s name h may)
