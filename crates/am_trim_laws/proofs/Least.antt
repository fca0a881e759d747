-- What a coordinator trims by the votes: each name that runs, stays, and was a member by what was accepted is needed, and has voted what it had taken.
use Rattle.am_refinement.proofs.Words.{◌≡◌, ℕ, ◌+◌, ◌-◌, ◌≤◌, ◌==◌, not, max, true, false, List, length, take, slice_index, Some, unwrap_or, option_map}
use Rattle.am_refinement.proofs.Words.{refl, sym, ap, ◌∙◌, subst, arith, nat_tests, Vote, place_of_name, life_of_name, name_of_place_and_life, either}
use Rattle.am_refinement.proofs.Words.{has, names_of, members_of_image, least_of_names, least_of_names_le_each}
use Rattle.am_refinement.proofs.Words.{IsBeginningOf, image_of_list, is_member_at_end, shorter_beginning_begins_longer, begins_through_both, taken_front_begins_list, length_of_taken_list}
use Rattle.am_refinement.proofs.Words.{member_of_both_is_between, Group, IsThere, GroupKeeps, Node, Ballot, need_set_of, need_set_without_given_up, taken_number_of_voter}
use Rattle.am_refinement.proofs.Words.{World, split_on_bool, HasLearned, own_best_list_needs_members, selected_name_keeps_its_life, length_of_selection, within}
use Rattle.am_model.specs.Node as nodes
use Rattle.am_refinement.proofs.Changes.{image_of_whole_within_step, length_of_whole_list}
use Rattle.am_refinement.proofs.Trimming.{TakenIsWithinGroup}
use Rattle.am_refinement.proofs.{Votes.BallotIsKnownToGroup, Votes.given_vote_is_some, Votes.unawaited_name_has_voted, Votes.needed_name_is_not_awaited}
use Rattle.am_trim_laws.proofs.Bases.{least_taken_by_votes}
use Rattle.std.proofs.lemmas.Bool.{cases_lt}

-- the least of a set is no more than what each of it has
least_low : (f : ℕ → ℕ) (names : List ℕ) (j : ℕ) → length names ≡ 16 → slice_index names (place_of_name j) ≡ life_of_name j
    → (x : ℕ) × (least_of_names f (names_of names) ≡ Some x) × (x ≤ f j)
least_low f names j long at =
    let found = least_of_names_le_each f names 0 (place_of_name j) (omega arith) (omega arith) in
    let name : name_of_place_and_life (0 + place_of_name j) (slice_index names (place_of_name j)) ≡ j = omega arith in
    let is = ap f name in
    (found.0, found.1, omega arith)

-- a name that is there and stays, and has voted no more to be taken than this
pub record VotesWhatItTook (s : Group) (b : Ballot) (j taken : ℕ) : Type 0 where
  pub there : IsThere (s.node j)
  pub stays : (s.node j).leaving ≡ false
  pub votes_ : (shown : Vote) → b.votes j ≡ Some shown → shown.taken ≤ taken

module _ (w : World) (name : ℕ) (x : Node) (b : Ballot) (s : Group) (kept : GroupKeeps s) (h : BallotIsKnownToGroup w name x b s) (learned : HasLearned x b)
    (known : TakenIsWithinGroup x s) where
  spared : (j : ℕ) → IsThere (s.node j) → b.given_up j ≡ false
  spared j there = split_on_bool (b.given_up j) (λ t. absurd (let z = h.given j t in let y = there.goes in cc)) (λ z. z)

  -- the least is no more than what each needed name has that wasn't given up
  least_le : (j : ℕ) → has (need_set_of x b) j ≡ true → b.given_up j ≡ false → least_taken_by_votes x b ≤ taken_number_of_voter x.core.who x.core.taken b j
  least_le j needed stays =
      let long = length_of_selection (λ k. not (b.given_up k)) (need_set_of x b) in
      let at = selected_name_keeps_its_life (λ k. not (b.given_up k)) (need_set_of x b) j needed (ap not stays) in
      let low = least_low (taken_number_of_voter x.core.who x.core.taken b) (need_set_without_given_up b (need_set_of x b)) j long at in
      let same : least_taken_by_votes x b ≡ low.0 = ap (λ o. unwrap_or o 0) low.1 in
      omega arith

  -- so no more than the coordinator has taken
  pub votes_least_le_own_taken : least_taken_by_votes x b ≤ x.core.taken
  votes_least_le_own_taken =
      let itself_there : b.given_up x.core.who ≡ false = spared x.core.who (subst (λ j. IsThere (s.node j)) (sym h.who) h.up.there) in
      let low = least_le x.core.who learned.needed itself_there in
      let itself_ : (x.core.who == x.core.who) ≡ true = grind (arith, nat_tests) in
      let own : taken_number_of_voter x.core.who x.core.taken b x.core.who ≡ x.core.taken = rw itself_ refl in
      omega arith

  needed_member : (j taken : ℕ) → VotesWhatItTook s b j taken → (number : ℕ) → number ≤ length s.group → number ≤ nodes.top x → is_member_at_end (take number s.group) j ≡ true
      → has (need_set_of x b) j ≡ true
  unfolding is_member_at_end
  needed_member j taken v number accepted within_ member =
      let a = s.node name in
      let need = own_best_list_needs_members x b learned.own h.own in
      let members_is : members_of_image (image_of_list a.list) ≡ nodes.members x = ap members_of_image (image_of_whole_within_step w name name x a h.stands) in
      let long = length_of_whole_list (within w name x) name x a h.stands in
      let on_chain = (kept.each name).list h.up in
      let cut = begins_through_both (taken_front_begins_list number s.group) kept.group in
      let size_ = length_of_taken_list number s.group accepted in
      let cut_in : IsBeginningOf (take number s.group) a.list = shorter_beginning_begins_longer cut on_chain (omega arith) in
      let last = (kept.each j).stays v.there v.stays (take number s.group) cut member in
      let in_list = member_of_both_is_between j kept.views.good cut_in on_chain member last in
      ap (λ set. has set j) (need ∙ sym members_is) ∙ in_list

  -- a number at which such a name was a member by what was accepted
  pub votes_least_is_taken : (j taken number : ℕ) → VotesWhatItTook s b j taken → (j == x.core.who) ≡ false
      → (number ≤ length s.group → is_member_at_end (take number s.group) j ≡ true) → least_taken_by_votes x b ≤ max taken (number - 1)
  votes_least_is_taken j taken number v other member =
      let low = votes_least_le_own_taken in
      let a = known.taken in
      let c = known.within in
      let d = known.accepted in
      either (cases_lt (least_taken_by_votes x b) number)
      (λ below. omega arith)
      (λ above.
      let needed = needed_member j taken v number (omega arith) (omega arith) (member (omega arith)) in
      let stays = spared j v.there in
      let shown = given_vote_is_some (b.votes j) (unawaited_name_has_voted x.core.who j b (needed_name_is_not_awaited x b j learned.all needed) stays other) in
      let its : taken_number_of_voter x.core.who x.core.taken b j ≡ shown.0.taken = rw other (ap (λ o. unwrap_or (option_map (λ (z : Vote). z.taken) o) 0) shown.1) in
      let least = least_le j needed stays in
      let most = v.votes_ shown.0 shown.1 in
      omega arith)
