-- What a node trims was stored by all who have to have it: by what was reported to it, or by the votes for its ballot.
use Rattle.am_refinement.proofs.Words.{◌≡◌, ℕ, ◌+◌, ◌<◌, ◌≤◌, ◌==◌, not, max, nat_lt, true, false, List, [], length, take, slice_index, Option, Some, None}
use Rattle.am_refinement.proofs.Words.{unwrap_or, option_map, refl, sym, ap, ◌∙◌, subst, arith, append-nil, nat_tests, Entry, Vote, place_of_name, life_of_name, name_of_place_and_life}
use Rattle.am_refinement.proofs.Words.{has, names_of, members_of_image, raise_accepted_to_told, pass_over_below_join, least_of_names, least_taken_of_names, base_after_trim, raise_own_report, tell_accept_front, advance_with_reports, trim_to_least_taken, least_of_names_le_each}
use Rattle.am_refinement.proofs.Words.{IsBeginningOf, image_of_list, is_member_at_end, key_of_stamp, empty_list_begins_all, begins_through_both, shorter_beginning_begins_longer, beginning_is_no_longer, taken_front_begins_list, length_of_taken_list}
use Rattle.am_refinement.proofs.Words.{member_of_both_is_between, Group, IsThere, chain_of, GroupKeeps, Node, Ballot, is_sequencer, need_set_of, need_set_without_given_up, taken_number_of_voter, concerned_names, refresh_as_sequencer}
use Rattle.am_refinement.proofs.Words.{World, split_on_bool, HasLearned, own_best_list_needs_members, selected_name_keeps_its_life, length_of_selection, within, Trimmed, Reporting}
use Rattle.am_model.specs.Node as nodes
use Rattle.am_refinement.proofs.Changes.{image_of_whole_within_step, length_of_whole_list}
use Rattle.am_refinement.proofs.Membership.Going.{member_above_accepted_is_concerned, length_of_concerned_names}
use Rattle.am_refinement.proofs.Parts.{view_number_le_length}
use Rattle.am_refinement.proofs.Sent.{sequencer_list_is_chain, SpeaksForItsName}
use Rattle.am_refinement.proofs.{Votes.BallotIsKnownToGroup, Votes.given_vote_is_some, Votes.unawaited_name_has_voted, Votes.needed_name_is_not_awaited}

-- ---- the greater of two

pub trimmed_up_to_greater_base : (s : Group) (a b : ℕ) → Trimmed s a → Trimmed s b → Trimmed s (max a b)
trimmed_up_to_greater_base s a b h k = split_on_bool (nat_lt a b)
    (λ t. (let z : a < b = grind (arith, nat_tests) in let same : b ≡ max a b = omega arith in subst (Trimmed s) same k))
    (λ f. (let z : b ≤ a = grind (arith, nat_tests) in let same : a ≡ max a b = omega arith in subst (Trimmed s) same h))

pub trimmed_up_to_nought : (s : Group) → Trimmed s 0
trimmed_up_to_nought s = record { accepted = omega arith; stored = λ j there stays member. empty_list_begins_all (s.node j).list }

-- the least of a set is no more than what each of it has
least_low : (f : ℕ → ℕ) (names : List ℕ) (j : ℕ) → length names ≡ 16 → slice_index names (place_of_name j) ≡ life_of_name j
    → (x : ℕ) × (least_of_names f (names_of names) ≡ Some x) × (x ≤ f j)
least_low f names j long at =
    let found = least_of_names_le_each f names 0 (place_of_name j) (omega arith) (omega arith) in
    let name : name_of_place_and_life (0 + place_of_name j) (slice_index names (place_of_name j)) ≡ j = omega arith in
    let is = ap f name in
    (found.0, found.1, omega arith)

-- ---- by reports

-- a sequencer's refresh, of a node x, to one of which this is known
pub record SequencerRefreshed (v : World) (i : ℕ) (x y : Node) (s : Group) : Type 0 where
  pub is : y ≡ refresh_as_sequencer x
  pub speaks : SpeaksForItsName v i y s
  pub leads : is_sequencer y ≡ true
  pub start : y.core.log.start ≤ y.core.acc
  pub base : y.core.base ≤ y.core.acc
  pub within : y.core.acc ≤ nodes.top y
  pub accepted : y.core.acc ≤ length s.group
  pub names : (j : ℕ) → has (concerned_names y) j ≡ true → j < 256
  pub reports : Reporting s.node (s.node i).list x.core.base y.reports
  pub trimmed : Trimmed s x.core.base

base_is : (x : Node) → (refresh_as_sequencer x).core.base ≡ base_after_trim (least_taken_of_names (refresh_as_sequencer x).reports (concerned_names (refresh_as_sequencer x))) x.core.base
unfolding refresh_as_sequencer raise_own_report tell_accept_front advance_with_reports trim_to_least_taken raise_accepted_to_told pass_over_below_join
base_is x = refl

module _ (v : World) (i : ℕ) (x y : Node) (s : Group) (h : SequencerRefreshed v i x y s) where
  abbrev list : List Entry
  list = (s.node i).list

  open sequencer_list_is_chain v i y s h.speaks h.leads use {chain, good, group_in}

  trimmed_to : (to : ℕ) → least_taken_of_names y.reports (concerned_names y) ≡ Some to → x.core.base < to → to ≤ y.core.base → Trimmed s to
  trimmed_to to least up low =
      let long = length_of_whole_list v i y (s.node i) h.speaks.stands in
      let accepted = h.accepted in
      let cut = begins_through_both (taken_front_begins_list to s.group) group_in in
      let size_ = length_of_taken_list to s.group (omega arith) in
      record {
        accepted = omega arith;
        stored = λ j there stays member.
            (let last : is_member_at_end list j ≡ true = subst (λ l. is_member_at_end l j ≡ true) (sym chain)
            ((h.speaks.kept.each j).stays there stays (take to s.group) (subst (IsBeginningOf (take to s.group)) chain cut) member) in
            let between : (k : ℕ) → y.core.acc ≤ k → k ≤ nodes.top y → is_member_at_end (take k list) j ≡ true = λ k from upto.
            (let part = length_of_taken_list k list (omega arith) in
            member_of_both_is_between j good (shorter_beginning_begins_longer cut (taken_front_begins_list k list) (omega arith)) (taken_front_begins_list k list) member last) in
            let in_ = member_above_accepted_is_concerned v i y (s.node i) j h.speaks.stands h.start h.within between in
            let at : slice_index (concerned_names y) (place_of_name j) ≡ life_of_name j = grind (arith, nat_tests) in
            let found = least_low (λ name. (y.reports name).taken) (concerned_names y) j (length_of_concerned_names v i y (s.node i) h.speaks.stands h.start) at in
            let same : Some to ≡ Some found.0 = sym least ∙ found.1 in
            let is : to ≡ found.0 = cc in
            let took = h.reports.taken j in
            let no_more = h.reports.within j in
            let has_it = h.reports.true_ j (h.names j in_) (record { upto = list; begins = begins_take_all list; from = view_number_le_length list; member = last })
            (omega arith) in
            let part = length_of_taken_list (y.reports j).stored list no_more in
            begins_through_both (shorter_beginning_begins_longer cut (taken_front_begins_list (y.reports j).stored list) (omega arith)) has_it);
      }
    where
      begins_take_all : (l : List Entry) → IsBeginningOf l l
      begins_take_all l = record { rest = []; same = append-nil l }

  pub refreshed_base_is_trimmed : Trimmed s y.core.base
  refreshed_base_is_trimmed = by_least (least_taken_of_names y.reports (concerned_names y)) refl
    where
      base_y : y.core.base ≡ base_after_trim (least_taken_of_names y.reports (concerned_names y)) x.core.base
      base_y = subst (λ n. n.core.base ≡ base_after_trim (least_taken_of_names n.reports (concerned_names n)) x.core.base) (sym h.is) (base_is x)

      by_least : (o : Option ℕ) → least_taken_of_names y.reports (concerned_names y) ≡ o → Trimmed s y.core.base
      by_least None is = subst (Trimmed s) (sym (base_y ∙ ap (λ o. base_after_trim o x.core.base) is)) h.trimmed
      by_least (Some to) is =
          let same : y.core.base ≡ max x.core.base to = base_y ∙ ap (λ o. base_after_trim o x.core.base) is in
          split_on_bool (nat_lt x.core.base to)
          (λ t. (let up : x.core.base < to = grind (arith, nat_tests) in let its : to ≡ y.core.base = omega arith in
          subst (Trimmed s) its (trimmed_to to is up (omega arith))))
          (λ f. (let low : to ≤ x.core.base = grind (arith, nat_tests) in let its : x.core.base ≡ y.core.base = omega arith in subst (Trimmed s) its h.trimmed))

-- ---- by votes

-- how far its own application has taken the list
pub record TakenIsWithinGroup (x : Node) (s : Group) : Type 0 where
  pub taken : x.core.taken ≤ x.core.acc
  pub within : x.core.acc ≤ nodes.top x
  pub accepted : x.core.acc ≤ length s.group

pub votes_least_taken_is_trimmed : (w : World) (name : ℕ) (x : Node) (b : Ballot) (s : Group) → GroupKeeps s → BallotIsKnownToGroup w name x b s → HasLearned x b → TakenIsWithinGroup x s
    → Trimmed s (unwrap_or (least_of_names (taken_number_of_voter x.core.who x.core.taken b) (names_of (need_set_without_given_up b (need_set_of x b)))) 0)
unfolding is_member_at_end
votes_least_taken_is_trimmed w name x b s k h learned known =
    let a = s.node name in
    let f : ℕ → ℕ = taken_number_of_voter x.core.who x.core.taken b in
    let names = need_set_without_given_up b (need_set_of x b) in
    let least = unwrap_or (least_of_names f (names_of names)) 0 in
    let need = own_best_list_needs_members x b learned.own h.own in
    let members_is : members_of_image (image_of_list a.list) ≡ nodes.members x = ap members_of_image (image_of_whole_within_step w name name x a h.stands) in
    let long_names = length_of_selection (λ j. not (b.given_up j)) (need_set_of x b) in
    let long = length_of_whole_list (within w name x) name x a h.stands in
    let spared : (j : ℕ) → IsThere (s.node j)
    → b.given_up j ≡ false = λ j there. split_on_bool (b.given_up j) (λ t. absurd (let z = h.given j t in let y = there.goes in cc)) (λ z. z) in
    let itself_there : b.given_up x.core.who ≡ false = spared x.core.who (subst (λ j. IsThere (s.node j)) (sym h.who) h.up.there) in
    let own_at = selected_name_keeps_its_life (λ j. not (b.given_up j)) (need_set_of x b) x.core.who learned.needed (ap not itself_there) in
    let own_low = least_low f names x.core.who long_names own_at in
    let itself_ : (x.core.who == x.core.who) ≡ true = grind (arith, nat_tests) in
    let own_taken : f x.core.who ≡ x.core.taken = rw itself_ refl in
    let own_least : least ≡ own_low.0 = ap (λ o. unwrap_or o 0) own_low.1 in
    let accepted = known.accepted in
    let on_chain = (k.each name).list h.up in
    let cut = begins_through_both (taken_front_begins_list least s.group) k.group in
    let size_ = length_of_taken_list least s.group (omega arith) in
    let cut_in : IsBeginningOf (take least s.group) a.list = shorter_beginning_begins_longer cut on_chain (omega arith) in
    record {
      accepted = omega arith;
      stored = λ j there stays member.
          (let last = (k.each j).stays there stays (take least s.group) cut member in
          let in_list = member_of_both_is_between j k.views.good cut_in on_chain member last in
          let needed : has (need_set_of x b) j ≡ true = ap (λ set. has set j) (need ∙ sym members_is) ∙ in_list in
          let at = selected_name_keeps_its_life (λ j. not (b.given_up j)) (need_set_of x b) j needed (ap not (spared j there)) in
          let low = least_low f names j long_names at in
          let same : least ≡ low.0 = ap (λ o. unwrap_or o 0) low.1 in
          split_on_bool (j == x.core.who)
          (λ t. (let is : j ≡ x.core.who = grind (arith, nat_tests) in subst (λ z. IsBeginningOf (take least s.group) (s.node z).list) (sym (is ∙ h.who)) cut_in))
          (λ g.
          (let vote = given_vote_is_some (b.votes j) (unawaited_name_has_voted x.core.who j b (needed_name_is_not_awaited x b j learned.all needed) (spared j there) g) in
          let tells = h.votes j vote.0 vote.1 in
          let shown = (k.shown (key_of_stamp b.stamp) j tells.list tells.shown).list in
          let more = beginning_is_no_longer shown in
          let its : f j ≡ vote.0.taken = rw g (ap (λ o. unwrap_or (option_map (λ (z : Vote). z.taken) o) 0) vote.1) in
          split_on_bool (s.node j).has_log
          (λ log. shorter_beginning_begins_longer cut ((k.each j).list (record { log = log; there = there })) (omega arith))
          (λ none. shorter_beginning_begins_longer cut (subst (λ l. IsBeginningOf l (chain_of s.views)) (sym ((k.each j).blank none)) (empty_list_begins_all (chain_of s.views)))
          (omega arith)))));
    }
