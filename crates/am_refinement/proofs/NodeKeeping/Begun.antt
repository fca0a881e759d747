-- What a node keeps, at the start.
use Rattle.am_refinement.proofs.Words.{◌≡◌, ℕ, ◌<◌, true, false, [], ◌∷◌, length, take, slice_index, refl, sym, ap, ◌∙◌, subst, arith, nat_tests, Rules, has}
use Rattle.am_refinement.proofs.Words.{place_of_name, life_of_name, image_after_entries, after, IsBeginningOf, IsGoodList, is_member_at_end, beginning_of_good_is_good, list_begins_itself, empty_list_begins_all, Group, IsUp, chain_of, GroupKeeps, Node}
use Rattle.am_refinement.proofs.Words.{founder, stranger_node, founders_entry, lowest_name_or_zero, first_node, split_on_bool, first_view_has_its_members, UnsettledSendsAreInTurn, NameStands, Stands, GroupFor}
use Rattle.am_refinement.proofs.Words.{NodeStandsKept, StartKeeps, founding_view}
use Rattle.am_group_defs.specs.World.{start}
use Rattle.am_refinement.proofs.Onward.{group_run_is_kept}
use Rattle.am_refinement.proofs.NodeKeeping.Refreshing.{member_is_not_new}
use Rattle.am_refinement.proofs.Trimming.{trimmed_up_to_nought}

module _ (rules : Rules) (s : Group) (gs : GroupFor rules s) (h : Stands (start rules) s) where
  kept : GroupKeeps s
  kept = group_run_is_kept rules.founders (lowest_name_or_zero rules.founders) rules.resilience s gs

  -- a founder has the founders' View
  module _ (i : ℕ) (few : i < 256) (there : has rules.founders i ≡ true) where
    x : Node
    x = founder rules i

    stands : NameStands (start rules) i (founder rules i) (s.node i)
    stands = subst (λ n. NameStands (start rules) i n (s.node i)) (rw there refl) (h.each i few)

    list_is : (s.node i).list ≡ founders_entry rules ∷ []
    list_is = stands.list

    founder_up : IsUp (s.node i)
    founder_up = record { log = stands.log_; there = record { goes = stands.stopped; stays = stands.departed } }

    founder_good : IsGoodList (s.node i).list
    founder_good = beginning_of_good_is_good ((kept.each i).list founder_up) kept.views.good

  founder_keeps : (i : ℕ) → i < 256 → has rules.founders i ≡ true → NodeStandsKept (start rules) s i (founder rules i)
  unfolding UnsettledSendsAreInTurn is_member_at_end image_after_entries after
  founder_keeps i few there =
      let is = list_is i few there in
      let size_ = ap length is in
      record {
        good = founder_good i few there;
        ballots = record { votes = tt; fetches = tt; last = tt };
        opens = λ open_. absurd (cc);
        reports = record {
          within = λ j. split_on_bool (has rules.founders j) (λ t. rw t (omega arith)) (λ f. rw f (omega arith));
          taken = λ j. split_on_bool (has rules.founders j) (λ t. rw t (omega arith)) (λ f. rw f (omega arith));
          true_ = λ j low concerned. split_on_bool (has rules.founders j)
              (λ t. rw t (λ above. (let its = list_is j low t in
              subst (λ l. IsBeginningOf l (s.node j).list) (its ∙ sym (ap (take 1) is)) (list_begins_itself (s.node j).list))))
              (λ f. rw f (λ above. absurd (omega arith)));
        };
        fresh = λ j new. split_on_bool (has rules.founders j)
            (λ t. absurd (let given : slice_index rules.founders (place_of_name j) ≡ life_of_name j = grind (arith, nat_tests) in
            member_is_not_new (founders_entry rules ∷ []) j (first_view_has_its_members (founding_view rules) j given) new))
            (λ f. rw f (omega arith));
        trimmed = trimmed_up_to_nought s;
        turn = record { next = 1; turn = refl; low = omega arith };
        leaves = λ u. absurd (cc);
      }

  stranger_keeps : (i : ℕ) → i < 256 → has rules.founders i ≡ false → NodeStandsKept (start rules) s i (stranger_node rules i)
  unfolding UnsettledSendsAreInTurn
  stranger_keeps i few none =
      let first : first_node rules i ≡ stranger_node rules i = rw none refl in
      let stands : NameStands (start rules) i (stranger_node rules i) (s.node i) = subst (λ n. NameStands (start rules) i n (s.node i)) first (h.each i few) in
      let is : (s.node i).list ≡ [] = stands.list in
      record {
        good = subst IsGoodList (sym is) (beginning_of_good_is_good (empty_list_begins_all (chain_of s.views)) kept.views.good);
        ballots = record { votes = tt; fetches = tt; last = tt };
        opens = λ open_. absurd (cc);
        reports = record {
          within = λ j. omega arith;
          taken = λ j. omega arith;
          true_ = λ j low concerned above. absurd (omega arith);
        };
        fresh = λ j new. omega arith;
        trimmed = trimmed_up_to_nought s;
        turn = record { next = 1; turn = refl; low = omega arith };
        leaves = λ u. absurd (cc);
      }

pub first_nodes_keep_at_start : StartKeeps
first_nodes_keep_at_start rules s gs h i few = split_on_bool (has rules.founders i)
    (λ t. rw t (founder_keeps rules s gs h i few t))
    (λ f. rw f (stranger_keeps rules s gs h i few f))
