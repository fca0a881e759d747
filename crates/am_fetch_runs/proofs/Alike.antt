-- Where a lawful run ends, the list of a Member in a running sequencer's list begins the sequencer's.
use Rattle.am_fetch_runs.proofs.Words.{◌≡◌, ℕ, ◌≤◌, true, length, take, refl, sym, ap, ◌∙◌, subst, arith}
use Rattle.am_fetch_runs.proofs.Words.{Rules, Stamp, log_image_at, Node, top, view, image_of_node, stamps_are_equal, World}
use Rattle.am_fetch_runs.proofs.Words.{IsGoodList, IsBeginningOf, image_of_list, image_of_whole_list, length_of_whole_list, image_at_of_whole_list, Group, chain_of, Following, GroupKeeps, RunsInListOf}
use Rattle.am_base.proofs.Prefixes.{take_length_of_beginning, beginning_is_no_longer}
use Rattle.am_model.specs.Refresh.{refresh_at_end}
use Rattle.am_step_laws.proofs.Rests.{end_refresh_rests_with_list}
use Rattle.am_step_laws.proofs.Resets.{stamp_eq_of_itself}
use Rattle.am_step_laws.proofs.Trimming.TakenRuns.{WorldTrimsOnlyTaken}
use Rattle.am_refinement.specs.Standing.{NameStands}
use Rattle.am_fetch_laws.proofs.Exchanged.{ActsAlong}
use Rattle.am_fetch_runs.proofs.Behind as behind

-- it has taken what the sequencer trims at the end of a step
abbrev pub HasTakenBase : World → ℕ → ℕ → Type 0
HasTakenBase w q name = (refresh_at_end (w.nodes q)).core.base ≤ (w.nodes name).core.taken

-- both lists, in the group that follows
pub record ListsOfBoth (w : World) (s : Group) (q name : ℕ) : Type 0 where
  pub kept : GroupKeeps s
  pub chain : (s.node q).list ≡ chain_of s.views
  pub good : IsGoodList (s.node q).list
  pub begins : IsBeginningOf (s.node name).list (s.node q).list
  pub its : NameStands w q (w.nodes q) (s.node q)
  pub stands : NameStands w name (w.nodes name) (s.node name)
  pub long_member : length (s.node name).list ≡ top (w.nodes name)
  pub long_leader : length (s.node q).list ≡ top (w.nodes q)
  pub base_rises : (w.nodes q).core.base ≤ (refresh_at_end (w.nodes q)).core.base
  pub start_low : (w.nodes q).core.log.start ≤ (w.nodes q).core.base
  pub taken_low : (w.nodes name).core.taken ≤ top (w.nodes name)
  pub kept_from : (w.nodes q).core.log.start ≤ top (w.nodes name)
  pub told_ : image_of_node (w.nodes name) ≡ log_image_at (w.nodes q).core.log (top (w.nodes name))

module _ (rules : Rules) (w : World) (s : Group) (q name : ℕ) (old : Following rules w s) (among : RunsInListOf w q name) (trimmed : HasTakenBase w q name)
    (own : (w.nodes q).core.who ≡ q) (laws : WorldTrimsOnlyTaken rules w) where
  abbrev leader : Node
  leader = w.nodes q

  abbrev m : Node
  m = w.nodes name

  kept : GroupKeeps s
  kept = behind.kept rules w s q name old among own

  chain : (s.node q).list ≡ chain_of s.views
  chain = behind.leader_has_chain rules w s q name old among own

  begins : IsBeginningOf (s.node name).list (s.node q).list
  begins = subst (IsBeginningOf (s.node name).list) (sym chain) ((kept.each name).list (behind.up_there rules w s q name old among own))

  its : NameStands w q leader (s.node q)
  its = old.stands.each q among.small_leader

  stands : NameStands w name m (s.node name)
  stands = old.stands.each name among.small

  base_rises : leader.core.base ≤ (refresh_at_end leader).core.base
  base_rises = (end_refresh_rests_with_list leader).rests.base

  start_low : leader.core.log.start ≤ leader.core.base
  start_low = (laws.each q among.small_leader).fronts.kept

  taken_low : m.core.taken ≤ top m
  taken_low =
      let f = (laws.each name among.small).fronts in
      let given = f.given in
      let accepted = f.accepted in
      omega arith

  kept_from : leader.core.log.start ≤ top m
  kept_from =
      let a = start_low in
      let b = base_rises in
      let c = trimmed in
      let d = taken_low in
      omega arith

  told_ : image_of_node m ≡ log_image_at leader.core.log (top m)
  told_ = sym (image_of_whole_list w name m (s.node name) stands)
      ∙ ap image_of_list (sym (take_length_of_beginning begins))
      ∙ ap (λ n. image_of_list (take n (s.node q).list)) (length_of_whole_list w name m (s.node name) stands)
      ∙ sym (image_at_of_whole_list w q (top m) leader (s.node q) its kept_from)

  pub lists_of_both : ListsOfBoth w s q name
  lists_of_both = record {
    kept = kept;
    chain = chain;
    good = subst IsGoodList (sym chain) kept.views.good;
    begins = begins;
    its = its;
    stands = stands;
    long_member = length_of_whole_list w name m (s.node name) stands;
    long_leader = length_of_whole_list w q leader (s.node q) its;
    base_rises = base_rises;
    start_low = start_low;
    taken_low = taken_low;
    kept_from = kept_from;
    told_ = told_;
  }

  -- so who is in its view acts along its list
  pub acts_along_list : m.core.promise ≡ view leader → view m ≡ view leader → ActsAlong leader.core.log (refresh_at_end leader).core.base m
  acts_along_list promise same =
      let equal : stamps_are_equal m.core.promise (view m) ≡ true = ap (λ (u : Stamp). stamps_are_equal u (view m)) (promise ∙ sym same) ∙ stamp_eq_of_itself (view m) in
      let member = among.member_ in
      let both = lists_of_both in
      let shorter = beginning_is_no_longer both.begins in
      let a = both.long_member in
      let b = both.long_leader in
      record {
        acts = rw (member, equal) refl;
        view_ = same;
        low = kept_from;
        within = omega arith;
        told_ = told_;
        taken = trimmed;
      }
