-- Where a run may be repaired, its sequencer has the whole chain, and each member's list begins it.
use Rattle.am_repair.proofs.Repairable.RepairedWords.{member_has_not_departed, stamp_eq_gives_equality, ◌≡◌, ℕ, ◌<◌, ◌≤◌, ◌==◌, nat_lt, true, false, List, take, sym, ap, ◌∙◌, subst}
use Rattle.am_repair.proofs.Repairable.RepairedWords.{arith, nat_tests, Rules, MayFound, place_of_name, Event, IsBeginningOf, IsGoodList, is_member_at_end, stamp_of_list, taken_front_begins_list}
use Rattle.am_repair.proofs.Repairable.RepairedWords.{begins_through_both, Group, IsUp, Leads, chain_of, GroupKeeps, Node, acts_in_its_view, view, is_member, is_sequencer, lowest_name_or_zero, whole}
use Rattle.am_repair.proofs.Repairable.RepairedWords.{MayRepair, World, current, is_stopped, run, split_on_bool, both_of_and, member_status_has_log, names_hold_in_runs, Following}
use Rattle.am_repair.proofs.Repairable.RepairedWords.{image_of_whole_list, group_run_is_kept, LawfulUntilLastStop, lawful_is_until_last_stop, some_group_follows_until_last_stop, IsOneList, RepairableIsOneList, inl, either, has}
use Rattle.am_repair.proofs.Repairable.RepairedWords.{members, run_trims_only_taken, member_row_gives_member, member_has_member_row, was_member_in_longer_list, eqb-true}
use Rattle.am_refinement.specs.States.{OwnDecided}
use Rattle.am_refinement.proofs.Sending.{teller_of_own_promise_leads}
use Rattle.am_refinement.proofs.WholeSteps.Owns.{run_keeps_own_decisions}
use Rattle.am_repair.specs.Calm.{is_past}
use Rattle.am_repair.proofs.RepairLists.{past_row_is_past}
use Rattle.am_repair.proofs.Known.Beginning.{node_holds_view_and_accepted, member_of_repair_runs}
use Rattle.am_base.specs.Whole.{image_of_list}
use Rattle.am_repair.proofs.Repairable.One.{one_sequencer_runs}

-- ---- who is there

pub current_name_is_below_256 : (rules : Rules) (events : List Event) (place : ℕ) → MayFound rules → place < 16 → current (run rules events) place < 256
current_name_is_below_256 rules events place may low =
    let most = (names_hold_in_runs rules events may).most place in
    omega arith

-- a life beyond the sixteenth is nobody's
pub member_name_is_below_256 : (rules : Rules) (events : List Event) (name : ℕ) → MayFound rules → is_member ((run rules events).nodes name).status ≡ true → name < 256
member_name_is_below_256 rules events name may member = split_on_bool (nat_lt name 256)
    (λ t. grind (arith, nat_tests))
    (λ f. absurd (
    let high : 256 ≤ name = grind (arith, nat_tests) in
    let most = (names_hold_in_runs rules events may).most (place_of_name name) in
    let none = (names_hold_in_runs rules events may).unborn name (omega arith) in
    let z = ap (λ (m : Node). is_member m.status) none in cc))

-- the sequencer is a member of its own list
lists_itself : (rules : Rules) (events : List Event) (place : ℕ) → MayFound rules → place < 16 → MayRepair (run rules events) place
    → (let w = run rules events in has (members (w.nodes (current w place))) (current w place) ≡ true)
lists_itself rules events place may low repair =
    let w = run rules events in
    let q = current w place in
    subst (λ i. has (members (w.nodes q)) i ≡ true) ((names_hold_in_runs rules events may).who q)
    (((run_trims_only_taken rules events may).each q (current_name_is_below_256 rules events place may low)).leads repair.leads)

-- who is a member of its list runs
pub listed_member_runs : (rules : Rules) (events : List Event) (place name : ℕ) → MayFound rules → place < 16 → MayRepair (run rules events) place
    → (let w = run rules events in has (members (w.nodes (current w place))) name ≡ true → is_stopped w name ≡ false)
listed_member_runs rules events place name may low repair there =
    member_of_repair_runs (run rules events) place name repair (node_holds_view_and_accepted rules events (current (run rules events) place)) there

pub sequencer_of_repair_runs : (rules : Rules) (events : List Event) (place : ℕ) → MayFound rules → place < 16 → MayRepair (run rules events) place
    → (let w = run rules events in is_stopped w (current w place) ≡ false)
sequencer_of_repair_runs rules events place may low repair =
    listed_member_runs rules events place (current (run rules events) place) may low repair (lists_itself rules events place may low repair)

module _ (rules : Rules) (w : World) (s : Group) (place : ℕ) (old : Following rules w s) (seq : is_sequencer (w.nodes (current w place)) ≡ true)
    (few : current w place < 256) (goes : is_stopped w (current w place) ≡ false) where
  abbrev q : ℕ
  q = current w place

  kept : GroupKeeps s
  kept = group_run_is_kept rules.founders (lowest_name_or_zero rules.founders) rules.resilience s old.group

  -- a Member that runs is up
  up : (name : ℕ) → name < 256 → is_member (w.nodes name).status ≡ true → is_stopped w name ≡ false → IsUp (s.node name)
  up name low member runs =
      let a = old.stands.each name low in
      let here = member_has_not_departed (w.nodes name).status member in
      assumption (a.log_ ∙ member_status_has_log (w.nodes name).status member, a.stopped ∙ runs, a.departed ∙ here)

  sequencer : (is_member (w.nodes q).status ≡ true) × ((w.nodes q).core.promise ≡ view (w.nodes q)) × ((view (w.nodes q)).by ≡ (w.nodes q).core.who)
  sequencer =
      let a = both_of_and (acts_in_its_view (w.nodes q)) ((view (w.nodes q)).by == (w.nodes q).core.who) seq in
      let b = both_of_and (is_member (w.nodes q).status) _ a.0 in
      (b.0, stamp_eq_gives_equality (w.nodes q).core.promise (view (w.nodes q)) b.1, eqb-true (view (w.nodes q)).by (w.nodes q).core.who a.1)

  viewed : stamp_of_list (s.node q).list ≡ view (w.nodes q)
  unfolding stamp_of_list
  viewed = ap (λ i. i.view) (image_of_whole_list w q (w.nodes q) (s.node q) (old.stands.each q few))

  pub sequencer_leads_in_group : (w.nodes q).core.who ≡ q → Leads q (s.node q)
  sequencer_leads_in_group own =
      let a = old.stands.each q few in
      let b = sequencer in
      assumption (up q few b.0 goes, a.promise ∙ b.1 ∙ sym viewed, ap (λ u. u.by) viewed ∙ b.2 ∙ own)

  pub chain_of_views_is_whole : (w.nodes q).core.who ≡ q → chain_of s.views ≡ whole w (w.nodes q)
  chain_of_views_is_whole own = sym ((kept.each q).leads (sequencer_leads_in_group own)).chain ∙ (old.stands.each q few).list

  -- a Member that runs is a member of the chain, or was one
  was_member : (name : ℕ) → name < 256 → is_member (w.nodes name).status ≡ true → is_stopped w name ≡ false → is_member_at_end (chain_of s.views) name ≡ false
      → is_past (image_of_list (chain_of s.views)) name ≡ true
  was_member name low member runs none =
      let joined = (kept.each name).joined (up name low member runs).log in
      let front = begins_through_both (taken_front_begins_list (s.node name).start s.group) kept.group in
      either (was_member_in_longer_list name kept.views.good front (inl (member_has_member_row (take (s.node name).start s.group) name joined.member)))
      (λ x. absurd (let t = member_row_gives_member (chain_of s.views) name x in cc))
      (λ x. past_row_is_past (image_of_list (chain_of s.views)) name x)

  pub chain_is_one_list : ((name : ℕ) → (w.nodes name).core.who ≡ name) → ((name : ℕ) → is_member (w.nodes name).status ≡ true → name < 256)
      → ((name : ℕ) → name < 256 → OwnDecided (w.nodes name)) → IsOneList w (w.nodes q)
  chain_is_one_list who small owns = record {
    good = subst IsGoodList (chain_of_views_is_whole (who q)) kept.views.good;
    each = λ name member runs. (let low = small name member in
        let a = old.stands.each name low in
        record {
          within = a.begins.within;
          image = a.begins.image;
          begins = subst (λ l. IsBeginningOf l (whole w (w.nodes q))) a.list (subst (IsBeginningOf (s.node name).list) (chain_of_views_is_whole (who q)) ((kept.each name).list
              (up name low member runs)));
        });
    listed = λ name member runs stays. (let low = small name member in
        let there = up name low member runs in
        let joined = (kept.each name).joined there.log in
        let front = begins_through_both (taken_front_begins_list (s.node name).start s.group) kept.group in
        subst (λ l. is_member_at_end l name ≡ true) (chain_of_views_is_whole (who q))
        ((kept.each name).stays there.there ((old.stands.each name low).leaving ∙ stays) (take (s.node name).start s.group) front joined.member));
    past = λ name member runs. subst (λ l. is_member_at_end l name ≡ false → is_past (image_of_list l) name ≡ true) (chain_of_views_is_whole (who q))
        (was_member name (small name member) member runs);
    tells = λ name member runs t mine.
        (let low = small name member in
        let leads = teller_of_own_promise_leads (w.nodes name) member t (owns name low) mine in
        one_sequencer_runs rules w s name q old kept low few (who name) (who q) leads seq runs goes ∙ sym (who q));
  }

-- ---- in every run

-- where a sequencer runs
pub running_sequencer_has_one_list : (rules : Rules) (events : List Event) (place : ℕ) → MayFound rules → place < 16 → LawfulUntilLastStop rules events
    → (let w = run rules events in let q = current w place in is_sequencer (w.nodes q) ≡ true → is_stopped w q ≡ false → IsOneList w (w.nodes q))
running_sequencer_has_one_list rules events place may low until leads goes =
    let h = some_group_follows_until_last_stop rules events may until in
    chain_is_one_list rules (run rules events) h.0 place h.1 leads (current_name_is_below_256 rules events place may low) goes
    (names_hold_in_runs rules events may).who (λ name member. member_name_is_below_256 rules events name may member) (run_keeps_own_decisions rules events may).each

pub repairable_is_one_list : RepairableIsOneList
repairable_is_one_list rules events place may low lawful repair =
    running_sequencer_has_one_list rules events place may low (lawful_is_until_last_stop rules events lawful) repair.leads (sequencer_of_repair_runs rules events place may low repair)
