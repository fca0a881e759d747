-- Where a lawful run ends that may be repaired, each member joined, by its sequencer's list, where its own list begins.
use Rattle.am_repair.proofs.Repairable.RepairedWords.{◌≡◌, inl, either, ℕ, zero, suc, ◌<◌, ◌≤◌, true, false, List, take, slice_get, Some, sym, ap, ◌∙◌, subst, arith, nat_tests, split_on_bool}
use Rattle.am_repair.proofs.Repairable.RepairedWords.{Entry, Join, blank, Rules, MayFound, has, place_of_name, life_of_name, Event, IsBeginningOf, IsGoodList, is_member_at_end, WasMemberRow, row_of_place, row_at_place, fits}
use Rattle.am_repair.proofs.Repairable.RepairedWords.{beginning_of_good_is_good, shorter_beginning_begins_longer, taken_front_begins_list, length_of_taken_list, member_has_member_row, was_member_in_longer_list, lawful_front, MayRepair, current, run, whole, is_sequencer, is_member, is_stopped, members}
use Rattle.am_repair.proofs.Repairable.RepairedWords.{chain_of, image_of_whole_list, group_run_is_kept, lowest_name_or_zero, member_status_has_log, names_hold_in_runs, acting_member_promised_its_view, image_of_node, members_of_image, Image}
use Rattle.am_repair.proofs.RepairWords.{cases_lt, slice_get_within, image_at_top_is_told}
use Rattle.am_base.specs.Whole.{image_of_list}
use Rattle.am_group.specs.Journals.{item_at}
use Rattle.am_node_defs.proofs.Lives.{entry_fits_at_its_number}
use Rattle.am_lawful_runs.proofs.Lists.{item_stays_in_longer_list}
use Rattle.am_refinement.proofs.Membership.Joins.{member_row_tells_its_join}
use Rattle.am_safety.proofs.Holds.{kept_until_last_stop}
use Rattle.am_repair.proofs.Repairable.RepairedWords.{LawfulUntilLastStop, lawful_is_until_last_stop}
use Rattle.am_repair.proofs.Known.Beginning.{repair_of_place}
use Rattle.am_repair.proofs.Repairable.OneList.{current_name_is_below_256, sequencer_of_repair_runs, chain_of_views_is_whole}
use Rattle.am_repair_takes.proofs.Starts.{Starts}

-- no Join fits that of a name which was a member already
joins_anew : (image : Image) (name : ℕ) → fits image (Join name) ≡ true → WasMemberRow (row_of_place image (place_of_name name)) (life_of_name name) → ⊥
unfolding fits
joins_anew image name fit was = either was
    (λ h. (let j = h.joined in let l = h.left in let z : ⊥ = grind (arith, nat_tests) in z))
    (λ h. (let j = h.joined in either h.gone
    (λ above. (let z : ⊥ = grind (arith, nat_tests) in z))
    (λ same. (let life = same.0 in let z : ⊥ = grind (arith, nat_tests) in z))))

-- a member of a list joined no earlier than any Join of its that stands there
joined_by : (list : List Entry) (name k : ℕ) → IsGoodList list → is_member_at_end list name ≡ true → slice_get list k ≡ Some (Join name)
    → suc k ≤ (row_of_place (image_of_list list) (place_of_name name)).joined
joined_by list name k good member at =
    let J = (row_of_place (image_of_list list) (place_of_name name)).joined in
    let tells = member_row_tells_its_join list name good member in
    either (cases_lt J (suc k))
    (λ low. absurd (
    let inside = tells.within in
    let within = slice_get_within list k (Join name) at in
    let long = length_of_taken_list k list (omega arith) in
    let short = length_of_taken_list J list inside in
    let good_k = beginning_of_good_is_good (taken_front_begins_list k list) good in
    let begins = shorter_beginning_begins_longer (taken_front_begins_list J list) (taken_front_begins_list k list) (omega arith) in
    let was = was_member_in_longer_list name good_k begins (inl (member_has_member_row (take J list) name tells.member)) in
    joins_anew (image_of_list (take k list)) name (entry_fits_at_its_number blank 1 k list (Join name) good.fit at) was))
    (λ high. high)

joined_at : (list group : List Entry) (name start : ℕ) → IsGoodList list → is_member_at_end list name ≡ true → IsBeginningOf group list → item_at group start ≡ Some (Join name)
    → start ≤ (row_of_place (image_of_list list) (place_of_name name)).joined
joined_at list group name zero good member begins at = absurd (cc)
joined_at list group name (suc k) good member begins at = joined_by list name k good member (item_stays_in_longer_list (suc k) (Join name) begins at)

-- where a sequencer runs whose list has Members alone
pub starts_in_running_list : (rules : Rules) (events : List Event) (place : ℕ) → MayFound rules → place < 16 → LawfulUntilLastStop rules events
    → (let w = run rules events in let q = current w place in is_sequencer (w.nodes q) ≡ true → is_stopped w q ≡ false
    → ((name : ℕ) → has (members (w.nodes q)) name ≡ true → is_member (w.nodes name).status ≡ true) → Starts (repair_of_place w q) w)
unfolding Starts is_member_at_end
starts_in_running_list rules events place may low until seq goes listed name there =
    let w = run rules events in
    let q = current w place in
    let m = w.nodes q in
    let h = kept_until_last_stop rules may events until in
    let s = h.to in
    let few = current_name_is_below_256 rules events place may low in
    let kept = group_run_is_kept rules.founders (lowest_name_or_zero rules.founders) rules.resilience s h.follows.group in
    let chain = chain_of_views_is_whole rules w s place h.follows seq few goes ((names_hold_in_runs rules events may).who q) in
    let list = whole w m in
    let begins : IsBeginningOf w.group list = subst (λ l. IsBeginningOf w.group l) chain (subst (λ g. IsBeginningOf g (chain_of s.views)) h.follows.stands.group kept.group) in
    let good : IsGoodList list = subst IsGoodList chain kept.views.good in
    let a = h.follows.stands.each q few in
    let told_ : image_of_list list ≡ image_of_node m = ap image_of_list (sym a.list) ∙ image_of_whole_list w q m (s.node q) a in
    let member : is_member_at_end list name ≡ true = ap (λ (i : Image). has (members_of_image i) name) told_ ∙ there in
    let b = (h.is.each name).begins (member_status_has_log (w.nodes name).status (listed name there)) in
    let row = ap (λ (i : Image). (row_at_place i name).joined) (told_ ∙ sym (image_at_top_is_told m.core.log)) in
    split_on_bool (has rules.founders name)
    (λ t.
    let first = b.founder t in
    let some = (member_row_tells_its_join list name good member).some in
    omega arith)
    (λ f.
    let from = joined_at list w.group name (w.nodes name).core.start good member begins (b.joiner f).there in
    omega arith)

pub starts_first : (rules : Rules) (events : List Event) (place : ℕ) → MayFound rules → place < 16 → lawful_front rules events ≡ events → MayRepair (run rules events) place
    → Starts (repair_of_place (run rules events) (current (run rules events) place)) (run rules events)
starts_first rules events place may low lawful repair =
    starts_in_running_list rules events place may low (lawful_is_until_last_stop rules events lawful) repair.leads (sequencer_of_repair_runs rules events place may low repair)
    (λ name there. (acting_member_promised_its_view ((run rules events).nodes name) (repair.all_act name there).0).0)
