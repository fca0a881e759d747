-- A group whose members have come to its sequencer's view may be repaired.
use Rattle.am_repair.proofs.RepairWords.{◌≡◌, ℕ, ◌==◌, true, false, List, sym, ap, ◌∙◌, subst, arith, split_on_bool, eqb-true, has, members_of_image, log_members_at, Log}
use Rattle.am_repair.proofs.RepairWords.{top_of_log, image_of_log, Node, view, members, is_sequencer, has_departed, World, current, is_stopped}
use Rattle.am_repair.proofs.RepairWords.{MayRepair}
use Rattle.am_repair.specs.Claim.{IsOut}
use Rattle.am_repair.proofs.Known.Beginning.{HoldsViewAndAccepted, name_out_is_no_member}
use Rattle.am_repair.proofs.Going.{member_status_has_not_departed}
use Rattle.am_fetch_runs.proofs.Gathering.{AllGathered}
use Rattle.am_repair_fetches.specs.Later.{MayRepairLater}

-- ---- a group that has gathered

module _ (w v : World) (place : ℕ) (later : MayRepairLater w place) (g : AllGathered w v (current w place)) (itself : has (members (w.nodes (current w place))) (current w place) ≡ true)
    (low : HoldsViewAndAccepted (w.nodes (current w place))) (stays : (name : ℕ) → (w.nodes name).leaving ≡ false → (v.nodes name).leaving ≡ false) where
  abbrev q : ℕ
  q = current w place

  pub same_name : current v place ≡ q
  same_name = ap (λ (f : ℕ → ℕ). current (record w { lives = f }) place) g.spares.lives

  pub same_members : (name : ℕ) → has (members (v.nodes q)) name ≡ has (members (w.nodes q)) name
  same_members name = ap (λ (l : Log). has (members_of_image (image_of_log l)) name) g.lead.log

  -- who isn't listed is as before
  unlisted_is_other : (name : ℕ) → has (members (w.nodes q)) name ≡ false → (name == q) ≡ false
  unlisted_is_other name none = split_on_bool (name == q) (λ t. absurd (let k = ap (has (members (w.nodes q))) (eqb-true name q t) in cc)) (λ f. f)

  pub unlisted_is_same : (name : ℕ) → has (members (w.nodes q)) name ≡ false → v.nodes name ≡ w.nodes name
  unlisted_is_same name none = g.spares.others name (unlisted_is_other name none) none

  still_out : (name : ℕ) → has (members (w.nodes q)) name ≡ false → IsOut w (w.nodes q) name → IsOut v (v.nodes q) name
  still_out name none out = λ here number above viewed within.
      (let same = unlisted_is_same name none in
      let rises = g.lead.acc in
      let long = ap (λ (l : Log). top_of_log l) g.lead.log in
      let last = ap (λ (l : Log). (image_of_log l).view_number) g.lead.log in
      ap (λ (l : Log). has (log_members_at l number) name) g.lead.log ∙ out (ap (λ (m : Node). has_departed m.status) (sym same) ∙ here) number (omega arith) (omega arith) (omega arith))

  stopped_is_out : (name : ℕ) → is_stopped v name ≡ true → IsOut v (v.nodes q) name
  stopped_is_out name t =
      let before : is_stopped w name ≡ true = ap (λ (xs : List ℕ). is_stopped (record w { stopped = xs }) name) (sym g.spares.stopped) ∙ t in
      split_on_bool (has (members (w.nodes q)) name)
      (λ listed. absurd (let runs = (later.gathers.each name listed).current_.runs in cc))
      (λ none. still_out name none (later.nobody_stopped name before))

  pub listed_stays : (name : ℕ) → has (members (w.nodes q)) name ≡ true → (w.nodes name).leaving ≡ false
  listed_stays name listed = split_on_bool (w.nodes name).leaving
      (λ t. absurd (let here = member_status_has_not_departed (w.nodes name) (later.gathers.each name listed).member_ in
      let none = name_out_is_no_member w (w.nodes q) name low (later.nobody_leaves name t) here in cc))
      (λ f. f)

  leaver_is_out : (name : ℕ) → (v.nodes name).leaving ≡ true → IsOut v (v.nodes q) name
  leaver_is_out name t = split_on_bool (has (members (w.nodes q)) name)
      (λ listed. absurd (let f = stays name (listed_stays name listed) in cc))
      (λ none. still_out name none (later.nobody_leaves name (ap (λ (m : Node). m.leaving) (sym (unlisted_is_same name none)) ∙ t)))

  pub gathered_may_repair : MayRepair v place
  gathered_may_repair = record {
    leads = subst (λ i. is_sequencer (v.nodes i) ≡ true) (sym same_name) g.leads;
    nobody_stopped = λ name t. subst (λ i. IsOut v (v.nodes i) name) (sym same_name) (stopped_is_out name t);
    nobody_leaves = λ name t. subst (λ i. IsOut v (v.nodes i) name) (sym same_name) (leaver_is_out name t);
    all_act = λ name there.
        (let listed = sym (same_members name) ∙ subst (λ i. has (members (v.nodes i)) name ≡ true) same_name there in
        let a = g.act name listed in
        (a.acts, a.view_ ∙ sym (ap (λ (l : Log). (image_of_log l).view) g.lead.log) ∙ ap (λ i. view (v.nodes i)) (sym same_name)));
  }
