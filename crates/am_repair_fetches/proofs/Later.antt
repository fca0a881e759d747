-- A group whose members have come to its sequencer's view has lists that agree, so the schedule repairs it.
use Rattle.am_repair.proofs.RepairWords.{◌≡◌, ℕ, ◌-◌, ◌≤◌, ◌<◌, true, false, List, ◌++◌, Some, sym, ap, ◌∙◌, subst, arith, split_on_bool, has, members_of_image, Log, All, names_of, fits, log_image_at, log_entry_at}
use Rattle.am_repair.proofs.RepairWords.{top_of_log, image_of_log, Image, Entry, Event, Rules, MayFound, Node, top, image_of_node, members, is_member, is_stopped, World, current, run, world_after_events, runs_go_on}
use Rattle.am_repair.proofs.RepairWords.{run_trims_only_taken, WorldTrimsOnlyTaken, MayRepair, Agree, is_past, HasCaughtUp}
use Rattle.am_base.specs.Fronts.{counting_names_at}
use Rattle.am_group_defs.specs.Settle.{settle_events}
use Rattle.am_group_defs.specs.World.{start}
use Rattle.am_step_laws.proofs.Rests.{end_refresh_rests_with_list}
use Rattle.am_repair.specs.Standing.{Agrees, HasLeft, IsBeginning, IsOneList}
use Rattle.am_repair.specs.Trimmed.{CountsMembers}
use Rattle.am_repair.proofs.Known.Beginning.{HoldsViewAndAccepted, node_holds_view_and_accepted, repairs_where_lists_agree}
use Rattle.am_repair.proofs.Known.OneLists.{fits_there, has_left, listed_is, part_in_view_has_last_view}
use Rattle.am_repair.proofs.Known.ReportedRuns.{known_is_taken}
use Rattle.am_lawful_runs.proofs.Spared.{LawfulUntilLastStop, lawful_is_until_last_stop}
use Rattle.am_repair.proofs.Repairable.OneList.{running_sequencer_has_one_list}
use Rattle.am_repair.proofs.Repairable.Counted.{counted_names_are_members}
use Rattle.am_fetch_runs.specs.Gathering.{IsTickOrHearing, TicksOfGathering}
use Rattle.am_fetch_runs.proofs.Gathering.{AllGathered, members_gather_until_last_stop}
use Rattle.am_repair_fetches.specs.Later.{MayRepairLater, GroupsMayBeRepairedLater, GroupsAreRepairedLater}
use Rattle.am_repair_fetches.proofs.Leaving.{nobody_leaves_by_events}
use Rattle.am_repair_fetches.proofs.Gathered as gathered

-- ---- where events like these follow a lawful run, after which nobody stopped

module _ (rules : Rules) (events more : List Event) (place : ℕ) (may : MayFound rules) (low : place < 16) (until : LawfulUntilLastStop rules events)
    (later : MayRepairLater (run rules events) place) (such : All IsTickOrHearing more)
    (g : AllGathered (run rules events) (run rules (events ++ more)) (current (run rules events) place)) where
  abbrev w : World
  w = run rules events

  abbrev v : World
  v = run rules (events ++ more)

  abbrev q : ℕ
  q = current w place

  abbrev old : Node
  old = w.nodes q

  abbrev new : Node
  new = v.nodes q

  laws : WorldTrimsOnlyTaken rules w
  laws = run_trims_only_taken rules events may

  accepted : HoldsViewAndAccepted old
  accepted = node_holds_view_and_accepted rules events q

  itself : has (members old) old.core.who ≡ true
  itself = (laws.each q later.gathers.current_.small).leads later.gathers.leads

  listed_itself : has (members old) q ≡ true
  listed_itself = subst (λ i. has (members old) i ≡ true) (laws.blanks.base.named.who q) itself

  stays : (name : ℕ) → (w.nodes name).leaving ≡ false → (v.nodes name).leaving ≡ false
  stays name h = subst (λ (x : World). (x.nodes name).leaving ≡ false) (sym (runs_go_on (start rules) events more)) (nobody_leaves_by_events more w name such h)

  one : IsOneList w old
  one = running_sequencer_has_one_list rules events place may low until later.gathers.leads later.gathers.current_.runs

  own : IsBeginning w old old
  own = one.each q (later.gathers.each q listed_itself).member_ later.gathers.current_.runs

  counts : CountsMembers old
  counts = counted_names_are_members rules events place may low until later.gathers.leads later.gathers.current_.runs later.nobody_leaves

  same_members : (name : ℕ) → has (members new) name ≡ has (members old) name
  same_members name = gathered.same_members w v place later g listed_itself accepted stays name

  -- ---- lists

  -- who is listed agrees with the sequencer
  each_agrees : (name : ℕ) → has (members new) name ≡ true → Agrees new (v.nodes name)
  each_agrees name there =
      let listed = sym (same_members name) ∙ there in
      let m = v.nodes name in
      let a = g.act name listed in
      let log = g.lead.log in
      let number = ap (λ (l : Log). (image_of_log l).view_number) log in
      let start = ap (λ (l : Log). l.start) log in
      let long = ap (λ (l : Log). top_of_log l) log in
      let tops = a.within in
      let starts = a.low in
      let reached = part_in_view_has_last_view w old (top m) one.good own a.low a.within (ap (λ (i : Image). i.view) (sym a.told_) ∙ a.view_) in
      let rises = (end_refresh_rests_with_list new).rests.base in
      let same = g.lead.base in
      let taken = a.taken in
      let known = known_is_taken rules (events ++ more) q name may later.gathers.current_.small (later.gathers.each name listed).current_.small in
      let who = ap (λ i. (new.reports i).taken) ((run_trims_only_taken rules (events ++ more) may).blanks.base.named.who name) in
      record {
        reached = omega arith;
        low = omega arith;
        within = omega arith;
        told_ = a.told_ ∙ ap (λ (l : Log). log_image_at l (top m)) (sym log);
        base = omega arith;
        reported = omega arith;
      }

  -- who isn't is as before
  alone : (name : ℕ) → is_member (v.nodes name).status ≡ true → is_stopped v name ≡ false → (v.nodes name).leaving ≡ false → has (members new) name ≡ true
  alone name member goes remains = split_on_bool (has (members old) name)
      (λ t. same_members name ∙ t)
      (λ f. absurd (
      let same = gathered.unlisted_is_same w v place later g listed_itself accepted stays name f in
      let goes_w : is_stopped w name ≡ false = ap (λ (xs : List ℕ). is_stopped (record w { stopped = xs }) name) (sym g.spares.stopped) ∙ goes in
      let t = listed_is w old name own (one.listed name (ap (λ (m : Node). is_member m.status) (sym same) ∙ member) goes_w (ap (λ (m : Node). m.leaving) (sym same) ∙ remains)) in
      cc))

  left : (name : ℕ) → is_member (v.nodes name).status ≡ true → is_stopped v name ≡ false → (v.nodes name).leaving ≡ true → HasLeft new (v.nodes name)
  left name member goes leaves = split_on_bool (has (members old) name)
      (λ t. absurd (let f = stays name (gathered.listed_stays w v place later g listed_itself accepted stays name t) in cc))
      (λ f.
      let same = gathered.unlisted_is_same w v place later g listed_itself accepted stays name f in
      let goes_w : is_stopped w name ≡ false = ap (λ (xs : List ℕ). is_stopped (record w { stopped = xs }) name) (sym g.spares.stopped) ∙ goes in
      let leaves_w : (w.nodes name).leaving ≡ true = ap (λ (m : Node). m.leaving) (sym same) ∙ leaves in
      let h = has_left rules events place name may leaves_w (later.nobody_leaves name leaves_w) accepted one own itself (ap (λ (m : Node). is_member m.status) (sym same) ∙ member) goes_w in
      subst (λ (m : Node). HasLeft new m) (sym same)
      (record { past = ap (λ (l : Log). is_past (image_of_log l) (w.nodes name).core.who) g.lead.log ∙ h.past; tells = h.tells }))

  fit : (number : ℕ) (e : Entry) → log_entry_at new.core.log number ≡ Some e → fits (log_image_at new.core.log (number - 1)) e ≡ true
  fit number e there = subst (λ (l : Log). log_entry_at l number ≡ Some e → fits (log_image_at l (number - 1)) e ≡ true) (sym g.lead.log)
      (λ at. fits_there w old number e one.good own at) there

  counted : (number : ℕ) → new.core.acc < number → number ≤ top new → (image_of_node new).view_number ≤ number
      → All (λ name. has (members new) name ≡ true) (names_of (counting_names_at new.core.log number))
  counted number above within view_ =
      let log = g.lead.log in
      let more_ = g.lead.acc in
      let long = ap (λ (l : Log). top_of_log l) log in
      let at = ap (λ (l : Log). (image_of_log l).view_number) log in
      subst (λ (l : Log). All (λ name. has (members_of_image (image_of_log l)) name ≡ true) (names_of (counting_names_at l number))) (sym log)
      (counts number (omega arith) (omega arith) (omega arith))

  same_place : current v place ≡ q
  same_place = gathered.same_name w v place later g listed_itself accepted stays

  pub gathered_lists_agree : Agree v (v.nodes (current v place))
  gathered_lists_agree = subst (λ i. Agree v (v.nodes i)) (sym same_place) (record { each = each_agrees; alone = alone; left = left; fit = fit; counted = counted })

  pub gathered_may_repair : MayRepair v place
  gathered_may_repair = gathered.gathered_may_repair w v place later g listed_itself accepted stays

-- ---- the claims

-- the events, and what the longer run comes to
pub record Later (rules : Rules) (events : List Event) (place : ℕ) : Type 0 where
  pub more : List Event
  pub such : All IsTickOrHearing more
  pub few : TicksOfGathering rules more
  pub all : AllGathered (run rules events) (run rules (events ++ more)) (current (run rules events) place)
  pub may : MayRepair (run rules (events ++ more)) place
  pub agree : Agree (run rules (events ++ more)) ((run rules (events ++ more)).nodes (current (run rules (events ++ more)) place))
  pub same : current (run rules (events ++ more)) place ≡ current (run rules events) place

pub gathers_later : (rules : Rules) (events : List Event) (place : ℕ) → MayFound rules → place < 16 → LawfulUntilLastStop rules events → MayRepairLater (run rules events) place
    → Later rules events place
gathers_later rules events place may low until later =
    let w = run rules events in
    let q = current w place in
    let g = members_gather_until_last_stop rules events q may until later.gathers in
    let all : AllGathered w (run rules (events ++ g.0)) q = subst (λ (u : World). AllGathered w u q) (sym (runs_go_on (start rules) events g.0)) g.3 in
    record {
      more = g.0;
      such = g.1;
      few = g.2;
      all = all;
      may = gathered_may_repair rules events g.0 place may low until later g.1 all;
      agree = gathered_lists_agree rules events g.0 place may low until later g.1 all;
      same = ap (λ (f : ℕ → ℕ). current (record w { lives = f }) place) all.spares.lives;
    }

-- the list is the same
pub same_list_later : (rules : Rules) (events : List Event) (place : ℕ) (h : Later rules events place)
    → ((run rules (events ++ h.more)).nodes (current (run rules (events ++ h.more)) place)).core.log ≡ ((run rules events).nodes (current (run rules events) place)).core.log
same_list_later rules events place h = ap (λ i. ((run rules (events ++ h.more)).nodes i).core.log) h.same ∙ h.all.lead.log

pub groups_may_be_repaired_later : GroupsMayBeRepairedLater
groups_may_be_repaired_later rules events place may small lawful later = let h = gathers_later rules events place may small (lawful_is_until_last_stop rules events lawful) later in (h.more, h.such, h.few, h.may)

pub groups_are_repaired_later : GroupsAreRepairedLater
groups_are_repaired_later rules events place may small lawful later =
    let h = gathers_later rules events place may small (lawful_is_until_last_stop rules events lawful) later in
    let v = run rules (events ++ h.more) in
    let log = same_list_later rules events place h in (
      h.more,
      h.such,
      h.few,
      λ name listed.
          (let there : has (members (v.nodes (current v place))) name ≡ true = ap (λ (l : Log). has (members_of_image (image_of_log l)) name) log ∙ listed in
          subst (λ n. HasCaughtUp ((world_after_events v (settle_events rules v)).nodes name) n) (ap (λ (l : Log). top_of_log l) log)
          (repairs_where_lists_agree rules (events ++ h.more) place may small h.may h.agree name there)),
    )
