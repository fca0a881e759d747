-- Where a group may be repaired and its lists agree, the world is calm; so the schedule repairs it.
use Rattle.am_repair.proofs.RepairWords.{false_from_ne_true, inl, inr, ◌≡◌, ℕ, ◌<◌, true, false, length, refl, sym, ap, ◌∙◌, subst, arith, cases_lt, Image}
use Rattle.am_repair.proofs.RepairWords.{List, Event, ◌+◌, MayFound, Rules, place_of_name, life_of_name, has, members_of_image, log_members_at, image_at_top_is_told, Node, top, image_of_node, view, members, acts_in_its_view}
use Rattle.am_repair.proofs.RepairWords.{is_member, stranger_node, has_departed, World, current, is_stopped, run, MayRepair, WorldTrimsOnlyTaken, run_trims_only_taken}
use Rattle.am_repair.proofs.RepairWords.{IsAtRest, Repair, LeadsCalmly, ◌≤◌, split_on_bool, FollowsView, IsApart, IsLeaver, is_past, Calm, Agree, RepairsWhereListsAgree}
use Rattle.am_repair.proofs.RepairWords.{max}
use Rattle.am_step_laws.proofs.Numbers.Images.{image_at_up_to_number}
use Rattle.am_step_laws.proofs.Numbers.RunCounts.{number_bounds_hold_in_runs, run_has_low_numbers}
use Rattle.am_repair.specs.Claim.{IsOut}
use Rattle.am_repair.proofs.Nodes.{acting_member_promised_its_view, sequencer_acts_by_own_view, acting_node_has_no_ballot}
use Rattle.am_repair.proofs.Going.{member_status_has_not_departed}
use Rattle.am_repair.proofs.Schedules.{letter_number_le_length}
use Rattle.am_repair.proofs.Fine.{WorldKeepsLawsAndCalm, NameRunsNow}
use Rattle.am_repair.proofs.Repaired.{AllMembersHaveStored, all_members_catch_up}
use Rattle.am_repair.proofs.Known.OldLives.{OldLivesHaveStopped, run_old_lives_have_stopped}
use Rattle.am_repair.proofs.Known.Leavers.{LeavingNodeHasLogNoBallot, leavers_of_runs_have_log}
use Rattle.am_refinement.proofs.WholeSteps.Courses.{nonmember_status_has_no_log}
use Rattle.am_refinement.proofs.Sending.{log_status_undeparted_is_member}

-- ---- who is there

-- a life that hasn't begun doesn't act
born : (rules : Rules) (w : World) (name : ℕ) → WorldTrimsOnlyTaken rules w → w.lives (place_of_name name) < life_of_name name → acts_in_its_view (w.nodes name) ≡ true → ⊥
born rules w name laws low a =
    let is = laws.blanks.base.named.unborn name low in
    let t : acts_in_its_view (stranger_node rules name) ≡ true = subst (λ (m : Node). acts_in_its_view m ≡ true) is a in
    cc

pub acting_name_is_small : (rules : Rules) (w : World) (name : ℕ) → WorldTrimsOnlyTaken rules w → acts_in_its_view (w.nodes name) ≡ true → name < 256
acting_name_is_small rules w name laws a = elim (cases_lt name 256) [
  | inl low ↦ low
  | inr high ↦ (let most = laws.blanks.base.named.most (place_of_name name) in absurd (born rules w name laws (omega arith) a))
]

acting_there : (m : Node) → acts_in_its_view m ≡ true → has_departed m.status ≡ false
acting_there m a = member_status_has_not_departed m (acting_member_promised_its_view m a).0

-- what a node has accepted, and its list's last View, stand in its list
abbrev pub HoldsViewAndAccepted : Node → Type 0
HoldsViewAndAccepted q = max q.core.acc (image_of_node q).view_number ≤ top q

-- so it is of each node of each run
pub node_holds_view_and_accepted : (rules : Rules) (events : List Event) (name : ℕ) → HoldsViewAndAccepted ((run rules events).nodes name)
node_holds_view_and_accepted rules events name =
    let m = (run rules events).nodes name in
    let up = (image_at_up_to_number m.core.log (top m) (omega arith) ((run_has_low_numbers rules events).images name)).view in
    let same = ap (λ (i : Image). i.view_number) (image_at_top_is_told m.core.log) in
    omega (arith, ((number_bounds_hold_in_runs rules events).each name).accepted)

-- who is out is no member of the sequencer's list
pub name_out_is_no_member : (w : World) (q : Node) (name : ℕ) → HoldsViewAndAccepted q → IsOut w q name → has_departed (w.nodes name).status ≡ false
    → has (members q) name ≡ false
name_out_is_no_member w q name low out here = ap (λ (i : Image). has (members_of_image i) name) (sym (image_at_top_is_told q.core.log)) ∙ out here (top q) (omega arith) (omega arith) (omega arith)

-- who acts and is a member of its list runs, and isn't leaving
pub member_of_repair_runs : (w : World) (place name : ℕ) → MayRepair w place
    → (let q = w.nodes (current w place) in HoldsViewAndAccepted q → has (members q) name ≡ true → is_stopped w name ≡ false)
member_of_repair_runs w place name may low there = false_from_ne_true (is_stopped w name)
    (λ t. (let none = name_out_is_no_member w (w.nodes (current w place)) name low (may.nobody_stopped name t) (acting_there (w.nodes name) (may.all_act name there).0)
    in cc))

member_stays : (w : World) (place name : ℕ) → MayRepair w place
    → (let q = w.nodes (current w place) in HoldsViewAndAccepted q → has (members q) name ≡ true → (w.nodes name).leaving ≡ false)
member_stays w place name may low there = false_from_ne_true (w.nodes name).leaving
    (λ t. (let none = name_out_is_no_member w (w.nodes (current w place)) name low (may.nobody_leaves name t) (acting_there (w.nodes name) (may.all_act name there).0)
    in cc))

there_now : (rules : Rules) (w : World) (name : ℕ) → WorldTrimsOnlyTaken rules w → OldLivesHaveStopped w → acts_in_its_view (w.nodes name) ≡ true → is_stopped w name ≡ false
    → NameRunsNow w name
there_now rules w name laws old a runs =
    record {
      current_ = elim (cases_lt (w.lives (place_of_name name)) (life_of_name name)) [
        | inl low ↦ absurd (born rules w name laws low a)
        | inr at_least ↦ elim (cases_lt (life_of_name name) (w.lives (place_of_name name))) [
          | inl older ↦ absurd (let t = old.old name older in cc)
          | inr at_most ↦ omega arith
        ]
      ];
      runs = runs;
    }

-- ---- the beginning

abbrev pub repair_of_place : World → ℕ → Repair
repair_of_place w q = record {
  by = q;
  view = view (w.nodes q);
  at = (image_of_node (w.nodes q)).view_number;
  members = members (w.nodes q);
  gone = is_past (image_of_node (w.nodes q));
  high = top (w.nodes q);
  sent = length w.letters;
}

-- a world of a run that may be repaired, and in which lists agree
record Begun (rules : Rules) (w : World) (place : ℕ) : Type 0 where
  laws : WorldTrimsOnlyTaken rules w
  old : OldLivesHaveStopped w
  low : place < 16
  may : MayRepair w place
  agree : Agree w (w.nodes (current w place))
  leaves : (name : ℕ) → LeavingNodeHasLogNoBallot (w.nodes name)

listed : (rules : Rules) (w : World) (place : ℕ) → Begun rules w place → has (members (w.nodes (current w place))) (current w place) ≡ true
listed rules w place b =
    let q = current w place in
    let a = (sequencer_acts_by_own_view (w.nodes q) b.may.leads).0 in
    subst (λ i. has (members (w.nodes q)) i ≡ true) (b.laws.blanks.base.named.who q) ((b.laws.each q (acting_name_is_small rules w q b.laws a)).leads b.may.leads)

within : (rules : Rules) (w : World) (place : ℕ) → Begun rules w place → (let q = w.nodes (current w place) in HoldsViewAndAccepted q)
within rules w place b =
    let q = current w place in
    let f = (b.laws.each q (acting_name_is_small rules w q b.laws (sequencer_acts_by_own_view (w.nodes q) b.may.leads).0)).fronts in
    omega (arith, f.accepted, (b.agree.each q (listed rules w place b)).reached)

at_rest : (rules : Rules) (w : World) (place name : ℕ) → Begun rules w place → has (members (w.nodes (current w place))) name ≡ true
    → IsAtRest (w.nodes name)
at_rest rules w place name b there =
    let a = (b.may.all_act name there).0 in
    record {
      stays = member_stays w place name b.may (within rules w place b) there;
      no_ballot = acting_node_has_no_ballot (w.nodes name) (b.laws.blanks.base.each name (acting_name_is_small rules w name b.laws a)).balloted a;
    }

leads_first : (rules : Rules) (w : World) (place : ℕ) → Begun rules w place → (let q = current w place in LeadsCalmly (repair_of_place w q) (w.nodes q))
leads_first rules w place b =
    let q = current w place in
    let m = w.nodes q in
    let own = b.agree.each q (listed rules w place b) in
    record {
      leads = b.may.leads;
      view_ = refl;
      number = refl;
      rest = at_rest rules w place q b (listed rules w place b);
      high = omega arith;
      reached = own.reached;
      fit = λ k e low there. b.agree.fit k e there;
      members_ = λ name k there above within. (let last : k ≡ top m = omega arith in ap (λ n. has (log_members_at m.core.log n) name) last
          ∙ ap (λ (i : Image). has (members_of_image i) name) (image_at_top_is_told m.core.log) ∙ there);
      gone = λ name t. t;
      counted = b.agree.counted;
    }

follows_first : (rules : Rules) (w : World) (place name : ℕ) → Begun rules w place
    → (let q = current w place in has (members (w.nodes q)) name ≡ true → FollowsView (repair_of_place w q) (w.nodes q) (w.nodes name))
follows_first rules w place name b there =
    let act = b.may.all_act name there in
    let g = b.agree.each name there in
    assumption (at_rest rules w place name b there)

apart_first : (rules : Rules) (w : World) (place name : ℕ) → Begun rules w place → (let q = current w place in has (members (w.nodes q)) name ≡ false
    → is_stopped w name ≡ false → has_departed (w.nodes name).status ≡ false → (w.nodes name).leaving ≡ false → IsApart (repair_of_place w q) (w.nodes name))
apart_first rules w place name b none goes there stays =
    let m = w.nodes name in
    let no_member = false_from_ne_true (is_member m.status) (λ t. (let in_ = b.agree.alone name t goes stays in cc)) in
    elim (cases_lt name 256) [
      | inl low ↦ record {
        no_ballot = (b.laws.blanks.base.each name low).balloted.none (nonmember_status_has_no_log m.status no_member there);
        stays = stays;
        promised = λ member. absurd (cc);
      }
      | inr high ↦
          (let most = b.laws.blanks.base.named.most (place_of_name name) in
          let is = b.laws.blanks.base.named.unborn name (omega arith) in
          record { no_ballot = ap (λ (x : Node). x.ballot) is; stays = stays; promised = λ member. absurd (cc) })
    ]

leaver_first : (rules : Rules) (w : World) (place name : ℕ) → Begun rules w place → is_stopped w name ≡ false
    → has_departed (w.nodes name).status ≡ false → (w.nodes name).leaving ≡ true → IsLeaver (repair_of_place w (current w place)) (w.nodes name)
leaver_first rules w place name b goes there leaves =
    let m = w.nodes name in
    let l = b.leaves name leaves in
    let h = b.agree.left name (log_status_undeparted_is_member m.status l.log there) goes leaves in
    record { gone = h.past; leaves = leaves; log = l.log; no_ballot = l.no_ballot; tells = h.tells }

calm_first : (rules : Rules) (w : World) (place : ℕ) → Begun rules w place → Calm (repair_of_place w (current w place)) w
calm_first rules w place b =
    let q = current w place in
    let m = w.nodes q in
    let goes : (name : ℕ) → has (members m) name ≡ true → is_stopped w name ≡ false =
    λ name there. member_of_repair_runs w place name b.may (within rules w place b) there in
    record {
      nodes = record {
        own = (sequencer_acts_by_own_view m b.may.leads).1 ∙ b.laws.blanks.base.named.who q;
        listed = listed rules w place b;
        who = b.laws.blanks.base.named.who;
        leads = leads_first rules w place b;
        follows = λ name there other. follows_first rules w place name b there;
      };
      current_ = λ name there. (there_now rules w name b.laws b.old (b.may.all_act name there).0 (goes name there)).current_;
      runs = goes;
      apart = λ name none runs there. split_on_bool (w.nodes name).leaving
          (λ t. inr (leaver_first rules w place name b runs there t))
          (λ f. inl (apart_first rules w place name b none runs there f));
      letters = λ number l late there. absurd (let within = letter_number_le_length w.letters number l there in omega arith);
    }

stored_first : (rules : Rules) (w : World) (place : ℕ) → Begun rules w place
    → (let q = current w place in AllMembersHaveStored rules (repair_of_place w q) (w.nodes q).core.base w)
stored_first rules w place b =
    let q = current w place in
    let fine : WorldKeepsLawsAndCalm rules (repair_of_place w q) w = record { laws = b.laws; calm = calm_first rules w place b } in
    record {
      fine = fine;
      sent = omega arith;
      each = λ i there other.
          (let g = b.agree.each i there in
          let fronts = (b.laws.each i (acting_name_is_small rules w i b.laws (b.may.all_act i there).0)).fronts in
          record { fine = fine; stored_ = omega arith });
    }

-- so a calm world begins there, in which no member is more than the window and 15 entries behind
pub repairable_run_is_calm : (rules : Rules) (events : List Event) (place : ℕ) → MayFound rules → place < 16 → MayRepair (run rules events) place
    → (let w = run rules events in let q = current w place in Agree w (w.nodes q)
    → AllMembersHaveStored rules (repair_of_place w q) (w.nodes q).core.base w × (top (w.nodes q) ≤ (w.nodes q).core.base + (rules.window + 15)))
repairable_run_is_calm rules events place may low repair agree =
    let w = run rules events in
    let q = current w place in
    let b : Begun rules w place = assumption (run_trims_only_taken rules events may, run_old_lives_have_stopped rules events, leavers_of_runs_have_log rules events) in
    (stored_first rules w place b, (b.laws.kept q).few)

pub repairs_where_lists_agree : RepairsWhereListsAgree
repairs_where_lists_agree rules events place may low repair agree name there =
    let w = run rules events in
    let q = current w place in
    let b = repairable_run_is_calm rules events place may low repair agree in
    all_members_catch_up rules (repair_of_place w q) (w.nodes q).core.base w b.1 b.0 name there
