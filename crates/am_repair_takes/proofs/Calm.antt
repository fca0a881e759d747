-- A calm world stays calm where applications take.
use Rattle.am_repair_takes.proofs.Words.{◌≡◌, inl, inr, either, ℕ, ◌+◌, ◌<◌, ◌≤◌, ◌==◌, true, false, List, [], ◌∷◌, refl, sym, ap, ◌∙◌, subst, arith}
use Rattle.am_repair_takes.proofs.Words.{split_on_bool, nat_tests, All, All-head, All-tail, eqb-true, eq-eqb, Outcome, Rules, has, Log, top_of_log}
use Rattle.am_repair_takes.proofs.Words.{image_of_log, log_image_at, Event, Node, top, is_member, has_departed, is_unfinished_ballot, StepResult, step, refresh, refresh_at_end}
use Rattle.am_repair_takes.proofs.Words.{settle_changes_only_sends, World, is_stopped, run, start, world_with_record, world_with_step, happens, world_after_events, runs_go_on}
use Rattle.am_repair_takes.proofs.Words.{events_have_effects, acting_name, MayTellResult, leads, decided, WorldTrimsOnlyTaken, each_node_trims_only_taken, events_trim_only_taken, actor_is_below_256, run_trims_only_taken, NodeTrimFronts, event_at, Act}
use Rattle.am_repair_takes.proofs.Words.{Repair, LeadsCalmly, FollowsView, IsElsewhere, Calm, CalmNodes, NodesStandAlike}
use Rattle.am_repair_takes.proofs.Words.{views_of_alike_nodes, acts_of_alike_nodes, is_sequencer_of_alike_nodes, alike_node_is_at_rest, TrustsReportsTaken, alike_node_leads_repair, trusts_reports_after_refresh, LogGrows, log_grows_to_itself, stored_reports_after_end, RepairWorldGrows}
use Rattle.am_repair_takes.proofs.Words.{packet_stays_calm_later, WorldKeepsLawsAndCalm, laws_and_calm_stay, letter_at_of_appended_letters, IsTaking, ours, takes_one, TakingStaysCalm}
use Rattle.am_repair_takes.proofs.Words.{has_log_by_status, Stamp, Bool, if◌then◌else◌}
use Rattle.am_base.specs.declared.outcome.Outcome.TheVariants as said
use Rattle.am_base.specs.declared.event.NodeEvent.TheVariants as does
use Rattle.am_repair_takes.proofs.Rows.{Took, nothing, next, take_is, take_node, take_letters, take_alike, took_alike}

-- ---- all nodes are alike

-- a world in which each node is alike, and whose sequencer trusts what was taken before
record IsAlike (r : Repair) (w v : World) : Type 0 where
  each : (name : ℕ) → NodesStandAlike (w.nodes name) (v.nodes name)
  trusts : TrustsReportsTaken r (λ name. (w.nodes name).core.taken) (v.nodes r.by)
  kept : (name : ℕ) → ((w.nodes r.by).reports name).stored ≤ ((v.nodes r.by).reports name).stored

grows_alike : (r : Repair) (w v : World) → IsAlike r w v → RepairWorldGrows r w v
grows_alike r w v a = record {
  log = subst (λ (l : Log). LogGrows (w.nodes r.by).core.log l) (sym (a.each r.by).log) (log_grows_to_itself (w.nodes r.by).core.log);
  stored = λ name there. (let same = ap (λ (l : Log). top_of_log l) (a.each name).log in omega arith);
  taken = λ name there. (a.each name).taken;
  acc = λ name there. (a.each name).acc;
  kept = λ name there. a.kept name;
}

follows_alike : (r : Repair) (w v : World) (name : ℕ) → Calm r w → IsAlike r w v → has r.members name ≡ true → (name == r.by) ≡ false
    → FollowsView r (v.nodes r.by) (v.nodes name)
follows_alike r w v name h a there other =
    let f = h.follows name there other in
    let x = a.each name in
    let q = a.each r.by in
    let same = ap (λ (l : Log). top_of_log l) x.log in
    let high = ap (λ (l : Log). top_of_log l) q.log in
    let from = ap (λ (l : Log). l.start) q.log in
    let reached = f.reached in let low = f.low in let within = f.within in
    let base = a.trusts.base name there other in
    let reported = a.trusts.reported name there other in
    let taken = x.taken in
    let who = ap (λ k. ((v.nodes r.by).reports k).taken) (x.who ∙ h.who name) in
    record {
      acts_ = acts_of_alike_nodes x ∙ f.acts_;
      view_ = views_of_alike_nodes x ∙ f.view_;
      rest = alike_node_is_at_rest x f.rest;
      agrees = record {
        reached = omega arith;
        low = omega arith;
        within = omega arith;
        told_ = ap image_of_log x.log ∙ f.told_ ∙ ap (λ (l : Log). log_image_at l (top (w.nodes name))) (sym q.log) ∙ ap (log_image_at (v.nodes r.by).core.log) (sym same);
        base = omega arith;
        reported = omega arith;
      };
    }

tells_alike : (m n : Node) → NodesStandAlike m n → MayTellResult n → MayTellResult m
tells_alike m n a (leads t) = leads (sym (is_sequencer_of_alike_nodes a) ∙ t)
tells_alike m n a (decided b number names is answer same) = decided b number names (sym a.ballot ∙ is) answer (sym (views_of_alike_nodes a) ∙ same)

apart_alike : (r : Repair) (m n : Node) → NodesStandAlike m n → IsElsewhere r m → IsElsewhere r n
apart_alike r m n a (inl h) = inl (record {
  no_ballot = a.ballot ∙ h.no_ballot;
  stays = a.leaving ∙ h.stays;
  promised = λ member. a.promise ∙ h.promised (ap is_member (sym a.status) ∙ member);
})
apart_alike r m n a (inr h) = inr (record {
  gone = ap r.gone a.who ∙ h.gone;
  leaves = a.leaving ∙ h.leaves;
  log = subst (λ x. has_log_by_status x ≡ true) (sym a.status) h.log;
  no_ballot = ap is_unfinished_ballot a.ballot ∙ h.no_ballot;
  tells = λ t mine. h.tells (tells_alike m n a t) (ap (λ (s : Stamp). s.by) (sym a.promise) ∙ mine ∙ a.who);
})

nodes_alike : (r : Repair) (w v : World) → Calm r w → IsAlike r w v → CalmNodes r v.nodes
nodes_alike r w v h a = record {
  own = h.own;
  listed = h.listed;
  who = λ name. (a.each name).who ∙ h.who name;
  leads = alike_node_leads_repair r (w.nodes r.by) (v.nodes r.by) (a.each r.by) h.leads;
  follows = λ name there other. follows_alike r w v name h a there other;
}

-- ---- an event that no node does

same_alike : (r : Repair) (w v : World) → Calm r w → v.nodes ≡ w.nodes → IsAlike r w v
same_alike r w v h same = subst (λ nodes. IsAlike r w (record v { nodes = nodes })) (sym same) (record {
  each = λ name. took_alike (w.nodes name) (w.nodes name) nothing;
  trusts = trusts_now r w h;
  kept = λ name. omega arith;
})
  where
    trusts_now : (r : Repair) (w : World) → Calm r w → TrustsReportsTaken r (λ name. (w.nodes name).core.taken) (w.nodes r.by)
    trusts_now r w h = record {
      base = λ name there other. (h.follows name there other).base;
      reported = λ name there other. subst (λ k. ((w.nodes r.by).reports k).taken ≤ (w.nodes name).core.taken) (h.who name) (h.follows name there other).reported;
    }

calm_recorded : (r : Repair) (w : World) (e : Event) (o : Outcome) → Calm r w → Calm r (world_with_record w e o) × RepairWorldGrows r w (world_with_record w e o)
unfolding world_with_record
calm_recorded r w e o h =
    let v = world_with_record w e o in
    let a = same_alike r w v h refl in
    let grow = grows_alike r w v a in (
      record {
        nodes = nodes_alike r w v h a;
        current_ = h.current_;
        runs = h.runs;
        apart = h.apart;
        letters = λ number l late there. packet_stays_calm_later r w v l.packet grow (h.letters number l late there);
      },
      grow,
    )

-- ---- a Take

fronts_took : (m x : Node) → Took m x → NodeTrimFronts m → NodeTrimFronts x
fronts_took m x nothing f = f
fronts_took m x (next e member some there) f =
    let base = f.base in let given = f.given in let reported = f.reported in
    let low : m.core.taken + 1 ≤ m.core.acc = grind (arith, nat_tests) in
    record {
      used = f.used;
      joins = f.joins;
      kept = f.kept;
      base = omega arith;
      given = low;
      accepted = f.accepted;
      reported = omega arith;
    }

trusts_took : (r : Repair) (taken : ℕ → ℕ) (m x : Node) → Took m x → TrustsReportsTaken r taken m → TrustsReportsTaken r taken x
trusts_took r taken m x nothing t = t
trusts_took r taken m x (next e member some there) t = record { base = t.base; reported = t.reported }

reports_took : (m x : Node) (name : ℕ) → Took m x → (m.reports name).stored ≤ (x.reports name).stored
reports_took m x name nothing = omega arith
reports_took m x name (next e member some there) = omega arith

trusts_end : (r : Repair) (taken : ℕ → ℕ) (x : Node) → x.core.who ≡ r.by → LeadsCalmly r x → NodeTrimFronts x → TrustsReportsTaken r taken x → TrustsReportsTaken r taken (refresh_at_end x)
unfolding refresh_at_end
trusts_end r taken x own l f t =
    let k = trusts_reports_after_refresh r taken x own l f t in
    subst (TrustsReportsTaken r taken) (sym (settle_changes_only_sends (refresh x))) (record { base = k.base; reported = k.reported })

-- the sequencer's own
leader_trusts : (rules : Rules) (r : Repair) (w : World) → WorldTrimsOnlyTaken rules w → Calm r w → r.by < 256
    → TrustsReportsTaken r (λ name. (w.nodes name).core.taken) (step (w.nodes r.by) does.Take).node
leader_trusts rules r w laws h few =
    let m = w.nodes r.by in
    let k = take_is m in
    let x = k.node in
    let a = took_alike m x k.took in
    let fronts = (each_node_trims_only_taken rules w r.by few laws).owned.fronts in
    subst (TrustsReportsTaken r (λ name. (w.nodes name).core.taken)) (sym (take_node m))
    (trusts_end r (λ name. (w.nodes name).core.taken) x (a.who ∙ h.who r.by) (alike_node_leads_repair r m x a h.leads) (fronts_took m x k.took fronts)
    (trusts_took r (λ name. (w.nodes name).core.taken) m x k.took (same_alike r w w h refl).trusts))

take_reports : (m : Node) (name : ℕ) → (m.reports name).stored ≤ ((step m does.Take).node.reports name).stored
take_reports m name =
    let k = take_is m in
    let a = reports_took m k.node name k.took in
    let b = stored_reports_after_end k.node name in
    let c = ap (λ (n : Node). (n.reports name).stored) (take_node m) in
    omega arith

-- one node is another, and all others are as they were
record OneChanged (w v : World) (name : ℕ) (n : Node) : Type 0 where
  here : v.nodes name ≡ n
  others : (other : ℕ) → (other == name) ≡ false → v.nodes other ≡ w.nodes other

one_changed : (w : World) (e : Event) (name : ℕ) (s : StepResult) → OneChanged w (world_with_step w e name s) name s.node
unfolding world_with_step
one_changed w e name s = record { here = (let t = eq-eqb name name refl in rw t refl); others = λ other f. rw f refl }

take_is_alike : (rules : Rules) (r : Repair) (w v : World) (name : ℕ) → WorldTrimsOnlyTaken rules w → Calm r w → name < 256
    → OneChanged w v name (step (w.nodes name) does.Take).node → IsAlike r w v
take_is_alike rules r w v name laws h few ch =
    let s = step (w.nodes name) does.Take in
    record {
      each = λ i. split_on_bool (i == name)
          (λ t. let same = eqb-true i name t in
          subst (λ j. NodesStandAlike (w.nodes j) (v.nodes j)) (sym same) (subst (NodesStandAlike (w.nodes name)) (sym ch.here) (take_alike (w.nodes name))))
          (λ f. subst (NodesStandAlike (w.nodes i)) (sym (ch.others i f)) (took_alike (w.nodes i) (w.nodes i) nothing));
      trusts = split_on_bool (r.by == name)
          (λ t. let same = eqb-true r.by name t in
          let here : v.nodes r.by ≡ (step (w.nodes r.by) does.Take).node = ap (λ i. v.nodes i) same ∙ ch.here ∙ ap (λ i. (step (w.nodes i) does.Take).node) (sym same) in
          subst (TrustsReportsTaken r (λ i. (w.nodes i).core.taken)) (sym here) (leader_trusts rules r w laws h (subst (λ i. i < 256) (sym same) few)))
          (λ f. subst (TrustsReportsTaken r (λ i. (w.nodes i).core.taken)) (sym (ch.others r.by f)) (same_alike r w w h refl).trusts);
      kept = λ i. split_on_bool (r.by == name)
          (λ t. let same = eqb-true r.by name t in
          let here : v.nodes r.by ≡ (step (w.nodes r.by) does.Take).node = ap (λ i. v.nodes i) same ∙ ch.here ∙ ap (λ i. (step (w.nodes i) does.Take).node) (sym same) in
          subst (λ (n : Node). ((w.nodes r.by).reports i).stored ≤ (n.reports i).stored) (sym here) (take_reports (w.nodes r.by) i))
          (λ f. subst (λ (n : Node). ((w.nodes r.by).reports i).stored ≤ (n.reports i).stored) (sym (ch.others r.by f)) (omega arith));
    }

calm_taken : (rules : Rules) (r : Repair) (w : World) (e : Event) (name : ℕ) → WorldTrimsOnlyTaken rules w → Calm r w → name < 256
    → (let v = world_with_step w e name (step (w.nodes name) does.Take) in Calm r v × RepairWorldGrows r w v)
unfolding world_with_step
calm_taken rules r w e name laws h few =
    let s = step (w.nodes name) does.Take in
    let v = world_with_step w e name s in
    let a = take_is_alike rules r w v name laws h few (one_changed w e name s) in
    let grow = grows_alike r w v a in (
      record {
        nodes = nodes_alike r w v h a;
        current_ = h.current_;
        runs = h.runs;
        apart = λ i none goes there. apart_alike r (w.nodes i) (v.nodes i) (a.each i)
            (h.apart i none goes (subst (λ x. has_departed x ≡ false) (a.each i).status there));
        letters = λ number l late there. either (letter_at_of_appended_letters w.letters s.letters number l there)
            (λ old. packet_stays_calm_later r w v l.packet grow (h.letters number l late old))
            (λ new. take_letters r v (w.nodes name) new.0 l new.1);
      },
      grow,
    )

by_if : (P : World → Type 0) (b : Bool) (u v : World) → P u → P v → P (if b then u else v)
by_if P true u v f g = f
by_if P false u v f g = g

pub take_goes : (rules : Rules) (r : Repair) (w : World) (place : ℕ) → WorldKeepsLawsAndCalm rules r w
    → (let v = happens w (event_at place Act.Take) in Calm r v × RepairWorldGrows r w v)
unfolding happens
take_goes rules r w place h =
    let e = event_at place Act.Take in
    let name = acting_name w e in
    by_if (λ v. Calm r v × RepairWorldGrows r w v) (is_stopped w name) _ _ (calm_recorded r w e said.IsStopped h.calm)
    (calm_taken rules r w e name h.laws h.calm (actor_is_below_256 rules w e h.laws.blanks.base.named))

-- ---- any of them

pub take_fine : (rules : Rules) (r : Repair) (w : World) (place : ℕ) → WorldKeepsLawsAndCalm rules r w → WorldKeepsLawsAndCalm rules r (happens w (event_at place Act.Take))
take_fine rules r w place h =
    let e = event_at place Act.Take in
    record { laws = events_trim_only_taken rules w e (happens w e) (events_have_effects w e) h.laws; calm = (take_goes rules r w place h).0 }

pub one_fine : (rules : Rules) (r : Repair) (w : World) (e : Event) → IsTaking r e → WorldKeepsLawsAndCalm rules r w → WorldKeepsLawsAndCalm rules r (happens w e)
one_fine rules r w e (ours e_ is) h = laws_and_calm_stay rules r w e is h
one_fine rules r w e (takes_one place) h = take_fine rules r w place h

all_fine : (rules : Rules) (r : Repair) (w : World) (more : List Event) → All (IsTaking r) more → WorldKeepsLawsAndCalm rules r w → WorldKeepsLawsAndCalm rules r (world_after_events w more)
unfolding world_after_events
all_fine rules r w [] all h = h
all_fine rules r w (e ∷ es) all h = all_fine rules r (happens w e) es (All-tail (IsTaking r) e es all) (one_fine rules r w e (All-head (IsTaking r) e es all) h)

pub taking_stays_calm : TakingStaysCalm
taking_stays_calm rules events more r may h all =
    subst (Calm r) (sym (runs_go_on (start rules) events more))
    (all_fine rules r (run rules events) more all (record { laws = run_trims_only_taken rules events may; calm = h })).calm
