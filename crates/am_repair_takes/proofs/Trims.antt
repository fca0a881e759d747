-- A sequencer's tick trims its list to the least that it knows each member to have taken.
use Rattle.am_repair.proofs.RepairWords.{◌≡◌, ℕ, zero, suc, ◌+◌, ◌-◌, ◌<◌, ◌≤◌, ◌==◌, true, false, List, [], ◌∷◌, length, Option, Some, None, refl, sym, ap, ◌∙◌, subst, arith}
use Rattle.am_repair.proofs.RepairWords.{split_on_bool, eqb-true, nat_tests, All, All-head, All-tail, Rules, has, place_of_name, life_of_name, names_from, slice_index, Log, log_members_at}
use Rattle.am_repair.proofs.RepairWords.{Node, top, view, acts_in_its_view, is_sequencer, waiting_send_of, Plan, finish, step, row, tick_row, emit_waiting_send, with_result_told_again, tick_outcome_of_waiting_send, both_of_and, refresh, refresh_at_end}
use Rattle.am_repair.proofs.RepairWords.{refresh_as_sequencer, raise_own_report, tell_accept_front, advance_with_reports, trim_to_least_taken, raise_accepted_to_told, pass_over_below_join, settle_changes_only_sends, IsAtRest, Repair, Act, event_at}
use Rattle.am_repair.proofs.RepairWords.{World, run, happens, our_ticks}
use Rattle.std.specs.Prelude.{max, min}
use Rattle.am_base.specs.Names.{name_of_place_and_life, union_of_names}
use Rattle.am_base.specs.declared.event.NodeEvent.TheVariants as does
use Rattle.am_base.proofs.Places.{sixteen_items_are_by_place}
use Rattle.am_node_defs.specs.Cores.{union_of_members_at, members_since_accepted}
use Rattle.am_node_defs.specs.Refresh.{CoreWithReports, base_after_trim}
use Rattle.am_node_defs.specs.Reports.{lesser_of_options, least_of_names, least_taken_of_names}
use Rattle.am_model.specs.Refresh.{core_with_reports_of}
use Rattle.am_repair.proofs.Ticks.{emitted_plan_leads, tick_row_of_acting_node, tick_acting_of_sequencer, going_of_node_that_stays}
use Rattle.am_repair.proofs.Ticking.{node_after_step_of_event}
use Rattle.am_repair.proofs.Fine.{world_grows_by_own_event, member_of_repair_is_small, member_of_repair_runs_now, tick_of_running_name_steps}
use Rattle.am_repair_takes.specs.Taking.{ours}
use Rattle.am_repair_takes.specs.Quiet.{GoesOnBySends, TicksTrim}
use Rattle.am_repair_takes.proofs.Sums.{names_all}
use Rattle.am_repair_takes.proofs.Quiet.{QuietRun, fine_of, laws_of, quiet_goes, kept_goes}

-- ---- the end of a sequencer's step

-- it knows what it has taken itself, and has trimmed to the least that it knows of all who may need its list
pub record HasTrimmed (n : Node) : Type 0 where
  pub own : n.core.taken ≤ (n.reports n.core.who).taken
  pub base : (to : ℕ) → least_taken_of_names n.reports (members_since_accepted n.core) ≡ Some to → to ≤ n.core.base

reaches_base : (o : Option ℕ) (base to : ℕ) → o ≡ Some to → to ≤ base_after_trim o base
reaches_base None base to is = absurd (cc)
reaches_base (Some x) base to is = let same : x ≡ to = cc in omega arith

own_has : (s : CoreWithReports) → s.core.taken ≤ ((raise_own_report s).reports s.core.who).taken
unfolding raise_own_report
own_has s = let t : (s.core.who == s.core.who) ≡ true = grind (arith, nat_tests) in rw t (omega arith)

trimmed_lead : (m : Node) → HasTrimmed (refresh_as_sequencer m)
unfolding refresh_as_sequencer raise_own_report tell_accept_front advance_with_reports trim_to_least_taken raise_accepted_to_told pass_over_below_join
trimmed_lead m = record {
  own = own_has (advance_with_reports (tell_accept_front (raise_own_report (core_with_reports_of m))));
  base = λ to is. reaches_base _ m.core.base to is;
}

trimmed_refresh : (m : Node) → is_sequencer m ≡ true → HasTrimmed (refresh m)
unfolding refresh
trimmed_refresh m t = rw t (trimmed_lead m)

trimmed_end : (m : Node) → is_sequencer m ≡ true → HasTrimmed (refresh_at_end m)
unfolding refresh_at_end
trimmed_end m t =
    let h = trimmed_refresh m t in
    subst HasTrimmed (sym (settle_changes_only_sends (refresh m))) (record { own = h.own; base = h.base })

trimmed_done : (m : Node) (p : Plan) → p.departs ≡ false → is_sequencer p.node ≡ true → HasTrimmed (finish m p).node
unfolding finish
trimmed_done m p stays leads = rw stays (trimmed_end p.node leads)

trimmed_tick : (m : Node) → is_sequencer m ≡ true → IsAtRest m → HasTrimmed (step m does.Tick).node
unfolding step row
trimmed_tick m leads rest =
    let both = both_of_and (acts_in_its_view m) ((view m).by == m.core.who) leads in
    let o = tick_outcome_of_waiting_send m (waiting_send_of m) in
    let p = with_result_told_again (record (emit_waiting_send m (waiting_send_of m) o) { polls = true }) in
    let e = emitted_plan_leads m (waiting_send_of m) o leads in
    let is : tick_row m ≡ p = tick_row_of_acting_node m both.0 rest ∙ tick_acting_of_sequencer m both.0 both.1 ∙ going_of_node_that_stays m p rest.stays in
    subst (λ (q : Plan). HasTrimmed (finish m q).node) (sym is) (trimmed_done m p e.stays e.leads)

-- ---- who may need the list

-- a set with itself is that set
union_same : (set : List ℕ) → length set ≡ 16 → union_of_names set set ≡ set
union_same set long = sym (sixteen_items_are_by_place (λ place. max (slice_index set place) (slice_index set place)) set 0 long (λ place low. omega arith))

-- where the members are the same at each number, they are that set
unions_same : (log : Log) (set : List ℕ) (from more : ℕ) → length set ≡ 16 → ((k : ℕ) → from ≤ k → k ≤ from + more → log_members_at log k ≡ set)
    → union_of_members_at log from more ≡ set
unfolding union_of_members_at
unions_same log set from zero long each = each from (omega arith) (omega arith)
unions_same log set from (suc more) long each =
    let before = unions_same log set from more long (λ k low high. each k low (omega arith)) in
    let last = each (from + suc more) (omega arith) (omega arith) in
    ap (λ a. union_of_names a (log_members_at log (from + suc more))) before ∙ ap (union_of_names set) last ∙ union_same set long

-- ---- the least

some_name : (from place : ℕ) (set : List ℕ) → 0 < slice_index set place → (x : ℕ) × (xs : List ℕ) × (names_from from set ≡ x ∷ xs)
some_name from place [] some = absurd (omega arith)
some_name from zero (zero ∷ set) some = absurd (omega arith)
some_name from (suc place) (zero ∷ set) some = some_name (from + 1) place set some
some_name from place (suc b ∷ set) some = (name_of_place_and_life from (suc b), names_from (from + 1) set, refl)

least_reaches : (f : ℕ → ℕ) (number x : ℕ) (xs : List ℕ) → All (λ y. number ≤ f y) (x ∷ xs) → (to : ℕ) × (least_of_names f (x ∷ xs) ≡ Some to) × (number ≤ to)
unfolding least_of_names
least_reaches f number x [] h = (f x, refl, All-head (λ y. number ≤ f y) x [] h)
least_reaches f number x (y ∷ ys) h =
    let first = All-head (λ z. number ≤ f z) x (y ∷ ys) h in
    let rest = least_reaches f number y ys (All-tail (λ z. number ≤ f z) x (y ∷ ys) h) in
    let low = rest.2 in
    (min (f x) rest.0, ap (lesser_of_options (Some (f x))) rest.1, omega arith)

-- what all members are known to have taken is trimmed
trims : (r : Repair) (n : Node) (number : ℕ) → HasTrimmed n → length r.members ≡ 16 → has r.members r.by ≡ true → GoesOnBySends r.members r.high n.core.log
    → r.high ≤ n.core.acc → n.core.acc ≤ top n → ((name : ℕ) → has r.members name ≡ true → number ≤ (n.reports name).taken) → number ≤ n.core.base
trims r n number h long listed goes far within each =
    let set = r.members in
    let all : members_since_accepted n.core ≡ set = unions_same n.core.log set n.core.acc (top n - n.core.acc) long (λ k low high. goes.members_ k (omega arith) (omega arith)) in
    let there : slice_index set (place_of_name r.by) ≡ life_of_name r.by = grind (arith, nat_tests) in
    let some = some_name 0 (place_of_name r.by) set (omega arith) in
    let f = λ (name : ℕ). (n.reports name).taken in
    let taken = subst (All (λ name. number ≤ f name)) some.2 (names_all (λ name. number ≤ f name) set long each) in
    let least = least_reaches f number some.0 some.1 taken in
    let is : least_taken_of_names n.reports (members_since_accepted n.core) ≡ Some least.0 = ap (least_taken_of_names n.reports) all ∙ ap (least_of_names f) some.2 ∙ least.1 in
    let low = h.base least.0 is in
    let reached = least.2 in
    omega arith

-- ---- the tick

pub tick_trims : (rules : Rules) (r : Repair) (last : ℕ → ℕ) (total number : ℕ) (w : World) → QuietRun rules r last total w → r.high ≤ (w.nodes r.by).core.acc
    → ((name : ℕ) → has r.members name ≡ true → (name == r.by) ≡ false → number ≤ ((w.nodes r.by).reports name).taken) → number ≤ (w.nodes r.by).core.taken
    → number ≤ (step (w.nodes r.by) does.Tick).node.core.base
tick_trims rules r last total number w h far known own =
    let e = event_at (place_of_name r.by) Act.Tick in
    let v = happens w e in
    let q = w.nodes r.by in
    let n = (step q does.Tick).node in
    let fine = fine_of rules r last total w h in
    let after_ = quiet_goes rules r last total w e (ours e (our_ticks (place_of_name r.by))) h in
    let kept = kept_goes rules r last total w e (ours e (our_ticks (place_of_name r.by))) h in
    let grow = world_grows_by_own_event rules r w e (our_ticks (place_of_name r.by)) fine in
    let acc = grow.acc r.by h.calm.listed in
    let took = grow.taken r.by h.calm.listed in
    let is = tick_of_running_name_steps w r.by (member_of_repair_runs_now rules r w r.by fine h.calm.listed) in
    let node = node_after_step_of_event w e r.by (step q does.Tick) is in
    let m = v.nodes r.by in
    let trimmed = subst HasTrimmed (sym node) (trimmed_tick q h.calm.leads.leads h.calm.leads.rest) in
    let laws = laws_of rules r last total v after_ in
    let within = (laws.each r.by (member_of_repair_is_small rules r v r.by (fine_of rules r last total v after_) after_.calm.listed)).fronts.accepted in
    let mine : number ≤ (m.reports r.by).taken = (let a = subst (λ i. m.core.taken ≤ (m.reports i).taken) (after_.calm.who r.by) trimmed.own in omega arith) in
    let each : (name : ℕ) → has r.members name ≡ true → number ≤ (m.reports name).taken = λ name there. split_on_bool (name == r.by)
    (λ t. let same : name ≡ r.by = eqb-true name r.by t in subst (λ i. number ≤ (m.reports i).taken) (sym same) mine)
    (λ f. let a = known name there f in let b = kept.taken name in omega arith) in
    let low = trims r m number trimmed after_.places after_.calm.listed after_.list (omega arith) within each in
    let same = ap (λ (x : Node). x.core.base) node in
    omega arith

pub ticks_trim : TicksTrim
ticks_trim rules events r last total number may h far known own =
    tick_trims rules r last total number (run rules events) (record { may = may; events = events; run_ = refl; world_is_quiet = h }) far known own
