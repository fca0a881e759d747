-- What a run that may be repaired comes to by a lossless schedule.
use Rattle.am_repair.proofs.Repairable.RepairedWords.{lawful_front, ◌≡◌, ℕ, ◌<◌, ◌≤◌, ◌==◌, List, ◌++◌, true, subst, sym, arith, nat_tests, Rules, MayFound, has, Event}
use Rattle.am_repair.proofs.Repairable.RepairedWords.{is_member, top, members, World, start, current, run, settle_events, MayRepair, HasCaughtUp, Repairs, split_on_bool}
use Rattle.am_repair.proofs.Repairable.RepairedWords.{runs_go_on, trimmed_was_taken_in_runs, steps_are_group_moves, lawful_is_until_last_stop, group_follows_until_last_stop, repairs_where_lists_agree, sequencers_trim_known, acting_member_promised_its_view}
use Rattle.am_repair.proofs.Repairable.RepairedWords.{one_list_agrees, RepairableTrims, RepairableCounts}
use Rattle.am_repair.specs.Standing.{Agree}
use Rattle.am_repair.proofs.Repairable.OneList.{current_name_is_below_256, member_name_is_below_256, listed_member_runs, sequencer_of_repair_runs}
use Rattle.am_repair.proofs.Repairable.OneList.{repairable_is_one_list}
use Rattle.am_repair.proofs.Repairable.Counted.{counted_names_are_members}
use Rattle.am_repair.proofs.Repairable.Trims.{GroupTrimsTaken, base_le_taken_of_others}
use Rattle.am_repair.proofs.Repairable.Kept.{sequencer_trims_taken_at_start, sequencer_trims_taken_by_runs}

pub repairable_runs_counting_members : RepairableCounts
repairable_runs_counting_members rules events place may low lawful repair =
    counted_names_are_members rules events place may low (lawful_is_until_last_stop rules events lawful) repair.leads (sequencer_of_repair_runs rules events place may low repair) repair.nobody_leaves

pub repairable_runs_trimming_taken : RepairableTrims
repairable_runs_trimming_taken rules events place may low lawful repair name member =
    let w = run rules events in
    let q = current w place in
    let few = current_name_is_below_256 rules events place may low in
    let act = repair.all_act name member in
    let is_one : is_member (w.nodes name).status ≡ true = (acting_member_promised_its_view (w.nodes name) act.0).0 in
    let small = member_name_is_below_256 rules events name may is_one in
    split_on_bool (name == q)
    (λ u. subst (λ k. (w.nodes q).core.base ≤ (w.nodes k).core.taken) (sym_name q name u) (trimmed_was_taken_in_runs rules events q may few))
    (λ f.
    let h = group_follows_until_last_stop GroupTrimsTaken rules (sequencer_trims_taken_by_runs rules) steps_are_group_moves may (λ t f_. sequencer_trims_taken_at_start rules t f_) events
    (lawful_is_until_last_stop rules events lawful) in
    base_le_taken_of_others w q name (h.is.settles q few repair.leads (sequencer_of_repair_runs rules events place may low repair)) small f act.0 act.1
    (listed_member_runs rules events place name may low repair member) (sequencers_trim_known rules events q may few repair.leads name small member))
  where
    sym_name : (q name : ℕ) → (name == q) ≡ true → q ≡ name
    sym_name q name u = grind (arith, nat_tests)

-- so its lists agree
pub repairable_lists_agree : (rules : Rules) (events : List Event) (place : ℕ) → MayFound rules → place < 16 → lawful_front rules events ≡ events
    → MayRepair (run rules events) place → Agree (run rules events) ((run rules events).nodes (current (run rules events) place))
repairable_lists_agree rules events place may low lawful repair =
    one_list_agrees rules events place may low repair (repairable_is_one_list rules events place may low lawful repair)
    (record { trims = repairable_runs_trimming_taken rules events place may low lawful repair; counted = repairable_runs_counting_members rules events place may low lawful repair })

pub lossless_schedules_do_repair : Repairs
lossless_schedules_do_repair rules events place may low lawful repair =
    repairs_where_lists_agree rules events place may low repair (repairable_lists_agree rules events place may low lawful repair)

-- and the run of all that was done, the events that settle it among them
pub settled_run_is_repaired : (rules : Rules) (events : List Event) (place : ℕ) → MayFound rules → place < 16 → lawful_front rules events ≡ events
    → MayRepair (run rules events) place → (name : ℕ) → has (members ((run rules events).nodes (current (run rules events) place))) name ≡ true
    → HasCaughtUp ((run rules (events ++ settle_events rules (run rules events))).nodes name)
    (top ((run rules events).nodes (current (run rules events) place)))
settled_run_is_repaired rules events place may low lawful repair name member =
    let m = (run rules events).nodes (current (run rules events) place) in
    subst (λ (w : World). HasCaughtUp (w.nodes name) (top m)) (sym (runs_go_on (start rules) events (settle_events rules (run rules events))))
    (lossless_schedules_do_repair rules events place may low lawful repair name member)
