-- What is claimed of calm worlds of runs.
use Rattle.am_repair.proofs.RepairWords.{List, [], ◌∷◌, sym, ap, subst, arith, All, All-head, All-tail, Rules, Event, top, Settling, World, start, happens, world_after_events}
use Rattle.am_repair.proofs.RepairWords.{run, runs_go_on, run_trims_only_taken, Repair, Calm, IsOurs, CalmStays, RoundsStore}
use Rattle.am_repair.proofs.Fine.{WorldKeepsLawsAndCalm, laws_and_calm_stay}
use Rattle.am_repair.proofs.Rounds.{round_world_is_after_waves, round_stores_eight_more}

fine_along : (rules : Rules) (r : Repair) (w : World) (es : List Event) → All (IsOurs r) es → WorldKeepsLawsAndCalm rules r w → WorldKeepsLawsAndCalm rules r (world_after_events w es)
unfolding world_after_events
fine_along rules r w [] all h = h
fine_along rules r w (e ∷ es) all h = fine_along rules r (happens w e) es (All-tail (IsOurs r) e es all)
    (laws_and_calm_stay rules r w e (All-head (IsOurs r) e es all) h)

pub calm_stays : CalmStays
calm_stays rules events more r may calm all =
    subst (Calm r) (sym (runs_go_on (start rules) events more)) (fine_along rules r (run rules events) more all
    (record { laws = run_trims_only_taken rules events may; calm = calm })).calm

pub rounds_store : RoundsStore
rounds_store rules events r i stored may calm low there other have =
    let w = run rules events in
    let s : Settling = record { world = w; events = [] } in
    let more = (round_stores_eight_more rules r i stored w low there other (assumption (run_trims_only_taken rules events may))).stored_ in
    let same = ap (λ (u : World). top (u.nodes i)) (round_world_is_after_waves s) in
    omega arith
