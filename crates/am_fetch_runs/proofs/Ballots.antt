-- The events of exchanges with a voter end a coordinator's ballot.
use Rattle.am_fetch_runs.proofs.Words.{◌≡◌, ◌==◌, ◌++◌, false, sym, ap, ◌∙◌, subst, top, Node, World, run, names_hold_in_runs}
use Rattle.am_group_defs.specs.World.{start}
use Rattle.am_group_defs.proofs.Runs.{runs_go_on}
use Rattle.am_fetch_laws.specs.Exchanges.{TwoNodes, exchanges}
use Rattle.am_ballot_laws.specs.Following.{LooksAtWhole, fetching_ballot}
use Rattle.am_ballot_laws.proofs.Exchanged.{exchanges_reach_whole}
use Rattle.am_fetch_runs.specs.Events.{events_of_exchanges}
use Rattle.am_fetch_runs.specs.Ballots.{BallotsEndInRuns}
use Rattle.am_fetch_runs.proofs.Events.{BothAreThere, two_of, exchanges_happen}

pub ballots_end_in_runs : BallotsEndInRuns
ballots_end_in_runs rules events voter name many best b may at_voter at_name follow far =
    let w = run rules events in
    let who = (names_hold_in_runs rules events may).who in
    let p = w.nodes voter in
    let reach = exchanges_reach_whole (two_of w voter name) many best b follow far in
    let differ : (voter == name) ≡ false = sym (λ i. who voter i == who name i) ∙ follow.list.fetches.other in
    let h : BothAreThere w voter name = record {
      leader = record { now = at_voter.now; runs = at_voter.runs; who = who voter };
      lagger = record { now = at_name.now; runs = at_name.runs; who = who name };
      differ = differ;
    } in
    let is : (run rules (events ++ events_of_exchanges reach.0 w voter name)).nodes name ≡ (exchanges reach.0 (two_of w voter name)).member_ =
    ap (λ (u : World). u.nodes name) (runs_go_on (start rules) events (events_of_exchanges reach.0 w voter name)) ∙ ap (λ (t : TwoNodes). t.member_) (exchanges_happen reach.0 w voter name h).two in (
      reach.0,
      reach.1,
      subst (λ (n : Node). LooksAtWhole p.core.log (fetching_ballot b voter (top p)) n) (sym is)
          (subst (λ k. LooksAtWhole p.core.log (fetching_ballot b k (top p)) (exchanges reach.0 (two_of w voter name)).member_) (who voter) reach.2),
    )
