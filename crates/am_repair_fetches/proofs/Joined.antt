-- Members of a sequencer's list that have come to their Join have taken what it trims, since none of them leaves; so the group may be repaired later.
use Rattle.am_repair.proofs.RepairWords.{◌≡◌, ℕ, true, false, List, has, members, current, run, split_on_bool, Rules, MayFound, Event}
use Rattle.am_group_defs.specs.Lawful.{lawful_front}
use Rattle.am_repair.proofs.Known.Beginning.{node_holds_view_and_accepted, name_out_is_no_member}
use Rattle.am_repair.proofs.Going.{member_status_has_not_departed}
use Rattle.am_fetch_runs.specs.Gathering.{MayGather}
use Rattle.am_trim_laws.proofs.Staying.{staying_members_may_gather}
use Rattle.am_repair_fetches.specs.Joined.{AllArePastJoin, MayRepairPastJoin, GroupsPastJoinAreRepaired, DecidedPastJoinAreAnswered}
use Rattle.am_repair_fetches.proofs.Later.{groups_are_repaired_later}
use Rattle.am_repair_fetches.proofs.Answered.{decided_views_are_answered}

past_join_gathers : (rules : Rules) (events : List Event) (q : ℕ) → MayFound rules → lawful_front rules events ≡ events → AllArePastJoin (run rules events) q
    → ((name : ℕ) → has (members ((run rules events).nodes q)) name ≡ true → ((run rules events).nodes name).leaving ≡ false) → MayGather (run rules events) q
past_join_gathers rules events q may lawful h stays = staying_members_may_gather rules events q may lawful (record {
  leads = h.leads;
  current_ = h.current_;
  each = λ name listed.
      (let k = h.each name listed in
      record { current_ = k.current_; member_ = k.member_; promised = k.promised; past = record { stays = stays name listed; come = k.come } });
})

-- who leaves is out of the list
listed_stays : (rules : Rules) (events : List Event) (place : ℕ) → MayRepairPastJoin (run rules events) place
    → (name : ℕ) → has (members ((run rules events).nodes (current (run rules events) place))) name ≡ true → ((run rules events).nodes name).leaving ≡ false
listed_stays rules events place h name listed = split_on_bool ((run rules events).nodes name).leaving
    (λ t. absurd (
    let w = run rules events in
    let here = member_status_has_not_departed (w.nodes name) (h.all.each name listed).member_ in
    let none = name_out_is_no_member w (w.nodes (current w place)) name (node_holds_view_and_accepted rules events (current w place)) (h.nobody_leaves name t) here in
    cc))
    (λ f. f)

pub groups_past_join_are_repaired : GroupsPastJoinAreRepaired
groups_past_join_are_repaired rules events place may low lawful h = groups_are_repaired_later rules events place may low lawful (record {
  gathers = past_join_gathers rules events (current (run rules events) place) may lawful h.all (listed_stays rules events place h);
  nobody_stopped = h.nobody_stopped;
  nobody_leaves = h.nobody_leaves;
})

pub decided_past_join_are_answered : DecidedPastJoinAreAnswered
decided_past_join_are_answered rules events place may low lawful h asks = decided_views_are_answered rules events place may low lawful
    (record { gathers = past_join_gathers rules events (current (run rules events) place) may lawful h.all h.stays; last = h.last; stays = h.stays }) asks
