-- Members that aren't leaving and have come to their Join have taken what a sequencer or a voter trims; so the laws of members without the View hold of them.
use Rattle.am_trim_laws.proofs.Taken.{end_of_lawful_run, members_have_taken_trims}
use Rattle.am_repair.proofs.Repairable.RepairedWords.{◌≡◌, ℕ, ◌<◌, ◌≤◌, true, false, List, Rules, MayFound, Event, is_member, is_stopped, run, lawful_front, member_has_not_departed, ap, ◌∙◌, not, is_unfinished_ballot, refresh_at_end}
use Rattle.am_step_laws.proofs.ViewChanges.{sequencer_is_member}
use Rattle.am_trim_laws.specs.Staying.{StaysPastJoin, StayingMembersLag, StayingMembersMayGather, CoordinatorsPastJoinFetch}

-- what a Member that runs trims
taken_by : (rules : Rules) (events : List Event) (q name : ℕ) → MayFound rules → lawful_front rules events ≡ events → q < 256 → name < 256
    → is_member ((run rules events).nodes q).status ≡ true → is_stopped (run rules events) q ≡ false → is_member ((run rules events).nodes name).status ≡ true
    → is_stopped (run rules events) name ≡ false → StaysPastJoin ((run rules events).nodes name)
    → (refresh_at_end ((run rules events).nodes q)).core.base ≤ ((run rules events).nodes name).core.taken
taken_by rules events q name may lawful few small trims trims_runs member runs past =
    members_have_taken_trims rules events q name may lawful few (member_has_not_departed ((run rules events).nodes q).status trims) trims_runs
    (record { small = small; member_ = member; runs = runs; stays = past.stays }) past.come

pub staying_members_lag : StayingMembersLag
staying_members_lag rules events q name may lawful h =
    let a = h.among in
    record {
      among = a;
      promised = h.promised;
      behind = h.behind;
      trimmed = taken_by rules events q name may lawful a.small_leader a.small (sequencer_is_member ((run rules events).nodes q) a.leads) a.leader_runs a.member_ a.runs h.past;
    }

pub staying_members_may_gather : StayingMembersMayGather
staying_members_may_gather rules events q may lawful h = record {
  leads = h.leads;
  current_ = h.current_;
  each = λ name listed.
      (let k = h.each name listed in
      record {
        current_ = k.current_;
        member_ = k.member_;
        promised = k.promised;
        trimmed = taken_by rules events q name may lawful h.current_.small k.current_.small (sequencer_is_member ((run rules events).nodes q) h.leads) h.current_.runs
            k.member_ k.current_.runs k.past;
      });
}

pub coordinators_past_join_fetch : CoordinatorsPastJoinFetch
coordinators_past_join_fetch rules events voter name b may lawful h =
    let end = end_of_lawful_run rules events may lawful in
    let m = (run rules events).nodes name in
    let kept = end.follows.nodes name h.at_name.small (member_has_not_departed m.status h.member_) in
    let opened : is_unfinished_ballot m.ballot ≡ true = ap is_unfinished_ballot h.last ∙ ap not h.open_ in
    record {
      at_voter = h.at_voter;
      at_name = h.at_name;
      other = h.other;
      votes_ = h.votes_;
      member_ = h.member_;
      last = h.last;
      open_ = h.open_;
      answer = h.answer;
      best = h.best;
      needed = h.needed;
      nobody = h.nobody;
      promised = h.promised;
      trimmed = taken_by rules events voter name may lawful h.at_voter.small h.at_name.small h.votes_ h.at_voter.runs h.member_ h.at_name.runs
          (record { stays = (kept.opens opened).1; come = h.come });
    }
