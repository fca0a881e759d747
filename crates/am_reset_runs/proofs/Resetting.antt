-- A reset ends with a view whose members have all that they sent answered, or its View has no room.
use Rattle.am_reset_runs.proofs.Words.{◌≡◌, inl, inr, ℕ, ◌+◌, ◌<◌, ◌≤◌, ◌==◌, true, false, List, ◌++◌, sym, ap, ◌∙◌, subst, arith, All, All-append, split_on_bool, Rules, MayFound, place_of_name, Event, Node, Ballot, is_member}
use Rattle.am_reset_runs.proofs.Words.{World, current, is_stopped, run, start, world_after_events, runs_go_on, best_vote_for_ballot, decide, end_refresh_rests_with_list, Vote, size, top, MayVoteFor, MayReset, IsOfReset, HasNoRoom, ResetEnds, ResetsAreAnswered}
use Rattle.am_lawful_runs.proofs.Spared.{LawfulUntilLastStop, lawful_is_until_last_stop, goes_on_without_stops}
use Rattle.am_repair.proofs.Repairable.RepairedWords.{names_hold_in_runs, member_has_not_departed}
use Rattle.am_fetch_runs.specs.Ballots.{FetchesFromVoter}
use Rattle.am_fetch_runs.proofs.Gathering.{exchanges_are_of_such}
use Rattle.am_fetch_runs.proofs.Coordinating.{coordinators_may_follow_until_last_stop}
use Rattle.am_base.specs.Lists.{member_life_of_row}
use Rattle.am_lawful_runs.proofs.Words.{length-map, told_image_is_used, run_trims_only_taken, image_at_top_is_told}
use Rattle.am_reset_runs.proofs.Words.{Image, members_of_image, image_of_node}
use Rattle.am_safety.proofs.Fitted.{views_fit_until_last_stop}
use Rattle.am_step_laws.proofs.ViewChanges.{sequencer_is_member}
use Rattle.am_repair.proofs.Known.OneLists.{listed_is}
use Rattle.am_repair.proofs.Repairable.OneList.{running_sequencer_has_one_list}
use Rattle.am_reset_runs.specs.Resetting.{HasAllRunning, TicksOfReset}
use Rattle.am_fetch_runs.proofs.Ticks.{TicksAtMost, ticks_in_turn, exchanges_tick_at}
use Rattle.std.specs.Prelude.{◌/◌}
use Rattle.am_ballot_laws.specs.Following.{MayFollowVoter}
use Rattle.am_ballot_laws.proofs.Ending.{learned_look}
use Rattle.am_trim_laws.specs.Trims.{HasComeToJoin}
use Rattle.am_trim_laws.proofs.Taken.{members_have_taken_trims_until_last_stop}
use Rattle.am_repair_takes.specs.Resting.{NobodyAsks}
use Rattle.am_repair_fetches.specs.Rest.{IsDecidedAnew}
use Rattle.am_repair_fetches.proofs.Answered.{decided_views_are_answered_until_last_stop}
use Rattle.am_reset_runs.proofs.Parts.{VotersAreSound, HasVoted, HasLearnedAll, TrimsTaken, HasRoomForMembers}
use Rattle.am_reset_runs.proofs.Sound.{voters_are_sound}
use Rattle.am_reset_runs.proofs.Votes.{VotesEnd, votes_end_after_reset, spread_events}
use Rattle.am_reset_runs.proofs.Heard as heard
use Rattle.am_reset_runs.proofs.Fetched as fetched
use Rattle.am_reset_runs.proofs.Come.{come_stays}
use Rattle.am_reset_runs.proofs.Deciding.{decided_or_no_room}
use Rattle.am_reset_runs.proofs.Quieter.{reset_stops_nobody, stopped_stays_in_reset, nobody_asks_after_reset, nobody_leaves_after_reset}

-- a look of a Member that has learned all leaves it a Member
looked_member : {v : World} {c : ℕ} {m : Node} {b : Ballot} → HasLearnedAll v c m b → is_member (v.nodes c).status ≡ true
looked_member {m = m} {b = b} h = ap (λ (n : Node). is_member n.status) h.looked ∙ ap is_member (end_refresh_rests_with_list (decide m b).node).rests.status
    ∙ ap is_member (learned_look m b h.learned).1 ∙ h.listed

module _ (rules : Rules) (events : List Event) (place : ℕ) (may : MayFound rules) (low : place < 16) (lawful : LawfulUntilLastStop rules events)
    (reset : MayReset (run rules events) (current (run rules events) place)) (asks : NobodyAsks (run rules events)) where
  abbrev w : World
  w = run rules events

  abbrev c : ℕ
  c = current w place

  same_place : place_of_name c ≡ place
  same_place = omega arith

  sound : VotersAreSound w c
  sound = voters_are_sound rules events c may lawful reset

  -- ---- a run that goes on by events of the reset

  module _ (more : List Event) (such : All (IsOfReset place) more) where
    abbrev v : World
    v = world_after_events w more

    goes_on : run rules (events ++ more) ≡ v
    goes_on = runs_go_on (start rules) events more

    spared : LawfulUntilLastStop rules (events ++ more)
    spared = goes_on_without_stops rules events more lawful (reset_stops_nobody place more such)

    whose : (name : ℕ) → (v.nodes name).core.who ≡ name
    whose name = subst (λ (x : World). (x.nodes name).core.who ≡ name) goes_on ((names_hold_in_runs rules (events ++ more) may).who name)

    stays : (v.nodes c).leaving ≡ false
    stays = nobody_leaves_after_reset place more w c such reset.itself.stays

    come : (name : ℕ) → MayVoteFor w c name → HasComeToJoin (v.nodes name)
    come name x = come_stays more w name x.member_ x.come

    trims : (q : ℕ) → q < 256 → is_member (v.nodes q).status ≡ true → is_stopped v q ≡ false → TrimsTaken v q
    trims q few member runs = subst (λ (x : World). is_member (x.nodes q).status ≡ true → is_stopped x q ≡ false → TrimsTaken x q) goes_on
        (λ member_ runs_ name current_ listed remains come_.
        members_have_taken_trims_until_last_stop rules (events ++ more) q name may spared few (member_has_not_departed ((run rules (events ++ more)).nodes q).status member_) runs_
        (record { small = current_.small; member_ = listed; runs = current_.runs; stays = remains }) come_) member runs

    founding : (v.nodes c).core.rules ≡ rules
    founding = subst (λ (x : World). (x.nodes c).core.rules ≡ rules) goes_on ((run_trims_only_taken rules (events ++ more) may).kept c).founding

    -- its list has room for its members
    room : HasRoomForMembers (v.nodes c)
    room = subst (λ (x : World). HasRoomForMembers (x.nodes c)) goes_on
        (let x = run rules (events ++ more) in
        let n = x.nodes c in
        let laws = run_trims_only_taken rules (events ++ more) may in
        let same = (laws.kept c).founding in
        let fits = (views_fit_until_last_stop rules (events ++ more) c may spared).each (top n) in
        let used = told_image_is_used n (laws.each c reset.itself.current_.small).fronts in
        let window = ap (λ (r : Rules). r.window) same in
        let least = may.window_least in
        let last = ap (λ (i : Image). size (members_of_image i)) (image_at_top_is_told n.core.log) in
        record {
          window = omega arith;
          sixteen = length-map (image_of_node n).rows member_life_of_row ∙ used.places;
          room = λ above. (let f = fits above (omega arith) in omega arith);
        })

    -- the view has all that run
    all_running : IsDecidedAnew (run rules (events ++ more)) place → HasAllRunning (run rules (events ++ more)) place
    all_running decided name member goes remains =
        let x = run rules (events ++ more) in
        let q = current x place in
        let one = running_sequencer_has_one_list rules (events ++ more) place may low spared decided.gathers.leads decided.gathers.current_.runs in
        let own = one.each q (sequencer_is_member (x.nodes q) decided.gathers.leads) decided.gathers.current_.runs in
        listed_is x (x.nodes q) name own (one.listed name member goes remains)

    -- a ballot that has learned all ends so
    ends : (m : Node) (b : Ballot) → HasLearnedAll v c m b → is_member (v.nodes c).status ≡ true → ResetEnds rules (events ++ more) place
    ends m b h member =
        let lives = (stopped_stays_in_reset place more w such).lives in
        let same : current v place ≡ c = ap (λ (f : ℕ → ℕ). current (record w { lives = f }) place) lives in
        elim (decided_or_no_room v place c m b same h (trims c h.current_.small member h.current_.runs) room) [
          | inl none ↦ inl (subst (λ (x : World). HasNoRoom (x.nodes (current x place))) (sym goes_on) (subst (λ i. HasNoRoom (v.nodes i)) (sym same) none))
          | inr decided ↦
              (let there : IsDecidedAnew (run rules (events ++ more)) place = subst (λ (x : World). IsDecidedAnew x place) (sym goes_on) decided in
              let quiet : NobodyAsks (run rules (events ++ more)) = subst NobodyAsks (sym goes_on) (nobody_asks_after_reset place more w such asks) in
              inr (record {
                decided = there;
                all = all_running there;
                answers = decided_views_are_answered_until_last_stop rules (events ++ more) place may low spared there quiet;
              }))
        ]

  -- ---- after the votes

  module _ (z : VotesEnd w c sound reset w) (such : All (IsOfReset place) z.more) (few : z.many ≤ 16) where
    abbrev u : World
    u = world_after_events w z.more

    abbrev Answers : Type 0
    Answers = (more : List Event) × All (IsOfReset place) more × TicksOfReset rules place more × ResetEnds rules (events ++ more) place

    -- it ticks once for each vote, and once for eight entries
    ticks_so_often : (more : List Event) (many : ℕ) → many ≤ 16 + (rules.window + 22) / 8 → TicksAtMost (place_of_name c) more many → TicksOfReset rules place more
    ticks_so_often more many most h = subst (λ p. TicksOfReset rules p more) same_place (record { few = (let x = h.few in omega arith); others = h.others })

    learned : ((best_vote_for_ballot z.node z.ballot).by == z.node.core.who) ≡ true → Answers
    learned own =
        let h = heard.learned_all w u c sound reset z.node z.ballot z.come z.nobody (stays z.more such) (come z.more such) own in
        (z.more, such, ticks_so_often z.more z.many (omega arith) z.ticks, ends z.more such z.node z.ballot h (looked_member h))

    module _ (other : ((best_vote_for_ballot z.node z.ballot).by == z.node.core.who) ≡ false) where
      abbrev voter : ℕ
      voter = (best_vote_for_ballot z.node z.ballot).by

      abbrev b1 : Ballot
      b1 = heard.b1 w u c sound reset z.node z.ballot z.come z.nobody (stays z.more such) (come z.more such) other

      voted : HasVoted w u c voter (best_vote_for_ballot z.node z.ballot).vote
      voted = heard.has_voted w u c sound reset z.node z.ballot z.come z.nobody (stays z.more such) (come z.more such) other

      fetches : FetchesFromVoter u voter c b1
      fetches =
          let at = heard.current_of_voter w u c sound reset z.node z.ballot z.come z.nobody (stays z.more such) (come z.more such) voter voted.may in
          heard.fetches_from_voter w u c sound reset z.node z.ballot z.come z.nobody (stays z.more such) (come z.more such) other
          (trims z.more such voter at.small (ap is_member voted.status ∙ voted.may.member_) at.runs)

      follow : MayFollowVoter (u.nodes voter) (u.nodes c) (best_vote_for_ballot (u.nodes c) b1).vote b1
      follow = subst (λ (x : World). FetchesFromVoter x voter c b1 → MayFollowVoter (x.nodes voter) (x.nodes c) (best_vote_for_ballot (x.nodes c) b1).vote b1) (goes_on z.more such)
          (coordinators_may_follow_until_last_stop rules (events ++ z.more) voter c b1 may (spared z.more such)) fetches

      abbrev best : Vote
      best = (best_vote_for_ballot (u.nodes c) b1).vote

      abbrev further : List Event
      further = fetched.more w u c sound reset z.node z.ballot z.come z.nobody (stays z.more such) other (whose z.more such) (come z.more such) best follow

      all_such : All (IsOfReset place) (z.more ++ further)
      all_such = All-append (IsOfReset place) z.more further such (spread_events place further (exchanges_are_of_such _ u voter c))

      fetched_all : Answers
      fetched_all =
          let whole : world_after_events w (z.more ++ further) ≡ world_after_events u further = runs_go_on w z.more further in
          let leaves : ((world_after_events u further).nodes c).leaving ≡ false = subst (λ (x : World). (x.nodes c).leaving ≡ false) whole (stays (z.more ++ further) all_such) in
          let h = fetched.learned_by_fetching w u c sound reset z.node z.ballot z.come z.nobody (stays z.more such) other (whose z.more such) (come z.more such) best follow
          (come_stays further u) leaves in
          let m = fetched.whole w u c sound reset z.node z.ballot z.come z.nobody (stays z.more such) other (whose z.more such) (come z.more such) best follow in
          let b = fetched.b2 w u c sound reset z.node z.ballot z.come z.nobody (stays z.more such) other (whose z.more such) (come z.more such) best follow in
          let there : HasLearnedAll (world_after_events w (z.more ++ further)) c m b = subst (λ (x : World). HasLearnedAll x c m b) (sym whole) h in
          let n = (fetched.reach w u c sound reset z.node z.ballot z.come z.nobody (stays z.more such) other (whose z.more such) (come z.more such) best follow).0 in
          let fetches_few = fetched.few_exchanges w u c sound reset z.node z.ballot z.come z.nobody (stays z.more such) other (whose z.more such) (come z.more such) best follow in
          let window = ap (λ (r : Rules). r.window) (founding z.more such) in
          let both = ticks_in_turn (place_of_name c) z.more further z.many n z.ticks (exchanges_tick_at n u voter c) in
          (z.more ++ further, all_such, ticks_so_often (z.more ++ further) (z.many + n) (omega arith) both, ends (z.more ++ further) all_such m b there (looked_member there))

    answers : Answers
    answers = split_on_bool ((best_vote_for_ballot z.node z.ballot).by == z.node.core.who) learned fetched_all

-- also in a run that is lawful until the last stop
pub resets_are_answered_until_last_stop : (rules : Rules) (events : List Event) (place resilience : ℕ) → MayFound rules → place < 16 → LawfulUntilLastStop rules events
    → MayReset (run rules events) (current (run rules events) place) → NobodyAsks (run rules events)
    → (more : List Event) × All (IsOfReset place) more × TicksOfReset rules place more × ResetEnds rules (events ++ more) place
resets_are_answered_until_last_stop rules events place resilience may low lawful reset asks =
    let w = run rules events in
    let c = current w place in
    let s = sound rules events place may low lawful reset asks in
    let z = votes_end_after_reset w c s reset resilience in
    answers rules events place may low lawful reset asks z.0
    (subst (λ k. All (IsOfReset k) z.0.more) (same_place rules events place may low lawful reset asks) z.0.such) z.1

pub resets_are_answered : ResetsAreAnswered
resets_are_answered rules events place resilience may low lawful =
    resets_are_answered_until_last_stop rules events place resilience may low (lawful_is_until_last_stop rules events lawful)
