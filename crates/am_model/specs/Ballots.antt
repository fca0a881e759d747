-- Ballots: a coordinator asks for votes, fetches what the best vote has, and decides a view.
use Rattle.std.specs.Prelude.{ℕ, ◌+◌, ◌-◌, max, min, List, [], Option, Some, None, Bool, true, false, not, ◌&&◌, ◌||◌, ◌==◌, nat_lt, if◌then◌else◌, unwrap_or}
use Rattle.std.specs.Prelude.{option_map, is_some}
use Rattle.am_base.specs.declared.entry.GroupView.{GroupView}
use Rattle.am_base.specs.declared.image.Vote.{Vote}
use Rattle.am_base.specs.declared.name.Stamp.{Stamp}
use Rattle.am_base.specs.declared.entry.Entry.TheVariants.{View}
use Rattle.am_base.specs.declared.outcome.Outcome.{Outcome}
use Rattle.am_base.specs.declared.outcome.Outcome.TheVariants as said
use Rattle.am_base.specs.Names.{has, size, names_without, without_name, names_of}
use Rattle.am_base.specs.Stamps.{stamp_is_less}
use Rattle.am_base.specs.Votes.{NamedVote, best_vote}
use Rattle.am_packet.specs.declared.packet.Packet.{Packet}
use Rattle.am_packet.specs.declared.packet.Packet.TheVariants as packet
use Rattle.am_packet.specs.Boxes.{Letter, with_letter}
use Rattle.am_node_defs.specs.Reports as reports
use Rattle.am_node_defs.specs.Reports.{least_of_names}
use Rattle.am_model.specs.Node.{Node, Ballot, top, image_of_node, members, view, other_members, set_of_one_name, names_that_pass, map_with_value, push_entry, trim_node_up_to}
use Rattle.am_model.specs.Emit.{Plan, plan_without_letters, invite_packet_of, fetch_packet_of, result_packet_of}

-- ---- promises

-- an unfinished ballot of a lower stamp is overtaken
abbrev pub overtake_lower_ballot : Stamp → Option Ballot → Option Ballot
overtake_lower_ballot by None = None
overtake_lower_ballot by (Some b) = if not b.is_over && stamp_is_less b.stamp by then Some (record b { answer = said.Overtaken by; is_over = true }) else Some b

-- the promise becomes this stamp
abbrev pub node_with_promise : Node → Stamp → Node
node_with_promise m stamp = record m { core = record (m.core) { promise = stamp }; ballot = overtake_lower_ballot stamp m.ballot }

-- ---- votes

-- what the node itself shows
abbrev pub own_vote : Node → Vote
own_vote m = record { view = view m; top = top m; taken = m.core.taken; members = members m }

abbrev pub vote_packet_of : Node → Packet
vote_packet_of n = packet.Vote n.core.who n.core.promise (own_vote n)

unfoldable pub best_vote_for_ballot : Node → Ballot → NamedVote
best_vote_for_ballot m b = best_vote b.votes m.core.who (own_vote m)

-- whose votes a ballot needs: the best vote's members
abbrev pub need_set_of : Node → Ballot → List ℕ
need_set_of m b = (best_vote_for_ballot m b).vote.members

-- the coordinator counts as having voted
abbrev pub has_voted : ℕ → Ballot → ℕ → Bool
has_voted who b name = (name == who) || is_some (b.votes name)

abbrev pub is_waited_for : ℕ → Ballot → ℕ → Bool
is_waited_for who b name = not (has_voted who b name) && not (b.given_up name)

-- the need set without the given-up
abbrev pub need_set_without_given_up : Ballot → List ℕ → List ℕ
need_set_without_given_up b need = names_that_pass (λ name. not (b.given_up name)) need

-- how far a voter's application has taken the list; the coordinator's own as it is now
abbrev pub taken_number_of_voter : ℕ → ℕ → Ballot → ℕ → ℕ
taken_number_of_voter who taken b name = if name == who then taken else unwrap_or (option_map (λ vote. vote.taken) (b.votes name)) 0

-- ---- deciding

-- what a ballot comes to
pub record BallotVerdict : Type 0 where
  pub node : Node
  pub outcome : Outcome

-- the ballot goes on, or has ended, with this answer
abbrev pub ballot_with_answer : Ballot → Outcome → Ballot
ballot_with_answer b outcome = record b { answer = outcome; is_over = false }

abbrev pub ballot_with_end : Ballot → Outcome → Ballot
ballot_with_end b outcome = record b { answer = outcome; is_over = true }

abbrev pub verdict_going_on : Node → Ballot → Outcome → BallotVerdict
verdict_going_on m b outcome = record { node = record m { ballot = Some (ballot_with_answer b outcome) }; outcome = outcome }

abbrev pub verdict_ending : Node → Ballot → Outcome → BallotVerdict
verdict_ending m b outcome = record { node = record m { ballot = Some (ballot_with_end b outcome) }; outcome = outcome }

-- the reports of all names begin anew
abbrev pub restart_reports : Node → Node
restart_reports m = record m { reports = reports.reports_beginning_at m.core.base }

-- the view that a ballot comes to, of these names
abbrev pub decided_view : Node → Ballot → List ℕ → GroupView
decided_view m b names = record { stamp = b.stamp; members = names; resilience = max b.resilience (image_of_node m).resilience }

-- the view is pushed, where there is room for so many members
abbrev pub decide_view : Node → Ballot → List ℕ → BallotVerdict
decide_view m b names =
    if nat_lt (m.core.rules.window + 16 - size names) (top m + 1 - m.core.base) then verdict_ending m b (said.Crowded m.core.base (top m))
    else verdict_ending (restart_reports (push_entry m (View (decided_view m b names)))) b (said.Decided (top m + 1) names)

-- trimmed to what all of these have taken
abbrev pub trim_to_least_taken_by : Node → Ballot → List ℕ → Node
trim_to_least_taken_by m b names = trim_node_up_to m (unwrap_or (least_of_names (taken_number_of_voter m.core.who m.core.taken b) (names_of names)) 0)

unfoldable pub decide : Node → Ballot → BallotVerdict
decide m b =
    if not (has (need_set_of m b) m.core.who) then verdict_ending m b (said.NotIn (best_vote_for_ballot m b).vote.view)
    else if nat_lt 0 (size (names_that_pass (is_waited_for m.core.who b) (need_set_of m b))) then verdict_going_on m b
    (said.Waiting (names_that_pass (is_waited_for m.core.who b) (need_set_of m b)))
    else if not ((best_vote_for_ballot m b).by == m.core.who) then verdict_going_on m b (said.Fetching (best_vote_for_ballot m b).by (top m + 1))
    else if nat_lt (size (need_set_without_given_up b (need_set_of m b))) b.least then verdict_ending m b (said.TooFew (size (need_set_without_given_up b (need_set_of m b))) b.least)
    else decide_view (trim_to_least_taken_by m b (need_set_without_given_up b (need_set_of m b))) b (need_set_without_given_up b (need_set_of m b))

-- ---- what a verdict sends

-- a decided view is told to its members
abbrev pub letters_with_result : Outcome → Node → List Letter → List Letter
letters_with_result (said.Decided number names) n letters = with_letter (without_name names n.core.who) (result_packet_of n number names (image_of_node n).resilience) letters
letters_with_result _ n letters = letters

-- and what is to be fetched is asked for
abbrev pub letters_with_fetch : Outcome → Node → List Letter → List Letter
letters_with_fetch (said.Fetching from want) n letters = with_letter (set_of_one_name from) (fetch_packet_of n) letters
letters_with_fetch _ n letters = letters

abbrev pub plan_of_verdict : BallotVerdict → (Node → List Letter) → Plan
plan_of_verdict verdict letters = record (plan_without_letters verdict.node verdict.outcome) { letters = λ n. letters_with_result verdict.outcome n (letters n) }

-- ---- rows of ballots

-- the next round of the node's own
abbrev pub next_stamp : Node → Stamp
next_stamp m = record { round = m.core.promise.round + 1; by = m.core.who }

abbrev pub new_ballot : Stamp → ℕ → ℕ → Ballot
new_ballot stamp least resilience = record {
  stamp = stamp;
  least = least;
  resilience = resilience;
  votes = λ name. None;
  given_up = λ name. false;
  answer = said.Asked;
  is_over = false;
}

-- a ballot begins, with a resilience of at most 15
unfoldable pub begin_ballot : Node → ℕ → ℕ → Plan
begin_ballot m least resilience = plan_of_verdict (decide (node_with_promise m (next_stamp m)) (new_ballot (next_stamp m) least (min resilience 15)))
    (λ n. with_letter (other_members m) (invite_packet_of n) [])

abbrev pub ballot_with_vote : Ballot → ℕ → Vote → Ballot
ballot_with_vote b name vote = record b { votes = map_with_value b.votes name (Some vote) }

-- who is needed since this vote, and hasn't voted
abbrev pub newly_needed_names : Node → Ballot → Ballot → List ℕ
newly_needed_names m old new = names_that_pass (λ name. not (has_voted m.core.who new name)) (names_without (need_set_of m new) (need_set_of m old))

-- a vote is kept
unfoldable pub keep_vote_in_ballot : Node → Ballot → ℕ → Vote → Plan
keep_vote_in_ballot m b name vote =
    let new = ballot_with_vote b name vote in
    let verdict = decide m new in
    plan_of_verdict verdict (λ n. letters_with_fetch verdict.outcome n (with_letter (newly_needed_names m b new) (invite_packet_of n) []))

abbrev pub ballot_without_voter : Ballot → ℕ → Ballot
ballot_without_voter b name = record b { votes = map_with_value b.votes name None; given_up = map_with_value b.given_up name true }

-- a name is given up
unfoldable pub give_up_in_ballot : Node → Ballot → ℕ → Plan
give_up_in_ballot m b name =
    let verdict = decide m (ballot_without_voter b name) in
    plan_of_verdict verdict (λ n. letters_with_fetch verdict.outcome n [])
