-- What a node tells of itself and of its group.
use Rattle.std.specs.Prelude.{ℕ, List, Option, Some, None, Bool, false, not, nat_lt, if◌then◌else◌}
use Rattle.am_base.specs.declared.outcome.Outcome.{Outcome}
use Rattle.am_base.specs.declared.outcome.Outcome.TheVariants as said
use Rattle.am_base.specs.Names.{empty_set_of_names}
use Rattle.am_model.specs.Node.{Node, Ballot, is_sequencer, members, view, top}
use Rattle.am_model.specs.declared.status.Status.{Status}
use Rattle.am_model.specs.declared.status.Status.TheVariants as status
use Rattle.am_model.specs.declared.info.Role.{Role}
use Rattle.am_model.specs.declared.info.Role.TheVariants as role
use Rattle.am_model.specs.declared.info.Info.{Info}
use Rattle.am_model.specs.declared.info.BallotEnd.{BallotEnd}
use Rattle.am_model.specs.declared.info.BallotEnd.TheVariants.{Going, Ended}

abbrev pub role_by_status : Status → Role
role_by_status status.Stranger = role.Stranger
role_by_status status.Asking = role.Asking
role_by_status status.Member = role.Member
role_by_status status.Departed = role.Departed

-- it has a ballot that isn't over
abbrev pub has_open_ballot : Option Ballot → Bool
has_open_ballot None = false
has_open_ballot (Some b) = not b.is_over

abbrev pub role_of_node : Node → Role
role_of_node m =
    if has_open_ballot m.ballot then role.Coordinator
    else if is_sequencer m then role.Sequencer
    else role_by_status m.status

abbrev pub info_of_node : Node → Info
info_of_node m = record {
  role = role_of_node m;
  view = view m;
  members = members m;
  base = m.core.base;
  taken = m.core.taken;
  accepted = m.core.acc;
  top = top m;
  promise = m.core.promise;
}

-- the names that a ballot waits for, where this was last decided on it
abbrev pub names_waited_for_by_outcome : Outcome → List ℕ
names_waited_for_by_outcome (said.Waiting names) = names
names_waited_for_by_outcome _ = empty_set_of_names

abbrev pub names_waited_for : Option Ballot → List ℕ
names_waited_for None = empty_set_of_names
names_waited_for (Some b) = if b.is_over then empty_set_of_names else names_waited_for_by_outcome b.answer

abbrev pub end_of_ballot : Ballot → BallotEnd
end_of_ballot b = if b.is_over then Ended b.answer else Going b.answer

-- how the ballot of a round stands
abbrev pub end_of_ballot_of_round : ℕ → Option Ballot → Option BallotEnd
end_of_ballot_of_round round None = None
end_of_ballot_of_round round (Some b) =
    if nat_lt b.stamp.round round then None
    else if nat_lt round b.stamp.round then Some (Ended (said.Overtaken b.stamp))
    else Some (end_of_ballot b)
