-- The words of this crate's proofs, of the crates and definitions that they come from.
pub use Rattle.am_repair.proofs.RepairWords.{◌≡◌, ◌≢◌, inl, inr, ◌⊎◌, ℕ, zero, suc, ◌+◌, ◌-◌, ◌<◌, ◌≤◌, ◌==◌, ◌&&◌, not, nat_lt, Bool, true, false, if◌then◌else◌}
pub use Rattle.am_repair.proofs.RepairWords.{List, [], ◌∷◌, ◌++◌, length, slice_index, list_any, count_by, count_by_of_cons, Option, Some, None, refl, sym, ap, ◌∙◌, subst, arith, nat_tests}
pub use Rattle.am_repair.proofs.RepairWords.{All, All-nil, All-cons, All-append, split_on_bool, eqb-true, Rules, MayFound, place_of_name, life_of_name, has, size, Stamp, stamp_is_less, stamps_are_equal}
pub use Rattle.am_repair.proofs.RepairWords.{Log, top_of_log, image_of_log, members_of_image, Image, Event, Node, Ballot, BallotVerdict, top, view, members, image_of_node, is_member, next_stamp, node_with_promise}
pub use Rattle.am_repair.proofs.RepairWords.{step, refresh_at_end, end_refresh_rests_with_list, LooksAtBallot, World, current, is_stopped, run, start, world_with_step, happens, world_after_events, runs_go_on, event_at}
pub use Rattle.std.specs.Prelude.{is_some}
pub use Rattle.am_base.specs.declared.image.Vote.{Vote}
pub use Rattle.am_base.specs.Votes.{NamedVote, vote_is_less}
pub use Rattle.am_model.specs.Ballots.{own_vote, need_set_of, is_waited_for, need_set_without_given_up, ballot_with_answer, ballot_with_vote, ballot_without_voter, new_ballot}
unfoldable pub use Rattle.am_model.specs.Ballots.{decide, best_vote_for_ballot}
pub use Rattle.am_model.specs.Node.{names_that_pass}
pub use Rattle.am_refinement.proofs.Votes.{given_vote_is_some, unawaited_name_has_voted, needed_name_is_not_awaited, those_in}
pub use Rattle.am_step_laws.specs.Looks.{HasLearned}
pub use Rattle.am_ballot_laws.specs.Voting.{Coordinates, WaitsForVoter, voted}
pub use Rattle.am_fetch_runs.specs.Gathering.{IsCurrent, IsTickOrHearing}
pub use Rattle.am_reset_runs.specs.Resetting.{MayVoteFor, MayReset, IsOfReset, resets, gives_up, spreads, HasNoRoom, ResetEnds, ResetsAreAnswered}
