-- The words of this crate's proofs, of the crates and definitions that they come from.
pub use Rattle.std.{proofs.lemmas.Bool.not-true, proofs.lemmas.Bool.not-false, proofs.lemmas.Bool.Decides.nat_tests}
pub use Rattle.std.proofs.Common.{◌≡◌, ◌≢◌, ℕ, ◌+◌, ◌<◌, min, nat_lt, List, Bool, true, false, not, ◌==◌, Option, None, refl, ap, ◌∙◌, arith, ◌||◌, ◌&&◌}
pub use Rattle.std.proofs.Common.{if◌then◌else◌, Some, sym, subst}
pub use Rattle.am_base.specs.{Most.greatest_number, Names.names_without, Names.has, Stamps.stamp_is_less, Stamps.stamps_are_equal, Votes.NamedVote, Votes.best_vote}
pub use Rattle.am_base.specs.{declared.image.Vote.Vote, declared.name.Stamp.Stamp, declared.outcome.Outcome.Outcome, Lists.image_of_log}
pub use Rattle.am_base.proofs.Greatest.{both_of_and}
pub use Rattle.am_node_defs.proofs.Folds.{split_on_bool_of_log}
pub use Rattle.am_node_defs.specs.Cores.{CoreFrontsAreInOrder}
pub use Rattle.am_model.specs.{Emit.plan_without_letters, Emit.plan_with_letter, Resets.take_vote, Resets.is_open_ballot, Calls.give_up_in_open_ballot, Calls.ask_row, Ends.IsEndOf}
pub use Rattle.am_model.specs.Node.{Node, Ballot, names_that_pass, top, view, has_log_by_status, set_of_one_name, members, is_member, other_members}
pub use Rattle.am_model.specs.Ballots.{ballot_with_vote, ballot_without_voter, next_stamp, new_ballot, own_vote, has_voted, newly_needed_names, node_with_promise, vote_packet_of}
unfoldable pub use Rattle.am_model.specs.{Ballots.keep_vote_in_ballot, Ballots.give_up_in_ballot, Ballots.decide, Ballots.best_vote_for_ballot, Ballots.begin_ballot, Resets.invite_row}
unfoldable pub use Rattle.am_model.specs.{Resets.vote_row, Calls.reset_row, Calls.give_up_row}
pub use Rattle.am_ballots.specs.Kept.{ballot_of}
pub use Rattle.am_node_parts.specs.{Keeps.NodeKeeps, Parts.node_of, Verdicts.VerdictComesTo, declared.parts.Parts.Parts}
pub use Rattle.am_node_parts.proofs.{Ends.untrimmed_node_ends_itself, Keeping.status_of_member_has_log}
pub use Rattle.am_node_parts.specs.{declared.reply.Reply.Reply, Replies.Replies, Replies.reply_without_letters, Replies.reply_with_telling, Replies.reply_asking_names}
pub use Rattle.am_resetting.proofs.Plans.{branch_of_plan_if_true, branch_of_plan_if_false, untrimmed_node_has_equal_end, end_of_node_with_promise, decide_without_own_ballot}
pub use Rattle.am_node_parts.proofs.Replying.{reply_quiet_with_outcome, reply_tells_one_note, reply_asks_names_of_ballot, reply_fetches_and_asks_nobody, reply_asks_names_and_fetches, reply_of_equal_plan, equal_reply_of_plan}
pub use Rattle.am_resetting.specs.Deciding.{IsTakenOut}
pub use Rattle.am_resetting.proofs.{Orders.stamp_lt_next_round, Promises.no_ballot_was_taken_out, Promises.one_ballot_was_taken_out}
