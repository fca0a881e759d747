-- The words of this crate's proofs, of the crates and definitions that they come from.
pub use Rattle.std.{proofs.lemmas.Bool.not-false, proofs.lemmas.Bool.not-true, proofs.lemmas.Bool.Decides.nat_tests}
pub use Rattle.std.proofs.Common.{◌≡◌, ◌≢◌, ℕ, ◌+◌, ◌-◌, ◌<◌, ◌≤◌, max, Bool, true, false, not, ◌||◌, ◌&&◌, ◌==◌, if◌then◌else◌, List, Option, Some, None, refl}
pub use Rattle.std.proofs.Common.{sym, ap, subst, ◌∙◌, arith, length, nat_lt}
pub use Rattle.am_base.specs.{Most.greatest_number, declared.name.Stamp.Stamp, declared.entry.Entry.Entry, declared.entry.GroupView.GroupView}
pub use Rattle.am_base.specs.{declared.image.Image.Image, declared.outcome.Outcome.Outcome, Limits.EntryIsInRange, Names.empty_set_of_names, Stamps.stamp_is_less, Stamps.stamps_are_equal}
pub use Rattle.am_base.specs.declared.entry.Entry.TheVariants.{Data, Join, Leave, View}
pub use Rattle.am_node_defs.specs.Cores.{CoreFrontsAreInOrder}
pub use Rattle.am_node_defs.proofs.{Ends.told_by_pushed_entry, Folds.split_on_bool_of_log}
pub use Rattle.am_model.specs.{Emit.Plan, Emit.plan_without_letters, Emit.entries_to_serve, Emit.plan_with_letter, Emit.ack_packet_of, Ballots.BallotVerdict, Ballots.node_with_promise, Ballots.decide}
pub use Rattle.am_model.specs.{Ends.IsEndOf}
pub use Rattle.am_model.specs.Node.{has_log_by_status, Node, Ballot, top, image_of_node, view, acts_in_its_view, is_member, push_entry, trim_node_up_to, set_of_one_name}
pub use Rattle.am_model.specs.Resets.{is_unfetchable_view, push_fetched, catch_up, look_at_ballot_anew, fetches_from, piece_promised, piece_for, row_of_promised_result, may_fetch}
pub use Rattle.am_model.specs.Resets.{serve_pieces}
unfoldable pub use Rattle.am_model.specs.Resets.{piece_row, result_row, fetch_row}
pub use Rattle.am_ballots.specs.Kept.{ballot_of}
pub use Rattle.am_node_parts.specs.{Keeps.NodeKeeps, Keeps.IsOwnBallot, Keeps.IsSteady, Replies.refusal_or_plan, Verdicts.VerdictComesTo, Verdicts.IsTold, Parts.node_of}
pub use Rattle.am_node_parts.specs.{declared.reply.Telling.Telling, declared.reply.Reply.Reply, Replies.Replies, Replies.reply_without_letters, Replies.reply_with_telling}
pub use Rattle.am_node_parts.specs.{Replies.reply_asking_names}
pub use Rattle.am_node_parts.proofs.{Keeping.own_ballot_of_steady_node, Ends.untrimmed_node_ends_itself, Replying.reply_quiet_with_outcome, Replying.reply_asks_nobody, Replying.reply_tells_one_note}
pub use Rattle.am_node_parts.proofs.{Replying.reply_says_and_tells, Replying.reply_of_equal_plan, Replying.equal_reply_of_plan}
pub use Rattle.am_resetting.proofs.{Plans.branch_of_plan_if_false, Plans.untrimmed_node_has_equal_end, Plans.decide_without_own_ballot}
pub use Rattle.am_resetting.specs.declared.catching.Denial.{Denial}
pub use Rattle.am_resetting.specs.Deciding.{HasNoViewAbove, CatcherMayStore, IsTakenOut}
pub use Rattle.am_resetting.proofs.{Views.view_after_view_is_stamp, Views.view_stays_after_data, Views.view_stays_after_join, Views.view_stays_after_leave, Orders.stamp_not_lt_itself, Orders.equal_stamps_are_same}
pub use Rattle.am_resetting.proofs.{Promises.no_ballot_was_taken_out, Promises.one_ballot_was_taken_out, Nodes.node_without_ballot_acts_not, Nodes.top_after_pushed_entry}
pub use Rattle.am_resetting.specs.Catching.{plan_of, IsPlain, FollowsAsView, CatchesNext, IsBelow, unless_denied, node_with_ballot}
