-- The words of this crate's proofs, of the crates and definitions that they come from.
pub use Rattle.std.{proofs.lemmas.Bool.Decides.nat_tests, proofs.lemmas.List.drop-drop, specs.List.list_any, specs.Prelude.Ok, specs.Prelude.Err}
pub use Rattle.std.proofs.Common.{◌≡◌, ℕ, ◌+◌, ◌-◌, max, min, Bool, true, false, not, ◌&&◌, ◌==◌, nat_lt, if◌then◌else◌, List, [], Option, Some, None}
pub use Rattle.std.proofs.Common.{unwrap_or, refl, ◌∙◌, ap, ◌<◌, ◌||◌, nat_le, sym, subst, arith, is_some, ◌≤◌, length, take, ◌∷◌, length-append, drop}
pub use Rattle.std.proofs.Common.{position}
pub use Rattle.am_base.specs.{declared.image.Vote.Vote, declared.name.Stamp.Stamp, declared.outcome.Outcome.Outcome, Names.has, Names.size, Names.names_without}
pub use Rattle.am_base.specs.{Names.without_name, Names.names_of, Names.empty_set_of_names, Names.life_of_name, Votes.NamedVote, Votes.best_vote, declared.entry.Entry.Entry}
pub use Rattle.am_base.specs.{Stamps.stamps_are_equal, Stamps.stamp_is_less, declared.event.NodeEvent.NodeEvent, declared.image.Image.Image, declared.image.Report.Report}
pub use Rattle.am_base.specs.{declared.image.Row.Row}
pub use Rattle.am_base.specs.declared.entry.Entry.TheVariants.{View, Data, Leave, Join}
pub use Rattle.am_base.specs.Lists.{Log, members_of_image, log_with_entry, row_of_name, log_entry_at, fits, image_of_log, log_image_at, row_at_place}
pub use Rattle.am_packet.specs.{Boxes.Letter, Boxes.with_letter, declared.packet.Packet.Packet}
pub use Rattle.am_packet.specs.Reading.{Read, reading}
pub use Rattle.am_node_defs.proofs.{Folds.split_on_bool_of_log, Ends.log_is_own_end, Ends.top_of_end_is_top, Ends.end_has_image_of_whole_log, Ends.image_at_end_is_image, Ends.entry_at_end_is_entry, Ends.end_stays_by_push, CoreLaws.since_accepted_reads_kept_end}
pub use Rattle.am_node_defs.specs.{Kept.IsEndOfLog, Cores.CoreFrontsAreInOrder, Cores.CoreState, Cores.core_with_log, Cores.members_since_accepted}
unfoldable pub use Rattle.am_node_defs.specs.Cores.{raise_accepted_to_told, pass_over_below_join}
pub use Rattle.am_node_defs.specs.{Reports.least_of_names, Reports.least_taken_of_names, Refresh.CoreWithReports, Refresh.base_after_trim, Refresh.raise_accepted_by_reports, Refresh.reports_with_log}
unfoldable pub use Rattle.am_node_defs.specs.Refresh.{raise_own_report, tell_accept_front, advance_with_reports, trim_to_least_taken}
pub use Rattle.am_node_defs.proofs.Refreshes.{go_up_on_whole_log}
pub use Rattle.am_node_defs.specs.Bodies.{is_body_of_send, keep_body}
pub use Rattle.am_node_defs.specs.declared.sender.OwnSend.{OwnSend}
pub use Rattle.am_model.specs.{Ends.node_with_log, Ends.StepsAlike, Ends.EndsStepAlike, Ends.IsEndOf, Ends.StepComesTo, Ends.DoesRow, declared.status.Status.Status}
pub use Rattle.am_model.specs.{Hearing.member_hears_other, Hearing.hears_packet_of_its_view, Hearing.sequencer_hears_packet, Hearing.hears_packet_of_sequencer, Hearing.plan_where_heard, Hearing.passes_gate}
pub use Rattle.am_model.specs.{Hearing.heard_row}
pub use Rattle.am_model.specs.{Step.row_of_read_bytes, Refresh.advance_node, Refresh.core_with_reports_of, Refresh.is_data_of, Refresh.accepted_number_of_send, Refresh.settle_send_at}
pub use Rattle.am_model.specs.{Refresh.settle_send_where_accepted, declared.status.Status.TheVariants.Departed}
pub use Rattle.am_model.specs.Node.{Node, Ballot, top, image_of_node, names_that_pass, is_member, push_entry, set_of_one_name, view, other_members, lowest_name_or_zero, acts_in_its_view, is_sequencer}
pub use Rattle.am_model.specs.Node.{has_room, waiting_send_of, node_unsettled_count, has_own_leave, number_is_within_bound, trim_node_up_to, entries_above, report_fits, node_with_report}
pub use Rattle.am_model.specs.Emit.{invite_packet_of, result_packet_of, Plan, bcast_packet_of, join_ask_packet_of, leave_ask_packet_of, fetch_packet_of, ack_packet_of, nack_packet_of, piece_packet_of}
pub use Rattle.am_model.specs.Emit.{StepResult, plan_without_letters, plan_with_letter, plan_with_poll, with_one_more_letter, with_letter_where, plan_numbering_entry, request_packet_of, spread_packet_of, hold_packet_of, welcome_packet_of}
pub use Rattle.am_model.specs.Emit.{letters_with_accept, order_packet_of, gone_packet_of, entries_to_serve}
pub use Rattle.am_model.specs.Ballots.{BallotVerdict, node_with_promise, has_voted, is_waited_for, need_set_without_given_up, taken_number_of_voter, verdict_ending, restart_reports, decide_view, trim_to_least_taken_by}
pub use Rattle.am_model.specs.Ballots.{letters_with_result, letters_with_fetch, plan_of_verdict, next_stamp, new_ballot, ballot_with_vote, newly_needed_names, ballot_without_voter, vote_packet_of}
pub use Rattle.am_model.specs.Calls.{give_up_in_open_ballot, would_emit_send, hand_in_send, number_send, emit_waiting_send, node_with_queued_send, queue, give_out_entry, ask_to_join, join_by_status, state_by_status, plan_of_leaving}
pub use Rattle.am_model.specs.Calls.{is_unfinished_ballot, begin_leaving, leave_by_status, answer_ask_of_ballot}
pub use Rattle.am_model.specs.Resets.{look_at_ballot_anew, take_vote, serve_pieces, is_unfetchable_view, push_fetched, catch_up, fetches_from, piece_promised, piece_for}
pub use Rattle.am_model.specs.Resets.{row_of_promised_result}
pub use Rattle.am_model.specs.Ticks.{tick_of_coordinator, tick_of_non_acting_member, tick_of_follower, tick_outcome_of_waiting_send, members_behind_view, members_of_view_entry, with_result_told_again, tick_of_sequencer, tick_of_acting_member}
pub use Rattle.am_model.specs.Ticks.{tick_by_ballot, tick_by_status}
pub use Rattle.am_model.specs.Sequencing.{outcome_where_accepted_rose, row_of_name_in_list, has_no_join, take_report, number_send_of_member, answer_request, serve_entries_above, serve_again}
pub use Rattle.am_model.specs.Receiving.{body_of_spread_send, bodies_after_stored_entry, is_view, node_with_noted_fronts, acknowledges, store_fitting_entry, store_numbered_entry, receive_entry, data_entry_of, answer_hold}
pub use Rattle.am_model.specs.Joining.{node_with_joiner_reports, number_join_and_welcome, answer_join_ask, node_of_welcomed, ask_for_next_entries, all_others_stored, leaver_may_go, with_gone_where_it_may_go, answer_leave_ask}
unfoldable pub use Rattle.am_model.specs.{Emit.letters_of_entries, Emit.finish, Ballots.best_vote_for_ballot, Ballots.decide, Ballots.begin_ballot, Ballots.keep_vote_in_ballot, Ballots.give_up_in_ballot, Resets.invite_row}
unfoldable pub use Rattle.am_model.specs.{Resets.vote_row, Resets.fetch_row, Resets.piece_row, Resets.result_row, Ticks.tick_row}
unfoldable pub use Rattle.am_model.specs.{Sequencing.request_row, Sequencing.ack_row, Sequencing.nack_row, Receiving.spread_row, Receiving.bcast_row}
unfoldable pub use Rattle.am_model.specs.{Receiving.order_row, Receiving.accept_row, Receiving.hold_row, Hearing.hear_row, Step.row, Step.step, Refresh.refresh_as_sequencer}
unfoldable pub use Rattle.am_model.specs.{Refresh.refresh, Refresh.settle_waiting_send, Refresh.refresh_at_end, Joining.join_ask_row, Joining.welcome_row}
unfoldable pub use Rattle.am_model.specs.{Joining.leave_ask_row, Joining.gone_row}
unfoldable pub use Rattle.am_model.specs.Calls.{reset_row, give_up_row, first_lives_of_other_places, send_row, done_row, take_row, join_row, state_row, leave_row}
unfoldable pub use Rattle.am_model.specs.Calls.{ask_row}
pub use Rattle.am_model.specs.Order.{StepsKeepFrontsOrdered, FrontsAreOrdered}
pub use Rattle.std.proofs.lemmas.List.{length-take}
pub use Rattle.am_model.specs.Emit.{sends_accept, accept_packet_of}
pub use Rattle.std.proofs.lemmas.List.Edits.{length-insert}
pub use Rattle.am_packet.specs.Kinds.{kind_of}
pub use Rattle.am_packet.specs.Boxes.{letter_to, place_for}
pub use Rattle.am_model.specs.Emit.{hand_over_packet_of}
