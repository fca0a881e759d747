-- The words of this crate's proofs, of the crates and definitions that they come from.
pub use Rattle.std.proofs.Common.{◌≡◌, ℕ, zero, suc, ◌+◌, ◌<◌, ◌≤◌, ◌==◌, nat_lt, Bool, true, false, if◌then◌else◌, List, [], ◌∷◌, length, slice_index}
pub use Rattle.std.proofs.Common.{slice_set, get_or-set_same, get_or-set_other, refl, sym, ap, ◌∙◌, subst, arith, ◌-◌, ◌&&◌, min, max, nat_le, not, Option}
pub use Rattle.std.proofs.Common.{Some, None, slice_get, ◌||◌, find, is_some, inl, inr, Ok, Err, ◌⊎◌, ◌++◌, option_map, length-append, drop, ◌≢◌}
pub use Rattle.std.proofs.lemmas.List.{map-set, get_or_past, length-set, append-nil}
pub use Rattle.std.proofs.lemmas.List.Elements.{All-head, All-tail, All-cons, All-append, All-take, All-drop, All-nil}
pub use Rattle.std.{proofs.lemmas.Bool.not-true, proofs.lemmas.Bool.not-false, proofs.lemmas.Bool.eq-eqb, proofs.lemmas.Bool.Decides.nat_tests}
pub use Rattle.std.{proofs.lemmas.Option.same_Some, proofs.lemmas.Option.slice_get-map, proofs.lemmas.Option.slice_get_within, specs.List.list_any}
pub use Rattle.std.{specs.Prelude.All}
pub use Rattle.am_base.specs.Names.{place_of_name, life_of_name, has, size, without_name}
pub use Rattle.am_base.specs.declared.entry.Entry.TheVariants.{Data, Leave, View, Join}
pub use Rattle.am_base.specs.Lists.{Log, image_of_log, row_at_place, members_of_image, member_life_of_row, log_entry_at, row_of_name, top_of_log}
pub use Rattle.am_base.specs.{declared.image.Image.Image, declared.image.Row.Row, declared.image.Vote.Vote, declared.name.Stamp.Stamp}
pub use Rattle.am_base.specs.{declared.entry.Entry.Entry, declared.outcome.Outcome.Outcome, declared.event.NodeEvent.NodeEvent, declared.image.Report.Report}
pub use Rattle.am_base.specs.{Stamps.stamps_are_equal, Stamps.stamp_is_less, Founding.Rules, declared.entry.GroupView.GroupView}
unfoldable pub use Rattle.am_base.specs.{Lists.after, Lists.fits, Lists.image_after_entries}
pub use Rattle.am_base.proofs.{Places.slice_index-by_place, Places.length-by_place, Greatest.split_on_bool, Greatest.both_of_and, Folds.fold_append, Found.found_passes_test}
pub use Rattle.am_packet.specs.Boxes.{Letter, with_letter, letter_to, place_for}
pub use Rattle.am_packet.specs.{declared.packet.Packet.Packet, Kinds.kind_of, Reading.Read, Reading.reading}
pub use Rattle.am_node_defs.proofs.{Members.members_of_after_data, Folds.slice_get-drop}
unfoldable pub use Rattle.am_node_defs.specs.{Cores.pass_over_below_join, Refresh.raise_own_report, Refresh.tell_accept_front, Refresh.advance_with_reports}
pub use Rattle.am_node_defs.specs.{Refresh.base_after_trim, Bodies.is_body_of_send, Bodies.keep_body, declared.sender.OwnSend.OwnSend}
pub use Rattle.am_group.specs.{declared.event.Act.Act, declared.event.Event.Event, Addressed.is_for, Journals.letter_at, Journals.item_at}
pub use Rattle.am_model.specs.Refresh.{advance_node, accepted_number_of_send, settle_send_at, settle_send_where_accepted}
pub use Rattle.am_model.specs.Hearing.{member_hears_other, member_or_asker_hears_other, hears_packet_of_its_view, hears_packet_of_sequencer, plan_where_heard}
pub use Rattle.am_model.specs.Node.{Node, top, image_of_node, life_where_name_passes, other_members, push_entry, Ballot, view, members, set_of_one_name, is_member, own_row, lowest_name_or_zero}
pub use Rattle.am_model.specs.Node.{acts_in_its_view, has_room, is_asking_status, is_sequencer, waiting_send_of, node_unsettled_count, has_departed, founder, stranger_node, node_with_report}
pub use Rattle.am_model.specs.Node.{has_own_leave, number_is_within_bound, trim_node_up_to, report_fits, has_log_by_status}
pub use Rattle.am_model.specs.Emit.{invite_packet_of, fetch_packet_of, result_packet_of, Plan, plan_without_letters, join_ask_packet_of, leave_ask_packet_of, request_packet_of, spread_packet_of, bcast_packet_of, StepResult, plan_with_letter}
pub use Rattle.am_model.specs.Emit.{plan_with_poll, with_one_more_letter, with_letter_where, plan_numbering_entry, accept_packet_of, sends_accept, letters_with_accept, ack_packet_of, nack_packet_of, piece_packet_of}
pub use Rattle.am_model.specs.Emit.{entries_to_serve, hold_packet_of, welcome_packet_of, gone_packet_of, hand_over_packet_of}
pub use Rattle.am_model.specs.Ballots.{node_with_promise, BallotVerdict, need_set_of, is_waited_for, need_set_without_given_up, trim_to_least_taken_by, letters_with_result, letters_with_fetch, plan_of_verdict, next_stamp}
pub use Rattle.am_model.specs.Ballots.{new_ballot, ballot_with_vote, newly_needed_names, ballot_without_voter, vote_packet_of, decided_view, overtake_lower_ballot}
pub use Rattle.am_model.specs.Ticks.{members_of_view_entry, tick_of_coordinator, tick_of_non_acting_member, tick_of_follower, tick_outcome_of_waiting_send, members_behind_view, with_result_told_again, tick_of_sequencer, tick_of_acting_member}
pub use Rattle.am_model.specs.Ticks.{tick_by_ballot, tick_by_status}
pub use Rattle.am_model.specs.Calls.{give_up_in_open_ballot, first_lives_of_other_places, would_emit_send, hand_in_send, number_send, emit_waiting_send, node_with_queued_send, queue, give_out_entry, ask_to_join, join_by_status}
pub use Rattle.am_model.specs.Calls.{state_by_status, plan_of_leaving, begin_leaving, leave_by_status, is_unfinished_ballot, answer_ask_of_ballot}
pub use Rattle.am_model.specs.Sequencing.{row_of_name_in_list, outcome_where_accepted_rose, has_no_join, take_report, answer_request, serve_again}
pub use Rattle.am_model.specs.Receiving.{is_view, node_with_noted_fronts, acknowledges, bodies_after_stored_entry, body_of_spread_send, store_fitting_entry, store_numbered_entry, receive_entry, data_entry_of, answer_hold}
pub use Rattle.am_model.specs.Resets.{is_open_ballot, take_vote, may_fetch, is_unfetchable_view, push_fetched, catch_up, look_at_ballot_anew, fetches_from, piece_promised, piece_for}
pub use Rattle.am_model.specs.Resets.{row_of_promised_result}
pub use Rattle.am_model.specs.Joining.{node_of_welcomed, ask_for_next_entries, node_with_joiner_reports, number_join_and_welcome, leaver_may_go, with_gone_where_it_may_go, report_counts}
pub use Rattle.am_model.specs.{declared.status.Status.Status, Step.row_of_read_bytes, Step.refuse_bytes, Lengths.packet_length, declared.status.Status.TheVariants.Departed}
unfoldable pub use Rattle.am_model.specs.Refresh.{refresh_at_end, refresh, refresh_as_sequencer, settle_waiting_send}
unfoldable pub use Rattle.am_model.specs.Ballots.{best_vote_for_ballot, decide, begin_ballot, keep_vote_in_ballot, give_up_in_ballot}
unfoldable pub use Rattle.am_model.specs.Step.{step, hear_packet, hear_refused_bytes, row}
unfoldable pub use Rattle.am_model.specs.Receiving.{spread_row, bcast_row, order_row, accept_row, hold_row}
unfoldable pub use Rattle.am_model.specs.Resets.{invite_row, vote_row, fetch_row, piece_row, result_row}
unfoldable pub use Rattle.am_model.specs.Joining.{welcome_row, gone_row, join_ask_row, leave_ask_row}
unfoldable pub use Rattle.am_model.specs.Calls.{reset_row, give_up_row, send_row, done_row, take_row, join_row, state_row, leave_row, ask_row}
unfoldable pub use Rattle.am_model.specs.{Node.names_that_pass, Emit.finish, Emit.letters_of_entries, Ticks.tick_row, Sequencing.request_row, Sequencing.ack_row}
unfoldable pub use Rattle.am_model.specs.{Sequencing.nack_row, Hearing.hear_row}
pub use Rattle.am_model.proofs.{Sets.size_cons}
pub use Rattle.am_group_defs.specs.World.{World, current, is_stopped, world_after_node_event, world_after_give_up, world_after_hearing, hear_cut, world_after_return, world_after_act, start, run, first_node}
pub use Rattle.am_group_defs.specs.{Claims.packet_heard_by_act}
unfoldable pub use Rattle.am_group_defs.specs.World.{happens, world_with_record, world_with_step, world_after_events}
pub use Rattle.am_step_laws.specs.Causes.{Cause, calls, hears, refuses, by_request, by_spread, cause_of_read, cause_of, CauseHasFronts, with_entry, with_number, alone}
pub use Rattle.am_step_laws.specs.Causes.{CauseHasSend, CauseHasReport, with_send, by_ack, by_nack, by_leave_ask}
pub use Rattle.am_step_laws.specs.Looks.{HasLearned, LooksAtBallot, finds_itself_out, waits, fetches_from_best, finds_too_few, finds_no_room, decides, MayBegin, BeginsBy}
pub use Rattle.am_step_laws.specs.Looks.{by_reset, MayLookAtBallot, was_reset, HasOpenBallot, BallotIsLookedAt, as_it_is, without_one, with_more, was_fetched, by_hand_over, was_handed}
pub use Rattle.am_step_laws.specs.Changes.{opens, numbers, own_send, queues, collects, takes, asks_to_join, asks_to_leave, Change, refreshes, settles, takes_report}
pub use Rattle.am_step_laws.specs.Changes.{departs, looks, closes, Changes, unchanged, changed, MayStore, CarriesEntry, whole_entry, by_number, MayBeWelcomed, keeps_body}
pub use Rattle.am_step_laws.specs.Changes.{notes, stores, begins_list, without_ballot, invited, overtaken, told_result, promises, fetches, stores_view}
pub use Rattle.am_step_laws.specs.Changes.{unchanged as no_change, MayReport, admits, asked_send, asked_join, asked_leave}
pub use Rattle.am_step_laws.specs.Courses.{nothing_yet, and_then, looked, PlainChangesInTurn, used_report, ChangesWithLook, plainly, at_end, let_go, closing}
pub use Rattle.am_step_laws.specs.Letters.{invite, fetch, result, has_begun, for_ballot, decided, HasOwnSend, join_ask, leave_ask, Says, accept, LetterSays, of_promise}
pub use Rattle.am_step_laws.specs.Letters.{vote, piece, ack, EntryStands, request, spread, bcast, nack, order, hold, welcome, gone, just_joined, asks_again, goes_on}
pub use Rattle.am_step_laws.specs.Letters.{leads, hand_over}
pub use Rattle.am_step_laws.specs.Effects.{OutcomeTells, Effect, StepsHaveEffects, HearingHasEffects, RefusingHasEffects}
pub use Rattle.am_step_laws.specs.Events.{acting_name, WasSentTo, IsCall, send, done, take, join, state, leave, reset, ask, tick, IsCause, EventHappens, idles, stops, returns}
pub use Rattle.am_step_laws.specs.Events.{steps, EventsHaveEffects}
