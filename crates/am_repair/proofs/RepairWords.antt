-- The words of this crate's proofs, of the crates and definitions that they come from.
pub use Rattle.am_step_laws.proofs.Words.{◌≡◌, inl, inr, ℕ, ◌+◌, ◌≤◌, ◌==◌, not, true, false, List, length, Option, Some, None, refl, sym, ap, ◌∙◌, subst, arith}
pub use Rattle.am_step_laws.proofs.Words.{length-append, ◌<◌, [], ◌∷◌, ◌&&◌, ◌||◌, Bool, max, min, nat_le, zero, suc, ◌++◌, slice_get, ◌≢◌, ◌⊎◌, if◌then◌else◌}
pub use Rattle.am_step_laws.proofs.Words.{nat_lt, ◌-◌, take, drop, length-drop, map, slice_index, cases_lt, nat_tests, length-take, All-weaker, All-head, All-tail}
pub use Rattle.am_step_laws.proofs.Words.{All-nil, All-cons, All-append, list_any-append, list_any, range_with_len, All, Data, Join, Leave, View, Image, Outcome}
pub use Rattle.am_step_laws.proofs.Words.{Rules, MayFound, place_of_name, has, names_of, life_of_name, size, empty_set_of_names, names_from, accept_front, split_on_bool, both_of_and, Stamp}
pub use Rattle.am_step_laws.proofs.Words.{members_of_image, log_members_at, row_at_place, Log, top_of_log, image_of_log, log_entry_at, log_image_at, log_with_entry, row_of_name, blank, Report, stamps_are_equal}
pub use Rattle.am_step_laws.proofs.Words.{stamp_is_less, Entry, Row, NodeEvent, Packet, Letter, image_at_top_is_told, image_at_below_push, CoreState, members_since_accepted, UnusedPlacesHaveNoLife, unused_places_after_entries}
pub use Rattle.am_step_laws.proofs.Words.{member_has_life_of_row, JoinsAreNextLives, count_by_of_cons, least_taken_of_names, OwnSend, Event, is_for, letter_at, Act, Node, top, image_of_node, view, acts_in_its_view}
pub use Rattle.am_step_laws.proofs.Words.{is_sequencer, waiting_send_of, push_entry, Ballot, is_member, members, stranger_node, has_log_by_status, is_asking_status, trim_node_up_to, node_with_report}
pub use Rattle.am_step_laws.proofs.Words.{other_members, Plan, StepResult, plan_without_letters, emit_waiting_send, is_unfinished_ballot, with_result_told_again, tick_outcome_of_waiting_send, tick_by_status, tick_of_acting_member, members_of_view_entry, tick_by_ballot}
pub use Rattle.am_step_laws.proofs.Words.{tick_of_follower, tick_of_sequencer, overtake_lower_ballot, node_with_promise, BallotVerdict, next_stamp, Status, settle_waiting_send, member_hears_other, member_or_asker_hears_other}
pub use Rattle.am_step_laws.proofs.Words.{hears_packet_of_its_view, hears_packet_of_sequencer, has_no_join, take_report, answer_request, is_view, bodies_after_stored_entry, node_with_noted_fronts, node_with_joiner_reports}
pub use Rattle.am_step_laws.proofs.Words.{packet_length, World, current, is_stopped, run, start, world_after_hearing, hear_cut, world_after_act, packet_heard_by_act, has_member_is_in_row, IsMemberRow, sixteen_rows_after_entry}
pub use Rattle.am_step_laws.proofs.Words.{member_row_after_entry, mod_sixteen_lt, accept_front_is_greatest, image_of_pushed_entry, view_of_pushed_plain_entry, Cause, calls, hears, by_request, by_spread, HasOpenBallot, LooksAtBallot}
pub use Rattle.am_step_laws.proofs.Words.{decides, BallotIsLookedAt, with_more, without_one, as_it_is, finds_no_room, MayPromise, invited, overtaken_by, told_result, Change}
pub use Rattle.am_step_laws.proofs.Words.{refreshes, settles, takes_report, admits, numbers, begins_list, departs, promises, opens, looks, queues, collects, takes}
pub use Rattle.am_step_laws.proofs.Words.{asks_to_join, closes, CarriesEntry, whole_entry, by_number, stores, fetches, stores_view, Changes, no_change, changed, IsNumberedBy}
pub use Rattle.am_step_laws.proofs.Words.{asked_send, own_send, asked_join, asked_leave, notes, keeps_body, end_refresh_rests_with_list, settle_changes_only_sends, refresh_rests_with_list, stamp_eq_gives_equality}
pub use Rattle.am_step_laws.proofs.Words.{stamp_eq_of_itself, slice_get_of_front, all_gives_item_at, item_of_index_has_property, events_have_effects, IsCause, acting_name, EventHappens, steps, idles, stops, returns}
pub use Rattle.am_step_laws.proofs.Words.{WasSentTo, Effect, heard_member_is_other, EventsKeep, runs_keep_what_events_keep, StepsKeepLaw, HasSameWorldParts, events_keep_by_steps, Says, LetterSays, bcast, order}
pub use Rattle.am_step_laws.proofs.Words.{welcome, invite, vote, result, number_equals_itself}
unfoldable pub use Rattle.am_step_laws.proofs.Words.{after, fits, image_after_entries, raise_accepted_to_told, pass_over_below_join, raise_own_report, tell_accept_front, advance_with_reports, trim_to_least_taken, finish, step, row, hear_packet, hear_refused_bytes}
unfoldable pub use Rattle.am_step_laws.proofs.Words.{tick_row, refresh_at_end, refresh_as_sequencer, refresh, hear_row, request_row, ack_row, nack_row, accept_row, bcast_row}
unfoldable pub use Rattle.am_step_laws.proofs.Words.{join_ask_row, happens, world_after_events, world_with_step, world_with_record}
pub use borrow.Enum.Arm.{by_way as either}
pub use Rattle.std.{proofs.Math.Seq.take-append-add, proofs.lemmas.List.take_all, proofs.lemmas.List.drop_all, proofs.lemmas.List.Elements.All-push}
pub use Rattle.std.{proofs.lemmas.List.Elements.Contains-append_right, proofs.lemmas.Option.slice_get-get_or, proofs.lemmas.Option.slice_get_within}
pub use Rattle.std.{specs.List.prefix_len, specs.Prelude.Contains, specs.Prelude.filter}
pub use Rattle.std.proofs.Common.{count_by, append_assoc, append-nil, add-one, ◌*◌, ◌/◌, slice_set, get_or-set_same, get_or-set_other}
pub use Rattle.std.proofs.lemmas.Bool.{false_from_ne_true, not-true, and_from, not-false, eqb-true, eq-eqb}
pub use Rattle.am_base.specs.{Names.without_name, Fronts.counting_names_at, Fronts.is_held, Fronts.counting_names_of_entry, Lists.image_with_row}
pub use Rattle.am_packet.specs.{Boxes.letter_to, Boxes.place_for, Boxes.with_letter, Kinds.kind_of}
pub use Rattle.am_packet.specs.declared.packet.Packet.TheVariants.{Request, Spread, Bcast, Order, Accept, Ack, Nack, Hold, JoinAsk, Welcome, LeaveAsk, Gone}
pub use Rattle.am_packet.specs.declared.packet.Packet.TheVariants.{Invite, Vote, Fetch, Piece, Result}
pub use Rattle.am_node_defs.proofs.{Ends.image_at_next_number, Ends.entry_at_is_slice_get, Lives.entry_fits_at_its_number, Folds.slice_get-drop}
pub use Rattle.am_group.proofs.Places.{slice_get_of_append_back, slice_get_of_append_front}
pub use Rattle.am_model.specs.{Node.has_room, Node.has_departed, Node.own_report_of, Node.set_of_one_name, Node.report_fits, Node.has_own_leave, Calls.would_emit_send}
pub use Rattle.am_model.specs.{Calls.first_lives_of_other_places, Calls.hand_in_send, Ticks.members_behind_view, Ticks.go_on_where_leaving, Hearing.plan_where_heard, Hearing.sequencer_hears_packet}
pub use Rattle.am_model.specs.{Sequencing.serve_entries_above}
pub use Rattle.am_model.specs.Emit.{plan_with_letter, nack_packet_of, bcast_packet_of, accept_packet_of, sends_accept, letters_with_accept, entries_to_serve, ack_packet_of, fetch_packet_of, request_packet_of}
pub use Rattle.am_model.specs.Emit.{spread_packet_of, join_ask_packet_of, result_packet_of}
unfoldable pub use Rattle.am_model.specs.Emit.{letters_of_entries}
pub use Rattle.am_model.proofs.Sets.{occupied_place_counts_in_size}
pub use Rattle.am_group_defs.specs.{World.world_after_node_event}
pub use Rattle.am_group_defs.specs.Settle.{event_at, Settling, hearings, settle_then, ticks_of_places, round, round_count, hearings_of}
unfoldable pub use Rattle.am_group_defs.specs.{Settle.running_places, Settle.settle_waves, Settle.settle_rounds, Settle.settle_events, Settle.hearings_from}
pub use Rattle.am_group_defs.proofs.{Runs.runs_go_on, Beginnings.world_begins_after_event, Beginnings.world_begins_after_events}
pub use Rattle.am_base.proofs.{Rows.row_of_place, Rows.row_of_with_row, Rows.IsPastRow, Rows.past_row_after_entry, Rows.member_row_is_not_past, Members.fold_entries_append, Members.beginning_of_good_is_good, Order.view_key_grows_along_list}
pub use Rattle.am_base.proofs.{Order.view_below_pushed_view}
pub use Rattle.am_base.proofs.Prefixes.{beginning_is_no_longer, taken_front_begins_list, length_of_taken_list, take_length_of_beginning, shorter_beginning_begins_longer, begins_push_next_entry}
pub use Rattle.am_base.specs.Whole.{IsGoodList, key_of_stamp}
unfoldable pub use Rattle.am_base.specs.Whole.{is_member_at_end, stamp_of_list}
pub use Rattle.am_model_laws.proofs.{Held.core_of_refresh_at_end, AcceptFronts.is_satisfied_above_view, AcceptFronts.is_satisfied_below_view}
pub use Rattle.am_model_laws.specs.Laws.{AllSatisfied}
pub use Rattle.am_step_laws.proofs.{Calls.node_of_either_plan, Says.acts_after_pushed_entry, Says.is_sequencer_after_pushed_entry, Rests.is_sequencer_after_rest, Rests.HasSameStanding, Rests.with_sends_of, Items.slice_get_of_take}
pub use Rattle.am_step_laws.proofs.{Items.all_letters_with_one_more, Hearing.steps_have_effects, Hearing.hearing_has_effects, ViewSteps.plain_entry_keeps_image_view, ViewSteps.view_of_pushed_view}
pub use Rattle.am_step_laws.proofs.Trimming.Trims.{told_image_is_used, NodeTrimFronts, lower_own_report_keeps_fronts, pushed_entry_keeps_trim_fronts}
pub use Rattle.am_step_laws.proofs.ViewNames.{HeardStampsHaveNames}
pub use Rattle.am_step_laws.proofs.Numbers.Counts.{base_after_is_within}
pub use Rattle.am_step_laws.proofs.Trimming.LeaderRows.{present_row_makes_member}
pub use Rattle.am_step_laws.proofs.Trimming.LeaderRows.{least_taken_le_own_taken, data_keeps_each_member}
pub use Rattle.am_step_laws.proofs.Stamps.{stamp_at_most_then_below, stamp_not_below_itself}
pub use Rattle.am_step_laws.proofs.ViewChanges.{NodeBallotFits}
pub use Rattle.am_step_laws.proofs.{ViewChanges.next_round_is_above, ViewChanges.OpenBallotIsPromised, ViewChanges.welcomed_node_has_no_log, Named.actor_is_below_256, Views.heard_stamps_have_names, Blank.IsBlankWithoutLog}
pub use Rattle.am_step_laws.specs.{Causes.refuses, Causes.with_send, Causes.by_ack, Causes.by_nack, Causes.by_leave_ask, Causes.CauseHasReport, Looks.BeginsBy}
pub use Rattle.am_step_laws.specs.{Looks.by_reset, Changes.asks_to_leave, Changes.overtaken, Events.tick}
pub use Rattle.am_step_laws.specs.Letters.{leave_ask, MayInvite, has_begun, goes_on, MayTellResult, leads, decided}
pub use Rattle.am_step_laws.proofs.Trimming.TakenRuns.{WorldTrimsOnlyTaken, run_trims_only_taken, events_trim_only_taken, TrimsOnlyTakenAlongStep, changes_trim_only_taken, heard_welcome_image_is_used, each_node_trims_only_taken, start_trims_only_taken}
pub use Rattle.am_step_laws.proofs.Trimming.Taken.{HeardWelcomeImageIsUsed, fetched_entry_makes_no_sequencer, stamp_name_is_sender, heard_asking_is_other, sequencer_promise_is_its_view, sequencer_promise_le_view, view_of_other_never_leads}
pub use Rattle.am_repair.specs.Calm.{Repair, LeadsCalmly, IsApart, IsLeaver, IsElsewhere, is_past, FollowsView, Calm}
pub use Rattle.am_repair.specs.Calm.{ReportIs, IsCalm, SequencerHas}
pub use Rattle.am_repair.specs.Rounds.{IsOurs, ticks as our_ticks, CalmStays, RoundsStore}
pub use Rattle.am_repair.specs.Rounds.{hears as hears_}
pub use Rattle.am_repair.specs.Waves.{IsSentAfter, Polled, Reported, MissingIsAsked, IsServed, Served}
pub use Rattle.am_repair.specs.Known.{TrimsKnown, SequencersTrimKnown, KnownIsTaken}
pub use Rattle.am_repair.specs.Rows.{IsAtRest, HasReported, HasReports, FrontsRise, PacketIsReport, ack, nack, request, spread, Asks, HearsFront, FrontsAreHeard}
pub use Rattle.am_repair.specs.Rows.{GapsAreAsked, EntriesAreStored, Serves, ReportsAreTaken, NacksAreServed, ComesNext, Polls, SequencersPoll, Reports}
pub use Rattle.am_repair.specs.Rows.{MembersReport}
pub use Rattle.am_repair.specs.Claim.{MayRepair, HasCaughtUp}
pub use Rattle.am_repair.specs.Standing.{Agree, RepairsWhereListsAgree, IsBeginning, Agrees, HasLeft, OneListAgrees}
unfoldable pub use Rattle.am_repair.specs.Rows.{bcasts}
