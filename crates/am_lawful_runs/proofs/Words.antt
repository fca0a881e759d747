-- The words of this crate's proofs, of the crates and definitions that they come from.
pub use Rattle.am_run_laws.proofs.UnballotedWords.{◌≡◌, ℕ, zero, suc, ◌<◌, ◌≤◌, ◌==◌, true, List, [], ◌∷◌, ◌++◌, length, take, None, Some, refl, sym, ap, ◌∙◌}
pub use Rattle.am_run_laws.proofs.UnballotedWords.{arith, ◌⊎◌, inl, inr, ◌+◌, ◌-◌, max, ◌&&◌, not, nat_lt, Bool, if◌then◌else◌, slice_index, length-append, false}
pub use Rattle.am_run_laws.proofs.UnballotedWords.{slice_get, ◌||◌, Option, nat_le, ◌≢◌, append-nil, append_assoc, drop, min, find, nat_tests, take-append-drop}
pub use Rattle.am_run_laws.proofs.UnballotedWords.{length-take-le, All-nil, All-cons, All-push, All-filter, All-map, All-weaker, All-append, slice_get-get_or}
pub use Rattle.am_run_laws.proofs.UnballotedWords.{slice_get_within, list_any, flat_map, All, View, Leave, Data, Join, Rules, MayFound, has, place_of_name, life_of_name}
pub use Rattle.am_run_laws.proofs.UnballotedWords.{split_on_bool, both_of_and, Entry, Image, Row, Stamp, Outcome, Log, blank_row, log_image_at, top_of_log, after, image_of_log, blank}
pub use Rattle.am_run_laws.proofs.UnballotedWords.{AllEntriesFit, fits, log_entry_at, stamps_are_equal, stamp_is_less, Packet, Letter, goes_to_any, entry_at_is_slice_get, CoreState, slice_get-drop}
pub use Rattle.am_run_laws.proofs.UnballotedWords.{OwnSend, Event, item_at, letter_at, Record, Act, is_for, deliveries, acting_name_of_record, entry_taken_by_outcome, entries_given_to, slice_get_of_append_front}
pub use Rattle.am_run_laws.proofs.UnballotedWords.{slice_get_of_append_back, founding_stamp, Node, Ballot, top, push_entry, view, is_member, acts_in_its_view, founder, subst, founders_entry}
pub use Rattle.am_run_laws.proofs.UnballotedWords.{has_log_by_status, is_asking_status, is_sequencer, waiting_send_of, trim_node_up_to, stranger_node, lowest_founder_founds, BallotVerdict, Status, StepResult}
pub use Rattle.am_run_laws.proofs.UnballotedWords.{member_hears_other, hears_packet_of_its_view, hears_packet_of_sequencer, node_of_welcomed, advance_node, settle_send_where_accepted, settle_send_at, accepted_number_of_send}
pub use Rattle.am_run_laws.proofs.UnballotedWords.{is_view, body_of_spread_send, Departed, World, start, run, record_of, list_after_step, packet_heard_by_act, BeginsAt, accepted_sends}
pub use Rattle.am_run_laws.proofs.UnballotedWords.{IsGoodList, IsBeginningOf, is_member_at_end, begins_push_next_entry, taken_front_begins_list, length_of_taken_list, length_of_pushed_list, begins_not_longer_is_same, beginning_of_good_is_good, image_has_sixteen_rows}
pub use Rattle.am_run_laws.proofs.UnballotedWords.{image_after_pushed_entry, member_has_member_row, member_row_gives_member, row_of_place, Cause, hears, LooksAtBallot, CarriesEntry, whole_entry, by_number, Change, refreshes}
pub use Rattle.am_run_laws.proofs.UnballotedWords.{settles, numbers, stores, begins_list, looks, fetches, stores_view, closes, Changes, unchanged, changed, accepted_send_of_outcome}
pub use Rattle.am_run_laws.proofs.UnballotedWords.{MayBeWelcomed, queues, collects, takes, asks_to_join, asks_to_leave, refresh_rests_with_list, settle_changes_only_sends, Says, bcast}
pub use Rattle.am_run_laws.proofs.UnballotedWords.{piece, result, LetterSays, IsCause, WasSentTo, acting_name, IsIdle, EventHappens, idles, returns, steps, item_of_index_has_property, slice_get_of_front}
pub use Rattle.am_run_laws.proofs.UnballotedWords.{slice_get_of_pushed, member_status_has_log, asking_status_has_no_log, events_have_effects, runs_keep_what_events_keep, welcomed_node_is_asking, Effect, OutcomeTells, HasTakenEntry, AnswersAsk}
pub use Rattle.am_run_laws.proofs.UnballotedWords.{WasSettled, node_bounds_hold_in_runs, sends_of_sender_in_order, each_send_stands_once, bodies_were_sent_in_runs, take-append-le, order}
unfoldable pub use Rattle.am_run_laws.proofs.UnballotedWords.{raise_accepted_to_told, pass_over_below_join, raise_own_report, tell_accept_front, advance_with_reports, refresh_as_sequencer, refresh, settle_waiting_send, refresh_at_end, world_with_step}
unfoldable pub use Rattle.am_run_laws.proofs.UnballotedWords.{world_with_record}
pub use Rattle.am_refinement.proofs.Words.{either, count_by, eqb-true, not-true, length-map, list_any-append, size, IsSetOfNames, name_of_place_and_life, names_from, names_of}
pub use Rattle.am_refinement.proofs.Words.{member_life_of_row, members_of_image, log_members_at, count_by_of_cons, lowest_name_or_zero, has_departed, node_unsettled_count, has_own_leave, names_that_pass}
pub use Rattle.am_refinement.proofs.Words.{need_set_of, need_set_without_given_up, trim_to_least_taken_by, node_with_promise, restart_reports, best_vote_for_ballot, is_waited_for, is_unfinished_ballot, Plan, plan_without_letters, Decided}
pub use Rattle.am_refinement.proofs.Words.{first_node, founders_decided, current, is_stopped, views_after, world_with_next_life, list_with_accepted, is_view_of, whole, line_of, key_of_stamp}
pub use Rattle.am_refinement.proofs.Words.{IsProperBeginningOf, list_begins_itself, empty_list_begins_all, shorter_beginning_begins_longer, beginning_is_no_longer, begins_through_both, front_begins_append, member_of_pushed_view_members, IsMemberRow, sixteen_rows_after_entry}
pub use Rattle.am_refinement.proofs.Words.{le_or_gt, mod_sixteen_lt, equal_keys_have_equal_names, view_stays_by_pushed_non_view, view_after_pushed_view, key_is_less_for_lesser_stamp, name_of_view_is_byte, view_key_grows_along_list, view_below_pushed_view, decides, end_refresh_rests_with_list}
pub use Rattle.am_refinement.proofs.Words.{refresh_changes_only_fronts, image_of_pushed_entry, stamp_eq_gives_equality, number_equals_itself, TrimsOnlyTakenAlongStep, told_image_is_used, length_of_selection, Group, chain_of, IsUp, count_of_passing_names}
pub use Rattle.am_refinement.proofs.Words.{list_with_chosen_view, IsThere, function_with_value, Chosen, founded, counts_for, IsLawful, more, Move, group_with_node, gives_over, stops, chosen_by}
pub use Rattle.am_refinement.proofs.Words.{node_with_entry, learns, begins, raises, welcomes, asks, departs, GroupKeeps, put_at_same_or_other, put_at_other_index, put_at_same_index, group_run_is_kept_lawful, accepted_at_gives_found_send}
pub use Rattle.am_refinement.proofs.Words.{NamesNamed, Moves, none, moves, MoveIsSound, GroupFor, NodeStandsKept, GroupOk, PacketSays, PieceSays, WelcomeSays, WelcomeTo}
pub use Rattle.am_refinement.proofs.Words.{has_begun, has_gone, has_left, is_leaving, may_begin, Grows, EventStands, no_move, stop, NameStands, NotedStands, Stands}
pub use Rattle.am_refinement.proofs.Words.{FrontsStand, LinesOpen, OnBranch, on_chain, left_out, BranchesAreSound}
unfoldable pub use Rattle.am_refinement.proofs.Words.{finish, hear_row, hear_packet, hear_refused_bytes, up_to_view, up_to_next, stamp_of_list, count_of_passing_below}
pub use Rattle.am_refinement.proofs.WholeSteps.StepWords.{image_of_node, packet_length, node_with_noted_fronts, world_after_hearing, hear_cut, world_after_act, EndOfStep, let_go, closing, HeardWelcomeImageIsUsed, each_node_trims_only_taken}
pub use Rattle.am_refinement.proofs.WholeSteps.StepWords.{heard_welcome_image_is_used, run_trims_only_taken, HeardStampsHaveNames, change_keeps_stamp_names, NodePartsHaveNames, change_keeps_list_and_ballot, NodeBallotFits, number_bounds_hold_in_runs, heard_stamps_have_names, NotedViewStandsInLog}
pub use Rattle.am_refinement.proofs.WholeSteps.StepWords.{WorldNotesViewsOnce, events_note_views_once, start_notes_views_once, actor_is_below_256, nil_from_length, group_goes_on_by_moves, group_grows_to_itself, Following, StepsMove}
pub use Rattle.am_refinement.proofs.WholeSteps.StepWords.{departed_nodes_are_silent, letters_stay_as_group_grows, other_nodes_keep_through_change, take_of_longer_list, member_has_not_departed}
unfoldable pub use Rattle.am_refinement.proofs.WholeSteps.StepWords.{happens}
pub use Rattle.std.{proofs.lemmas.List.take_all, proofs.lemmas.List.get_or-map, proofs.lemmas.List.Sums.count_by-le-length, proofs.lemmas.List.Sums.sum_by-cons}
pub use Rattle.std.{specs.Prelude.Contains, specs.Prelude.slice_index_or}
pub use Rattle.am_base.specs.declared.entry.GroupView.{GroupView}
pub use Rattle.am_base.specs.Lists.{log_with_entry}
pub use Rattle.am_node_defs.proofs.Ends.{image_at_below_push, image_at_top_is_told}
pub use Rattle.am_model.specs.{Node.has_room, Node.number_is_within_bound, Ballots.verdict_ending, Ballots.decide_view, Calls.node_with_queued_send, Receiving.store_numbered_entry}
pub use Rattle.am_model.specs.{Receiving.receive_entry, Receiving.data_entry_of}
pub use Rattle.am_model.specs.Resets.{push_fetched, catch_up, look_at_ballot_anew, fetches_from, piece_promised, piece_for}
unfoldable pub use Rattle.am_model.specs.{Ballots.decide, Receiving.bcast_row, Receiving.order_row, Resets.piece_row, Resets.result_row}
unfoldable pub use Rattle.am_group_defs.specs.{World.world_after_events, Lawful.watch_events, Lawful.is_complete, Lawful.is_lawful, Lawful.greatest_complete, Lawful.watch_event}
pub use Rattle.am_group_defs.specs.Lawful.{Watch, watch_run, watch_start, broken_at, lawful_front, greater_complete, first_unlawful_event_so_far, counts_for_view, is_counted_loss, has_stored, lags_behind_view}
pub use Rattle.am_group_defs.specs.Claims.{BecameComplete, FitsView, ViewsFit, Segment, KeepsView, Holds, HeadlineHolds}
pub use Rattle.am_group_defs.proofs.{Runs.front_is_lawful, Runs.watched_is_run, Runs.one_record_each, Runs.runs_go_on, Beginnings.run_begins_longer_run}
pub use Rattle.am_base.proofs.{Rows.member_row_has_view_life, Order.stamp_lt_of_key_lt}
pub use Rattle.am_step_laws.specs.Courses.{at_end}
pub use Rattle.am_step_laws.proofs.Tests.{or_false_first_is_false}
pub use Rattle.am_step_laws.proofs.Changes.{change_keeps_node_bounds}
pub use Rattle.am_step_laws.proofs.Blank.{change_keeps_list_blank, status_without_log_is_nonmember, IsBlankWithoutLog, blank_lists_hold_in_runs}
pub use Rattle.am_step_laws.proofs.Trimming.Taken.{change_keeps_trimmed_taken}
pub use Rattle.am_step_laws.proofs.Trimming.Trims.{NodeTrimFronts}
pub use Rattle.am_step_laws.proofs.Fronts.{lawful_front_begins_run}
pub use Rattle.am_step_laws.proofs.Numbers.CallCounts.{no_waiting_send_after_filter}
pub use Rattle.am_step_laws.proofs.Watching.Watched.{watch_all_with_one_more}
pub use Rattle.am_step_laws.proofs.Watching.Lists.{lists_only_grow_in_runs}
pub use Rattle.am_step_laws.proofs.ViewChanges.{sequencer_is_member}
pub use Rattle.am_step_laws.specs.Blank.{IsBlank}
pub use Rattle.am_abstract_group.specs.Runs.{GroupMayBegin, ViewCompletes, Run}
pub use Rattle.am_run_laws.specs.Ballots.{IsOfBallot, LastBallotIsSound}
pub use Rattle.am_run_laws.proofs.Ballots.{ballots_are_of_own_names}
pub use Rattle.am_run_laws.proofs.{Lists.item_at_is_slice_get, Lists.item_at_number_is_within, Lists.item_at_of_appended, Lists.slice_get_is_item_at, Lists.item_at_of_take, Steps.outcome_takes_nothing_or_entry, Steps.given_with_next_entry}
pub use Rattle.am_run_laws.proofs.{Worlds.AcceptedSendStandsAt, Worlds.GivenAreListEntries, Worlds.start_of_joined_list, Worlds.WelcomeRecordTellsEarlierLetter, Goes.set_node_keeps_others_property, UnballotedKept.AcceptedStandsAt, UnballotedKept.ListBeginsAtJoin}
pub use Rattle.am_run_laws.proofs.{UnballotedKept.SettledSendStands, UnballotedKept.sends_settled_in_longer_list, Welcomes.step_record_tells_earlier_letter, Welcomes.welcomes_after_step, UnballotedKept.OwnSendIsSettledRight}
pub use Rattle.am_run_laws.proofs.Chains.{still_change_gives_nothing, front_after_pass_over, front_of_given, GaveByAnswer, nothing, took, began, taken_below_accepted_passes_low, welcome_gives_begun_list, departed_member_has_log_still}
pub use Rattle.am_run_laws.proofs.Records.{idle_outcome_takes_nothing, idle_outcome_welcomes_nobody, idle_outcome_sends_nothing, deliveries_of_pushed_record, record_of_nothing_keeps_given, record_of_other_gives_nothing, record_without_take_gives_nothing, given_holds_in_longer_list, accepted_sends_in_longer_list}
pub use Rattle.am_run_laws.proofs.Records.{accepted_sends_with_next_record, welcomes_in_record, welcomes_of_pushed_record, record_without_welcome_welcomes_none, record_of_other_welcomes_none, record_holds_with_more_letters}
pub use Rattle.am_refinement.proofs.NodeKeeping.Begun.{first_nodes_keep_at_start}
pub use Rattle.am_refinement.proofs.Branches.{branches_begin_chain, is_up_of_same_flags}
pub use Rattle.am_refinement.proofs.Onward.{group_run_is_kept, group_goes_on_by_move}
pub use Rattle.am_refinement.proofs.Start.{group_stands_at_start}
pub use Rattle.am_refinement.proofs.{Pieces.plain_entry_is_not_view as not_view, Changes.image_of_whole_list, Changes.length_of_whole_list, Parts.view_number_le_length, Parts.image_at_of_whole_list, Events.record_keeps_group_standing}
pub use Rattle.am_refinement.proofs.Events.{stop_keeps_group_standing, return_keeps_group_standing}
pub use Rattle.am_refinement.proofs.Membership.Joins.{BecameMemberBy, stayed, joins, founds, new_member_came_by_entry}
pub use Rattle.am_refinement.proofs.Membership.Joins.{blank_image_is_of_nil}
pub use Rattle.am_refinement.proofs.Counting.{count_is_monotone, passing_names_le_all_passing, names_of_set_le_size, set_name_is_below_256}
pub use Rattle.am_refinement.proofs.Opens.{group_runs_keep_lines_open}
pub use Rattle.am_refinement.proofs.Opens.{moves_keep_lines_open}
pub use Rattle.am_refinement.proofs.Growing.{name_grows_to_itself, growing_names_grow_group, growing_node_grows_group}
pub use Rattle.am_refinement.proofs.WholeSteps.StepSilent.{departed_step_sends_no_letters}
pub use Rattle.am_refinement.proofs.WholeSteps.Courses.{departed_status_is_departed}
pub use Rattle.am_refinement.proofs.WholeSteps.Steps.{steps_are_group_moves, deeds_keep_undeparted}
pub use Rattle.am_refinement.specs.Branches.{ChainNamed}
pub use Rattle.am_model.specs.Ballots.{decided_view}
pub use Rattle.am_model.specs.Node.{founding_view}
