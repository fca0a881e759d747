-- The words of this crate's proofs, of the crates and definitions that they come from.
pub use Rattle.am_step_laws.proofs.Words.{◌≡◌, ℕ, ◌+◌, ◌-◌, ◌<◌, ◌≤◌, ◌==◌, ◌&&◌, nat_le, Bool, true, false, List, [], length, take, refl, sym, ap, ◌∙◌, subst}
pub use Rattle.am_step_laws.proofs.Words.{arith, ◌∷◌, slice_index, ◌⊎◌, inl, inr, ◌||◌, ◌++◌, Some, nat_lt, ◌≢◌, not, Option, slice_get, None, zero, suc}
pub use Rattle.am_step_laws.proofs.Words.{if◌then◌else◌, max, set, get_or, unwrap_or, min, drop, map, option_map, cases_lt, nat_tests, length-map, get_or-replicate}
pub use Rattle.am_step_laws.proofs.Words.{length-take, length-set, All-head, All-tail, All-nil, All-cons, All-append, All-take, list_any-append, list_any}
pub use Rattle.am_step_laws.proofs.Words.{range_with_len, All, Entry, Report, Image, has, names_of, place_of_name, life_of_name, IsSetOfNames, name_of_place_and_life, size, names_from, rank_of_name}
pub use Rattle.am_step_laws.proofs.Words.{list_by_place, Log, top_of_log, image_of_log, members_of_image, blank_row, blank, is_blank_image, row_at_place, member_life_of_row, row_after_view, log_members_at}
pub use Rattle.am_step_laws.proofs.Words.{row_of_name, log_entry_at, log_image_at, accept_front, split_on_bool, both_of_and, Rules, MayFound, Leave, View, Data, Join, Stamp, stamps_are_equal}
pub use Rattle.am_step_laws.proofs.Words.{stamp_is_less, Row, Outcome, Vote, NodeEvent, slice_index-by_place, vote_is_less, Packet, stamp_of, union_of_members_at, CoreState, union_is_within_bound}
pub use Rattle.am_step_laws.proofs.Words.{members_of_at_row_place, unions_have_sixteen_places, member_life_is_within_union, least_of_names, least_taken_of_names, base_after_trim, count_by_of_cons, least_of_names_le_each, OwnSend, Event, Node}
pub use Rattle.am_step_laws.proofs.Words.{founder, stranger_node, founding_stamp, founders_entry, lowest_name_or_zero, view, acts_in_its_view, is_member, node_unsettled_count, has_log_by_status, Ballot}
pub use Rattle.am_step_laws.proofs.Words.{members, is_asking_status, push_entry, map_with_value, is_sequencer, other_members, waiting_send_of, life_where_name_passes, advance_node, accepted_number_of_send, settle_send_at}
pub use Rattle.am_step_laws.proofs.Words.{settle_send_where_accepted, is_unfinished_ballot, join_by_status, state_by_status, leave_by_status, answer_ask_of_ballot, give_up_in_open_ballot, member_hears_other, hears_packet_of_its_view}
pub use Rattle.am_step_laws.proofs.Words.{hears_packet_of_sequencer, member_or_asker_hears_other, BallotVerdict, overtake_lower_ballot, node_with_promise, next_stamp, need_set_of, need_set_without_given_up, restart_reports, taken_number_of_voter}
pub use Rattle.am_step_laws.proofs.Words.{own_vote, trim_to_least_taken_by, Status, StepResult, Plan, plan_without_letters, is_view, body_of_spread_send, node_of_welcomed, members_of_view_entry, tick_by_status, lowest_founder_founds, World}
pub use Rattle.am_step_laws.proofs.Words.{first_node, is_stopped, Decided, list_after_step, last_view_of, views_after, current, world_with_next_life, list_with_accepted, founders_decided}
pub use Rattle.am_step_laws.proofs.Words.{mod_sixteen_lt, row_after_pushed_view, sixteen_rows_after_entry, IsMemberRow, left_of_and, blank_image_has_nobody_joined, or_false_second_is_false, number_equals_itself, stamp_eq_gives_equality, stamp_eq_of_itself, refreshes}
pub use Rattle.am_step_laws.proofs.Words.{settles, begins_list, promises, opens, looks, stores_view, asks_to_join, MayPromise, invited, overtaken_by, told_result}
pub use Rattle.am_step_laws.proofs.Words.{IsNumberedBy, asked_send, own_send, asked_join, asked_leave, MayBeWelcomed, MayStoreFetched, CarriesEntry, whole_entry, by_number, Change}
pub use Rattle.am_step_laws.proofs.Words.{takes_report, admits, keeps_body, notes, queues, collects, takes, without_ballot, unchanged, changed, refresh_rests_with_list}
pub use Rattle.am_step_laws.proofs.Words.{settle_changes_only_sends, end_refresh_rests_with_list, refresh_changes_only_fronts, Cause, hears, CauseHasSend, by_request, by_spread, BallotIsLookedAt, LooksAtBallot, finds_itself_out}
pub use Rattle.am_step_laws.proofs.Words.{waits, fetches_from_best, finds_too_few, finds_no_room, decides, with_more, without_one, as_it_is, HasOpenBallot, item_of_index_has_property}
pub use Rattle.am_step_laws.proofs.Words.{slice_get_of_front, slice_get_of_pushed, member_status_has_log, image_of_pushed_entry, view_of_pushed_plain_entry, acting_name, idles, returns, steps, entry_at_number_of_log, request, spread, bcast}
pub use Rattle.am_step_laws.proofs.Words.{order, hold, join_ask, welcome, gone, invite, vote, fetch, piece, result, MayWelcome, just_joined, asks_again}
unfoldable pub use Rattle.am_step_laws.proofs.Words.{image_after_entries, after, fits, raise_accepted_to_told, pass_over_below_join, raise_own_report, tell_accept_front, advance_with_reports, trim_to_least_taken, names_that_pass, refresh_as_sequencer, refresh, settle_waiting_send}
unfoldable pub use Rattle.am_step_laws.proofs.Words.{refresh_at_end, send_row, take_row, join_row, state_row, leave_row, reset_row, ask_row, give_up_row, done_row}
unfoldable pub use Rattle.am_step_laws.proofs.Words.{hear_row, best_vote_for_ballot, finish, tick_row, row, step, hear_packet, hear_refused_bytes, world_with_step, world_with_record}
pub use Rattle.am_step_laws.proofs.EffectWords.{Ok, Err, is_some, not-true, eq-eqb, slice_get_within, without_name, fold_append, Read, reading, slice_get-drop}
pub use Rattle.am_step_laws.proofs.EffectWords.{item_at, has_departed, set_of_one_name, has_own_leave, is_waited_for, may_fetch, Departed, row_of_read_bytes, asks_to_leave}
pub use Rattle.am_step_laws.proofs.EffectWords.{MayStore, overtaken, MayReport, CauseHasReport, with_send, by_ack, by_nack, by_leave_ask, CauseHasFronts, with_entry}
pub use Rattle.am_step_laws.proofs.EffectWords.{with_number, alone, HasLearned, leads, decided, ack, nack, leave_ask}
pub use borrow.Enum.Arm.{by_way as either}
pub use Rattle.std.{proofs.Common.count_by, proofs.Common.append-nil, proofs.Math.Bool.and-false, proofs.Math.Seq.take-append-add}
pub use Rattle.std.{proofs.Math.Seq.drop-append-add, proofs.Math.Seq.drop-append_seam, proofs.lemmas.Bool.leb-true, proofs.lemmas.Bool.eqb-false}
pub use Rattle.std.{proofs.lemmas.Bool.eqb-true, proofs.lemmas.Grind.flat_map-append, specs.List.list_all}
pub use Rattle.std.proofs.lemmas.List.{length-append, append_assoc, get_or-set_other, take-append-drop}
pub use Rattle.am_base.specs.declared.entry.GroupView.{GroupView}
pub use Rattle.am_base.specs.{Names.names_are_within, Lists.image_with_row, Lists.requests_of_sender, Lists.request_of_sender_in_entry, Stamps.no_stamp}
pub use Rattle.am_base.specs.Fronts.{counting_names_at, needed_count_at, holder_count_at, is_held, is_satisfied, is_acceptable_front, counting_names_of_entry}
pub use Rattle.am_base.specs.declared.event.NodeEvent.TheVariants.{Done, State, Ask, GiveUp, Tick, Hear}
pub use Rattle.am_packet.specs.declared.packet.Packet.TheVariants.{Request, Spread, Bcast, Order, Accept, Ack, Nack, Welcome, LeaveAsk, Gone, Vote as VoteOf}
pub use Rattle.am_packet.specs.declared.packet.Packet.TheVariants.{Fetch, Piece, Result}
pub use Rattle.am_node_defs.proofs.Ranges.{range_passes_at_each}
pub use Rattle.am_node_defs.specs.Reports.{reports_after_report, reports_with_joiner, reports_beginning_at}
pub use Rattle.am_node_defs.proofs.{Again.greatest_within_bounds, Again.greatest_passes_test, Views.view_number_only_grows}
pub use Rattle.am_group.specs.declared.event.Record.{Record}
pub use Rattle.am_model.specs.{Refresh.concerned_names, Ballots.ballot_with_end, Ballots.has_voted, Joining.all_others_stored}
pub use Rattle.am_model.proofs.Sets.{occupied_place_counts_in_size, set_with_name_has_size, passing_name_is_in_those}
pub use Rattle.am_group_defs.specs.{Claims.line_of, Lawful.whole, Lawful.is_view_of}
unfoldable pub use Rattle.am_group_defs.specs.Claims.{up_to_next, up_to_view}
pub use Rattle.am_base.specs.Whole.{IsBeginningOf, image_of_list, IsGoodList, IsProperBeginningOf, IsNotView}
unfoldable pub use Rattle.am_base.specs.Whole.{is_member_at_end, stamp_of_list, key_of_stamp, resilience_of_list}
pub use Rattle.am_base.proofs.Prefixes.{taken_front_begins_list, begins_through_both, shorter_beginning_begins_longer, beginning_is_no_longer, length_of_taken_list, list_begins_itself, empty_list_begins_all, front_begins_append, shorter_beginning_is_below}
pub use Rattle.am_base.proofs.Prefixes.{proper_beginning_is_shorter, length_of_pushed_list, begins_push_or_is_push, take_length_of_beginning, begins_not_longer_is_same, begins_push_next_entry, entry_after_beginning}
pub use Rattle.am_base.proofs.Members.{beginning_of_good_is_good, member_of_both_is_between, member_of_pushed_view_members, image_has_sixteen_rows, image_after_pushed_entry, member_has_member_row, member_row_gives_member, leaver_is_no_member, last_entry_fits, empty_list_has_no_member, name_in_view_is_member}
pub use Rattle.am_base.proofs.Members.{was_member_in_longer_list, pushed_list_is_good, leaver_was_member, member_stays_by_push}
pub use Rattle.am_base.proofs.Rows.{le_or_gt, row_of_place, row_of_with_row, place_and_life_give_name, IsPastRow, WasMemberRow, past_row_after_entry, member_row_is_not_past, view_fits_parts}
pub use Rattle.am_base.proofs.Order.{equal_keys_have_equal_names, view_key_grows_along_list, key_is_less_for_lesser_stamp, name_of_view_is_byte, view_after_pushed_view, view_stays_by_pushed_non_view, view_below_pushed_view}
pub use Rattle.am_model_laws.proofs.BestVotes.{best_vote_is_greatest}
pub use Rattle.am_step_laws.proofs.{Resets.hearing_member_is_member, Rests.is_sequencer_after_rest, Items.slice_get_after_push, Says.is_sequencer_after_pushed_entry}
pub use Rattle.am_step_laws.specs.Letters.{MayTellResult, MayFetch}
pub use Rattle.am_step_laws.proofs.Trimming.LeaderRows.{first_view_has_its_members}
pub use Rattle.am_step_laws.proofs.Stamps.{unordered_stamps_are_equal}
pub use Rattle.am_step_laws.proofs.ViewSteps.{plain_entry_keeps_image_view, image_after_view_has_it}
pub use Rattle.am_step_laws.proofs.ViewChanges.{numbered_entry_is_no_view}
pub use Rattle.am_step_laws.proofs.ViewChanges.{OpenBallotIsPromised, balloting_looks_at_open_ballot, asking_node_has_no_log}
pub use Rattle.am_step_laws.proofs.Trimming.Taken.{known_name_is_member, leave_of_member_fits}
pub use Rattle.am_step_laws.proofs.Trimming.Taken.{balloting_has_no_own_vote, own_best_list_needs_members, selected_name_keeps_its_life}
pub use Rattle.am_step_laws.proofs.Trimming.Trims.{told_image_is_used}
pub use Rattle.am_step_laws.proofs.Trimming.TakenRuns.{TrimsOnlyTakenAlongStep, changes_trim_only_taken}
pub use Rattle.am_step_laws.proofs.Named.{change_keeps_name}
pub use Rattle.am_step_laws.proofs.Trimming.ViewMembers.{length_of_selection, members_after_view, selected_place_same_or_empty}
pub use Rattle.am_step_laws.proofs.Bounds.Limits.{selection_of_set_is_set}
pub use Rattle.am_abstract_group.specs.{Kept.GroupKeeps, Runs.IsLawful, Runs.first_choice, Runs.more, Runs.counts_for, Runs.founded, Runs.group_start, Runs.first_stamp}
pub use Rattle.am_abstract_group.specs.Group.{count_of_passing_names, counting_names_in, IsHeld, MayAccept, Group, IsUp, chain_of, function_with_value_of_two, list_with_chosen_view, IsNoBetterList, IsThere, Views, Chosen, IsOngoing}
pub use Rattle.am_abstract_group.specs.Moves.{CoordinatorMayDecide, ShowedNoBetterList, group_with_choice, chosen_by, next_own_stamp, node_with_entry, Move, IsGreaterBegunStamp, MayDepart, group_with_node, group_with_line, numbers}
pub use Rattle.am_abstract_group.specs.Moves.{stores, accepts, learns, begins, raises, shows, serves, fetches, gives_over, welcomes, asks, departs, closes, stops}
pub use Rattle.am_abstract_group.specs.Moves.{MayNumber}
unfoldable pub use Rattle.am_abstract_group.specs.Group.{function_with_value, count_of_passing_below}
pub use Rattle.am_abstract_group.proofs.{Start.start_group_is_kept, Puts.put_at_same_index, Puts.put_keeps_property, Puts.put2_at_same_or_other, Puts.count_lt_of_weaker_test, Puts.count_le_of_weaker_test, Puts.put_at_other_index}
pub use Rattle.am_abstract_group.proofs.{Puts.put_at_same_or_other, Nodes.own_stamp_is_above_promise, Heart.deciding_ballot_is_ok, Heart.deciding_list_begins_chain, Heart.departed_leave_in_deciding_list, Decide.group_begins_deciding_list, Runs.group_run_is_kept_lawful}
pub use Rattle.am_abstract_group.proofs.Turns.{standing_request_is_within_count, next_request_after_whole_list}
pub use Rattle.am_run_laws.proofs.SentChanges.{FoundBodyWasSent, found_body_was_sent, CauseCarriesSentBodies, change_keeps_sent_bodies}
pub use Rattle.am_run_laws.proofs.{Turns.waiting_send_has_next_request, Turns.turn_with_one_more_send, Turns.turn_after_settled_send, Turns.turn_after_collect, Says.only_name_has_just_itself, Actors.group_after_of_low_accepted as no_more_group}
pub use Rattle.am_run_laws.proofs.{UnballotedChanges.accepted_at_gives_found_send}
unfoldable pub use Rattle.am_run_laws.proofs.Turns.{UnsettledSendsAreInTurn}
pub use Rattle.am_refinement.specs.{Growing.NewView, Growing.NameGrows, Growing.Grows, Growing.MovesGrow, Growing.LettersStay, Moving.NamesNamed, Moving.MoveIsSound}
pub use Rattle.am_refinement.specs.{Moving.Moves, Moving.none, Moving.moves, Moving.MovesLeadTo, Moving.AllVoted, Lawful.IsNoStop, Lawful.LawfulRunsGoOn}
pub use Rattle.am_refinement.specs.Standing.{NameStands, Stands, StandsBut, within, FrontsStand, NotedStands, ViewsStand, BeginsIn, StartStands}
pub use Rattle.am_refinement.specs.States.{Reporting, IsConcerned, ReportsStand, LeftOutHaveStopped, BodiesAsked, SendsOnce, FetchesStand, ReportsFresh, OpensStand, JoinIsNew}
pub use Rattle.am_refinement.specs.States.{RunsLeaveOut, LineOpens, LinesOpen, RunsOpen, OwnDecided, HasRound, RoundsAreSet, RunsHaveRounds, VotesStand}
pub use Rattle.am_refinement.specs.Accepting.{MayCount, RefreshAccepts, CountsNames, CountsAmong, ComesToBeforeEnd, ClosingAccepts, SequencersWord, nothing, of_sequencer}
pub use Rattle.am_refinement.specs.Accepting.{AcceptsAndLearns, RefreshLearns}
pub use Rattle.am_refinement.specs.Keeping.{GroupFor, NodeStandsKept, StartKeeps, BallotStands, LastStands, Stepping, Ballots, HeardSo, IsPlainOnEnd, OwnTurn, GroupOk}
pub use Rattle.am_refinement.specs.Keeping.{OthersKeep, RefreshesKeep, Refreshing, PlainChangesKeepStepping, Next}
pub use Rattle.am_refinement.specs.Branches.{OnBranch, on_chain, left_out, BranchesAreSound, MovesBranch, DecisionsAreNew, BranchesBegin, MovesNamed}
pub use Rattle.am_refinement.specs.Steps.{MayMove, NeedsLook, after_look, ChangesStand, NeedsDecision, world_noting, MeetsNeedsOfNumbering, IsOthers, NeedsEntry, NeedsPiece}
pub use Rattle.am_refinement.specs.Steps.{NeedsWelcome, FrontsBegin, EventsStand, EventStands, no_move, stop, WasBegun, Needs, FrontsStay, of_line as of_its_line}
pub use Rattle.am_refinement.specs.Steps.{of_shown as of_its_shown, after_change}
pub use Rattle.am_refinement.specs.Sending.{RowsLive, KeptWhole, ListBegins, as_before, just_begun, Sender, ShowsMore, SaysSo, SentSays, DepartedSilent}
pub use Rattle.am_refinement.specs.Letters.{GoneSays, has_stopped, may_go, Trimmed, line, IsDecided, EntrySays, OrderSays, LeaverSays, of_view, before_it}
pub use Rattle.am_refinement.specs.Letters.{ResultSays, WasAsked, VoteTells, AllShown, SequencerSays, ReportSays, WelcomeSays, WelcomeTo, has_begun, has_gone}
pub use Rattle.am_refinement.specs.Letters.{has_left, is_leaving, may_begin, VoteSays, own, tells, over as over_vote, FetchSays, for_ballot, of_promise, PieceSays}
pub use Rattle.am_refinement.specs.Letters.{of_line, of_shown, over, ShownEntry, PacketSays}
pub use Rattle.am_refinement.specs.Ends.{NeedsClose, after_closing, CloseStands, GroupAccepts, no_more, rises, Learns, departed, bare, before_end, EndsStand, MayLearn}
pub use Rattle.am_model.specs.Ballots.{decided_view}
pub use Rattle.am_model.specs.Node.{founding_view}
