-- The words of this crate's proofs, of the crates and definitions that they come from.
pub use Rattle.am_refinement.proofs.Words.{◌≡◌, List, ℕ, zero, suc, ◌+◌, ◌-◌, ◌<◌, ◌≤◌, ◌==◌, ◌||◌, not, nat_le, true, false, [], ◌∷◌, Some, slice_get, refl, sym}
pub use Rattle.am_refinement.proofs.Words.{ap, ◌∙◌, subst, arith, nat_lt, Bool, length, ◌⊎◌, inl, inr, either, max, ◌++◌, ◌≢◌, ◌&&◌, take, drop, append-nil, Option}
pub use Rattle.am_refinement.proofs.Words.{None, if◌then◌else◌, slice_index, not-true, nat_tests, length-take, All-nil, All-append, All-cons, All-head, All-tail}
pub use Rattle.am_refinement.proofs.Words.{list_any-append, list_any, All, Rules, MayFound, Stamp, Image, Entry, View, Leave, Data, Outcome, stamps_are_equal, stamp_is_less}
pub use Rattle.am_refinement.proofs.Words.{no_stamp, Log, top_of_log, image_of_log, log_entry_at, after, members_of_image, split_on_bool, both_of_and, size, place_of_name, life_of_name, has, Report}
pub use Rattle.am_refinement.proofs.Words.{NodeEvent, GiveUp, Packet, stamp_of, CoreState, view_number_only_grows, Event, Record, item_at, Node, Ballot, view, acts_in_its_view, is_member}
pub use Rattle.am_refinement.proofs.Words.{is_asking_status, is_sequencer, other_members, push_entry, has_departed, has_log_by_status, map_with_value, lowest_name_or_zero, BallotVerdict, trim_to_least_taken_by, need_set_without_given_up}
pub use Rattle.am_refinement.proofs.Words.{need_set_of, overtake_lower_ballot, is_view, StepResult, Status, is_unfinished_ballot, member_hears_other, member_or_asker_hears_other, hears_packet_of_its_view, hears_packet_of_sequencer}
pub use Rattle.am_refinement.proofs.Words.{refresh, settle_waiting_send, step, hear_packet, hear_refused_bytes, Departed, World, list_after_step, Decided, last_view_of, views_after, list_with_accepted}
pub use Rattle.am_refinement.proofs.Words.{current, is_stopped, up_to_next, stamp_of_list, IsBeginningOf, name_of_view_is_byte, list_begins_itself, acting_name, steps, idles, returns, stamp_eq_gives_equality}
pub use Rattle.am_refinement.proofs.Words.{stamp_eq_of_itself, Cause, hears, by_request, CauseHasReport, with_send, CauseHasFronts, with_number, alone, with_entry, LooksAtBallot}
pub use Rattle.am_refinement.proofs.Words.{finds_itself_out, BallotIsLookedAt, with_more, without_one, as_it_is, waits, fetches_from_best, finds_too_few, finds_no_room}
pub use Rattle.am_refinement.proofs.Words.{decides, Change, refreshes, settles, begins_list, promises, opens, looks, stores_view, unchanged, changed, MayPromise}
pub use Rattle.am_refinement.proofs.Words.{invited, overtaken, told_result, CarriesEntry, whole_entry, by_number, takes_report, admits, keeps_body, notes, queues}
pub use Rattle.am_refinement.proofs.Words.{collects, takes, asks_to_join, asks_to_leave, overtaken_by, refresh_rests_with_list, settle_changes_only_sends, end_refresh_rests_with_list, is_sequencer_after_rest}
pub use Rattle.am_refinement.proofs.Words.{is_sequencer_after_pushed_entry, member_status_has_log, item_of_index_has_property, asking_node_has_no_log, numbered_entry_is_no_view, balloting_looks_at_open_ballot, OpenBallotIsPromised, TrimsOnlyTakenAlongStep, changes_trim_only_taken, unordered_stamps_are_equal}
pub use Rattle.am_refinement.proofs.Words.{Group, chain_of, IsUp, IsThere, node_with_entry, group_with_node, GroupKeeps, put_at_same_index, CauseCarriesSentBodies, NameStands, StandsBut, Stands, within}
pub use Rattle.am_refinement.proofs.Words.{FrontsStand, ViewsStand, CountsNames, ComesToBeforeEnd, nothing, of_sequencer, MayCount, SequencersWord, AcceptsAndLearns, NeedsClose}
pub use Rattle.am_refinement.proofs.Words.{after_closing, NamesNamed, MovesLeadTo, Moves, none, moves, MayMove, after_change, after_look, FrontsStay, WasBegun, Stepping}
pub use Rattle.am_refinement.proofs.Words.{HeardSo, GroupFor, NodeStandsKept, Grows, SequencerSays, WasAsked, AllShown, PacketSays, ShowsMore, Sender, ListBegins}
pub use Rattle.am_refinement.proofs.Words.{just_begun, Reporting, SendsOnce, OwnDecided, FetchesStand}
unfoldable pub use Rattle.am_refinement.proofs.Words.{image_after_entries, refresh_at_end, world_with_record, world_with_step, key_of_stamp}
pub use Rattle.am_step_laws.proofs.Words.{length-append, All-weaker, empty_set_of_names, Letter, Act, is_for, letter_at, top, image_of_node, node_with_report, node_with_noted_fronts, packet_length}
pub use Rattle.am_step_laws.proofs.Words.{start, run, world_after_hearing, hear_cut, world_after_act, packet_heard_by_act, IsCall, IsCause, stops, WasSentTo, EventsKeep, runs_keep_what_events_keep, changes_keep_property}
pub use Rattle.am_step_laws.proofs.Words.{calls, closes, Changes, numbers, stores, departs, fetches, all_gives_item_at, Effect, EachNodeHas, events_keep_each_node, first_node_has_property}
unfoldable pub use Rattle.am_step_laws.proofs.Words.{happens}
pub use Rattle.std.{proofs.Common.append_assoc, proofs.Common.get_or-set_same, proofs.Math.Seq.take-add, proofs.lemmas.List.Elements.All-push}
pub use Rattle.std.proofs.lemmas.List.{length-drop, drop-drop, drop-append-le, take-append-le, nil_from_length}
pub use Rattle.am_base.specs.Names.{with_name}
pub use Rattle.am_packet.specs.Kinds.{goes_to_any, kind_of}
pub use Rattle.am_group_defs.specs.World.{record_of, world_after_node_event, world_after_give_up, world_after_return}
pub use Rattle.am_step_laws.specs.{Causes.with_entry as by_entry, Effects.OutcomeTells, Effects.WasQueued, Effects.AnswersAsk}
pub use Rattle.am_step_laws.specs.Looks.{MayLookAtBallot, was_reset, was_fetched, BeginsBy, by_reset}
pub use Rattle.am_step_laws.specs.Courses.{IsPlainChange, PlainChangesInTurn, nothing_yet, used_report, and_then, ChangesWithLook, plainly, looked, EndOfStep, at_end as ends_so, let_go, closing}
pub use Rattle.am_step_laws.proofs.{Rests.own_leave_rests, Rests.with_sends_of, Plans.course_gives_changes, ViewChanges.sequencer_is_member, ViewChanges.changes_keep_list_and_names}
pub use Rattle.am_step_laws.proofs.{ViewChanges.NodeBallotFits, ViewChanges.change_keeps_list_and_ballot, ViewNames.HeardStampsHaveNames, ViewNames.NodePartsHaveNames, ViewNames.change_keeps_stamp_names}
pub use Rattle.am_step_laws.proofs.ViewNames.{promised_stamp_has_name}
pub use Rattle.am_step_laws.proofs.Trimming.Taken.{HeardWelcomeImageIsUsed}
pub use Rattle.am_step_laws.proofs.Trimming.TakenRuns.{WorldTrimsOnlyTaken, run_trims_only_taken, each_node_trims_only_taken, heard_welcome_image_is_used}
pub use Rattle.am_step_laws.proofs.{Stamps.stamp_below_then_at_most, Stamps.lower_stamp_is_not_above, Stamps.stamp_not_below_itself, ViewSteps.HasSameView, ViewSteps.LastViewStandsInLog, ViewSteps.view_of_pushed_view}
pub use Rattle.am_step_laws.proofs.{ViewSteps.EntriesStayAndViewRises, Views.NotedViewStandsInLog, Views.WorldNotesViewsOnce, Views.events_note_views_once, Views.heard_stamps_have_names, Views.start_notes_views_once, Named.actor_is_below_256}
pub use Rattle.am_step_laws.proofs.Named.{NodesHaveTheirNames, events_keep_names, start_has_names}
pub use Rattle.am_step_laws.proofs.Numbers.RunCounts.{number_bounds_hold_in_runs}
pub use Rattle.am_run_laws.proofs.{SentRuns.records_after_step, SentRuns.WorldBodiesWereSent, SentRuns.start_has_all_bodies_sent, SentRuns.cause_of_step_was_sent, SentKept.refresh_keeps_sent_bodies, SentKept.EntryWasSent}
pub use Rattle.am_run_laws.proofs.{SentKept.OwnSendWasSent, SentKept.WasSentByRecord, SentKept.bodies_sent_in_more_records, Stamps.stamp_at_most_itself, Stamps.stamp_at_most_through_middle, PromisedChanges.HeardStampWasBegun}
pub use Rattle.am_run_laws.proofs.{PromisedChanges.PromiseWasBegun, PromisedChanges.change_keeps_promise_begun, PromisedRuns.PromisesAndStampsWereBegun, PromisedRuns.heard_stamp_was_begun}
pub use Rattle.am_run_laws.proofs.{PromisedRuns.events_keep_promises_begun, PromisedRuns.start_has_promises_begun, Records.idle_outcome_queues_nothing, Worlds.RequestsAreAskedOnce, Worlds.send_record_keeps_requests_once, Worlds.other_record_keeps_requests_once}
pub use Rattle.am_run_laws.proofs.{Worlds.asked_once_means_one_body, Actors.group_after_of_low_accepted}
pub use Rattle.am_run_laws.specs.PromisedClaim.{StampIsAtMost, StampIsBegun, LetterStampIsSound}
pub use Rattle.am_refinement.proofs.{Parts.view_number_after_view, ChainNames.named_list_has_named_front, ChainNames.counted_names_of_named_list, ChainNames.rows_of_named_list_live, ChainNames.concerned_names_are_below_256}
pub use Rattle.am_refinement.proofs.Closing.{last_leave_stands_as_move}
pub use Rattle.am_refinement.proofs.Entries.{longer_list_keeps_name_standing, stamps_of_equal_keys, view_of_whole_list}
pub use Rattle.am_refinement.proofs.NodeKeeping.Keeping.{group_is_kept_at_step, acting_name_stands_before, acting_name_may_move}
pub use Rattle.am_refinement.proofs.NodeKeeping.Keeping.{group_is_whole_at_step}
pub use Rattle.am_refinement.proofs.Membership.Lasts.{held_last_leave_is_accepted}
pub use Rattle.am_refinement.proofs.Names.{name_stands_with_same_group, views_stand_if_lines_stay, views_stand_if_noted_lines_stay, others_stand_within_changed_node, fronts_stand_within_changed_node}
pub use Rattle.am_refinement.proofs.Names.{lines_stay_with_same_log}
pub use Rattle.am_refinement.proofs.NodeKeeping.Stepped.{changes_keep_step_known}
pub use Rattle.am_refinement.proofs.Learning.{follower_refresh_accepts_told, sequencer_view_is_its_own, refresh_learns_group_front}
pub use Rattle.am_refinement.proofs.{Sending.view_of_nil, Sending.sent_letters_say_so, Ends.moves_are_transitive, Ends.accepting_is_moves, Names.take_of_longer_list, Names.name_stands_in_grown_world}
pub use Rattle.am_refinement.proofs.{Onward.group_growth_is_transitive, Onward.group_grows_to_itself, Onward.group_goes_on_by_moves, Onward.group_run_is_whole, Opens.up_name_list_opens_line, Letters.letters_stay_as_group_grows}
pub use Rattle.am_refinement.proofs.Letters.{trimmed_stays_as_letters_need, all_shown_stay_shown, sequencer_says_still}
pub use Rattle.am_refinement.proofs.NodeKeeping.Stepped.{node_keeps_as_others_stop, other_nodes_keep_through_change}
pub use Rattle.am_refinement.proofs.NodeKeeping.Refreshing.{refreshes_keep_the_node}
pub use Rattle.am_refinement.proofs.Sent.{SpeaksForItsName, sequencer_leads_its_line}
pub use Rattle.am_refinement.proofs.NodeKeeping.Keeping.{key_le_of_stamp_at_most}
pub use Rattle.am_refinement.proofs.NodeKeeping.Silent.{departed_nodes_are_silent}
pub use Rattle.am_refinement.proofs.Changes.{member_has_not_departed, running_member_is_up, looked_at_ballot_is_unfinished, IsSameToGroup, acting_name_stands, refresh_is_same_to_group, same_node_keeps_others_standing, same_node_keeps_others_fronts, same_node_keeps_name_standing}
pub use Rattle.am_refinement.specs.{Steps.FrontsAfter, Letters.LetterStampIsBegun, Running.Following, Running.MovesLeadToFollowing, Running.StepsMove}
pub use Rattle.am_refinement.specs.Sending.{LeaderStands, NumbersStand, BallotSendsStand, SendsStand, SendsNothing, as_before as began_before}
