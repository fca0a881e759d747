-- The words of this crate's proofs, of the crates and definitions that they come from.
pub use Rattle.am_step_laws.proofs.EffectWords.{◌≡◌, ℕ, ◌+◌, ◌≤◌, ◌==◌, nat_lt, max, min, Bool, true, false, if◌then◌else◌, List, Option, Some, None, option_map}
pub use Rattle.am_step_laws.proofs.EffectWords.{refl, ap, arith, ◌<◌, [], sym, ◌∙◌, subst, ◌||◌, not, ◌∷◌, find, length-append, ◌⊎◌, inl, inr, ◌-◌, ◌&&◌, nat_le}
pub use Rattle.am_step_laws.proofs.EffectWords.{length, ◌++◌, zero, suc, slice_index, drop, ◌≢◌, slice_get, nat_tests, length-set, map-set, All-head, All-tail}
pub use Rattle.am_step_laws.proofs.EffectWords.{All-nil, All-cons, All-take, All-append, All-drop, list_any, All, Vote, View, Data, Leave, Join, Outcome, has}
pub use Rattle.am_step_laws.proofs.EffectWords.{place_of_name, life_of_name, size, split_on_bool, both_of_and, Rules, Log, top_of_log, log_entry_at, row_at_place, row_of_name, member_life_of_row, image_of_log}
pub use Rattle.am_step_laws.proofs.EffectWords.{members_of_image, Entry, Report, Stamp, stamp_is_less, stamps_are_equal, NodeEvent, Row, Image, slice_index-by_place, length-by_place}
pub use Rattle.am_step_laws.proofs.EffectWords.{Packet, Letter, base_after_trim, is_body_of_send, keep_body, OwnSend, Act, Event, is_for, letter_at, Node, Ballot, top, image_of_node}
pub use Rattle.am_step_laws.proofs.EffectWords.{push_entry, is_member, is_sequencer, has_log_by_status, waiting_send_of, node_unsettled_count, view, acts_in_its_view, trim_node_up_to, node_with_report}
pub use Rattle.am_step_laws.proofs.EffectWords.{number_is_within_bound, life_where_name_passes, stranger_node, founder, members, is_asking_status, other_members, lowest_name_or_zero, BallotVerdict, node_with_promise}
pub use Rattle.am_step_laws.proofs.EffectWords.{trim_to_least_taken_by, next_stamp, new_ballot, ballot_with_vote, ballot_without_voter, need_set_of, need_set_without_given_up, give_up_in_open_ballot, number_send, emit_waiting_send}
pub use Rattle.am_step_laws.proofs.EffectWords.{node_with_queued_send, queue, give_out_entry, join_by_status, state_by_status, plan_of_leaving, is_unfinished_ballot, begin_leaving, leave_by_status, answer_ask_of_ballot, Status, advance_node}
pub use Rattle.am_step_laws.proofs.EffectWords.{accepted_number_of_send, settle_send_at, settle_send_where_accepted, Plan, plan_without_letters, StepResult, is_view, store_fitting_entry, store_numbered_entry, node_with_noted_fronts, receive_entry}
pub use Rattle.am_step_laws.proofs.EffectWords.{data_entry_of, body_of_spread_send, answer_hold, bodies_after_stored_entry, tick_of_coordinator, tick_of_follower, tick_outcome_of_waiting_send, with_result_told_again, tick_of_sequencer}
pub use Rattle.am_step_laws.proofs.EffectWords.{tick_of_acting_member, tick_by_ballot, tick_by_status, members_of_view_entry, refuse_bytes, packet_length, take_report, answer_request, serve_again}
pub use Rattle.am_step_laws.proofs.EffectWords.{has_no_join, node_with_joiner_reports, number_join_and_welcome, node_of_welcomed, leaver_may_go, take_vote, push_fetched, catch_up, look_at_ballot_anew}
pub use Rattle.am_step_laws.proofs.EffectWords.{piece_promised, piece_for, row_of_promised_result, member_hears_other, member_or_asker_hears_other, hears_packet_of_sequencer, hears_packet_of_its_view, World, start}
pub use Rattle.am_step_laws.proofs.EffectWords.{first_node, run, is_stopped, world_after_hearing, hear_cut, world_after_act, current, packet_heard_by_act, Cause, calls, hears, CauseHasSend}
pub use Rattle.am_step_laws.proofs.EffectWords.{by_request, by_spread, Change, refreshes, settles, numbers, notes, stores, begins_list, departs, looks, fetches}
pub use Rattle.am_step_laws.proofs.EffectWords.{stores_view, asks_to_join, closes, Changes, no_change, changed, promises, opens, asked_send, own_send, asked_join}
pub use Rattle.am_step_laws.proofs.EffectWords.{asked_leave, CarriesEntry, whole_entry, by_number, unchanged, keeps_body, queues, collects, invited, told_result}
pub use Rattle.am_step_laws.proofs.EffectWords.{without_ballot, takes_report, admits, takes, MayBeWelcomed, acting_name, IsCall, IsCause, idles, stops, returns, steps}
pub use Rattle.am_step_laws.proofs.EffectWords.{WasSentTo, EventHappens, LooksAtBallot, finds_itself_out, HasOpenBallot, BallotIsLookedAt, with_more, without_one, as_it_is, decides}
pub use Rattle.am_step_laws.proofs.EffectWords.{finds_no_room, waits, fetches_from_best, finds_too_few, just_joined, asks_again, Says, bcast, order, hold, join_ask}
pub use Rattle.am_step_laws.proofs.EffectWords.{welcome, gone, invite, fetch, piece, result, HasOwnSend, request, spread, vote, LetterSays, Effect}
pub use Rattle.am_step_laws.proofs.Rests.{refresh_rests_with_list, settle_changes_only_sends, end_refresh_rests_with_list, with_fronts_of, refresh_changes_only_fronts, taken_le_skipped_taken}
pub use Rattle.am_step_laws.proofs.EffectRuns.{EventsKeep, runs_keep_what_events_keep, changes_keep_property, StepsKeepLaw, HasSameWorldParts, events_keep_by_steps}
pub use Rattle.am_step_laws.proofs.Items.{item_of_index_has_property, all_gives_item_at, all_gives_found_item, slice_get_of_front, slice_get_of_pushed}
pub use Rattle.am_step_laws.proofs.{Nodes.EachNodeHas, Nodes.events_keep_each_node, Nodes.heard_packet_has_property, Nodes.first_node_has_property, Statuses.member_status_has_log, Statuses.asking_status_has_no_log, Says.view_of_pushed_plain_entry, Says.image_of_pushed_entry}
pub use Rattle.am_step_laws.proofs.{Tests.number_equals_itself, Tests.or_false_first_is_false, Tests.or_false_second_is_false, Events.events_have_effects, Hearing.heard_member_is_other, Resets.stamp_eq_of_itself}
pub use Rattle.am_step_laws.proofs.{Resets.stamp_eq_gives_equality, Ballots.entry_at_number_of_log, Kept.BallotKeepsItsCoordinator, Kept.NodeIsBounded, Changes.open_ballot_keeps_its_coordinator, Changes.change_keeps_node_bounds, BoundedRuns.first_nodes_keep_bounds}
unfoldable pub use Rattle.am_step_laws.proofs.EffectWords.{fits, after, image_after_entries, pass_over_below_join, raise_own_report, tell_accept_front, advance_with_reports, names_that_pass, decide, begin_ballot, keep_vote_in_ballot, give_up_in_ballot, best_vote_for_ballot}
unfoldable pub use Rattle.am_step_laws.proofs.EffectWords.{give_up_row, reset_row, send_row, done_row, take_row, join_row, state_row, leave_row, ask_row, refresh}
unfoldable pub use Rattle.am_step_laws.proofs.EffectWords.{refresh_as_sequencer, settle_waiting_send, refresh_at_end, finish, spread_row, bcast_row, order_row, accept_row, hold_row, tick_row}
unfoldable pub use Rattle.am_step_laws.proofs.EffectWords.{step, hear_packet, hear_refused_bytes, row, request_row, ack_row, nack_row, join_ask_row, welcome_row, leave_ask_row}
unfoldable pub use Rattle.am_step_laws.proofs.EffectWords.{gone_row, invite_row, vote_row, fetch_row, piece_row, result_row, hear_row, world_with_record, world_with_step}
unfoldable pub use Rattle.am_step_laws.proofs.EffectWords.{happens, world_after_events}
pub use Rattle.std.proofs.Common.{unwrap_or, filter, ⊎_elim, take, slice_index_or, map, set, length-drop, get_or}
pub use Rattle.std.proofs.lemmas.List.{length-take, get_or-replicate, length-map, set-get_or, ext_get_or}
pub use Rattle.std.proofs.lemmas.List.Elements.{All-map, All-set, All-weaker, All-replicate, All-get_or, All-from_get_or, All-filter}
pub use Rattle.std.{proofs.Math.Seq.take-length, proofs.lemmas.Bool.cases_lt, proofs.lemmas.List.Folds.list_any-append, proofs.lemmas.List.Sums.sum_by-cons}
pub use Rattle.std.{specs.List.count_by, specs.List.range_with_len}
pub use Rattle.am_base.specs.Names.{names_of, IsSetOfNames, empty_set_of_names, name_of_place_and_life, rank_of_name, names_from}
pub use Rattle.am_base.specs.Limits.{NumberIsInRange, ReportIsInRange, ImageIsInRange, EntryIsInRange}
pub use Rattle.am_base.specs.Votes.{NamedVote, vote_is_less, all_names, better_vote_of}
pub use Rattle.am_base.specs.Lists.{blank, blank_row, is_blank_image, row_after_view, log_image_at, log_members_at, log_with_entry}
pub use Rattle.am_base.specs.{declared.entry.GroupView.GroupView, Founding.MayFound, Fronts.accept_front, Most.most_bytes_of_body, Most.greatest_number}
unfoldable pub use Rattle.am_base.specs.{Names.list_by_place, Votes.best_vote_from}
pub use Rattle.am_packet.specs.{Limits.IsPacket, Limits.HasEntryParts, Spelling.stamp_of, Spelling.sender_of}
unfoldable pub use Rattle.am_packet.specs.{Limits.PacketIsWithin, Limits.HasParts}
pub use Rattle.am_packet.proofs.{Again.reading_of_spelling}
pub use Rattle.am_node_defs.specs.{Cores.CoreState, Cores.members_since_accepted, Reports.lesser_of_options, Reports.least_taken_of_names, declared.bodies.KeptBody.KeptBody, Bodies.find_body}
pub use Rattle.am_node_defs.specs.{Sends.Sends, Sends.is_unsettled}
unfoldable pub use Rattle.am_node_defs.specs.{Cores.raise_accepted_to_told, Cores.union_of_members_at, Reports.least_of_names, Refresh.trim_to_least_taken}
pub use Rattle.am_node_defs.proofs.Lives.{JoinIsNextLife, UnusedPlacesHaveNoLife, row_at_place_of_image, unused_places_after_entry, unused_places_after_entries, life_of_place_only_grows, members_of_at_row_place, union_is_within_bound, member_life_is_within_union, unions_have_sixteen_places, fitting_entry_joins_next_life}
pub use Rattle.am_node_defs.proofs.Lives.{member_has_life_of_row, life_of_place_after_leave}
pub use Rattle.am_node_defs.proofs.{Ends.image_at_top_is_told, Ends.image_at_below_push, Leaders.least_reported_le_own_taken, Leaders.least_of_names_le_each, ReportLaws.count_by_of_cons}
unfoldable pub use Rattle.am_node_defs.proofs.{Lives.JoinsAreNextLives}
pub use Rattle.am_model.specs.Node.{map_with_value, founders_entry, founding_stamp, founding_view}
pub use Rattle.am_model.specs.Ballots.{taken_number_of_voter, verdict_going_on, verdict_ending as ended, decide_view, restart_reports, overtake_lower_ballot, own_vote, decided_view}
pub use Rattle.am_model.specs.{Receiving.body_of_waiting_send, Receiving.first_body_that_is_there, Sequencing.number_send_of_member, Joining.answer_leave_ask}
pub use Rattle.am_model.proofs.{Founders.lowest_founder_founds}
pub use Rattle.am_group_defs.specs.World.{world_with_next_life, list_with_accepted, list_after_step, Decided, founders_decided, last_view_of, views_after}
pub use Rattle.am_group_defs.specs.{Claims.WorldBegins, Lawful.broken_at, Lawful.events_before_break}
pub use Rattle.am_group_defs.proofs.{Beginnings.run_begins_longer_run}
pub use Rattle.am_base.proofs.Rows.{right_of_and, IsMemberRow, mod_sixteen_lt, sixteen_rows_after_entry, with_row_keeps_property, row_after_pushed_view, EntrySparesMember, member_row_after_entry, left_of_and, blank_image_has_nobody_joined}
pub use Rattle.am_base.proofs.{Requests.has_member_is_in_row, Order.same_rank_same_name, Members.members_of_at_place}
pub use Rattle.am_model_laws.proofs.{AcceptFronts.accept_front_is_greatest, Bytes.spelled_packet_is_heard, Bytes.cut_packet_whole_or_refused}
pub use Rattle.am_step_laws.specs.Changes.{IsNumberedBy, MayPromise, overtaken as overtaken_by, MayStoreFetched, for_ballot}
pub use Rattle.am_step_laws.specs.Bytes.{BodyIsWithinLimit, IsRunWithinScriptLimits, LettersArePackets, LettersAreRead, acts_by_bytes, RunsAreOfBytes}
pub use Rattle.am_step_laws.specs.{Letters.MayWelcome, Packets.Bounds, Packets.bounds_one_higher, Packets.PacketIsWithinBounds, Blank.NodesWithoutListAreBlank, Begins.LawfulFrontBeginsRun, GivenUp.OnlyStoppedGivenUp}
pub use Rattle.am_step_laws.specs.{Named.RunsKeepNames, Numbers.NumbersAreBounded, Taken.TrimmedWasTaken, Views.RunsNoteViewsOnce}
unfoldable pub use Rattle.am_step_laws.specs.{Bytes.happen_by_bytes}
