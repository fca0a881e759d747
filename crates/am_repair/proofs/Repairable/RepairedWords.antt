-- The words of this crate's proofs, of the crates and definitions that they come from.
pub use Rattle.am_lawful_runs.proofs.Words.{◌≡◌, ℕ, ◌==◌, ◌&&◌, ◌||◌, not, nat_lt, nat_le, Bool, true, false, if◌then◌else◌, Some, refl, sym, ap, ◌∙◌, subst}
pub use Rattle.am_lawful_runs.proofs.Words.{arith, ◌⊎◌, inl, inr, either, ◌≤◌, ◌<◌, max, List, [], ◌≢◌, zero, suc, ◌+◌, ◌∷◌, ◌++◌, length, slice_index, slice_get}
pub use Rattle.am_lawful_runs.proofs.Words.{take, None, ◌-◌, drop, length-append, append_assoc, eqb-true, nat_tests, take-append-drop, take_all, All-nil, All-cons}
pub use Rattle.am_lawful_runs.proofs.Words.{All-append, All-weaker, slice_get-get_or, Stamp, Join, Data, Leave, View, Outcome, Row, life_of_name, IsSetOfNames, has, place_of_name}
pub use Rattle.am_lawful_runs.proofs.Words.{name_of_place_and_life, names_from, names_of, Log, blank, image_of_log, members_of_image, top_of_log, split_on_bool, both_of_and, Image, Rules, MayFound, Entry}
pub use Rattle.am_lawful_runs.proofs.Words.{stamp_is_less, stamps_are_equal, Packet, Letter, Act, Event, is_for, letter_at, Node, image_of_node, is_sequencer, has_room, has_log_by_status}
pub use Rattle.am_lawful_runs.proofs.Words.{Ballot, view, acts_in_its_view, is_member, push_entry, trim_node_up_to, top, lowest_name_or_zero, has_departed, founding_stamp, Plan, StepResult}
pub use Rattle.am_lawful_runs.proofs.Words.{member_hears_other, packet_length, refresh_at_end, refresh, BallotVerdict, node_with_promise, trim_to_least_taken_by, need_set_without_given_up, need_set_of, is_view}
pub use Rattle.am_lawful_runs.proofs.Words.{Status, is_unfinished_ballot, lowest_founder_founds, World, is_stopped, world_after_hearing, hear_cut, world_after_act, current, run, start}
pub use Rattle.am_lawful_runs.proofs.Words.{founders_decided, first_node, Decided, list_with_accepted, packet_heard_by_act, whole, runs_go_on, IsBeginningOf}
pub use Rattle.am_lawful_runs.proofs.Words.{IsGoodList, key_of_stamp, begins_through_both, beginning_is_no_longer, length_of_pushed_list, taken_front_begins_list, list_begins_itself, front_begins_append, shorter_beginning_begins_longer, begins_not_longer_is_same}
pub use Rattle.am_lawful_runs.proofs.Words.{length_of_taken_list, beginning_of_good_is_good, image_after_pushed_entry, member_has_member_row, image_has_sixteen_rows, member_row_gives_member, IsMemberRow, row_of_place, equal_keys_have_equal_names, name_of_view_is_byte, view_key_grows_along_list, view_after_pushed_view}
pub use Rattle.am_lawful_runs.proofs.Words.{acting_name, WasSentTo, IsCause, steps, Cause, hears, Changes, unchanged, changed, Change, refreshes, settles, numbers}
pub use Rattle.am_lawful_runs.proofs.Words.{stores, begins_list, looks, fetches, stores_view, collects, takes, asks_to_join, asks_to_leave, closes, refresh_rests_with_list}
pub use Rattle.am_lawful_runs.proofs.Words.{settle_changes_only_sends, end_refresh_rests_with_list, member_status_has_log, asking_status_has_no_log, stamp_eq_gives_equality, LooksAtBallot, decides, item_of_index_has_property, Says, piece, result, LetterSays}
pub use Rattle.am_lawful_runs.proofs.Words.{number_equals_itself, EndOfStep, at_end, let_go, closing, Effect, welcomed_node_is_asking, HeardStampsHaveNames, NodePartsHaveNames, HeardWelcomeImageIsUsed, TrimsOnlyTakenAlongStep, run_trims_only_taken}
pub use Rattle.am_lawful_runs.proofs.Words.{each_node_trims_only_taken, heard_welcome_image_is_used, NodeBallotFits, change_keeps_list_and_ballot, IsBlankWithoutLog, number_bounds_hold_in_runs, NotedViewStandsInLog, heard_stamps_have_names, lists_only_grow_in_runs, Group}
pub use Rattle.am_lawful_runs.proofs.Words.{list_with_chosen_view, chain_of, IsUp, function_with_value, GroupKeeps, Move, chosen_by, node_with_entry, learns, begins, raises, gives_over, welcomes, asks, stops}
pub use Rattle.am_lawful_runs.proofs.Words.{Run, founded, more, put_at_same_index, group_run_is_kept_lawful, NameStands, NamesNamed, Moves, Following, image_of_whole_list, length_of_whole_list, member_has_not_departed}
pub use Rattle.am_lawful_runs.proofs.Words.{set_name_is_below_256, group_run_is_kept, PacketSays, WelcomeTo, has_begun, has_gone, has_left, is_leaving, may_begin, PieceSays}
pub use Rattle.am_lawful_runs.proofs.Words.{BecameMemberBy, stayed, joins, founds, new_member_came_by_entry, departed_nodes_are_silent, GroupOk, take_of_longer_list, steps_are_group_moves, departed_step_sends_no_letters, departed_status_is_departed}
unfoldable pub use Rattle.am_lawful_runs.proofs.Words.{finish, hear_packet, hear_refused_bytes, hear_row, world_with_record, world_with_step, happens, stamp_of_list}
pub use Rattle.std.proofs.lemmas.List.{same_from_push}
pub use Rattle.am_refinement.proofs.Words.{take-append-add, length-take, Report, row_at_place, counting_names_at, fold_append, view_number_only_grows, members, next_stamp, begins_push_or_is_push}
pub use Rattle.am_refinement.proofs.Words.{member_stays_by_push, was_member_in_longer_list, member_of_both_is_between, leaver_was_member, leaver_is_no_member, IsPastRow, WasMemberRow, MayStoreFetched, without_ballot, admits, keeps_body, notes}
pub use Rattle.am_refinement.proofs.Words.{promises, opens, takes_report, stamp_eq_of_itself, finds_itself_out, waits, fetches_from_best, finds_too_few, finds_no_room}
pub use Rattle.am_refinement.proofs.Words.{view_of_pushed_plain_entry, welcome, changes_trim_only_taken, numbered_entry_is_no_view, balloting_looks_at_open_ballot, unordered_stamps_are_equal, image_after_view_has_it, counting_names_in, MayNumber, accepts}
pub use Rattle.am_refinement.proofs.Words.{shows, serves, first_stamp, put_keeps_property, of_line, of_shown, over, NewView}
unfoldable pub use Rattle.am_refinement.proofs.Words.{fits, image_after_entries, is_member_at_end}
pub use Rattle.std.proofs.Common.{All}
pub use Rattle.am_model.specs.{Node.image_of_node as told_at, Joining.node_with_joiner_reports}
unfoldable pub use Rattle.am_model.specs.Joining.{join_ask_row}
pub use Rattle.am_group_defs.specs.{Lawful.lawful_front, Settle.settle_events}
pub use Rattle.am_repair.specs.Claim.{MayRepair, HasCaughtUp, Repairs}
pub use Rattle.am_base.proofs.Members.{membership_ends_between}
pub use Rattle.am_step_laws.proofs.Hearing.{heard_member_is_other}
pub use Rattle.am_step_laws.proofs.Rests.{own_leave_rests}
pub use Rattle.am_step_laws.proofs.Trimming.Taken.{stamp_name_is_sender, heard_asking_is_other}
pub use Rattle.am_step_laws.proofs.Trimming.TakenRuns.{trimmed_was_taken_in_runs, WorldTrimsOnlyTaken}
pub use Rattle.am_step_laws.proofs.Trimming.TakenRuns.{events_trim_only_taken}
pub use Rattle.am_step_laws.proofs.ViewChanges.{next_round_is_above}
pub use Rattle.am_step_laws.proofs.Stamps.{stamp_not_below_itself, lower_stamp_is_not_above, stamp_at_most_is_transitive, stamp_at_most_then_below}
pub use Rattle.am_step_laws.proofs.{Stamps.stamp_below_then_at_most, ViewSteps.HasSameView, ViewSteps.LastViewStandsInLog, ViewSteps.view_of_pushed_view, Named.names_hold_in_runs}
pub use Rattle.am_step_laws.specs.Changes.{for_ballot, departs}
pub use Rattle.am_abstract_group.specs.Group.{Leads, current_of}
pub use Rattle.am_refinement.proofs.{ChainNames.counted_names_of_named_list, Parts.counted_name_was_member_near, Parts.counted_at_of_whole_list, Entries.stamps_of_equal_keys, Sent.sequencer_leads_its_line, Sent.LeadsItsLine, Growing.moves_grow_the_group}
pub use Rattle.am_refinement.proofs.WholeSteps.Starting.{LetterGoesToItsKind, run_letters_go_by_kind, item_at_gives_slice_get}
pub use Rattle.am_refinement.proofs.WholeSteps.Departed.{step_keeps_departed_node, course_keeps_departed_node}
pub use Rattle.am_lawful_runs.proofs.Ways.{ChangeByItsKind, change_has_its_kind}
pub use Rattle.am_lawful_runs.proofs.Spared.{LawfulUntilLastStop, lawful_is_until_last_stop, group_follows_until_last_stop, some_group_follows_until_last_stop}
pub use Rattle.am_lawful_runs.proofs.OneStep.{parts_of_one_step, one_step_grows_group, OneStepWithGroup}
pub use Rattle.am_lawful_runs.proofs.Fold.{PropertyIsKeptByRuns, WorldStaysQuiet}
pub use Rattle.am_lawful_runs.proofs.Shapes.{ListOfNameGoes}
pub use Rattle.am_lawful_runs.proofs.Shapes.{same, up, gone, property_of_lists_by_moves}
pub use Rattle.am_repair.proofs.Nodes.{acting_member_promised_its_view, refreshed_node_stands_alike, settled_node_stands_alike}
pub use Rattle.am_repair.proofs.Nodes.{views_of_alike_nodes, acts_of_alike_nodes, NodesStandAlike}
pub use Rattle.am_repair.proofs.Known.ReportedRuns.{known_is_taken, reports_of_runs_are_true}
pub use Rattle.am_repair.proofs.Known.ReportedRuns.{cause_of_run_reports_taken}
pub use Rattle.am_repair.proofs.Known.Knowing.{CauseIsNoJoin}
pub use Rattle.am_repair.proofs.Known.Beginning.{repairs_where_lists_agree}
pub use Rattle.am_repair.proofs.Known.KnownRuns.{sequencers_trim_known}
pub use Rattle.am_repair.proofs.Known.OneLists.{one_list_agrees}
pub use Rattle.am_repair.proofs.Known.Reported.{end_keeps_reports_of_others, BaseAndTakenRise, base_and_taken_rise, CauseReportsTaken, reported_taken_le_taken, refresh_keeps_reports_of_others}
pub use Rattle.am_repair.specs.Standing.{IsOneList, RepairableIsOneList}
pub use Rattle.am_repair.specs.Trimmed.{RepairableTrims, RepairableCounts}
