-- The words of this crate's proofs, of the crates and definitions that they come from.
pub use Rattle.am_step_laws.proofs.Words.{◌≡◌, ℕ, ◌≤◌, ◌==◌, not, true, false, List, [], ◌∷◌, ◌++◌, refl, sym, ap, ◌∙◌, arith, ◌<◌, Bool, if◌then◌else◌, length}
pub use Rattle.am_step_laws.proofs.Words.{drop, subst, ◌⊎◌, inl, inr, ⊎_elim, ◌+◌, ◌&&◌, max, nat_lt, slice_index, Option, Some, None, ◌-◌, ◌||◌, nat_tests, All-nil}
pub use Rattle.am_step_laws.proofs.Words.{All-cons, All-append, All-weaker, All-take, All-drop, list_any-append, list_any, All, Outcome, Stamp, Image, Entry, View}
pub use Rattle.am_step_laws.proofs.Words.{Leave, Data, Join, stamps_are_equal, stamp_is_less, Log, members_of_image, log_entry_at, image_of_log, split_on_bool, both_of_and, Rules, MayFound, Vote, has}
pub use Rattle.am_step_laws.proofs.Words.{rank_of_name, Packet, Letter, stamp_of, Event, Node, Ballot, view, acts_in_its_view, is_sequencer, is_member, push_entry, has_log_by_status, top}
pub use Rattle.am_step_laws.proofs.Words.{image_of_node, members, node_unsettled_count, trim_node_up_to, map_with_value, founders_entry, lowest_name_or_zero, is_asking_status, BallotVerdict, overtake_lower_ballot}
pub use Rattle.am_step_laws.proofs.Words.{need_set_of, need_set_without_given_up, trim_to_least_taken_by, next_stamp, refresh, settle_waiting_send, member_hears_other, StepResult, is_unfinished_ballot, is_view, lowest_founder_founds, World}
pub use Rattle.am_step_laws.proofs.Words.{start, first_node, run, Decided, founders_decided, last_view_of, views_after, list_after_step, happens, world_with_next_life, current}
pub use Rattle.am_step_laws.proofs.Words.{is_stopped, packet_heard_by_act, member_status_has_log, Cause, hears, calls, HasOpenBallot, BallotIsLookedAt, with_more, without_one, as_it_is, LooksAtBallot}
pub use Rattle.am_step_laws.proofs.Words.{finds_itself_out, decides, Change, refreshes, settles, numbers, stores, begins_list, departs, looks, fetches, stores_view}
pub use Rattle.am_step_laws.proofs.Words.{asks_to_join, closes, Changes, unchanged, changed, IsNumberedBy, asked_send, own_send, asked_join, asked_leave, CarriesEntry}
pub use Rattle.am_step_laws.proofs.Words.{whole_entry, by_number, promises, opens, no_change, MayPromise, invited, overtaken_by, told_result, refresh_rests_with_list}
pub use Rattle.am_step_laws.proofs.Words.{end_refresh_rests_with_list, settle_changes_only_sends, heard_packet_has_property, EachNodeHas, events_keep_each_node, first_node_has_property, number_equals_itself, or_false_second_is_false, Effect, acting_name, WasSentTo, IsCause}
pub use Rattle.am_step_laws.proofs.Words.{steps, idles, stops, returns, changes_keep_property, EventsKeep, runs_keep_what_events_keep, StepsKeepLaw, HasSameWorldParts, events_keep_by_steps, stamp_eq_of_itself, stamp_eq_gives_equality}
pub use Rattle.am_step_laws.proofs.Words.{image_of_pushed_entry, view_of_pushed_plain_entry, item_of_index_has_property, all_gives_item_at, Says, piece, result, LetterSays}
pub use Rattle.am_step_laws.proofs.Named.{NodesHaveTheirNames, actor_is_below_256, events_keep_names, change_keeps_name}
pub use Rattle.am_step_laws.proofs.Views.{WorldNotesViewsOnce, heard_stamps_have_names, events_note_views_once, start_notes_views_once, view_never_falls_in_growth, said_stamp_is_promise}
pub use Rattle.am_step_laws.proofs.Stamps.{stamp_at_most_then_below, stamp_at_most_is_transitive, stamp_not_below_itself, lower_stamp_is_not_above}
pub use Rattle.am_step_laws.proofs.Trimming.ViewMembers.{members_after_data, members_after_view, selected_place_same_or_empty, length_of_selection}
pub use Rattle.am_step_laws.proofs.ViewChanges.{hearing_sequencer_has_log, welcomed_node_has_no_log, NodeBallotFits, changes_keep_list_and_names, numbered_entry_is_no_view, ChangeKeepsListAndBallot, change_keeps_list_and_ballot, open_ballot_is_promised, next_round_is_above, BallotIsOpenAndPromised}
pub use Rattle.am_step_laws.proofs.ViewSteps.{entry_at_of_longer_log, plain_entry_keeps_image_view, view_of_pushed_view, pushed_view_at_its_number, HasSameView, LastViewStandsInLog}
pub use Rattle.am_step_laws.proofs.Trimming.TakenRuns.{TrimsOnlyTakenAlongStep, changes_trim_only_taken, WorldTrimsOnlyTaken, each_node_trims_only_taken, heard_welcome_image_is_used, events_trim_only_taken, start_trims_only_taken}
pub use Rattle.am_step_laws.proofs.ViewNames.{NodePartsHaveNames, HeardStampsHaveNames}
pub use Rattle.am_step_laws.proofs.Numbers.RunCounts.{number_bounds_hold_in_runs}
pub use Rattle.am_step_laws.proofs.Trimming.Trims.{BallotHasNoOwnVote, told_image_is_used}
pub use Rattle.am_step_laws.proofs.Trimming.Taken.{own_best_list_needs_members}
pub use Rattle.am_step_laws.proofs.Trimming.Taken.{balloting_has_no_own_vote, HeardWelcomeImageIsUsed}
unfoldable pub use Rattle.am_step_laws.proofs.Words.{fits, after, image_after_entries, world_with_step, world_with_record}
pub use Rattle.std.{proofs.Common.append_assoc, proofs.Math.Seq.drop-append_seam, proofs.lemmas.Bool.eqb-false, proofs.lemmas.Bool.eqb-true}
pub use Rattle.std.{proofs.lemmas.List.append-nil, proofs.lemmas.List.Folds.list_any_none}
pub use Rattle.am_base.specs.{Stamps.no_stamp}
pub use Rattle.am_group_defs.specs.Lawful.{is_view_of, Watch, watch_start, watch_event, watch_run}
unfoldable pub use Rattle.am_group_defs.specs.{Lawful.watch_events}
pub use Rattle.am_group_defs.proofs.{Runs.watched_is_run}
pub use Rattle.am_lawful_defs.proofs.Events.{watch_is_after_event, world_same_by_answer, world_same_but_stopped, world_same_but_lives, world_stepped_to_node}
pub use Rattle.am_lawful_defs.proofs.{Folds.bool_is_not_both, Begins.beginning_is_watched, Steps.steps_are_watched, Steps.stops_are_watched, Steps.others_are_watched}
pub use Rattle.am_lawful_defs.specs.Watching.{Watching, watch_step, note_stop, pass_event, watch_accepts}
pub use Rattle.am_lawful_defs.specs.Watches.{Watches, standing_of, last_view_of_node, entries_added_to_group, StampIsNew, NameSteps, SteppedTo, SameButWhoStopped}
pub use Rattle.am_step_laws.specs.Watched.{BeginningIsKept, BreakIsKept, watching_after_name_step, StepIsWatched, StopIsWatched, ReturnIsWatched, PassIsWatched}
pub use Rattle.am_step_laws.specs.{Looks.was_reset, Looks.was_fetched, Changes.asks_to_leave, Letters.MayTellResult, Letters.leads, Letters.decided, Packets.accepted_of}
pub use Rattle.am_step_laws.specs.{Numbers.NodeNumbers, Lists.ListsGoOn, Lists.stored_since, Members.NotedViewsKeepMembers, New.DecidedViewsAreNew}
