-- The words of this crate's proofs, of the crates and definitions that they come from.
pub use Rattle.am_step_laws.proofs.Words.{◌≡◌, ℕ, ◌+◌, ◌-◌, ◌<◌, ◌≤◌, ◌==◌, max, Bool, true, false, if◌then◌else◌, List, [], ◌∷◌, ◌++◌, length, take, drop, Some}
pub use Rattle.am_step_laws.proofs.Words.{slice_get, refl, sym, ap, ◌∙◌, subst, arith, length-append, length-drop, ⊎_elim, zero, suc, slice_index, slice_index_or}
pub use Rattle.am_step_laws.proofs.Words.{◌||◌, not, Option, None, map, ◌≢◌, nat_tests, length-take, length-set, length-map}
pub use Rattle.am_step_laws.proofs.Words.{list_any, Entry, Image, Stamp, Outcome, NodeEvent, Rules, MayFound, place_of_name, has, name_of_place_and_life, life_of_name}
pub use Rattle.am_step_laws.proofs.Words.{Log, log_entry_at, members_of_image, Letter, Packet, IsPacket}
pub use Rattle.am_step_laws.proofs.Words.{CoreState, Event, Act, letter_at, is_for, view, founder, stranger_node, founders_entry, map_with_value}
pub use Rattle.am_step_laws.proofs.Words.{has_log_by_status, StepResult}
pub use Rattle.am_step_laws.proofs.Words.{Status}
pub use Rattle.am_step_laws.proofs.Words.{current, list_with_accepted, list_after_step, start, first_node, World, is_stopped, world_after_hearing, hear_cut}
pub use Rattle.am_step_laws.proofs.Words.{world_with_next_life, world_after_act, run, spelled_packet_is_heard, cut_packet_whole_or_refused, all_gives_item_at, number_equals_itself, acting_name}
pub use Rattle.am_step_laws.proofs.Words.{PacketIsWithinBounds}
unfoldable pub use Rattle.am_step_laws.proofs.Words.{step, hear_packet}
unfoldable pub use Rattle.am_step_laws.proofs.Words.{happens, world_with_step, world_after_events, world_with_record}
pub use Rattle.std.{proofs.lemmas.Result.on_ok_weaker, specs.Option.option_copied, specs.Prelude.OnOk}
pub use Rattle.std.{specs.Prelude.IfOk}
pub use Rattle.std.proofs.Common.{Ok, slice_set, replicate, Result, Err, append-nil, append_assoc, vec_len, vec_capacity}
pub use Rattle.std.proofs.lemmas.List.{drop-drop, length-replicate, map_push, take_more, get_or-set_same, get_or-set_other}
pub use Rattle.std.proofs.lemmas.Option.{slice_get_within, get_or_from_slice_get, none-some, same_Some, slice_get_read}
pub use Rattle.am_base.specs.Most.{most_events_of_run}
pub use Rattle.am_packet.specs.{Spelling.spelling}
pub use Rattle.am_node_defs.specs.Cores.{CoreFrontsAreInOrder}
pub use Rattle.am_node_defs.proofs.{Ends.end_has_image_of_whole_log, Ends.entry_at_is_slice_get, Folds.slice_get-drop}
pub use Rattle.am_group.specs.{declared.event.Record.Record, Journals.letters_of_records, Journals.record_without_caller}
pub use Rattle.am_group.proofs.Places.{slice_get_some_below_length, letters_of_pushed_record}
pub use Rattle.am_model.specs.{Node.has_departed, Ends.IsEndOf}
pub use Rattle.am_model.specs.Nodes.{HasNumbersLeft}
pub use Rattle.am_group_defs.specs.{World.record_of, World.world_after_return, Lawful.Watch, Lawful.watch_start, Lawful.watch_run}
pub use Rattle.am_group_defs.proofs.Runs.{runs_go_on, watched_is_run}
unfoldable pub use Rattle.am_group_defs.specs.Lawful.{watch_event, watch_events}
pub use Rattle.am_lawful_defs.specs.{declared.views.NameStanding.NameStanding}
pub use Rattle.am_lawful_defs.specs.Watching.{Watching, watching_at_start, standing, watch_step as watched_step, note_stop, pass_event, watch_accepts}
pub use Rattle.am_lawful_defs.specs.Watches.{Watches, NameSteps, SteppedTo, standing_of, last_view_of_node, entries_added_to_group, StampIsNew}
pub use Rattle.am_lawful_defs.proofs.{Events.watch_is_after_event, Events.world_stepped_to_node, Steps.steps_are_watched}
pub use Rattle.am_model.proofs.Steps.{node_end_has_same_top, whole_step_comes_to_end, untrimmed_node_is_own_end}
pub use Rattle.am_node.specs.{declared.node.Node.Node, Stands.state_of}
pub use Rattle.am_step_laws.proofs.{Items.slice_get_after_push}
pub use Rattle.am_step_laws.specs.{Numbers.NodeNumbers}
pub use Rattle.am_step_laws.proofs.Named.{actor_is_below_256, run_has_names}
pub use Rattle.am_step_laws.proofs.Numbers.EventCounts.{event_keeps_actor_numbers_low}
pub use Rattle.am_step_laws.proofs.Numbers.RunCounts.{bounds_after_events, run_has_low_numbers}
pub use Rattle.am_step_laws.proofs.Numbers.RunCounts.{number_bounds_hold_in_runs}
pub use Rattle.am_step_laws.proofs.Watching.Watched.{watch_all_with_one_more, stop_is_watched, idle_event_is_watched, return_is_watched, first_watching_is_kept}
pub use Rattle.am_lawful_watch.specs.Watchers.{watching_of}
pub use Rattle.am_journal.specs.declared.asked.{Asked.Asked, Heard.Heard}
pub use Rattle.am_world.specs.Moves.{IsReadyAt, StepsAt, WorldIsReady}
pub use Rattle.am_world.specs.Runs.{Play, replay, play_after, AreNodes, AreLives, AreFlags, IsRun, play_of, EventIsAnswered, AreFirst, Shows}
pub use Rattle.am_journal.specs.Asked.{OnStep, flag_of, if_running, first_bytes, give_up_or_answer, stops_node, returns, event_or_answer, SpellsPacket, heard_of}
pub use Rattle.am_world.specs.Asked.{comes, after_answer}
pub use Rattle.am_lawful_defs.specs.Telling.{shown_node_of, list_begins_in_step, standing_after, views_stored_in_step, stops_by_outcome}
unfoldable pub use Rattle.am_lawful_defs.specs.Telling.{watching_after_told_step}
pub use Rattle.am_world.specs.Watched.{IsWatched}
