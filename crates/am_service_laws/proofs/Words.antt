-- The words of this crate's proofs, of the crates and definitions that they come from.
pub use Rattle.std.proofs.Common.{zero, suc, ◌+◌, ◌-◌, ◌<◌, ◌≤◌, [], ◌∷◌, ◌++◌, length, take, drop, slice_get, Option, Some, None, refl, sym, ap, ◌∙◌, arith}
pub use Rattle.std.proofs.Common.{append_assoc, length-append, ◌≢◌, Bool, false, ◌==◌, subst, add-zero, ⊎_elim, get_or, slice_index, append-nil, cond}
pub use Rattle.std.proofs.lemmas.List.{take-append-le, drop-append-le, drop_at, length-take-le, length-take}
pub use Rattle.std.proofs.{Math.Seq.take-add, Math.Seq.take-length, Math.Seq.get_or-append_seam, lemmas.Bool.eqb-true, lemmas.Bool.eqb-false}
pub use Rattle.std.proofs.{lemmas.Bool.cond-false, lemmas.Bool.Decides.nat_tests, lemmas.List.Concat.flat_map-append}
pub use Rattle.std.proofs.{lemmas.List.FromFn.get_or-range_with_len, lemmas.Option.slice_get-map, lemmas.Option.slice_get_within}
pub use Rattle.std.specs.{List.enumerate_from, List.range_with_len, Option.option_map}
pub use Rattle.am_base.proofs.Prefixes.{taken_front_begins_list, list_begins_itself, front_begins_append, begins_through_both, push_then_append, entry_after_beginning}
pub use Rattle.am_base.proofs.{Greatest.split_on_bool, Members.beginning_of_good_is_good, Members.last_entry_fits, Members.member_of_both_is_between, Requests.request_in_own_data, Rows.left_of_and}
pub use Rattle.am_base.proofs.{Rows.place_and_life_give_name, Rows.le_or_gt}
pub use Rattle.am_base.specs.{Founding.Rules, Founding.MayFound, Limits.NumberIsInRange, Most.greatest_number, Names.place_of_name, Names.has, Names.life_of_name, Whole.IsGoodList}
pub use Rattle.am_base.specs.{Whole.IsBeginningOf, Whole.image_of_list, declared.entry.Entry.Entry, declared.entry.Entry.TheVariants.Data}
pub use Rattle.am_base.specs.{declared.entry.Entry.TheVariants.Join, declared.entry.Entry.TheVariants.Leave, declared.entry.Entry.TheVariants.View}
pub use Rattle.am_group.proofs.Places.{slice_get_of_append_front}
pub use Rattle.am_group.specs.{Deliveries.deliveries, Journals.item_at, declared.event.Event.Event, declared.event.Record.Record}
pub use Rattle.am_service_defs.proofs.Endings.{length-parts_from, first_parts, first_parts-none, first_parts-of, parts_from_is_first_parts}
pub use Rattle.am_service_defs.proofs.{Ends.list_is_front_and_last, Ends.slice_get-take, Ends.messages_end, Ends.from_place-more, Ends.sent_from_own_place, Spelled.part_count_fits_size}
pub use Rattle.am_service_defs.proofs.{Keeping.empty_contents_are_directory, ReplicaLaws.fold_of_pushed_item, SnapshotLaws.snapshot_in_of_snapshot_of, WithinLaws.contents_stay_within_limits}
pub use Rattle.am_service_defs.specs.{Messages.entries_of, Messages.sent_from, Messages.parts_from, Messages.EndsAt, Parts.part_count, Parts.part_of}
pub use Rattle.am_service_defs.specs.{Contents.Contents, Contents.contents_with, Contents.contents_from, Contents.contents_after, Replicas.or_else, Replicas.for_join}
pub use Rattle.am_service_defs.specs.{Replicas.snapshot_for, Replicas.first_snapshot_after, Snapshots.IsContents, Snapshots.snapshot_of, Snapshots.snapshot_in}
pub use Rattle.am_model.specs.{Node.founders_entry, Step.step}
pub use Rattle.am_group_defs.proofs.{Beginnings.run_begins_longer_run, Runs.front_is_lawful}
pub use Rattle.am_group_defs.specs.{Claims.IsSegment, Claims.BeginsAt, Claims.Segment, Claims.IsSend, Lawful.lawful_front, World.World, World.start, World.run}
pub use Rattle.am_group_defs.specs.{World.record_of, World.happens}
pub use Rattle.am_step_laws.proofs.{Events.events_have_effects, Hearing.steps_have_effects, Items.slice_get_of_front, Items.slice_get_of_pushed, Items.slice_get_of_take}
pub use Rattle.am_step_laws.specs.{Causes.calls, Effects.OutcomeTells, Effects.WasQueued, Effects.AnswersAsk}
pub use Rattle.am_abstract_group.proofs.Turns.{requests_stand_in_turn}
pub use Rattle.am_refinement.proofs.WholeSteps.Starting.{ask_is_no_send, step_sends_each_request_once}
pub use Rattle.am_refinement.proofs.WholeSteps.StepWords.{idle_outcome_queues_nothing}
pub use Rattle.am_lawful_runs.proofs.Words.{◌≡◌, ℕ, List, true, Group, lowest_name_or_zero, group_run_is_kept, steps_are_group_moves, has_log_by_status}
pub use Rattle.am_lawful_runs.proofs.Begun.{group_follows_unbroken_run}
pub use Rattle.am_lawful_runs.proofs.Fold.{PropertyIsKeptByRuns}
pub use Rattle.am_safety.proofs.Holds.{headline_holds, kept_in_unbroken_run, list_begins_at_start}
pub use Rattle.am_safety.proofs.Moments.{record_was_done_at_moment}
pub use Rattle.am_service_laws.specs.AssembledClaims.{world_at_front, DeliveredMessagesEnd, WholeMessagesAreDelivered, SentInParts, SentMessagesEnd, Whole}
pub use Rattle.am_service_laws.specs.Claims.{last_number, contents_up_to, FoundersHold, JoinerHolds, JoinersHold, ReplicasHold, NoneBefore}
pub use Rattle.am_service_laws.specs.Claims.{SentSnapshotsRestore, NoSnapshot}
unfoldable pub use Rattle.am_base.specs.Whole.{is_member_at_end}
unfoldable pub use Rattle.am_service_defs.specs.Messages.{from_place, message_at}
unfoldable pub use Rattle.am_service_defs.specs.Replicas.{first_snapshot, replica_contents}
unfoldable pub use Rattle.am_group_defs.specs.World.{world_after_events, world_with_record, world_with_step}
