-- The words of the proofs about what a step stores, of the crates and definitions that they come from.
pub use Rattle.am_step_laws.proofs.Stamps.{stamp_at_most_is_transitive, stamp_at_most_then_below, lower_stamp_is_not_above, stamp_not_below_itself}
pub use Rattle.am_step_laws.proofs.ViewChanges.{sequencer_is_member, hearing_member_has_log, next_round_is_above, welcomed_node_has_no_log, numbered_entry_is_no_view, BallotIsOpenAndPromised, OpenBallotIsPromised, NodeBallotFits}
pub use Rattle.am_step_laws.proofs.Blank.{blank_lists_hold_in_runs}
pub use Rattle.am_step_laws.proofs.Watching.Chains.{WelcomeBaseIsWithin, change_keeps_start_within}
pub use Rattle.am_step_laws.proofs.Hearing.{steps_have_effects, hearing_has_effects}
pub use Rattle.am_step_laws.proofs.Hearing.{refusing_has_effects}
pub use Rattle.am_step_laws.proofs.Watching.Lists.{lists_only_grow_in_runs, HasNoEntriesWithoutLog, run_has_bare_listless_nodes}
pub use Rattle.am_step_laws.proofs.Named.{actor_is_below_256, names_hold_in_runs}
pub use Rattle.am_step_laws.proofs.Watching.New.{decided_views_of_runs_are_new}
pub use Rattle.am_step_laws.proofs.Numbers.RunCounts.{number_bounds_hold_in_runs}
pub use Rattle.am_step_laws.proofs.ViewSteps.{view_of_pushed_view}
pub use Rattle.am_step_laws.specs.Causes.{refuses, CauseHasFronts, with_entry, with_number, alone}
pub use Rattle.am_step_laws.specs.{Blank.IsBlank, Changes.overtaken, Changes.asks_to_leave, Looks.BeginsBy, Looks.by_reset}
pub use Rattle.am_model.specs.{Ballots.is_waited_for, Ballots.verdict_ending, Node.has_departed, Node.has_own_leave, Resets.is_unfetchable_view, Resets.fetches_from}
pub use Rattle.am_model.specs.{Step.row_of_read_bytes}
pub use Rattle.am_packet.specs.{Reading.Read, Reading.reading, Reading.refusal_number, declared.packet.Packet.TheVariants.Piece}
pub use Rattle.am_group_defs.specs.{Lawful.is_view_of, World.world_after_node_event, World.world_after_return}
pub use Rattle.am_lawful_defs.proofs.{Steps.other_entry_has_no_stamp}
pub use Rattle.am_lawful_defs.specs.Telling.{list_begins_in_step, list_of_option, entry_of_piece, entry_of_read_piece, entry_of_heard_piece, view_entry_of, views_stored_in_step}
pub use Rattle.am_lawful_defs.specs.{Watches.standing_of, Watches.last_view_of_node, Watches.StampIsNew, Watching.watch_decides}
pub use Rattle.std.proofs.lemmas.Bool.{not-true, eq-eqb, not-false, or_right, or_left}
pub use Rattle.std.{proofs.Common.Ok, proofs.Common.Err, proofs.Math.Bool.or-false}
