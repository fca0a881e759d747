-- The words of this crate's proofs, of the crates and definitions that they come from.
pub use Rattle.std.{proofs.Math.Bool.or-true, proofs.Math.Bool.or-false, proofs.lemmas.Bool.Decides.nat_tests, proofs.lemmas.List.Elements.filter-append}
pub use Rattle.std.{proofs.lemmas.List.Folds.list_any-append, proofs.lemmas.List.FromFn.get_or-map-range_with_len}
pub use Rattle.std.{proofs.lemmas.List.FromFn.length-map-range_with_len, specs.List.range_with_len, specs.List.list_any}
pub use Rattle.std.proofs.Common.{◌≡◌, ℕ, ◌<◌, ◌≤◌, true, false, if◌then◌else◌, [], length, map, slice_index, refl, sym, ap, ◌∙◌, inl, inr, arith, ◌+◌, min}
pub use Rattle.std.proofs.Common.{Bool, not, ◌&&◌, ◌||◌, ◌==◌, nat_le, nat_lt, List, take, count_by, slice_index_or, ◌∷◌, ◌++◌, filter, Option, Some, None}
pub use Rattle.std.proofs.Common.{subst, drop, zero, suc, ◌≢◌, replicate, slice_set}
pub use Rattle.std.proofs.lemmas.Bool.{cases_lt, le-leb, lt-leb, eqb-true, or_parts, not-true}
pub use Rattle.std.proofs.lemmas.List.{get_or_past, take-append-le, append-nil, drop_more, at_drop_all, set-set, get_or-set_same, get_or-set_other, length-set}
pub use Rattle.std.proofs.lemmas.List.{length-append, length-replicate, get_or-replicate, map-append}
pub use Rattle.am_base.specs.{Names.has, Names.place_of_name, Names.life_of_name, Names.size, Names.names_of, Names.names_from, Names.name_of_place_and_life, Names.rank_of_name}
pub use Rattle.am_base.specs.{Founding.Rules, Founding.MayFound, Stamps.stamp_is_less, Stamps.stamps_are_equal, declared.name.Stamp.Stamp, declared.entry.Entry.Entry}
pub use Rattle.am_base.specs.{declared.entry.GroupView.GroupView, declared.outcome.Outcome.Outcome}
pub use Rattle.am_base.specs.declared.entry.Entry.TheVariants.{Data, Join, Leave, View}
unfoldable pub use Rattle.am_base.specs.Lists.{image_after_entries}
pub use Rattle.am_base.proofs.Greatest.{split_on_bool, both_of_and}
pub use Rattle.am_node_defs.proofs.ReportLaws.{names_from_next_place, names_from_last_place}
pub use Rattle.am_group.specs.declared.event.Event.{Event}
pub use Rattle.am_model.specs.{declared.status.Status.TheVariants.Member, Emit.StepResult}
pub use Rattle.am_model.specs.Node.{founder, stranger_node, founding_stamp, has_departed, Node, view, is_member, map_with_value}
pub use Rattle.am_group_defs.specs.World.{first_node, World, world_with_next_life, current, is_stopped, list_after_step, happens, Decided, last_view_of}
pub use Rattle.am_group_defs.specs.Lawful.{is_view_of, Watch}
unfoldable pub use Rattle.am_group_defs.specs.{World.world_with_record, Lawful.watch_event}
pub use Rattle.am_lawful_defs.specs.{declared.views.DecidedView.DecidedView, declared.views.NameStanding.NameStanding, declared.views.Pending.Pending}
pub use Rattle.am_lawful_defs.specs.Watching.{blank_standing, standing, standing_at_start, founders_decided_view, watching_at_start, Watching, is_there_and_at_most, greater_if_complete, comes_after_view, end_event}
pub use Rattle.am_lawful_defs.specs.Watching.{pass_event, number_or_else, flags_are_equal, standings_are_alike, watching_with_standing, new_pending, decided_views, watching_with_decided, watching_with_entries}
pub use Rattle.am_lawful_defs.specs.Watching.{store_view, note_entry, entry_is_view, watch_step, place_view_among_entries, watch_accepts}
pub use Rattle.am_lawful_defs.specs.Watches.{standing_of, BeginningIsWatched, decided_of_view, WatchSees, IsNoted, watch_after, entries_added_to_group, SameButWhoStopped, SteppedTo, comes_after}
pub use Rattle.am_lawful_defs.specs.Watches.{WatchesUpTo, last_view_of_node, has_in_list, Watches, StampIsNew, NameSteps, StepsAreWatched, StopsAreWatched, OthersAreWatched}
pub use Rattle.am_lawful_defs.specs.Watches.{EntriesGoOn, AcceptedGoesOn}
unfoldable pub use Rattle.am_lawful_defs.specs.{Watching.number_of_view, Watching.watch_greatest, Watching.look_for_complete_view, Watching.note_entries, Watching.watch_finish, Watches.HoldsOfEach}
