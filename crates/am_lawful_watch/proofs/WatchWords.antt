-- The words of this crate's proofs, of the crates and definitions that they come from.
pub use Rattle.std.{proofs.lemmas.Fn.filter_same, proofs.lemmas.List.FromFn.fill_by_all, specs.List.list_any}
pub use Rattle.std.proofs.Common.{◌≡◌, ℕ, List, [], ◌∷◌, map, Option, Some, None, refl, ap, ◌∙◌, ◌++◌, take, drop, sym, ◌+◌, ◌≤◌, count_by, arith, ◌<◌}
pub use Rattle.std.proofs.Common.{length, slice_index_or, rules}
pub use Rattle.am_base.specs.{declared.name.Stamp.Stamp, declared.entry.Entry.Entry, Names.names_of, Names.names_from}
pub use Rattle.am_base.specs.declared.entry.Entry.TheVariants.{Data, Join, Leave, View}
pub use Rattle.am_lawful_defs.specs.declared.views.Pending.{Pending}
pub use Rattle.am_lawful_defs.specs.Watching.{Watching, number_or_else, place_view_among_entries, place_view, watch_accepts, store_view, pass_event, watch_greatest, watch_has_stored, watch_lags, end_event}
pub use Rattle.am_lawful_defs.specs.Watching.{blank_standing, standing_at_start, comes_after_view}
unfoldable pub use Rattle.am_lawful_defs.specs.Watching.{number_of_view, look_for_complete_view, watch_finish}
pub use Rattle.am_lawful_watch.specs.Watchers.{watching_of}
pub use Rattle.std.{proofs.Math.Bool.or-false, proofs.Math.Bool.or-true}
pub use Rattle.std.proofs.Common.{◌-◌, ◌==◌, ◌&&◌, ◌||◌, not, Bool, true, false, if◌then◌else◌, get_or, append-nil, length-drop}
pub use Rattle.std.proofs.lemmas.List.{take_more, take_all, get_or-drop, length-take}
pub use Rattle.am_base.specs.{declared.event.NodeEvent.NodeEvent, Stamps.stamps_are_equal, Stamps.stamp_is_less}
pub use Rattle.am_model.specs.Node.{is_member}
pub use Rattle.am_lawful_defs.specs.{declared.views.DecidedView.DecidedView, declared.views.ShownNode.ShownNode, declared.views.NameStanding.NameStanding}
pub use Rattle.am_lawful_defs.specs.Watching.{standing, watch_decides, watching_with_decided, watch_with_entry, watching_with_entries, new_pending}
pub use Rattle.am_lawful_defs.specs.Telling.{list_begins_in_step, standing_after, list_of_option, entry_of_heard_piece, view_entry_of, views_stored_in_step, watching_with_views}
pub use Rattle.am_lawful_defs.proofs.Steps.{entries_go_on, accepted_goes_on}
unfoldable pub use Rattle.am_lawful_defs.specs.Watching.{note_entries}
unfoldable pub use Rattle.am_lawful_defs.specs.Telling.{watching_after_told_step}
