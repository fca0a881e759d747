-- The words of this crate's proofs, of the crates and definitions that they come from.
pub use Rattle.std.proofs.Common.{◌≡◌, ⊎_elim, ℕ, zero, suc, ◌+◌, ◌-◌, ◌<◌, ◌≤◌, refl, sym, ◌∙◌, ap, Bool, true, false, ◌&&◌, nat_le, arith, max, List, [], ◌∷◌}
pub use Rattle.std.proofs.Common.{◌++◌, length, take, drop, subst, length-append, length-drop, slice_get, Some, add-one, add-zero, zero-add, ◌⊎◌, inl, inr, min}
pub use Rattle.std.proofs.Common.{nat_lt, Option, None, slice_index, if◌then◌else◌, map, filter, find, option_map, not, ◌==◌, is_none, is_some, ◌||◌}
pub use Rattle.std.proofs.Common.{slice_index_or, replicate, count_by}
pub use Rattle.std.proofs.lemmas.List.{take-append-le, drop-append-le, length-take-le, take-append-drop, drop-drop, take_more, length-map, get_or-map}
pub use Rattle.std.proofs.lemmas.List.{length-set, get_or-set_other, get_or-replicate, get_or_past, length-replicate, drop_more, drop_all}
pub use Rattle.std.specs.List.{list_any, list_all, refill, range_with_len}
pub use Rattle.std.{proofs.lemmas.Bool.Decides.nat_tests, proofs.lemmas.Bool.Decides.eqb_tells, proofs.lemmas.Bool.cases_lt, proofs.Math.Nat.eq-or-lt_of_le}
pub use Rattle.std.{proofs.Math.Nat.sub_self, proofs.lemmas.List.Elements.All-push, proofs.lemmas.List.Elements.All-drop, proofs.lemmas.Option.slice_get_within}
pub use Rattle.std.{proofs.lemmas.Option.get_or_from_slice_get, proofs.Math.Seq.take-add, proofs.Math.Seq.take-length, proofs.Math.Seq.map-set_same}
pub use Rattle.std.{specs.Prelude.IfSome, proofs.lemmas.Grind.get_or-set_at, proofs.lemmas.List.FromFn.get_or-range_with_len}
pub use Rattle.std.{proofs.lemmas.List.FromFn.length-range_with_len, proofs.lemmas.List.Folds.list_all_at, proofs.lemmas.List.Sums.sum_by-cons}
pub use Rattle.am_base.specs.Lists.{Log, top_of_log, image_of_log, members_of_image, log_members_at, log_with_entry, log_image_at, log_entry_at, blank_row, is_blank_image, is_blank_row, row_at_place}
pub use Rattle.am_base.specs.Lists.{member_life_of_row, row_after_view, image_with_row}
pub use Rattle.am_base.specs.Fronts.{is_held, accept_front, counting_names_of_entry, counting_names_at, holder_count_at, is_satisfied, is_acceptable_front}
pub use Rattle.am_base.specs.Names.{union_of_names, place_of_name, life_of_name, name_of_place_and_life, names_from, has, size, names_of}
pub use Rattle.am_base.specs.declared.entry.Entry.TheVariants.{Leave, Data, Join, View}
pub use Rattle.am_base.specs.{declared.image.Report.Report, declared.entry.Entry.Entry, Most.greatest_number, Limits.ImageIsInRange, Limits.EntryIsInRange}
pub use Rattle.am_base.specs.{declared.image.Image.Image, declared.image.Row.Row, Stamps.stamps_are_equal, Stamps.no_stamp}
unfoldable pub use Rattle.am_base.specs.Lists.{image_after_entries, after, fits, AllEntriesFit}
unfoldable pub use Rattle.am_base.specs.{Fronts.greatest_passing_number}
pub use Rattle.am_node_defs.specs.Cores.{CoreState, CoreKeepsEndOf, CoreChangesAlike, CoreAddsEntry, CoreTellsAlike, CoreRowGives, core_with_log, advance_core, trim_core_to, members_since_accepted, trim_core_list}
pub use Rattle.am_node_defs.specs.Reports.{lesser_of_options, least_taken_of_names, reports_of, raise_report, reports_after_report, no_report, no_reports, report_of_all_up_to}
pub use Rattle.am_node_defs.specs.Refresh.{IsMemberOrLastLeaver, CoreWithReports, core_report, base_after_trim, raise_accepted_by_reports, refresh_with_reports, reports_with_log, core_and_reports, RefreshesAlike, SecondChangesNothing}
pub use Rattle.am_node_defs.specs.Sends.{send_has_request, is_unsettled, settle_send, next_unsettled_request, unsettled_sends_are_in_line, SendsAreWithinLimits}
pub use Rattle.am_node_defs.specs.{Kept.IsEndOfLog, Kept.log_above, Kept.IsKept, Laws.TellsTheSame, Laws.EndsTellTheSame, Laws.EndsStay, declared.sender.OwnSend.OwnSend}
unfoldable pub use Rattle.am_node_defs.specs.Refresh.{raise_own_report, tell_accept_front, advance_with_reports, trim_to_least_taken}
unfoldable pub use Rattle.am_node_defs.specs.{Cores.raise_accepted_to_told, Cores.pass_over_below_join, Cores.union_of_members_at, Reports.least_of_names}
pub use Rattle.am_base.proofs.Places.{get_or-by_place, slice_index-by_place, length-by_place, sixteen_items_are_by_place}
