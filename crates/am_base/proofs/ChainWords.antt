-- The words of this crate's proofs, of the crates and definitions that they come from.
pub use Rattle.std.{proofs.lemmas.Bool.Decides.nat_tests, proofs.lemmas.List.get_or-map, specs.List.list_all, specs.List.range_with_len}
pub use Rattle.std.proofs.Common.{◌≡◌, ⊎_elim, inl, ℕ, ◌+◌, ◌<◌, ◌==◌, ◌&&◌, nat_lt, true, false, List, [], ◌∷◌, ◌++◌, length, slice_index, refl, sym, ap, ◌∙◌}
pub use Rattle.std.proofs.Common.{subst, arith, append-nil, ◌≤◌, ◌⊎◌, inr, zero, suc, take, Some, slice_get, append_assoc, length-append, ◌≢◌, not, ◌%◌, ◌||◌}
pub use Rattle.std.proofs.Common.{nat_le, Bool, get_or, get_or-set_same, get_or-set_other}
pub use Rattle.am_base.proofs.{Greatest.split_on_bool, Places.get_or-by_place, Places.length-by_place}
pub use Rattle.am_base.specs.{declared.name.Stamp.Stamp, declared.image.Image.Image, declared.image.Row.Row, declared.entry.Entry.Entry}
pub use Rattle.am_base.specs.{declared.entry.GroupView.GroupView, Names.has, Names.place_of_name, Names.life_of_name, Names.rank_of_name, Names.names_are_within, Stamps.stamp_is_less}
pub use Rattle.am_base.specs.declared.entry.Entry.TheVariants.{Leave, View, Data, Join}
pub use Rattle.am_base.specs.Lists.{blank_row, blank, members_of_image, member_life_of_row, row_at_place, is_blank_image, row_of_name, image_with_row, row_after_view, request_of_sender_in_entry, is_blank_row}
unfoldable pub use Rattle.am_base.specs.Lists.{after, fits, image_after_entries, AllEntriesFit}
pub use Rattle.am_base.specs.Whole.{IsBeginningOf, IsGoodList, ViewNameIsByte, image_of_list, IsNotView, IsProperBeginningOf}
unfoldable pub use Rattle.am_base.specs.Whole.{AllViewNamesAreBytes, is_member_at_end, stamp_of_list, resilience_of_list, key_of_stamp}
