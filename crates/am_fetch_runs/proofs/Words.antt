-- The words of this crate's proofs, of the crates and definitions that they come from.
pub use Rattle.am_lawful_runs.proofs.Words.{◌≡◌, inl, inr, ℕ, zero, suc, ◌+◌, ◌-◌, ◌<◌, ◌≤◌, ◌==◌, nat_lt, nat_le, Bool, true, false, List, [], ◌∷◌, ◌++◌}
pub use Rattle.am_lawful_runs.proofs.Words.{length, take, slice_get, None, Some, refl, sym, ap, ◌∙◌, subst, arith, nat_tests, View, Rules, MayFound, has, place_of_name, life_of_name}
pub use Rattle.am_lawful_runs.proofs.Words.{split_on_bool, both_of_and, Entry, Image, Stamp, Log, log_image_at, log_entry_at, image_of_log, blank, stamps_are_equal, stamp_is_less, Event}
pub use Rattle.am_lawful_runs.proofs.Words.{Node, top, view, is_member, is_sequencer, acts_in_its_view, World, run, is_stopped, whole, lowest_name_or_zero, eqb-true}
pub use Rattle.am_lawful_runs.proofs.Words.{IsGoodList, IsBeginningOf, key_of_stamp, begins_push_next_entry, taken_front_begins_list, length_of_taken_list, length_of_pushed_list, beginning_of_good_is_good}
pub use Rattle.am_lawful_runs.proofs.Words.{shorter_beginning_begins_longer, member_has_member_row, row_of_place, view_after_pushed_view, name_of_view_is_byte}
pub use Rattle.am_lawful_runs.proofs.Words.{key_is_less_for_lesser_stamp, view_key_grows_along_list, stamp_eq_gives_equality, member_status_has_log, member_has_not_departed, image_of_whole_list, length_of_whole_list}
pub use Rattle.am_lawful_runs.proofs.Words.{view_number_le_length, image_at_of_whole_list, Group, chain_of, IsUp, list_with_chosen_view, GroupKeeps, Following, group_run_is_kept, run_trims_only_taken}
pub use Rattle.am_lawful_runs.proofs.Spared.{StopsNobody, LawfulUntilLastStop, lawful_is_until_last_stop, some_group_follows_until_last_stop}
unfoldable pub use Rattle.am_base.specs.Whole.{is_member_at_end, stamp_of_list}
pub use Rattle.am_base.specs.Whole.{image_of_list}
pub use Rattle.am_model.specs.Node.{members, image_of_node}
pub use Rattle.am_step_laws.proofs.Named.{names_hold_in_runs}
pub use Rattle.am_abstract_group.specs.Group.{Leads, current_of}
pub use Rattle.am_fetch_runs.specs.Behind.{RunsInListOf, MembersHavePromised, LagsBehind, LaggersMayCatchUp, LaggersReachView}
