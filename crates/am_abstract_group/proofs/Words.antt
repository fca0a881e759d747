-- The words of this crate's proofs, of the crates and definitions that they come from.
pub use Rattle.std.proofs.Common.{◌≡◌, ◌≢◌, ◌⊎◌, ⊎_elim, inl, ℕ, ◌<◌, ◌≤◌, true, List, length, Option, Some, None, sym, ap, ◌∙◌, subst, arith, inr, false, refl}
pub use Rattle.std.proofs.Common.{zero, suc, ◌+◌, ◌-◌, min, [], ◌∷◌, ◌++◌, take, slice_get, Bool, length-append, ◌==◌, ◌&&◌, nat_le, if◌then◌else◌, ◌||◌, not}
pub use Rattle.std.proofs.Common.{nat_lt}
pub use Rattle.std.proofs.{lemmas.Bool.Decides.nat_tests, lemmas.List.take-append-le, lemmas.Option.slice_get_within}
pub use Rattle.std.specs.List.{range_with_len}
pub use Rattle.am_base.proofs.Members.{member_stays_by_push, pushed_list_is_good, member_of_both_is_between, empty_list_is_good, empty_list_has_no_member, member_of_pushed_view_members, name_in_view_is_member, beginning_of_good_is_good, MembershipEnds, membership_ends_between, leaver_was_member}
pub use Rattle.am_base.proofs.Members.{leaver_is_no_member}
pub use Rattle.am_base.proofs.Order.{equal_keys_have_equal_names, view_stays_by_pushed_non_view, view_key_grows_along_list, view_after_pushed_view, greater_view_fits, resilience_of_pushed_view, resilience_grows_along_list, view_below_pushed_view}
pub use Rattle.am_base.proofs.Prefixes.{list_begins_itself, begins_through_both, beginning_is_no_longer, front_begins_append, shorter_beginning_begins_longer, begins_push_or_is_push, taken_front_begins_list, length_of_taken_list}
pub use Rattle.am_base.proofs.Prefixes.{begins_not_longer_is_same, begins_push_next_entry, length_of_pushed_list, begins_below_begins, proper_beginning_is_shorter, shorter_beginning_is_below, empty_list_begins_all, take_length_of_beginning}
pub use Rattle.am_base.proofs.{Greatest.split_on_bool, Rows.le_or_gt, Rows.EntrySparesMember, Rows.row_of_place, Rows.sixteen_rows_after_entry}
pub use Rattle.am_base.specs.{Fronts.counting_names_of_entry, Lists.members_of_image, Lists.blank, Lists.after, Lists.request_of_sender_in_entry, Lists.requests_of_sender, Names.has, Names.rank_of_name}
pub use Rattle.am_base.specs.{Names.place_of_name, Names.life_of_name, Stamps.no_stamp, Whole.IsBeginningOf, Whole.IsGoodList, Whole.IsNotView, Whole.ViewNameIsByte, Whole.image_of_list}
pub use Rattle.am_base.specs.{Whole.resilience_of_list, declared.entry.Entry.Entry, declared.entry.GroupView.GroupView, declared.entry.Entry.TheVariants.View}
pub use Rattle.am_base.specs.{declared.entry.Entry.TheVariants.Data, declared.entry.Entry.TheVariants.Join, declared.entry.Entry.TheVariants.Leave}
pub use Rattle.am_base.specs.{declared.image.Image.Image, declared.name.Stamp.Stamp}
pub use Rattle.am_abstract_group.specs.Group.{Group, IsThere, IsUp, ChainNode, list_with_chosen_view, Views, count_of_passing_names, counting_names_in, need_count, chain_of, Leads, MayAccept, current_of}
pub use Rattle.am_abstract_group.specs.Group.{IsOngoing, IsHeld, Chosen, IsNoBetterList}
pub use Rattle.am_abstract_group.specs.Kept.{GroupKeeps, NodeIsSound, ShownListIsPromised, ServedListBeginsChain, Witness, DepartedLeaveIsStored, ViewsAreSound, FrontsAreAccepted, LeaderHasChain, JoinIsAccepted, LateNodeHasLeft, BallotIsAboveView}
pub use Rattle.am_abstract_group.specs.Moves.{group_with_node, next_own_stamp, node_with_entry, GroupMayWelcome, IsGreaterBegunStamp, MayNumber, MayDepart, group_with_line, Move, numbers, stores, accepts, learns}
pub use Rattle.am_abstract_group.specs.Moves.{begins, raises, shows, serves, fetches, decides, gives_over, welcomes, asks, departs, closes, stops, CoordinatorMayDecide, chosen_by}
pub use Rattle.am_abstract_group.specs.Moves.{group_with_choice, ShowedNoBetterList}
pub use Rattle.am_abstract_group.specs.Runs.{GroupMayBegin, first_stamp, first_choice, group_start, IsNoDecision, quiet, quietly, IsLawful, counts_for, ViewCompletes, GroupStep, Run}
pub use Rattle.am_abstract_group.specs.Runs.{founded, more, Onward, here, onward}
pub use Rattle.am_abstract_group.specs.{Claims.RunsKeep, Claims.ChoicesKeep, Claims.CompleteViewsStand, MovesClaims.QuietRunsKeep}
unfoldable pub use Rattle.am_base.specs.{Lists.fits, Lists.image_after_entries, Lists.AllEntriesFit, Whole.stamp_of_list, Whole.is_member_at_end, Whole.key_of_stamp}
unfoldable pub use Rattle.am_abstract_group.specs.Group.{function_with_value_of_two, function_with_value, count_of_passing_below}
