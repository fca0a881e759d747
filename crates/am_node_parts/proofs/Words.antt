-- The words of this crate's proofs, of the crates and definitions that they come from.
pub use Rattle.am_model.proofs.EndWords.{◌≡◌, List, false, sym, ◌∙◌, ap, subst, ℕ, ◌+◌, ◌-◌, ◌<◌, ◌≤◌, [], ◌∷◌, length, true, ◌==◌, nat_lt, Some, refl, arith}
pub use Rattle.am_model.proofs.EndWords.{max, min, if◌then◌else◌, Bool, ◌&&◌, Option, None, take, drop, nat_le, nat_tests, Outcome, Image, Row, Entry, Data, Join}
pub use Rattle.am_model.proofs.EndWords.{Leave, View, life_of_name, without_name, has, Log, log_entry_at, image_of_log, row_at_place, fits, members_of_image, row_of_name, log_image_at, stamps_are_equal}
pub use Rattle.am_model.proofs.EndWords.{stamp_is_less, Stamp, Report, Letter, with_letter, Packet, CoreState, CoreFrontsAreInOrder, split_on_bool_of_log, top_of_end_is_top, end_has_image_of_whole_log, CoreWithReports, reports_with_log}
pub use Rattle.am_model.proofs.EndWords.{OwnSend, Node, other_members, is_member, is_sequencer, Ballot, top, image_of_node, view, acts_in_its_view, waiting_send_of, push_entry, node_with_report}
pub use Rattle.am_model.proofs.EndWords.{set_of_one_name, Plan, hold_packet_of, welcome_packet_of, plan_with_poll, plan_without_letters, plan_with_letter, is_data_of, advance_node, core_with_reports_of, accepted_number_of_send, settle_send_at}
pub use Rattle.am_model.proofs.EndWords.{settle_send_where_accepted, IsEndOf, StepComesTo, DoesRow, node_with_log, is_view}
pub use Rattle.am_model.specs.declared.status.Status.{Status}
unfoldable pub use Rattle.am_model.proofs.EndWords.{raise_accepted_to_told, pass_over_below_join, raise_own_report, tell_accept_front, advance_with_reports, trim_to_least_taken, finish, refresh_at_end, refresh, refresh_as_sequencer, settle_waiting_send}
pub use Rattle.std.{proofs.lemmas.List.Sums.position_or_len_is, proofs.lemmas.Option.slice_get-get_or, specs.List.position_or_len, specs.Prelude.position}
pub use Rattle.std.proofs.Common.{⊎_elim, zero, suc, slice_get, ◌≢◌, inl, option_map, ◌++◌, slice_index_or, get_or}
pub use Rattle.std.proofs.lemmas.List.{length-take-le, take_more, take_all, get_or-drop, get_or-take, length-take}
pub use Rattle.am_base.specs.{Names.place_of_name, Lists.request_of_sender_in_entry, Lists.top_of_log, Lists.log_members_at}
unfoldable pub use Rattle.am_base.specs.Lists.{after, image_after_entries, AllEntriesFit}
pub use Rattle.am_node_defs.specs.{Cores.CoreChangesAlike, Cores.CoreKeepsEndOf, Kept.IsKept}
pub use Rattle.am_node_defs.proofs.{Ends.image_at_top_is_told, Ends.told_by_pushed_entry, CoreLaws.untrimmed_core_keeps_own_log}
pub use Rattle.am_node_defs.specs.{Refresh.RefreshesAlike, Refresh.SecondChangesNothing, Refresh.IsMemberOrLastLeaver, Refresh.core_and_reports, Reports.reports_after_report}
pub use Rattle.am_node_defs.specs.declared.bodies.KeptBody.{KeptBody}
pub use Rattle.am_node_defs.specs.Sends.{Sends, next_request}
pub use Rattle.am_model.specs.{Node.has_log_by_status, Node.members, Refresh.node_with_core_and_reports, Ends.TellsAlike, Ends.ChangesAllAlike, declared.status.Status.TheVariants.Member}
pub use Rattle.am_model.specs.{Ballots.own_vote}
unfoldable pub use Rattle.am_model.specs.Emit.{letters_of_entries}
pub use Rattle.am_model.proofs.Sends.{data_of_own_request}
pub use Rattle.am_base.proofs.{Rows.row_of_place, Rows.sixteen_rows_after_entry, Rows.left_of_and, Requests.IsNextRequest, Requests.entry_keeps_requests_in_turn, Requests.request_in_own_data}
pub use Rattle.am_model.proofs.{Nodes.end_of_node_keeps_log, Nodes.refresh_on_whole_log, Plans.PlansAreAlike, Plans.finish_of_alike_plans, Plans.step_comes_to_whole_node}
pub use Rattle.am_node_parts.specs.{Parts.letters_with_accept_front, Parts.some_passes, Parts.accepted_number, Parts.node_of, Keeps.RequestMayBeDue}
pub use Rattle.am_node_parts.specs.{Keeps.NodeKeeps, Keeps.IsOwnBallot, Keeps.IsSteady, Keeps.MayServe}
pub use Rattle.am_node_parts.specs.{declared.parts.Parts.Parts}
pub use Rattle.std.specs.Prelude.{All}
pub use Rattle.std.proofs.Common.{length-drop}
pub use Rattle.std.proofs.lemmas.List.Elements.{All-drop, All-take}
pub use Rattle.am_base.specs.Limits.{EntryIsInRange}
pub use Rattle.am_model.specs.{Emit.entries_to_serve}
pub use Rattle.am_model.proofs.Letters.{with_letter_adds_one}
pub use Rattle.am_node_parts.specs.Replies.{packet_of_entry}
pub use Rattle.std.{proofs.Math.ListN.get_or-map, proofs.lemmas.List.map-set, proofs.lemmas.List.Sums.sum_by-cons}
pub use Rattle.std.proofs.Common.{inr, length-append, slice_index}
pub use Rattle.am_base.specs.{Names.size, Lists.blank_row, Lists.member_life_of_row, Lists.log_with_entry}
pub use Rattle.am_node_storage.proofs.Rows.{members_after_row_set}
pub use Rattle.am_node_defs.specs.Reports.{reports_of}
pub use Rattle.am_model.specs.Node.{names_that_pass, life_where_name_passes}
