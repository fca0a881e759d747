-- The words of this crate's proofs, of the crates and definitions that they come from.
pub use Rattle.am_model.proofs.EndWords.{◌≡◌, ℕ, Bool, true, false, not, ◌&&◌, ◌||◌, ◌==◌, nat_lt, nat_le, refl, sym, ◌∙◌, arith, ◌+◌, List, if◌then◌else◌}
pub use Rattle.am_model.proofs.EndWords.{Option, Some, None, ap, ◌<◌, ◌≤◌, subst, nat_tests, Stamp, Image, stamp_is_less, stamps_are_equal, row_of_name, row_at_place, members_of_image, Row}
pub use Rattle.am_model.proofs.EndWords.{Report, Outcome, Join, Leave, life_of_name, has, CoreFrontsAreInOrder}
pub use Rattle.am_model.proofs.EndWords.{CoreState, split_on_bool_of_log, Node, view, is_member, set_of_one_name, number_is_within_bound, top, image_of_node, other_members, has_room, push_entry}
pub use Rattle.am_model.specs.declared.status.Status.{Status}
pub use Rattle.am_model.proofs.EndWords.{plan_without_letters, plan_with_letter, nack_packet_of, fetch_packet_of, Plan, plan_with_poll, welcome_packet_of, node_of_welcomed, ask_for_next_entries, answer_join_ask}
pub use Rattle.am_model.proofs.EndWords.{number_join_and_welcome, answer_leave_ask, row_of_name_in_list, has_no_join, take_report}
unfoldable pub use Rattle.am_model.proofs.EndWords.{welcome_row, join_ask_row, leave_ask_row}
pub use Rattle.std.{proofs.Common.◌≢◌, proofs.Common.slice_index, proofs.Common.slice_index_or, proofs.Math.ListN.get_or-map}
pub use Rattle.std.{proofs.lemmas.List.get_or-set_other}
pub use Rattle.am_base.specs.{Lists.blank_row, Lists.member_life_of_row, Lists.image_with_row, Names.place_of_name}
unfoldable pub use Rattle.am_base.specs.Lists.{image_after_entries, fits, after}
pub use Rattle.am_node_defs.proofs.Ends.{told_by_pushed_entry}
pub use Rattle.am_node_defs.specs.Reports.{reports_with_joiner, reports_of}
pub use Rattle.am_model.specs.{declared.status.Status.TheVariants.Asking, declared.status.Status.TheVariants.Member, Node.has_log_by_status, Node.is_asking_status}
pub use Rattle.am_model.specs.{Joining.report_counts}
pub use Rattle.am_model.proofs.Sequencing.{asks_to_leave_is_alike}
pub use Rattle.am_node_parts.specs.{Keeps.NodeKeeps, Parts.node_of}
pub use Rattle.am_node_parts.proofs.{Keeping.steady_node_keeps_order, Keeping.push_keeps_node_order, Keeping.sequencer_status_has_log, Keeping.steady_node_may_serve}
pub use Rattle.am_node_parts.proofs.{Ends.untrimmed_node_ends_itself}
pub use Rattle.am_ordering.specs.Joining.{is_unfit, refusal_of, needs_none, welcome_again, number_leave, leave_again}
pub use Rattle.am_node_parts.specs.{Replies.Replies, Replies.reply_with_telling, Replies.reply_with_poll}
pub use Rattle.am_node_parts.specs.{Replies.reply_of_numbered_entry, Replies.reply_with_answer}
pub use Rattle.am_node_parts.proofs.Replying.{equal_reply_of_equal_plan, reply_quiet_with_outcome, reply_polls_with_outcome, reply_tells_one_note, reply_on_whole_log, reply_without_departure, node_ends_as_itself}
