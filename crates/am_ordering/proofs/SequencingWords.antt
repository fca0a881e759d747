-- The words of this crate's proofs, of the crates and definitions that they come from.
pub use Rattle.am_model.proofs.EndWords.{◌≡◌, ℕ, ◌+◌, ◌≤◌, List, sym, ap, ◌∙◌, true, false, ◌==◌, nat_lt, arith, ◌<◌, Bool, not, nat_le}
pub use Rattle.am_model.proofs.EndWords.{if◌then◌else◌, Option, Some, None, refl, subst, nat_tests, Entry, Row, Image, Data}
pub use Rattle.am_model.proofs.EndWords.{life_of_name, has, row_at_place, row_of_name, members_of_image, Report, Outcome}
pub use Rattle.am_model.proofs.EndWords.{CoreFrontsAreInOrder, split_on_bool_of_log, Node, set_of_one_name, top, has_room, report_fits, node_with_report, image_of_node, other_members, push_entry}
pub use Rattle.am_model.proofs.EndWords.{Plan, plan_without_letters, plan_with_poll, with_one_more_letter, hold_packet_of, IsEndOf, row_of_name_in_list, has_no_join, take_report}
pub use Rattle.am_model.proofs.EndWords.{serve_again, serve_entries_above, answer_request, number_send_of_member}
unfoldable pub use Rattle.am_model.proofs.EndWords.{ack_row, nack_row, request_row}
pub use Rattle.std.{proofs.Common.slice_index, proofs.Math.ListN.get_or-map}
pub use Rattle.am_base.specs.{Names.place_of_name, Lists.blank_row, Lists.member_life_of_row}
unfoldable pub use Rattle.am_base.specs.Lists.{fits}
pub use Rattle.am_node_defs.proofs.{Members.members_after_pushed_data}
pub use Rattle.am_model.proofs.{Sequencing.answer_request_is_alike, Sequencing.serve_again_is_alike}
pub use Rattle.am_node_parts.specs.{Replies.refusal_or_plan, Parts.node_of}
pub use Rattle.am_node_parts.specs.{declared.parts.Parts.Parts}
pub use Rattle.am_node_parts.proofs.{Ends.untrimmed_node_ends_itself}
pub use Rattle.am_node_parts.proofs.{Keeping.push_keeps_node_order, Keeping.sequencer_status_has_log, Keeping.steady_node_stays_sequencer}
pub use Rattle.am_ordering.specs.Sequencing.{report_refusal, request_refusal}
pub use Rattle.am_ordering.specs.Sequencing.{data_note}
pub use Rattle.am_node_parts.specs.{declared.reply.Reply.Reply, Replies.Replies, Replies.Ends, Replies.reply_with_telling}
pub use Rattle.am_node_parts.specs.{Replies.reply_with_answer, Replies.reply_letters}
pub use Rattle.am_node_parts.proofs.Replying.{equal_reply_of_equal_plan, reply_quiet_with_outcome, reply_says_and_tells, reply_on_whole_log, reply_without_departure, node_ends_as_itself}
