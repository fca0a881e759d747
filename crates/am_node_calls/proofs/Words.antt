-- The words of this crate's proofs, of the crates and definitions that they come from.
pub use Rattle.std.{proofs.lemmas.Bool.Decides.nat_tests, proofs.lemmas.List.get_or-replicate}
pub use Rattle.std.{proofs.lemmas.List.Sums.sum_by-cons, specs.List.list_any, specs.Prelude.count_by, specs.Prelude.slice_set}
pub use Rattle.std.proofs.Common.{◌≡◌, ℕ, ◌≤◌, List, [], ◌∷◌, filter, find, Bool, true, false, not, ◌&&◌, ◌==◌, None, refl, sym, ◌∙◌, ap, subst, arith, ◌+◌}
pub use Rattle.std.proofs.Common.{◌<◌, length, nat_lt, nat_le, Option, Some, option_map, slice_index, ◌≢◌, ◌||◌, if◌then◌else◌}
pub use Rattle.std.proofs.Common.{get_or, get_or-set_same, get_or-set_other, is_some}
pub use Rattle.am_base.specs.{Names.life_of_name, Names.has, Names.size, Names.list_by_place}
pub use Rattle.am_base.specs.{declared.entry.Entry.TheVariants.Data}
pub use Rattle.am_base.specs.{declared.entry.Entry.TheVariants.Leave, declared.outcome.Outcome.Outcome, declared.entry.Entry.Entry}
pub use Rattle.am_base.specs.Lists.{row_at_place, log_entry_at}
unfoldable pub use Rattle.am_base.specs.Lists.{fits}
pub use Rattle.am_base.proofs.Places.{sixteen_items_are_by_place}
pub use Rattle.am_packet.specs.{Boxes.with_letter}
pub use Rattle.am_node_defs.proofs.{Folds.split_on_bool_of_log, Members.members_after_pushed_data}
pub use Rattle.am_node_defs.specs.{Kept.IsKept}
pub use Rattle.am_node_defs.specs.Bodies.{is_body_of_send, keep_body}
pub use Rattle.am_node_defs.specs.declared.sender.OwnSend.{OwnSend}
pub use Rattle.am_node_defs.proofs.Lines.{next_in_line_is_waiting}
pub use Rattle.am_model.specs.{declared.status.Status.Status, Emit.plan_without_letters, Emit.Plan, Emit.bcast_packet_of}
pub use Rattle.am_model.specs.{Receiving.answer_hold, Sequencing.row_of_name_in_list}
pub use Rattle.am_model.specs.Node.{Node, image_of_node, view, is_member, top, other_members, set_of_one_name, own_row, acts_in_its_view, has_room, is_sequencer, waiting_send_of}
pub use Rattle.am_model.specs.Node.{push_entry, lowest_name_or_zero, node_unsettled_count, Ballot}
pub use Rattle.am_model.specs.Calls.{emit_waiting_send, hand_in_send, plan_of_leaving, is_unfinished_ballot, begin_leaving, leave_by_status, give_out_entry, join_by_status, queue, node_with_queued_send, would_emit_send, ask_to_join}
pub use Rattle.am_model.specs.Ticks.{tick_of_coordinator, tick_of_non_acting_member, tick_of_follower, tick_of_sequencer, tick_of_acting_member, tick_by_ballot, tick_by_status, tick_outcome_of_waiting_send}
unfoldable pub use Rattle.am_model.specs.{Emit.finish, Calls.leave_row, Calls.send_row, Calls.done_row, Calls.take_row, Calls.join_row}
unfoldable pub use Rattle.am_model.specs.{Refresh.refresh_at_end, Receiving.spread_row, Receiving.hold_row, Joining.gone_row}
unfoldable pub use Rattle.am_model.specs.{Ticks.tick_row}
pub use Rattle.am_node_parts.specs.{Keeps.NodeKeeps, Keeps.RequestMayBeDue, Parts.node_of}
pub use Rattle.am_node_parts.specs.{declared.parts.Parts.Parts}
pub use Rattle.am_node_parts.proofs.{Ends.untrimmed_node_ends_itself}
pub use Rattle.am_node_parts.proofs.Keeping.{steady_node_keeps_order, status_of_member_has_log, MayHoldSends, push_keeps_node_order, sequencer_status_has_log}
pub use Rattle.am_node_parts.proofs.Keeping.{leaving_keeps_node_order, new_sends_keep_node_order, bodies_keep_node_order}
pub use Rattle.am_node_parts.specs.{declared.reply.Reply.Reply, declared.reply.Telling.Telling, Replies.Replies, Replies.Ends, Replies.reply_without_letters, Replies.reply_with_telling}
pub use Rattle.am_node_parts.proofs.Replying.{equal_reply_of_equal_plan, reply_quiet_with_outcome, reply_tells_one_note, reply_without_departure, step_is_alike_itself, node_ends_as_itself}
pub use Rattle.am_model.specs.Emit.{plan_with_letter}
pub use Rattle.am_node_calls.specs.Forms.{noting, own_send, waits_for, and_poll, handing, hands_over, again_of, again_of_ballot}
