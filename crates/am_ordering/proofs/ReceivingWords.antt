-- The words of this crate's proofs, of the crates and definitions that they come from.
pub use Rattle.std.{proofs.lemmas.Bool.Decides.nat_tests, specs.List.list_any}
pub use Rattle.std.proofs.Common.{◌≡◌, ℕ, List, [], Bool, if◌then◌else◌, take, ◌==◌, sym, ap, ◌∙◌, zero, suc, ◌+◌, ◌<◌, ◌≤◌, ◌∷◌, length, slice_index, refl}
pub use Rattle.std.proofs.Common.{true, false, ◌&&◌, nat_lt, count_by, arith, Option, ◌-◌, not, ◌||◌, nat_le, Some, subst}
pub use Rattle.am_base.specs.{declared.entry.Entry.Entry, declared.outcome.Outcome.Outcome, Lists.fits, Lists.top_of_log}
pub use Rattle.am_base.specs.Names.{names_of, without_name, IsSetOfNames, has, place_of_name, life_of_name, name_of_place_and_life, names_from}
pub use Rattle.am_packet.specs.{Boxes.Letter, Boxes.with_letter}
pub use Rattle.am_node_defs.specs.Cores.{CoreState, CoreChangesAlike, CoreFrontsAreInOrder}
pub use Rattle.am_node_defs.proofs.ReportLaws.{count_by_of_cons}
pub use Rattle.am_node_defs.specs.declared.bodies.KeptBody.{KeptBody}
pub use Rattle.am_model.specs.{Emit.ack_packet_of, Emit.plan_without_letters, Emit.plan_with_letter, Emit.nack_packet_of, Emit.Plan, Refresh.refresh_at_end, Ends.IsEndOf}
pub use Rattle.am_model.specs.Node.{Node, image_of_node, members, set_of_one_name, push_entry, top, has_own_leave, number_is_within_bound, is_member}
pub use Rattle.am_model.specs.Receiving.{bodies_after_stored_entry, acknowledges, store_fitting_entry, node_with_noted_fronts, receive_entry, is_view, store_numbered_entry}
unfoldable pub use Rattle.am_model.specs.Receiving.{accept_row, bcast_row, order_row}
pub use Rattle.am_model.proofs.{Hearing.receive_entry_is_alike}
pub use Rattle.am_node_parts.proofs.{Ends.change_of_core_changes_node, Ends.untrimmed_node_ends_itself}
pub use Rattle.am_node_parts.proofs.Keeping.{refresh_at_end_keeps_name, steady_node_keeps_order, end_of_node_is_steady, end_keeps_node_order, steady_nodes_follow_each_other, steady_node_stays_sequencer, bodies_keep_node_order, push_keeps_node_order, status_of_member_has_log}
pub use Rattle.am_node_parts.specs.{Keeps.NodeKeeps, Keeps.IsSteady, Parts.node_of, declared.parts.Parts.Parts}
pub use Rattle.am_ordering.specs.Receiving.{ack_where, note}
pub use Rattle.am_node_parts.specs.{declared.reply.Reply.Reply, Replies.Replies, Replies.Ends, Replies.reply_with_telling}
pub use Rattle.am_node_parts.specs.{Replies.reply_with_answer, Replies.outcome_of_answer}
pub use Rattle.am_node_parts.proofs.Replying.{equal_reply_of_equal_plan, reply_quiet_with_outcome, reply_tells_one_note, reply_on_whole_log, reply_without_departure, node_ends_as_itself}
