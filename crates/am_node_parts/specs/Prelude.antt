-- The words that the contracts of a node's handlers are said in, of the crates that they come from.
pub use Rattle.am_base.specs.Most.{greatest_number}
pub use Rattle.am_base.specs.Limits.{NumberIsInRange, EntryIsInRange, RowIsInRange, VoteIsInRange, StampIsInRange, ImageIsInRange}
pub use Rattle.am_base.specs.Lists.{row_at_place, log_entry_at, fits, members_of_image, row_of_name, image_of_log, top_of_log}
pub use Rattle.am_base.specs.Names.{IsSetOfNames, has, names_of, size}
pub use Rattle.am_base.specs.Stamps.{stamps_are_equal, stamp_is_less}
pub use Rattle.am_node_defs.specs.Cores.{CoreFrontsAreInOrder}
pub use Rattle.am_packet.specs.Boxes.{with_letter}
pub use Rattle.am_packet.specs.Limits.{PacketIsWithin}
pub use Rattle.am_model.specs.Node.{has_log_by_status}
pub use Rattle.am_model.specs.Node.{Node, acts_in_its_view, has_own_leave, is_member, is_sequencer, number_is_within_bound, members, set_of_one_name, other_members, push_entry, image_of_node, top}
pub use Rattle.am_model.specs.Node.{trim_node_up_to, view, waiting_send_of}
pub use Rattle.am_model.specs.Ends.{ChangesAllAlike, DoesRow, IsEndOf, TellsAlike}
pub use Rattle.am_node_parts.specs.Keeps.{HasRoomLeft, IsOwnBallot, IsSteady, MayServe, NodeKeeps}
pub use Rattle.am_node_parts.specs.Parts.{node_of}
