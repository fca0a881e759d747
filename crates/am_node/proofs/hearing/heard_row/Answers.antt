use Rattle.std.proofs.Common.{subst}
use Rattle.am_packet.specs.Limits.{PacketIsWithin}
use Rattle.am_node.proofs.Within.{request_number_of_packet, spread_number_of_packet, bcast_number_of_packet, order_number_of_packet, welcome_numbers_of_packet, invite_round_of_packet, vote_round_of_packet, piece_entry_of_packet, result_view_of_packet}
use Rattle.am_node.proofs.hearing.heard_row.Goals as goal

pub on_request-requires-clause-req : goal.on_request-requires-clause-req
on_request-requires-clause-req c = request_number_of_packet c.in-Request.sender c.in-Request.stamp c.in-Request.report c.in-Request.req c.in-Request.body
    (subst PacketIsWithin c.in-Request.is c.requires.within)

pub on_request-requires-then-is_sequencer-clause-req : goal.on_request-requires-then-is_sequencer-clause-req
on_request-requires-then-is_sequencer-clause-req c = spread_number_of_packet c.in-Spread.sender c.in-Spread.stamp c.in-Spread.report c.in-Spread.req c.in-Spread.body
    (subst PacketIsWithin c.in-Spread.is c.requires.within)

pub on_bcast-requires-clause-number : goal.on_bcast-requires-clause-number
on_bcast-requires-clause-number c = rw c.told.ensures (bcast_number_of_packet c.in-Bcast.sender c.in-Bcast.stamp c.in-Bcast.base c.in-Bcast.acc c.in-Bcast.number
    c.in-Bcast.entry (subst PacketIsWithin c.in-Bcast.is c.requires.within)).0

pub on_bcast-requires-clause-entry : goal.on_bcast-requires-clause-entry
on_bcast-requires-clause-entry c = (bcast_number_of_packet c.in-Bcast.sender c.in-Bcast.stamp c.in-Bcast.base c.in-Bcast.acc c.in-Bcast.number c.in-Bcast.entry
    (subst PacketIsWithin c.in-Bcast.is c.requires.within)).1

pub on_order-requires-clause-number : goal.on_order-requires-clause-number
on_order-requires-clause-number c = rw c.told-in-Order.ensures (order_number_of_packet c.in-Order.sender c.in-Order.stamp c.in-Order.base c.in-Order.acc
    c.in-Order.number c.in-Order.from c.in-Order.req (subst PacketIsWithin c.in-Order.is c.requires.within)).0

pub on_order-requires-clause-req : goal.on_order-requires-clause-req
on_order-requires-clause-req c = (order_number_of_packet c.in-Order.sender c.in-Order.stamp c.in-Order.base c.in-Order.acc c.in-Order.number c.in-Order.from
    c.in-Order.req (subst PacketIsWithin c.in-Order.is c.requires.within)).1

pub on_welcome-requires-clause-stamp : goal.on_welcome-requires-clause-stamp
on_welcome-requires-clause-stamp c = (welcome_numbers_of_packet c.in-Welcome.sender c.in-Welcome.stamp c.in-Welcome.base c.in-Welcome.join c.in-Welcome.image
    (subst PacketIsWithin c.in-Welcome.is c.requires.within)).0

pub on_welcome-requires-clause-base : goal.on_welcome-requires-clause-base
on_welcome-requires-clause-base c = (welcome_numbers_of_packet c.in-Welcome.sender c.in-Welcome.stamp c.in-Welcome.base c.in-Welcome.join c.in-Welcome.image
    (subst PacketIsWithin c.in-Welcome.is c.requires.within)).1

pub on_welcome-requires-clause-image : goal.on_welcome-requires-clause-image
on_welcome-requires-clause-image c = (welcome_numbers_of_packet c.in-Welcome.sender c.in-Welcome.stamp c.in-Welcome.base c.in-Welcome.join c.in-Welcome.image
    (subst PacketIsWithin c.in-Welcome.is c.requires.within)).2

pub on_invite-requires : goal.on_invite-requires
on_invite-requires c = invite_round_of_packet c.in-Invite.sender c.in-Invite.stamp (subst PacketIsWithin c.in-Invite.is c.requires.within)

pub on_vote-requires-clause-within : goal.on_vote-requires-clause-within
on_vote-requires-clause-within c = vote_round_of_packet c.in-Vote.sender c.in-Vote.stamp c.in-Vote.vote (subst PacketIsWithin c.in-Vote.is c.requires.within)

pub on_piece-requires-clause-entry : goal.on_piece-requires-clause-entry
on_piece-requires-clause-entry c = piece_entry_of_packet c.in-Piece.sender c.in-Piece.stamp c.in-Piece.base c.in-Piece.number c.in-Piece.entry
    (subst PacketIsWithin c.in-Piece.is c.requires.within)

pub on_result-requires-clause-within : goal.on_result-requires-clause-within
on_result-requires-clause-within c = result_view_of_packet c.in-Result.sender c.in-Result.base c.in-Result.number c.in-Result.view
    (subst PacketIsWithin c.in-Result.is c.requires.within)
