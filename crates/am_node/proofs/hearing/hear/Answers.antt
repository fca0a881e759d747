use Rattle.std.proofs.Common.{refl, sym, ◌∙◌}
use Rattle.am_base.specs.declared.outcome.Outcome.TheVariants as said
use Rattle.am_node_parts.specs.Parts.{node_of}
use Rattle.am_node_parts.proofs.Ends.{untrimmed_node_ends_itself}
use Rattle.am_node_parts.proofs.Replying.{equal_reply_of_equal_plan, reply_quiet_with_outcome}
use Rattle.am_node.proofs.Heard.{hear_row_of_heard_packet, hear_row_of_packet_elsewhere}
use Rattle.am_node.proofs.hearing.hear.Goals as goal

pub returns-then-is_heard : goal.returns-then-is_heard
returns-then-is_heard c =
    equal_reply_of_equal_plan (hear_row_of_heard_packet (node_of c.args.parts.now) c.args.packet.now (sym c.is_heard.ensures ∙ c.if-is_heard.true)) refl c.heard_row.ensures

pub returns : goal.returns
returns c =
    let old = node_of c.args.parts.now in
    equal_reply_of_equal_plan (hear_row_of_packet_elsewhere old c.args.packet.now (sym c.is_heard.ensures ∙ c.if-is_heard.false)) c.quiet.ensures
    (reply_quiet_with_outcome old old said.Elsewhere (untrimmed_node_ends_itself old))
