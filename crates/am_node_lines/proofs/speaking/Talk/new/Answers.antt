use Rattle.std.proofs.Common.{rules}
use Rattle.am_node_lines.specs.Speakers.{speaking}
use Rattle.am_node_lines.proofs.Talks.{talk_begins_with_first_node}
use Rattle.am_node_lines.proofs.speaking.Talk.new.Goals as goal

pub returns : goal.returns
returns c = λ start. talk_begins_with_first_node c.args.founding.now c.args.name start (speaking c.in_ok-new.field-0) c.in_ok-with_capacity.field-0.items
    c.in_ok-new.ensures.rules c.in_ok-new.ensures.ready c.in_ok-new.ensures.node (search rules)
