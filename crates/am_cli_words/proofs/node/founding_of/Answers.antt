use Rattle.am_cli_words.proofs.Nodes.{founding_found_is_founding_of}
use Rattle.am_cli_words.proofs.node.founding_of.Goals as goal

pub returns : goal.returns
returns c = founding_found_is_founding_of c.args.founders c.args.resilience c.args.window c.args.pb_up_to c.new.result c.each_life-lives.ensures.set c.new.ensures.variant c.new.ensures.value
