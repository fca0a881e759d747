use Rattle.std.proofs.Common.{◌≡◌, drop}
use Rattle.am_script.specs.Seen.{items_seen}
use Rattle.am_base.specs.Names.{empty_set_of_names}
use Rattle.am_script_defs.specs.Founders.{each_founder}
use Rattle.am_script.proofs.founding.each_founder.Given as goal

abbrev pub invariant-loop-value : goal.invariant-loop-value
invariant-loop-value l = each_founder empty_set_of_names (items_seen l.list) ≡ each_founder l.names (items_seen (drop l.value-index l.list))
