use Rattle.am_abstract_group.proofs.Runs.{choices_keep_what_was_accepted}
use Rattle.am_abstract_group.proofs.choices_keep.Goals as goal

pub returns : goal.returns
returns c = choices_keep_what_was_accepted
