use Rattle.am_trim_laws.proofs.Taken.{bases_are_taken, members_have_taken_trims, told_bases_are_taken, trims_are_taken}
use Rattle.am_trim_laws.proofs.members_have_taken_what_is_trimmed.Goals as goal

pub returns-clause-bases : goal.returns-clause-bases
returns-clause-bases c = bases_are_taken

pub returns-clause-told : goal.returns-clause-told
returns-clause-told c = told_bases_are_taken

pub returns-clause-trims : goal.returns-clause-trims
returns-clause-trims c = trims_are_taken

pub returns-clause-members : goal.returns-clause-members
returns-clause-members c = members_have_taken_trims
