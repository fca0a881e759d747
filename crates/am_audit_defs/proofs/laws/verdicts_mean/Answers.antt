use Rattle.am_audit_defs.proofs.Rights.{agreed_reading_is_right}
use Rattle.am_audit_defs.proofs.Saying.{verdict_says_what_holds}
use Rattle.am_audit_defs.proofs.Wrongs.{agreeing_verdict_means_agreed, agreeing_lists_verdict_means_lists}
use Rattle.am_audit_defs.proofs.laws.verdicts_mean.Goals as goal

pub returns-clause-agrees : goal.returns-clause-agrees
returns-clause-agrees c = agreeing_verdict_means_agreed

pub returns-clause-lists_agree : goal.returns-clause-lists_agree
returns-clause-lists_agree c = agreeing_lists_verdict_means_lists

pub returns-clause-say : goal.returns-clause-say
returns-clause-say c = verdict_says_what_holds

pub returns-clause-agreed : goal.returns-clause-agreed
returns-clause-agreed c = agreed_reading_is_right
