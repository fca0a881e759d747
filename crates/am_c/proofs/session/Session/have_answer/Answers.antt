use Rattle.am_c.proofs.Sessions.{waiting_session_waits_again, session_waits_after_call}
use Rattle.am_c.proofs.session.Session.have_answer.Goals as goal

pub returns-else-not-is_same-clause-waits : goal.returns-else-not-is_same-clause-waits
returns-else-not-is_same-clause-waits c rules name before waiting =
    let same = c.is_same.ensures.0 c.if-not-is_same.false in
    waiting_session_waits_again c.args.self.now rules name before waiting c.args.form c.args.asked.now c.in-Waits.is same.0 same.1

pub returns-in-Ok-clause-waits : goal.returns-in-Ok-clause-waits
returns-in-Ok-clause-waits c rules name before waiting =
    session_waits_after_call c.args.self.now c.hold.new.self rules name before waiting _ c.in-Ready.is (c.in-Ok.ensures.waits rules name before)
