use Rattle.std.proofs.Common.{refl, ap, ◌∙◌, ◌++◌}
use Rattle.am_c.proofs.Sessions.{session_waits_with_answer}
use Rattle.am_c.proofs.session.Session.hold.Goals as goal

pub returns-clause-waits : goal.returns-clause-waits
returns-clause-waits c rules name before =
    let holds = c.make.ensures.asked ∙ c.in_ok-extend_from_slice.ensures.items ∙ ap (λ xs. xs ++ c.kept-kept.result.now) c.clear.ensures.items in
    session_waits_with_answer c.args.self.now _ rules name before c.args.form c.args.asked.now _
    c.kept-kept.ensures c.make.ensures.form holds refl c.make.ensures.rules c.in_ok-make.ensures.made
