use Rattle.std.specs.Prelude.{string_bytes}
use Rattle.am_node_lines.specs.Speakers.{speaking}
use Rattle.am_c.proofs.Sessions.{line_asked_made_answer, event_asked_made_answer}
use Rattle.am_c.proofs.session.Session.make.Goals as goal

pub returns-in-Line-clause-made : goal.returns-in-Line-clause-made
returns-in-Line-clause-made c =
    line_asked_made_answer c.answer.result c.args.form (speaking c.args.self.now.speaker).rules _ _ c.args.kept.now _ _ c.args.self.now.bytes.items
    c.in-Line.is c.clear.ensures.bytes c.answer.ensures.ok

pub returns-in-Event-clause-made : goal.returns-in-Event-clause-made
returns-in-Event-clause-made c =
    event_asked_made_answer c.answer-in-Event.result c.args.form (speaking c.args.self.now.speaker).rules _ _ c.args.kept.now _ _ (string_bytes c.args.self.now.text)
    c.in-Event.is c.clear-in-Event.ensures.items c.answer-in-Event.ensures.ok
