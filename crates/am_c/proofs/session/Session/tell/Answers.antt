use Rattle.std.proofs.Common.{refl, ◌∙◌}
use Rattle.am_c.proofs.Sessions.{session_ready_after_answer, told_text_written_to_room}
use Rattle.am_c.proofs.session.Session.tell.Goals as goal

pub returns-clause-told : goal.returns-clause-told
returns-clause-told c done rules name before asked waits = (
  session_ready_after_answer c.args.self.now _ rules name before asked refl refl waits,
  told_text_written_to_room c.made-answer.result.now _ _ c.args.room.now c.copy_from_slice.ensures.after (c.made-answer.ensures ∙ waits.answer) c.if-room-n.false,
)
