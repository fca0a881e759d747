use Rattle.std.proofs.Common.{refl}
use Rattle.am_c.proofs.Sessions.{first_session_is_ready}
use Rattle.am_c.proofs.session.Session.new.Goals as goal

pub returns : goal.returns
returns c = first_session_is_ready _ _ _ refl c.in_ok-new.ensures.rules c.in_ok-new.ensures.ready c.in_ok-new.ensures.node
