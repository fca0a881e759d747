use Rattle.am_safety.proofs.Fitted.{views_fit}
use Rattle.am_safety.proofs.views_fit.Goals as goal

pub returns : goal.returns
returns c = views_fit
