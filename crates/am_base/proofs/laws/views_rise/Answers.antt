use Rattle.am_base.proofs.Order.{view_key_grows_along_list, resilience_grows_along_list}
use Rattle.am_base.proofs.laws.views_rise.Goals as goal

pub returns : goal.returns
returns c = λ a b g h. record { view = view_key_grows_along_list g h; resilience = resilience_grows_along_list g h }
