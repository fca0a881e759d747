use Rattle.am_base.proofs.Members.{member_of_both_is_between}
use Rattle.am_base.proofs.laws.members_stay_between.Goals as goal

pub returns : goal.returns
returns c = λ a b c name g h k x y. member_of_both_is_between name g h k x y
