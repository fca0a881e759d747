-- What is claimed of whole lists.
use Rattle.std.specs.Prelude.{◌≡◌, ◌≤◌, ℕ, true, List}
use Rattle.am_base.specs.declared.entry.Entry.{Entry}
use Rattle.am_base.specs.Whole.{IsBeginningOf, IsGoodList, is_member_at_end, key_of_stamp, stamp_of_list, resilience_of_list}

abbrev pub MembersStayBetween : Type 0
MembersStayBetween = (a b c : List Entry) (name : ℕ) → IsGoodList c → IsBeginningOf a b → IsBeginningOf b c → is_member_at_end a name ≡ true → is_member_at_end c name ≡ true → is_member_at_end b name ≡ true

pub record ViewAndResilienceAreNoGreater (a b : List Entry) : Type 0 where
  pub view : key_of_stamp (stamp_of_list a) ≤ key_of_stamp (stamp_of_list b)
  pub resilience : resilience_of_list a ≤ resilience_of_list b

abbrev pub ViewsRise : Type 0
ViewsRise = (a b : List Entry) → IsGoodList b → IsBeginningOf a b → ViewAndResilienceAreNoGreater a b
