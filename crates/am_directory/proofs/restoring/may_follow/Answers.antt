use Rattle.std.proofs.Common.{ℕ, List, Bor}
use Rattle.std.proofs.Common.{Option, sym, ap, ◌∙◌, refl}
use Rattle.std.specs.declared.cmp.Ordering.{Ordering}
use Rattle.std.specs.Ordering.{is_some_and, is_lt}
use Rattle.std.specs.Option.{option_copied}
use Rattle.std.specs.Cmp.Lexicographic.{lists_agrees}
use Rattle.am_service_defs.specs.Snapshots.{may_follow}
use Rattle.am_directory.proofs.restoring.may_follow.Goals as goal

pub returns-in-Some : goal.returns-in-Some
returns-in-Some c = c.lt.ensures ∙ ap (λ (o : Option Ordering). is_some_and is_lt o) (lists_agrees (λ x y. refl) c.in-Some.last.now c.args.key.now)
    ∙ ap (λ (o : Option (Bor (List ℕ))). may_follow (option_copied o) c.args.key.now) (sym c.in-Some.is)
