use Rattle.std.proofs.Common.{◌≡◌, Some, None, sym, ap, ◌∙◌, rules}
use Rattle.am_services.proofs.Ended.{after_entry_ended_none, after_entry_ended_message, ended_from_of_ended_message}
use Rattle.am_services.proofs.messages.AssemblerTellsEntries.tell.Goals as goal

pub returns-in_default : goal.returns-in_default
returns-in_default c =
    let none = after_entry_ended_none c.args.self.now c.args.given.1 (λ whose is. c.in_default.not-Whole whose (c.feed.ensures.value ∙ is)) in
    search rules

pub unreachable-requires : goal.unreachable-requires
unreachable-requires c =
    let some = after_entry_ended_message c.args.self.now c.args.given.1 c.in-Whole.from (sym c.feed.ensures.value ∙ c.in-Whole.is) in
    let told = ended_from_of_ended_message _ c.in-Whole.from some.0 (ap (λ a. a.ended) c.feed.ensures.after ∙ some.1) in
    let none : None ≡ Some some.0 = c.in-None.ensures ∙ told in
    cc
