use Rattle.std.proofs.Common.{List, length, sym, ap, subst}
use Rattle.am_group.specs.declared.event.Act.{Act}
use Rattle.am_race_laws.specs.Callings.{HasMade}
use Rattle.am_race_laws.proofs.Finishing.{fresh_share_gives_hand}
use Rattle.am_calls.proofs.caller.Caller.new.Goals as goal

pub invariant_of-result : goal.invariant_of-result
invariant_of-result g c =
    let fresh = fresh_share_gives_hand _ _ _ _ _ _ _ c.requires.plan c.new-hand.ensures.share c.requires.share c.new-hand.ensures.chooser in (
      fresh.0,
      subst (λ (l : List Act). HasMade g.N.Racing.plan c.args.number l c.new-hand.result.share.seen) (sym c.new-calls.ensures) fresh.1,
      sym (ap length c.new-calls.ensures),
    )
