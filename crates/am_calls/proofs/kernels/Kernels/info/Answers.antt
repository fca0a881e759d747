use Rattle.std.proofs.Common.{[], ◌∷◌, sym, subst}
use Rattle.am_shared_journal_defs.specs.declared.terms.SharerKey.TheVariants.{Caller}
use Rattle.am_shared_journal_defs.specs.Sights.{GoesOn}
use Rattle.am_race_laws.specs.Callings.{Calling, IsHand}
use Rattle.am_race_laws.proofs.Looking.{hand_stays_at_meeting, meeting_adds_no_record}
use Rattle.am_race_laws.proofs.Making.{made_calls_stay_through_others}
use Rattle.am_calls.proofs.kernels.Kernels.info.Goals as goal

pub invariant_of-caller : goal.invariant_of-caller
invariant_of-caller g c = (
  subst (IsHand g.N.Racing.wire g.N.Racing.plan c.caller.inside.number c.info_at.new.hand.share) (sym c.info_at.ensures.chooser)
      (hand_stays_at_meeting _ _ _ _ _ _ c.caller.invariant.0 c.info_at.ensures.share),
  made_calls_stay_through_others _ _ _ _ _ c.caller.invariant.1 (meeting_adds_no_record _ _ _ _ _ _ c.caller.invariant.0 c.info_at.ensures.share),
  c.caller.invariant.2,
)

pub returns-clause-goes : goal.returns-clause-goes
returns-clause-goes g c =
    subst (λ (x : Calling). GoesOn (Caller x.number ∷ []) x.seen c.info_at.new.hand.share.seen) c.caller.view_is
    (meeting_adds_no_record _ _ _ _ _ _ c.caller.invariant.0 c.info_at.ensures.share)
