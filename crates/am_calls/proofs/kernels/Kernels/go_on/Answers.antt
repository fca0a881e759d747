use Rattle.std.proofs.Common.{◌≡◌, ℕ, ◌+◌, ◌≤◌, Option, None, is_some, true, false, true≢false, unwrap_or, sym, refl, ap, ◌∙◌, subst}
use Rattle.am_base.specs.Names.{place_of_name}
use Rattle.am_race_laws.specs.declared.answer.CallAnswer.{CallAnswer}
use Rattle.am_race_laws.specs.declared.answer.CallAnswer.TheVariants as answer
use Rattle.am_race_laws.specs.Answers.{late_after}
use Rattle.am_race_laws.specs.Going.{told_at_end, request_in_call, HasLooked, Made}
use Rattle.am_race_laws.specs.Tags.{of_call}
use Rattle.am_race_laws.proofs.Growing.{no_growth_without_own_record}
use Rattle.am_race_laws.proofs.Looking.{caller_records_go_on_unchanged}
use Rattle.am_race_laws.proofs.Making.{CallHasTurned, call_begins_without_turns, own_outcome_stays_after_turns, call_with_one_more_turn, spent_turns_are_all_turns, look_refused_call_is_made, call_that_ends_is_made}
use Rattle.am_calls.proofs.kernels.Kernels.go_on.Goals as goal

some_told : (o : Option CallAnswer) → is_some o ≡ true → (turns spent : ℕ) → o ≡ None → turns ≤ spent
some_told o some turns spent none = absurd (true≢false (sym some ∙ ap is_some none))

pub loop-spent-init : goal.loop-spent-init
loop-spent-init g c = (
  c.requires.hand,
  subst (λ (t : ℕ). CallHasTurned g.N.Racing.plan c.args.call.now.node c.args.call.now.tag
      (request_in_call c.args.call.now.act.now c.args.came.now) c.args.hand.now.share.seen c.args.hand.now.share.seen 0 (answer.Late t)) (sym c.args.self.now.turned)
      (call_begins_without_turns g.N.Racing.plan c.args.call.now.node c.args.call.now.tag (request_in_call c.args.call.now.act.now c.args.came.now) c.args.hand.now.share.seen
      (no_growth_without_own_record (place_of_name c.args.call.now.node) c.args.call.now.tag c.args.hand.now.share.seen c.args.hand.now.share.seen
      (caller_records_go_on_unchanged c.args.call.now.tag.caller c.args.hand.now.share.seen))),
)

pub loop-spent-preserved : goal.loop-spent-preserved
loop-spent-preserved g c = (
  c.in-Ok-Turn.ensures.hand,
  subst (λ (x : CallAnswer). CallHasTurned g.N.Racing.plan c.args.call.now.node c.args.call.now.tag
      (request_in_call c.args.call.now.act.now c.args.came.now) c.args.hand.now.share.seen c.look.new.hand.share.seen (c.loop-spent.spent + 1) x)
      (sym (c.late_after-late.ensures ∙ ap (λ (q : Option ℕ). late_after q c.loop-spent.late c.in-Ok-Turn.outcome) c.request_in_call-request.ensures))
      (call_with_one_more_turn g.N.Racing.plan c.args.call.now.node c.args.call.now.tag (request_in_call c.args.call.now.act.now c.args.came.now) c.args.hand.now.share.seen
      c.loop-spent.hand.share.seen c.look.new.hand.share.seen c.loop-spent.spent
      c.loop-spent.late c.in-Ok-Turn.outcome c.loop-spent.invariant.1
      (subst (HasLooked (place_of_name c.args.call.now.node) c.args.call.now.tag c.args.call.now.act.now c.args.came.now true c.loop-spent.hand.share.seen c.look.new.hand.share.seen)
      c.in-Ok-Turn.field-0-is c.in-Ok-Turn.ensures.ok).1),
)

pub look-requires-clause-hand : goal.look-requires-clause-hand
look-requires-clause-hand g c = c.loop-spent.invariant.0

pub look-requires-clause-may : goal.look-requires-clause-may
look-requires-clause-may g c = record {
  came_ = own_outcome_stays_after_turns g.N.Racing.plan c.args.call.now.node c.args.call.now.tag c.args.call.now.act.now c.args.came.now _ _ _ _ _ c.requires.begun
      c.loop-spent.invariant.1;
  used = λ none. absurd (true≢false none);
}

pub returns-in-Err-clause-made : goal.returns-in-Err-clause-made
returns-in-Err-clause-made g c =
    look_refused_call_is_made g.N.Racing.plan c.args.call.now.node c.args.call.now.tag c.args.call.now.act.now c.args.came.now _ _ _ _ _ _ c.in-Err.answer c.requires.begun c.loop-spent.invariant.1
    (subst (λ (t : ℕ). c.loop-spent.spent ≤ t) c.args.self.now.turned c.loop-spent.auto.spent-end) c.in-Err.ensures.err

pub returns-in-Ok-End-clause-made : goal.returns-in-Ok-End-clause-made
returns-in-Ok-End-clause-made g c =
    subst (λ (x : CallAnswer). Made g.N.Racing.plan c.args.call.now.node c.args.call.now.tag c.args.call.now.act.now
    (of_call c.args.call.now.tag.caller c.args.call.now.tag.call c.args.hand.now.share.seen) c.args.hand.now.share.seen c.look.new.hand.share.seen x)
    (sym (c.answer_at_end.ensures
    ∙ ap (λ (q : Option ℕ). unwrap_or (told_at_end c.args.call.now.act.now c.in-Ok-End.outcome) (late_after q c.loop-spent.late c.in-Ok-End.outcome))
    c.request_in_call-request.ensures))
    (call_that_ends_is_made g.N.Racing.plan c.args.call.now.node c.args.call.now.tag c.args.call.now.act.now c.args.came.now _ _ _ c.loop-spent.spent c.loop-spent.late c.in-Ok-End.outcome
    c.requires.begun c.loop-spent.invariant.1
    (subst (λ (t : ℕ). c.loop-spent.spent ≤ t) c.args.self.now.turned c.loop-spent.auto.spent-end)
    (some_told (told_at_end c.args.call.now.act.now c.in-Ok-End.outcome)
    ((subst (HasLooked (place_of_name c.args.call.now.node) c.args.call.now.tag c.args.call.now.act.now c.args.came.now true c.loop-spent.hand.share.seen c.look.new.hand.share.seen)
    c.in-Ok-End.field-0-is c.in-Ok-End.ensures.ok).0 refl)
    g.N.Racing.plan.turns c.loop-spent.spent)
    (subst (HasLooked (place_of_name c.args.call.now.node) c.args.call.now.tag c.args.call.now.act.now c.args.came.now true c.loop-spent.hand.share.seen c.look.new.hand.share.seen)
    c.in-Ok-End.field-0-is c.in-Ok-End.ensures.ok).1)

pub look-requires-2-clause-hand : goal.look-requires-2-clause-hand
look-requires-2-clause-hand g c = c.loop-spent.invariant.0

pub look-requires-2-clause-may : goal.look-requires-2-clause-may
look-requires-2-clause-may g c = record {
  came_ = own_outcome_stays_after_turns g.N.Racing.plan c.args.call.now.node c.args.call.now.tag c.args.call.now.act.now c.args.came.now _ _ _ _ _ c.requires.begun
      c.loop-spent.invariant.1;
  used = λ none. spent_turns_are_all_turns g.N.Racing.plan c.args.call.now.node c.args.call.now.tag (request_in_call c.args.call.now.act.now c.args.came.now) _ _
      c.loop-spent.spent c.loop-spent.late c.loop-spent.invariant.1
      (subst (λ (t : ℕ). t ≤ c.loop-spent.spent) c.args.self.now.turned c.loop-spent-test.false);
}

pub returns-in-Err-look-clause-made : goal.returns-in-Err-look-clause-made
returns-in-Err-look-clause-made g c =
    look_refused_call_is_made g.N.Racing.plan c.args.call.now.node c.args.call.now.tag c.args.call.now.act.now c.args.came.now _ _ _ _ _ _ c.in-Err-look.answer c.requires.begun
    c.loop-spent.invariant.1
    (subst (λ (t : ℕ). c.loop-spent.spent ≤ t) c.args.self.now.turned c.loop-spent.auto.spent-end) c.in-Err-look.ensures.err

pub returns-in-Ok-End-look-clause-made : goal.returns-in-Ok-End-look-clause-made
returns-in-Ok-End-look-clause-made g c =
    subst (λ (x : CallAnswer). Made g.N.Racing.plan c.args.call.now.node c.args.call.now.tag c.args.call.now.act.now
    (of_call c.args.call.now.tag.caller c.args.call.now.tag.call c.args.hand.now.share.seen) c.args.hand.now.share.seen c.look-2.new.hand.share.seen x)
    (sym (c.answer_at_end-in-Ok-End-look.ensures
    ∙ ap (λ (q : Option ℕ). unwrap_or (told_at_end c.args.call.now.act.now c.in-Ok-End-look.outcome) (late_after q c.loop-spent.late c.in-Ok-End-look.outcome))
    c.request_in_call-request.ensures))
    (call_that_ends_is_made g.N.Racing.plan c.args.call.now.node c.args.call.now.tag c.args.call.now.act.now c.args.came.now _ _ _ c.loop-spent.spent c.loop-spent.late c.in-Ok-End-look.outcome
    c.requires.begun c.loop-spent.invariant.1
    (subst (λ (t : ℕ). c.loop-spent.spent ≤ t) c.args.self.now.turned c.loop-spent.auto.spent-end)
    (λ none. subst (λ (t : ℕ). t ≤ c.loop-spent.spent) c.args.self.now.turned c.loop-spent-test.false)
    (subst (HasLooked (place_of_name c.args.call.now.node) c.args.call.now.tag c.args.call.now.act.now c.args.came.now false c.loop-spent.hand.share.seen c.look-2.new.hand.share.seen)
    c.in-Ok-End-look.field-0-is c.in-Ok-End-look.ensures.ok).1)
