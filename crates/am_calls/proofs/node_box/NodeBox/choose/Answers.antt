use Rattle.std.proofs.Common.{ℕ, ◌<◌, sym, ◌∙◌, arith}
use Rattle.am_race_laws.proofs.Boxing.{open_box_sees_more_records, open_box_was_not_closed, box_records_of_place_stay}
use Rattle.am_race_laws.proofs.Turning.{chosen_letter_was_sent, box_looks_through_middle, next_letter_was_sent}
use Rattle.am_race_laws.proofs.Hands.{luck_after_drawn_choice, last_heard_number_is_positive}
use Rattle.am_calls.proofs.node_box.NodeBox.choose.Goals as goal

pub invariant_of-self : goal.invariant_of-self
invariant_of-self g c = open_box_sees_more_records _ _ _ _ _ _ _ _ _ _ _ c.self.view_is c.self.invariant c.requires.open_ c.next_for-ahead.ensures.sees
    c.next_for-ahead.ensures.lawful

pub turn_of_choice-requires-clause-sent : goal.turn_of_choice-requires-clause-sent
turn_of_choice-requires-clause-sent g c =
    let after = open_box_sees_more_records _ _ _ _ _ _ _ _ _ _ _ c.self.view_is c.self.invariant c.requires.open_ c.next_for-ahead.ensures.sees c.next_for-ahead.ensures.lawful
    in
    chosen_letter_was_sent _ _ _ _ c.args.chooser.now _ _ after.place after.lawful c.next_for-ahead.ensures.value
    (after.last_ (open_box_was_not_closed _ _ _ _ c.self.view_is c.requires.open_)) _ c.choose-choice.ensures.choice

pub returns-clause-looks : goal.returns-clause-looks
returns-clause-looks g c =
    box_looks_through_middle _ _ _ _ _ _ c.self.view_is (box_records_of_place_stay _ _ _ _ _ _ _ _ _ _ c.self.invariant c.next_for-ahead.ensures.sees) c.turn_of_choice.ensures.looks

above : (a n : ℕ) → a < n → 0 < n
above a n h = omega arith

pub returns-clause-drawn : goal.returns-clause-drawn
returns-clause-drawn g c =
    let after = open_box_sees_more_records _ _ _ _ _ _ _ _ _ _ _ c.self.view_is c.self.invariant c.requires.open_ c.next_for-ahead.ensures.sees c.next_for-ahead.ensures.lawful
    in
    let last = after.last_ (open_box_was_not_closed _ _ _ _ c.self.view_is c.requires.open_) in
    luck_after_drawn_choice c.args.chooser.now c.choose-choice.new.self _ _ _ _ _
    (λ n e. above _ n (next_letter_was_sent c.next_for-ahead.new.pass.seen c.self.inside.name c.self.inside.cursor n (sym c.next_for-ahead.ensures.value ∙ e)).1)
    (λ k e. last_heard_number_is_positive _ k (sym last ∙ e)) c.choose-choice.ensures.drawn c.choose-choice.ensures.choice c.turn_of_choice.ensures.act_
    c.turn_of_choice.ensures.lost_
