use Rattle.am_node_calls.proofs.Words.{◌<◌, ap, ◌∙◌, arith, slice_set}
use Rattle.am_node_calls.proofs.Lives.{life_one_of_sixteen_places, life_one_of_others, lives_of_others_le_sixteen}
use Rattle.am_node_calls.proofs.joining.all_but.Goals as goal

pub of_lives-requires : goal.of_lives-requires
of_lives-requires c = λ i low.
    let same = c.from.ensures in
    let here : c.from.result < 16 = let h = c.requires in omega arith in
    lives_of_others_le_sixteen c.from.result i here low

pub returns : goal.returns
returns c = c.of_lives.ensures ∙ ap (λ k. slice_set life_one_of_sixteen_places k 0) c.from.ensures ∙ life_one_of_others c.args.own c.requires
