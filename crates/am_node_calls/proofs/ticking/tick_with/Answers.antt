use Rattle.am_node_calls.proofs.Words.{refl, sym, ap, ◌∙◌, node_of, equal_reply_of_equal_plan}
use Rattle.am_node_calls.proofs.Ticks as ticks
use Rattle.am_node_calls.proofs.ticking.tick_with.Goals as goal

pub returns-in-None : goal.returns-in-None
returns-in-None c =
    let old = node_of c.args.parts.now in
    equal_reply_of_equal_plan (ticks.tick_with_ballot_by_telling old old.ballot ∙ ap (ticks.tick_by_telling_of_ballot old) (sym c.again_of_ballot.ensures ∙ c.in-None.is)) refl c.tick_acting.ensures

pub returns-in-Some : goal.returns-in-Some
returns-in-Some c =
    let old = node_of c.args.parts.now in
    let again = sym c.again_of_ballot.ensures ∙ c.in-Some.is in
    equal_reply_of_equal_plan (ticks.tick_with_ballot_by_telling old old.ballot ∙ ap (ticks.tick_by_telling_of_ballot old) again) c.saying.ensures
    (ticks.telling_again_replies_ticked old c.in-Some.again (ticks.telling_of_ballot_is_again old.ballot c.in-Some.again again))
