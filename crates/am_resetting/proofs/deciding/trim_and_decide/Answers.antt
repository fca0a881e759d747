use Rattle.am_resetting.proofs.DecidingWords.{ap, ◌∙◌, arith, Image, members_of_image, has, names_are_within, node_of, ballot_of, own_ballot_of_steady_node, put_back}
use Rattle.am_resetting.proofs.Verdicts.{decide_after_trim_comes}
use Rattle.am_resetting.proofs.deciding.trim_and_decide.Goals as goal

pub returns-clause-comes : goal.returns-clause-comes
returns-clause-comes c =
    decide_after_trim_comes (node_of c.args.parts.now) (node_of c.trim.new.parts)
    (put_back (node_of c.decide_view.new.parts) (ballot_of c.decide_view.new.ballot))
    (ballot_of c.args.ballot.now) c.args.names c.decide_view.result c.least_taken-least.result c.least_taken-least.ensures.value c.trim.ensures.changes
    c.decide_view.ensures.comes

pub decide_view-requires-clause-ballot : goal.decide_view-requires-clause-ballot
decide_view-requires-clause-ballot c = record {
  order = c.trim.ensures.order;
  out = c.trim.ensures.steady.ballot ∙ c.requires.ballot.out;
  own = own_ballot_of_steady_node (node_of c.args.parts.now) (node_of c.trim.new.parts) (ballot_of c.args.ballot.now) c.trim.ensures.steady c.requires.ballot.own;
  is_open = c.requires.ballot.is_open;
  number = let t = c.trim.ensures.steady.top in let n = c.requires.ballot.number in omega arith;
}

pub decide_view-requires-clause-names : goal.decide_view-requires-clause-names
decide_view-requires-clause-names c = record {
  within = ap (λ (i : Image). names_are_within c.args.names (members_of_image i)) c.trim.ensures.steady.told ∙ c.requires.names.within;
  itself = ap (has c.args.names) c.trim.ensures.steady.who ∙ c.requires.names.itself;
}
