-- What a node shows in a ballot is the same of a list's end as of all of it.
use Rattle.am_node_parts.proofs.Words.{◌≡◌, Log, members_of_image, CoreKeepsEndOf, Node, own_vote, node_with_log}
use Rattle.am_node_parts.proofs.Ends.{told_by_standing_log, top_of_standing_log}

pub own_vote_on_whole_log : (m : Node) (all : Log) → CoreKeepsEndOf all m.core → own_vote (node_with_log m all) ≡ own_vote m
own_vote_on_whole_log m all s = λ k. record {
  view = (told_by_standing_log m all s k).view;
  top = top_of_standing_log m all s k;
  taken = m.core.taken;
  members = members_of_image (told_by_standing_log m all s k);
}
