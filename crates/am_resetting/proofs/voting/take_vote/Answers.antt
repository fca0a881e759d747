use Rattle.am_resetting.proofs.VotingWords.{◌≡◌, true, false, not, ◌||◌, Bool, Some, sym, ◌∙◌, stamp_is_less, stamps_are_equal, ballot_of, node_of, Node, take_vote, is_open_ballot, reply_without_letters}
use Rattle.am_resetting.proofs.VotingWords.{untrimmed_node_has_equal_end, equal_reply_of_plan, both_of_and, not-true, not-false}
use Rattle.am_base.specs.declared.outcome.Outcome.TheVariants as said
use Rattle.am_resetting.proofs.VoteRows.{take_vote_is_elsewhere, take_vote_of_given_up, take_vote_is_kept}
use Rattle.am_resetting.proofs.voting.take_vote.Goals as goal

or_right : (a b : Bool) → (a || b) ≡ false → b ≡ false
or_right true b h = absurd (cc)
or_right false b h = h

pub returns-then-is_stale : goal.returns-then-is_stale
returns-then-is_stale c =
    let b = ballot_of c.args.ballot in
    let m : Node = record (node_of c.args.parts.now) { ballot = Some b } in
    let new = node_of c.put_back.new.parts in
    equal_reply_of_plan (take_vote m c.args.from c.args.stamp c.args.vote.now (Some b)) c.quiet.result (reply_without_letters said.Elsewhere) new c.quiet.ensures
    (take_vote_is_elsewhere m new c.args.from c.args.stamp c.args.vote.now b (sym c.is_stale.ensures
    ∙ c.if-is_stale.true) (untrimmed_node_has_equal_end m new c.requires.order.kept c.put_back.ensures))

pub returns-then-has_given_up : goal.returns-then-has_given_up
returns-then-has_given_up c =
    let b = ballot_of c.args.ballot in
    let m : Node = record (node_of c.args.parts.now) { ballot = Some b } in
    let new = node_of c.put_back-then-has_given_up.new.parts in
    equal_reply_of_plan (take_vote m c.args.from c.args.stamp c.args.vote.now (Some b)) c.quiet-then-has_given_up.result (reply_without_letters said.Known) new
    c.quiet-then-has_given_up.ensures
    (take_vote_of_given_up m new c.args.from c.args.stamp c.args.vote.now b (sym c.is_stale.ensures ∙ c.if-is_stale.false) (sym c.has_given_up.ensures
    ∙ c.if-has_given_up.true) (untrimmed_node_has_equal_end m new c.requires.order.kept c.put_back-then-has_given_up.ensures))

pub returns : goal.returns
returns c =
    let b = ballot_of c.args.ballot in
    let m = node_of c.args.parts.now in
    let new = node_of c.keep_vote.new.parts in
    take_vote_is_kept m new c.args.from c.args.stamp c.args.vote.now b (Some b) c.keep_vote.result (sym c.is_stale.ensures
    ∙ c.if-is_stale.false) (sym c.has_given_up.ensures ∙ c.if-has_given_up.false) c.keep_vote.ensures

pub keep_vote-requires-clause-ballot : goal.keep_vote-requires-clause-ballot
keep_vote-requires-clause-ballot c =
    let b = ballot_of c.args.ballot in
    let open_ : is_open_ballot c.args.stamp b ≡ true = not-false (is_open_ballot c.args.stamp b)
    (or_right (stamp_is_less c.args.stamp c.args.parts.now.core.promise) (not (is_open_ballot c.args.stamp b)) (sym c.is_stale.ensures ∙ c.if-is_stale.false)) in
    record {
      order = c.requires.order;
      out = c.requires.out;
      own = c.requires.own;
      is_open = not-true b.is_over (both_of_and (not b.is_over) (stamps_are_equal b.stamp c.args.stamp) open_).0;
      number = c.requires.number;
    }
