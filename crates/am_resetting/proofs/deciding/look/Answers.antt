use Rattle.am_resetting.proofs.DecidingWords.{◌≡◌, ◌+◌, true, not, ◌==◌, sym, ap, ◌∙◌, arith, nat_tests, Vote, has, names_are_within, node_of, ballot_of, members, own_vote, put_back}
use Rattle.am_resetting.proofs.DecidingWords.{passing_name_is_in_those}
use Rattle.am_base.specs.declared.outcome.Outcome.TheVariants as said
use Rattle.am_resetting.proofs.Verdicts.{node_with_equal_ballot_end, node_with_equal_ballot_answer, decide_without_own_name_comes, decide_waiting_comes, decide_fetching_comes, decide_with_too_few_comes, decide_with_enough_comes, own_best_vote_is_own, ended_ballot_is_own, answered_ballot_is_own}
use Rattle.am_resetting.proofs.{Sets.those_of_set_within_set, Looked.looked_at_ballot_by_values, Looked.best_vote_has_own_name, Looked.ballot_waits_for_names, Looked.ballot_waits_for_nobody, Looked.best_vote_is_own, Looked.voters_of_ballot_are_counted}
use Rattle.am_resetting.proofs.deciding.look.Goals as goal

pub returns-then-not-has-clause-comes : goal.returns-then-not-has-clause-comes
returns-then-not-has-clause-comes c =
    let old = node_of c.args.parts.now in
    let b = ballot_of c.args.ballot.now in
    let seen = looked_at_ballot_by_values old b c.best-best.result c.name-who.ensures.value c.own_vote-own.ensures.value c.best-best.ensures c.members-needed.ensures in
    decide_without_own_name_comes (put_back (node_of c.args.parts.now) (ballot_of c.close.new.ballot)) c.close.result seen (best_vote_has_own_name seen c.has.ensures c.if-not-has.true)
    (c.close.ensures.answer ∙ ap said.NotIn c.view.ensures) (node_with_equal_ballot_end old (put_back (node_of c.args.parts.now) (ballot_of c.close.new.ballot)) b c.close.ensures.answer (ap (put_back (node_of c.args.parts.now)) c.close.ensures.ballot))

pub returns-then-len-gt0-clause-comes : goal.returns-then-len-gt0-clause-comes
returns-then-len-gt0-clause-comes c =
    let old = node_of c.args.parts.now in
    let b = ballot_of c.args.ballot.now in
    let seen = looked_at_ballot_by_values old b c.best-best.result c.name-who.ensures.value c.own_vote-own.ensures.value c.best-best.ensures c.members-needed.ensures in
    let waits = ballot_waits_for_names seen c.has.ensures c.if-not-has.false c.waited_for-waited.ensures c.len.ensures.value in
    decide_waiting_comes (put_back (node_of c.args.parts.now) (ballot_of c.keep_on.new.ballot)) c.keep_on.result waits c.if-len-gt0.true c.keep_on.ensures.answer
    (node_with_equal_ballot_answer old (put_back (node_of c.args.parts.now) (ballot_of c.keep_on.new.ballot)) b c.keep_on.ensures.answer (ap (put_back (node_of c.args.parts.now)) c.keep_on.ensures.ballot))

pub returns-then-ne-clause-comes : goal.returns-then-ne-clause-comes
returns-then-ne-clause-comes c =
    let seen = looked_at_ballot_by_values (node_of c.args.parts.now) (ballot_of c.args.ballot.now) c.best-best.result c.name-who.ensures.value c.own_vote-own.ensures.value
    c.best-best.ensures c.members-needed.ensures in
    decide_fetching_comes (put_back (node_of c.args.parts.now) (ballot_of c.keep_on-then-ne.new.ballot)) c.keep_on-then-ne.result
    (ballot_waits_for_nobody (ballot_waits_for_names seen c.has.ensures c.if-not-has.false c.waited_for-waited.ensures c.len.ensures.value) c.if-len-gt0.false)
    (best_vote_is_own seen c.by-from.ensures c.ne.ensures c.if-ne.true)
    (c.keep_on-then-ne.ensures.answer ∙ (λ k. said.Fetching (c.by-from.ensures k) ((c.own_vote-own.ensures.value k).top + 1)))
    (node_with_equal_ballot_answer (node_of c.args.parts.now) (put_back (node_of c.args.parts.now) (ballot_of c.keep_on-then-ne.new.ballot)) (ballot_of c.args.ballot.now) c.keep_on-then-ne.ensures.answer
    (ap (put_back (node_of c.args.parts.now)) c.keep_on-then-ne.ensures.ballot))

pub returns-then-got-least-clause-comes : goal.returns-then-got-least-clause-comes
returns-then-got-least-clause-comes c =
    let seen = looked_at_ballot_by_values (node_of c.args.parts.now) (ballot_of c.args.ballot.now) c.best-best.result c.name-who.ensures.value c.own_vote-own.ensures.value
    c.best-best.ensures c.members-needed.ensures in
    decide_with_too_few_comes (put_back (node_of c.args.parts.now) (ballot_of c.close-then-got-least.new.ballot)) c.close-then-got-least.result
    (ballot_waits_for_nobody (ballot_waits_for_names seen c.has.ensures c.if-not-has.false c.waited_for-waited.ensures c.len.ensures.value) c.if-len-gt0.false)
    (best_vote_is_own seen c.by-from.ensures c.ne.ensures c.if-ne.false)
    (voters_of_ballot_are_counted seen c.left_in-left.ensures c.len-got.ensures.value (c.from-least.ensures ∙ c.least.ensures)) c.if-got-least.true
    c.close-then-got-least.ensures.answer
    (node_with_equal_ballot_end (node_of c.args.parts.now) (put_back (node_of c.args.parts.now) (ballot_of c.close-then-got-least.new.ballot)) (ballot_of c.args.ballot.now) c.close-then-got-least.ensures.answer
    (ap (put_back (node_of c.args.parts.now)) c.close-then-got-least.ensures.ballot))

pub returns-clause-comes : goal.returns-clause-comes
returns-clause-comes c =
    let seen = looked_at_ballot_by_values (node_of c.args.parts.now) (ballot_of c.args.ballot.now) c.best-best.result c.name-who.ensures.value c.own_vote-own.ensures.value
    c.best-best.ensures c.members-needed.ensures in
    decide_with_enough_comes (put_back (node_of c.trim_and_decide.new.parts) (ballot_of c.trim_and_decide.new.ballot)) c.trim_and_decide.result
    (ballot_waits_for_nobody (ballot_waits_for_names seen c.has.ensures c.if-not-has.false c.waited_for-waited.ensures c.len.ensures.value) c.if-len-gt0.false)
    (best_vote_is_own seen c.by-from.ensures c.ne.ensures c.if-ne.false)
    (voters_of_ballot_are_counted seen c.left_in-left.ensures c.len-got.ensures.value (c.from-least.ensures ∙ c.least.ensures)) c.if-got-least.false
    c.trim_and_decide.ensures.comes

pub trim_and_decide-requires-clause-names : goal.trim_and_decide-requires-clause-names
trim_and_decide-requires-clause-names c =
    let old = node_of c.args.parts.now in
    let b = ballot_of c.args.ballot.now in
    let best = c.best-best.result in
    let seen = looked_at_ballot_by_values old b best c.name-who.ensures.value c.own_vote-own.ensures.value c.best-best.ensures c.members-needed.ensures in
    let own : (best.by == old.core.who) ≡ true = best_vote_is_own seen c.by-from.ensures c.ne.ensures c.if-ne.false in
    let left_is = (voters_of_ballot_are_counted seen c.left_in-left.ensures c.len-got.ensures.value (c.from-least.ensures ∙ c.least.ensures)).left_is in
    let by : best.by ≡ old.core.who = grind (arith, nat_tests) in
    let vote : best.vote ≡ own_vote old = own_best_vote_is_own b.votes old.core.who (own_vote old) best (c.requires.own.unvoted c.requires.is_open) seen.best_is by in
    let members_is : best.vote.members ≡ members old = ap (λ (v : Vote). v.members) vote in
    let stays : not (b.given_up old.core.who) ≡ true = ap not (c.requires.own.itself c.requires.is_open) in
    let inside = best_vote_has_own_name seen c.has.ensures c.if-not-has.false in
    record {
      within = (λ k. names_are_within (left_is k) (sym members_is k)) ∙ those_of_set_within_set (λ name. not (b.given_up name)) best.vote.members;
      itself = ap (λ set. has set old.core.who) left_is ∙ passing_name_is_in_those (λ name. not (b.given_up name)) best.vote.members old.core.who inside stays;
    }

pub returns-then-not-has-clause-own : goal.returns-then-not-has-clause-own
returns-then-not-has-clause-own c = ended_ballot_is_own (node_of c.args.parts.now) (ballot_of c.args.ballot.now) c.close.ensures (c.requires.own).resilience

pub returns-then-len-gt0-clause-own : goal.returns-then-len-gt0-clause-own
returns-then-len-gt0-clause-own c = answered_ballot_is_own (node_of c.args.parts.now) (ballot_of c.args.ballot.now) c.keep_on.ensures c.requires.own c.requires.is_open

pub returns-then-ne-clause-own : goal.returns-then-ne-clause-own
returns-then-ne-clause-own c = answered_ballot_is_own (node_of c.args.parts.now) (ballot_of c.args.ballot.now) c.keep_on-then-ne.ensures c.requires.own c.requires.is_open

pub returns-then-got-least-clause-own : goal.returns-then-got-least-clause-own
returns-then-got-least-clause-own c = ended_ballot_is_own (node_of c.args.parts.now) (ballot_of c.args.ballot.now) c.close-then-got-least.ensures (c.requires.own).resilience
