use Rattle.am_resetting.proofs.DecidingWords.{◌≡◌, ◌+◌, ◌-◌, ◌≤◌, ℕ, List, length, true, Some, ap, sym, subst, ◌∙◌, arith, nat_tests, Entry, View, Stamp}
use Rattle.am_resetting.proofs.DecidingWords.{Outcome, fits, size, has, stamp_is_less, IsKept, reports_beginning_at, NodeKeeps, node_of, ballot_of, Node, Ballot, image_of_node}
use Rattle.am_resetting.proofs.DecidingWords.{push_entry, ballot_with_end, decided_view, IsEndOf, set_with_name_has_size, IsTakenOut, MayBeView, put_back}
use Rattle.am_resetting.proofs.{Orders.stamp_not_lt_itself, Views.view_above_fits_image, Nodes.node_keeps_by_push, Nodes.node_without_ballot_acts_not, Verdicts.decide_with_room_comes, Verdicts.ended_ballot_is_own}
use Rattle.am_resetting.proofs.deciding.push_view.Goals as goal

-- the View of a ballot that was taken out fits
own_view_fits : (m : Node) (b : Ballot) (names : List ℕ) → IsTakenOut m b → MayBeView m names
    → fits (image_of_node m) (View (decided_view m b names)) ≡ true
own_view_fits m b names is may =
    let by = (is.own).by is.is_open in
    view_above_fits_image (image_of_node m) (decided_view m b names) ((is.own).ahead is.is_open) may.within (ap (has names) by
    ∙ may.itself) (omega arith)

own_view_keeps : (m : Node) (b : Ballot) (names : List ℕ) (capacity : ℕ) → IsKept m.core.log capacity → IsTakenOut m b → MayBeView m names → NodeKeeps m
    → NodeKeeps (push_entry m (View (decided_view m b names)))
own_view_keeps m b names capacity kept is may keeps =
    let stamp = (is.own).stamp is.is_open in
    node_keeps_by_push m (View (decided_view m b names)) capacity kept keeps (own_view_fits m b names is may)
    (ap (λ (p : Stamp). stamp_is_less p b.stamp) (sym stamp) ∙ stamp_not_lt_itself b.stamp)
    (node_without_ballot_acts_not m b is) ((is.own).logged is.is_open) (λ other there. absurd (let x = sym is.out ∙ there in cc))

pub push-requires-clause-fits : goal.push-requires-clause-fits
push-requires-clause-fits c = ap (fits (image_of_node (node_of c.args.parts.now))) c.view_of.ensures.value
    ∙ own_view_fits (node_of c.args.parts.now) (ballot_of c.args.ballot.now) c.args.names c.requires.ballot c.requires.names

pub push-requires-clause-room : goal.push-requires-clause-room
push-requires-clause-room c =
    let some = set_with_name_has_size c.args.names c.args.parts.now.core.who c.requires.names.itself in
    let start = c.requires.ballot.order.kept in
    let room = c.requires.room in
    let low : c.args.parts.now.core.log.start + length c.args.parts.now.core.log.entries + 1 - c.args.parts.now.core.base ≤ c.args.parts.now.core.rules.window
    + 16 - size c.args.names = grind (arith, nat_tests) in
    omega arith

pub push-requires-clause-keeps : goal.push-requires-clause-keeps
push-requires-clause-keeps c =
    let old = node_of c.args.parts.now in
    subst (λ (e : Entry). NodeKeeps (push_entry old e)) (sym c.view_of.ensures.value)
    (own_view_keeps old (ballot_of c.args.ballot.now) c.args.names
    (old.core.rules.window + 15) c.decided_answer-answer.ensures.kept c.requires.ballot c.requires.names c.args.parts.now.keeps)

pub returns-clause-comes : goal.returns-clause-comes
returns-clause-comes c =
    let old = node_of c.args.parts.now in
    let mid = node_of c.push.new.parts in
    let b = ballot_of c.args.ballot.now in
    let e = View (decided_view old b c.args.names) in
    decide_with_room_comes old mid (put_back (node_of c.restart.new.parts) (ballot_of c.close.new.ballot)) b c.args.names c.close.result c.requires.room
    (λ all end. subst (λ (x : Entry). IsEndOf (push_entry all x) mid) c.view_of.ensures.value (c.push.ensures.changes all end))
    (c.close.ensures.answer ∙ c.decided_answer-answer.ensures.value)
    (ap (put_back (node_of c.restart.new.parts)) c.close.ensures.ballot ∙ ap (λ (x : Node). record x { ballot = Some (ballot_with_end b c.decided_answer-answer.result) }) c.restart.ensures
    ∙ ap (λ k. record mid { reports = reports_beginning_at k; ballot = Some (ballot_with_end b c.decided_answer-answer.result) }) c.base-base.ensures.value
    ∙ ap (λ (o : Outcome). record mid { reports = reports_beginning_at old.core.base; ballot = Some (ballot_with_end b o) }) (sym c.close.ensures.answer))

pub returns-clause-own : goal.returns-clause-own
returns-clause-own c =
    ended_ballot_is_own (node_of c.restart.new.parts) (ballot_of c.args.ballot.now) c.close.ensures (c.requires.ballot.own).resilience
