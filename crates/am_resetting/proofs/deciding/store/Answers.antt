use Rattle.am_resetting.proofs.DecidingWords.{◌+◌, ap, sym, subst, arith, Rules, Node, push_entry, trim_node_up_to, IsSteady, node_of}
use Rattle.am_resetting.proofs.Nodes.{node_keeps_by_stored_piece, steady_nodes_after_same_push}
use Rattle.am_resetting.proofs.deciding.store.Goals as goal

pub push-requires-clause-room : goal.push-requires-clause-room
push-requires-clause-room c =
    let top = c.trim.ensures.steady.top in
    let base = c.trim.ensures.base in
    let window = ap (λ (r : Rules). r.window) c.trim.ensures.rules in
    let start = c.trim.ensures.order.kept in
    let bound = c.requires.bound in
    omega arith

pub push-requires-clause-keeps : goal.push-requires-clause-keeps
push-requires-clause-keeps c =
    let mid = node_of c.trim.new.parts in
    node_keeps_by_stored_piece (node_of c.args.parts.now) mid c.args.base c.args.entry.now
    (mid.core.rules.window + 15) c.accept_front-before.ensures.kept c.requires c.trim.ensures.steady c.trim.new.parts.keeps

pub returns-clause-changes : goal.returns-clause-changes
returns-clause-changes c = λ all e. c.push.ensures.changes (trim_node_up_to all c.args.base) (c.trim.ensures.changes all e)

pub returns-clause-steady : goal.returns-clause-steady
returns-clause-steady c =
    let old = node_of c.args.parts.now in
    let mid = node_of c.trim.new.parts in
    let e = c.args.entry.now in
    subst (λ (x : Node). IsSteady (push_entry old e) x) (sym c.push.ensures.value) (steady_nodes_after_same_push old mid e c.trim.ensures.steady)
