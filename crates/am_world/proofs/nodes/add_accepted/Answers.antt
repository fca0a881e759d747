use Rattle.am_world.proofs.Words.{[], ◌∷◌, ◌++◌, append_assoc, vec_len, sym, ap, ◌∙◌, arith, state_of}
use Rattle.am_world.proofs.Grown.{entries_between_numbers, entries_between_with_next, entries_between_by_group}
use Rattle.am_world.proofs.nodes.add_accepted.Goals as goal

pub loop-before-preserved : goal.loop-before-preserved
loop-before-preserved c =
    let core = (state_of c.args.node.now).core in
    let old = c.args.group.now.items in
    let had = vec_len c.args.group.now in
    let before = c.loop-before.before in
    let e = c.in-Some.entry.now in
    let more = entries_between_with_next core.log had before e (omega arith) (omega arith) (sym c.in-Some.ensures) in
    record {
      most = omega arith;
      stored = omega arith;
      room = c.add_entry.ensures.capacity ∙ c.loop-before.invariant.room;
      items = c.add_entry.ensures.items ∙ ap (λ xs. xs ++ e ∷ []) c.loop-before.invariant.items
          ∙ append_assoc old (entries_between_numbers core.log had before) (e ∷ [])
          ∙ ap (λ xs. old ++ xs) (sym more);
    }

pub returns : goal.returns
returns c =
    let core = (state_of c.args.node.now).core in
    let old = c.args.group.now.items in
    let most = c.loop-before.invariant.most in
    c.loop-before.invariant.items ∙ ap (λ xs. old ++ xs) (entries_between_by_group core.log old (vec_len c.args.group.now) c.loop-before.before core.acc
    (omega arith) most c.args.group.now.ok.0)
