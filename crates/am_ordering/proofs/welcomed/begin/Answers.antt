use Rattle.am_ordering.proofs.JoiningWords.{sym, ap, subst, CoreState, Member, Node, NodeKeeps, node_of}
use Rattle.am_ordering.proofs.Begun.{begun_list_keeps_node, asker_status_has_no_log}
use Rattle.am_ordering.proofs.welcomed.begin.Goals as goal

pub begin_core-requires-clause-blank : goal.begin_core-requires-clause-blank
begin_core-requires-clause-blank c = c.args.parts.now.keeps.blank (asker_status_has_no_log (node_of c.args.parts.now).status c.requires.asking)

pub invariant_of-parts : goal.invariant_of-parts
invariant_of-parts c =
    let told = c.args.told.now in
    let old = node_of c.args.parts.now in
    record {
      keeps = subst (λ (x : CoreState). NodeKeeps (record old { core = x; status = Member })) (sym c.begin_core.ensures)
          (begun_list_keeps_node old told.stamp told.base told.join c.args.image.now c.requires.asking c.requires.other c.requires.fits
          c.accept_front-before.ensures.order c.args.parts.now.keeps);
    }

pub returns : goal.returns
returns c = ap (λ (x : CoreState). let n : Node = record (node_of c.args.parts.now) { core = x; status = Member } in n) c.begin_core.ensures
