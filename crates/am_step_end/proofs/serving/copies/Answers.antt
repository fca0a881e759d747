use Rattle.am_node_parts.proofs.Words.{◌≡◌, ◌-◌, All, List, take, sym, ap, subst, ◌∙◌, arith, Entry, EntryIsInRange, node_of}
use Rattle.am_node_parts.proofs.Served.{kept_entries_above_number}
use Rattle.am_node_parts.proofs.Serves.{copied_entries_with_next, copied_entries_are_to_serve, entries_to_serve_are_within}
use Rattle.am_step_end.proofs.serving.copies.Goals as goal

pub loop-before-preserved : goal.loop-before-preserved
loop-before-preserved c =
    let kept = c.requires.order.kept in
    let last = c.last_served-last.ensures.value in
    record {
      items = copied_entries_with_next c.args.parts.now.core.log c.args.stored c.loop-before.before c.loop-before.entries.items c.copy_entry.new.entries.items
          (omega arith) c.loop-before.auto.before (omega arith) c.loop-before.invariant.items c.copy_entry.ensures.items;
      few = let few = c.copy_entry.ensures.few in let was = c.loop-before.invariant.few in omega arith;
    }

pub returns-clause-items : goal.returns-clause-items
returns-clause-items c =
    let old = node_of c.args.parts.now in
    let kept = c.requires.order.kept in
    let last = c.last_served-last.ensures.value in
    let end : c.loop-before.before ≡ c.last_served-last.result = omega arith in
    c.loop-before.invariant.items ∙ ap (λ k. take (k - c.args.stored) (kept_entries_above_number old.core.log c.args.stored)) end
    ∙ copied_entries_are_to_serve old c.args.stored c.last_served-last.result (omega arith) c.requires.high last

pub returns-clause-within : goal.returns-clause-within
returns-clause-within c =
    let old = node_of c.args.parts.now in
    subst (λ (xs : List Entry). All EntryIsInRange xs) (sym (returns-clause-items c)) (entries_to_serve_are_within old c.args.stored c.last_served-last.ensures.entries)
