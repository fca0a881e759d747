use Rattle.std.proofs.Common.{sym, arith, ap, ◌∙◌}
use Rattle.am_base.specs.Lists.{is_blank_image}
use Rattle.am_node_storage.proofs.Rows.{image_after_view_has_rows, image_after_view_is_image}
use Rattle.am_node_storage.proofs.table.Table.begin_view.Goals as goal

pub returns-clause-value : goal.returns-clause-value
returns-clause-value c =
    let first = c.is_blank-first.ensures ∙ ap is_blank_image (sym c.self.view_is) in
    let image = image_after_view_has_rows c.self.inside.image c.is_blank-first.result c.args.number c.args.view.now c.loop-place.rows first
    c.loop-place.invariant.long (λ k h. c.loop-place.invariant.done k (omega arith)) in
    rw (← c.self.view_is) (sym image)

pub invariant_of-self : goal.invariant_of-self
invariant_of-self c = record {
  rows = image_after_view_is_image c.args.view.now.stamp c.args.number c.args.view.now.resilience c.loop-place.rows c.requires.view.0 c.requires.number c.requires.view.1
      c.loop-place.invariant.long c.loop-place.invariant.within;
  names = c.members_of-self-inside.ensures;
}

pub returns-clause-within : goal.returns-clause-within
returns-clause-within c = image_after_view_is_image c.args.view.now.stamp c.args.number c.args.view.now.resilience c.loop-place.rows
    c.requires.view.0 c.requires.number c.requires.view.1
    c.loop-place.invariant.long c.loop-place.invariant.within
