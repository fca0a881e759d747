use Rattle.std.proofs.Common.{ap, sym, ◌∙◌, slice_set}
use Rattle.am_base.specs.Names.{place_of_name}
use Rattle.am_base.specs.Lists.{member_life_of_row, members_of_image}
use Rattle.am_node_storage.proofs.Rows.{table_with_row_is_table}
use Rattle.am_node_storage.proofs.table.Table.set_row.Goals as goal

pub invariant_of-self : goal.invariant_of-self
invariant_of-self c =
    let members = c.requires.members ∙ ap (λ i. slice_set (members_of_image i) (place_of_name c.args.name) (member_life_of_row c.args.row)) (sym c.self.view_is) in
    rw (c.from.ensures, c.place.ensures.value) (table_with_row_is_table c.self.inside.image c.args.name c.args.row c.args.members c.self.invariant.rows c.requires.row
    members)
