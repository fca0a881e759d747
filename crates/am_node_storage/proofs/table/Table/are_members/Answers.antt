use Rattle.std.proofs.Common.{◌<◌, ◌≡◌, ◌||◌, ◌==◌, ◌∙◌, ap, slice_index, false, arith}
use Rattle.std.proofs.lemmas.Bool.Decides.{nat_tests}
use Rattle.am_base.specs.Names.{names_are_within}
use Rattle.am_node_storage.proofs.Rows.{set_not_within_by_place, set_within_by_each_place}
use Rattle.am_node_storage.proofs.table.Table.are_members.Goals as goal

pub returns-then-life-life_at : goal.returns-then-life-life_at
returns-then-life-life_at c =
    let at : c.loop-place.place < 16 = omega arith in
    let none : ((slice_index c.args.names c.loop-place.place == 0)
    || (slice_index c.args.names c.loop-place.place == slice_index c.self.inside.members c.loop-place.place)) ≡ false = grind (arith, nat_tests) in
    rw (← c.self.view_is) (set_not_within_by_place c.args.names c.self.inside.members c.loop-place.place at none ∙ ap (names_are_within c.args.names) c.self.invariant.names)

pub returns : goal.returns
returns c = rw (← c.self.view_is) (set_within_by_each_place c.args.names c.self.inside.members (λ k h. c.loop-place.invariant k (omega arith))
    ∙ ap (names_are_within c.args.names) c.self.invariant.names)
