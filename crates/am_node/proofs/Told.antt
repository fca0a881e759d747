-- What a node tells of itself is the same of the end that is kept.
use Rattle.std.proofs.Common.{◌≡◌, ℕ, ◌&&◌, ◌==◌, if◌then◌else◌, ap, ◌∙◌}
use Rattle.am_base.specs.declared.image.Image.{Image}
use Rattle.am_base.specs.Lists.{members_of_image}
use Rattle.am_base.specs.Stamps.{stamps_are_equal}
use Rattle.am_model.specs.Node.{Node, top, image_of_node, is_member}
use Rattle.am_model.specs.Ends.{IsEndOf}
use Rattle.am_node_parts.proofs.Ends.{image_of_node_end, top_of_node_end}
use Rattle.am_model.specs.declared.info.Info.{Info}
use Rattle.am_model.specs.declared.info.Role.TheVariants as role
use Rattle.am_model.specs.Info.{info_of_node, has_open_ballot, role_by_status}

-- by what the list tells, and by its top
abbrev info_with : Node → Image → ℕ → Info
info_with m image last = record {
  role =
      if has_open_ballot m.ballot then role.Coordinator
      else if (is_member m.status && stamps_are_equal m.core.promise image.view) && (image.view.by == m.core.who) then role.Sequencer
      else role_by_status m.status;
  view = image.view;
  members = members_of_image image;
  base = m.core.base;
  taken = m.core.taken;
  accepted = m.core.acc;
  top = last;
  promise = m.core.promise;
}

pub info_of_end_is_info : (x m : Node) → IsEndOf x m → info_of_node m ≡ info_of_node x
info_of_end_is_info x m end =
    ap (λ image. info_with m image (top m)) (image_of_node_end x m end)
    ∙ ap (λ last. info_with m (image_of_node x) last) (top_of_node_end x m end)
    ∙ ap info_of_node end.same
