use Rattle.am_node_parts.proofs.Words.{refl, sym, ap, subst, ◌≡◌, ◌∙◌, CoreState, log_image_at}
use Rattle.am_node_parts.specs.declared.parts.Parts.{Parts}
use Rattle.am_packet.specs.declared.packet.Packet.TheVariants as packet
use Rattle.am_node_defs.proofs.Ends.{image_at_start_is_first}
use Rattle.am_step_end.proofs.notes.welcome.Goals as goal

pub returns-clause-value : goal.returns-clause-value
returns-clause-value c =
    let core = c.args.parts.now.core in
    let is = ap (λ (p : Parts). p.core) c.parts.view_is in
    let kept : core.base ≡ core.log.start = subst (λ (x : CoreState). x.base ≡ x.log.start) is refl in
    let image = c.of.ensures ∙ c.image_at_base.ensures.value ∙ ap (λ (x : CoreState). x.log.image) is ∙ sym (image_at_start_is_first core.log)
    ∙ ap (log_image_at core.log) (sym kept) in
    λ k. packet.Welcome (c.name.ensures.value k) (c.promise.ensures.value k) (c.base.ensures.value k) (c.row.ensures.value k).joined (image k)
