use Rattle.am_node_parts.proofs.Words.{refl, ap, sym, ◌∙◌, ◌≡◌, Parts, node_of}
use Rattle.am_node_parts.proofs.Ends.{others_of_end_tells_node, untrimmed_node_ends_itself}
use Rattle.am_node_parts.proofs.parts.Parts.others.Goals as goal

pub returns-clause-value : goal.returns-clause-value
returns-clause-value c =
    let is = c.self.view_is in
    let kept : c.args.self.now.core.base ≡ c.args.self.now.core.log.start = sym (ap (λ (p : Parts). p.core.base) is) ∙ ap (λ (p : Parts). p.core.log.start) is in
    others_of_end_tells_node _ c.args.self.now.core (node_of c.args.self.now) _ _ _
    (ap (λ (p : Parts). p.core) is) refl c.top.ensures.value c.members_after.ensures c.without.ensures
    (node_of c.args.self.now) (untrimmed_node_ends_itself (node_of c.args.self.now) kept)

pub returns-clause-tells : goal.returns-clause-tells
returns-clause-tells c = others_of_end_tells_node _ c.args.self.now.core (node_of c.args.self.now) _ _ _
    (ap (λ (p : Parts). p.core) c.self.view_is) refl c.top.ensures.value c.members_after.ensures c.without.ensures
