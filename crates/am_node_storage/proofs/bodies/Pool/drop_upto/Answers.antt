use Rattle.std.proofs.Common.{◌==◌, ◌&&◌, not, nat_le, rules, sym, ◌∙◌}
use Rattle.arrayvec.proofs.ArrayVecLemmas.{filter-from_retain}
use Rattle.am_node_defs.specs.declared.bodies.KeptBody.{KeptBody}
use Rattle.am_node_storage.proofs.Kept.{filter_that_keeps_all_bodies}
use Rattle.am_node_storage.proofs.bodies.Pool.drop_upto.Goals as goal

pub returns-then-has_none_upto : goal.returns-then-has_none_upto
returns-then-has_none_upto c = sym (filter_that_keeps_all_bodies (λ (kept : KeptBody). not ((kept.from == c.args.from) && nat_le kept.req c.args.req)) c.args.self.now
    (sym c.has_none_upto.ensures ∙ c.if-has_none_upto.true))

pub returns : goal.returns
returns c = rw (← c.self.view_is) (filter-from_retain _ _ _ (λ x b f' y k. search rules) _ _ c.retain.ensures.filtered)
