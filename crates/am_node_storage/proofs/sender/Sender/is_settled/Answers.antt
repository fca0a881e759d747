use Rattle.std.proofs.Common.{rules, sym, ◌∙◌, ◌≡◌, true}
use Rattle.am_node_defs.proofs.Lines.{settled_request_below_next}
use Rattle.am_node_storage.proofs.sender.Sender.is_settled.Goals as goal

pub returns-clause-low : goal.returns-clause-low
returns-clause-low c = λ t. let is : c.has_settled.result ≡ true = search rules in
    settled_request_below_next c.args.self.now.last c.args.req c.args.self.now.queue c.has_settled.ensures.kept.line (sym c.has_settled.ensures.value ∙ is)
