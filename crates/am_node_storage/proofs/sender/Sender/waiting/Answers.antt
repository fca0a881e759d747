use Rattle.am_node_defs.proofs.Lines.{waiting_request_within_numbers}
use Rattle.am_node_storage.proofs.sender.Sender.waiting.Goals as goal

pub returns-clause-within : goal.returns-clause-within
returns-clause-within c = waiting_request_within_numbers c.args.self.now.last c.args.self.now.queue
    (λ body. body.now) c.first_unsettled.result c.first_unsettled.ensures.kept c.first_unsettled.ensures.value
