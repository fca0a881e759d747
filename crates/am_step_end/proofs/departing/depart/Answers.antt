use Rattle.am_node_parts.proofs.Words.{◌≡◌, ◌+◌, sym, ap, ◌∙◌, subst, Leave, fits, IsKept, IsMemberOrLastLeaver, Node, image_of_node, push_entry, refresh_as_sequencer, IsEndOf, NodeKeeps}
use Rattle.am_node_parts.proofs.Words.{node_of, Entry}
use Rattle.am_node_parts.specs.Replies.{departed_node}
use Rattle.am_node_parts.proofs.LastMember.{own_leave_of_member_fits, last_leave_keeps_node_order, last_leaver_may_lead, departed_refresh_is_lead, nobody_else_after_last_leave}
use Rattle.am_step_end.proofs.departing.depart.Goals as goal

pub push-requires-clause-fits : goal.push-requires-clause-fits
push-requires-clause-fits c =
    let m = node_of c.args.parts.now in
    let member = c.args.parts.now.keeps.leads c.requires.leads in
    let who : c.name-who.result ≡ m.core.who = c.name-who.ensures.value ∙ ap (λ (x : Node). x.core.who) c.set_status.ensures in
    ap (fits (image_of_node (node_of c.set_status.new.self))) c.leave.ensures
    ∙ ap (λ k. fits (image_of_node (node_of c.set_status.new.self)) (Leave k)) who ∙ ap (λ (x : Node). fits (image_of_node x) (Leave m.core.who)) c.set_status.ensures
    ∙ own_leave_of_member_fits m member

pub push-requires-clause-keeps : goal.push-requires-clause-keeps
push-requires-clause-keeps c =
    let m = node_of c.args.parts.now in
    let member = c.args.parts.now.keeps.leads c.requires.leads in
    let who : c.name-who.result ≡ m.core.who = c.name-who.ensures.value ∙ ap (λ (x : Node). x.core.who) c.set_status.ensures in
    let keeps : NodeKeeps (departed_node m) = subst (λ (x : Node). NodeKeeps x) c.set_status.ensures c.set_status.new.self.keeps in
    let kept : IsKept m.core.log (m.core.rules.window + 15) =
    subst (λ (x : Node). IsKept x.core.log (x.core.rules.window + 15)) c.set_status.ensures c.accept_front-before.ensures.kept in
    subst (λ (e : Entry). NodeKeeps (push_entry (node_of c.set_status.new.self) e)) (sym (c.leave.ensures ∙ ap Leave who))
    (subst (λ (x : Node). NodeKeeps (push_entry x (Leave m.core.who))) (sym c.set_status.ensures) (last_leave_keeps_node_order m (m.core.rules.window + 15) kept member keeps))

pub lead-requires-clause-leads : goal.lead-requires-clause-leads
lead-requires-clause-leads c =
    let m = node_of c.args.parts.now in
    let member = c.args.parts.now.keeps.leads c.requires.leads in
    let who : c.name-who.result ≡ m.core.who = c.name-who.ensures.value ∙ ap (λ (x : Node). x.core.who) c.set_status.ensures in
    let kept : IsKept m.core.log (m.core.rules.window + 15) =
    subst (λ (x : Node). IsKept x.core.log (x.core.rules.window + 15)) c.set_status.ensures c.accept_front-before.ensures.kept in
    let node : node_of c.push.new.self ≡ push_entry (departed_node m) (Leave m.core.who) = c.push.ensures.node
    ∙ (λ k. push_entry (c.set_status.ensures k) ((c.leave.ensures ∙ ap Leave who) k)) in
    subst (λ (x : Node). IsMemberOrLastLeaver x.core) (sym node) (last_leaver_may_lead m (m.core.rules.window + 15) kept member c.requires.alone)

pub returns-clause-end : goal.returns-clause-end
returns-clause-end c =
    let m = node_of c.args.parts.now in
    let who : c.name-who.result ≡ m.core.who = c.name-who.ensures.value ∙ ap (λ (x : Node). x.core.who) c.set_status.ensures in
    let node : node_of c.push.new.self ≡ push_entry (departed_node m) (Leave m.core.who) = c.push.ensures.node
    ∙ (λ k. push_entry (c.set_status.ensures k) ((c.leave.ensures ∙ ap Leave who) k)) in
    subst (λ (x : Node). IsEndOf x (node_of c.lead.new.parts)) (ap refresh_as_sequencer node ∙ sym (departed_refresh_is_lead m c.requires.idle c.requires.leads)) c.lead.ensures

pub returns-clause-nobody : goal.returns-clause-nobody
returns-clause-nobody c =
    let m = node_of c.args.parts.now in
    let member = c.args.parts.now.keeps.leads c.requires.leads in
    let kept : IsKept m.core.log (m.core.rules.window + 15) =
    subst (λ (x : Node). IsKept x.core.log (x.core.rules.window + 15)) c.set_status.ensures c.accept_front-before.ensures.kept in
    nobody_else_after_last_leave m (m.core.rules.window + 15) kept member c.requires.idle c.requires.leads c.requires.alone
