use Rattle.std.proofs.Common.{◌∷◌, ◌++◌, [], length, ap, ◌∙◌}
use Rattle.am_group_list.proofs.Fronts.{fronts_of_new_list}
use Rattle.am_group_list.proofs.group.Group.new.Goals as goal

pub invariant_of-result : goal.invariant_of-result
invariant_of-result c = rw c.founders_fronts-fronts.ensures (fronts_of_new_list c.push.new.self.items _ (ap length c.in_ok-push.ensures.items
    ∙ ap (λ es. length (es ++ c.founders_view.result ∷ [])) c.new-entries.ensures.items))
