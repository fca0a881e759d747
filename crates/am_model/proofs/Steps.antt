-- What the kept end of a node tells of the node, and what its steps are.
use Rattle.am_model.proofs.EndWords.{◌≡◌, List, refl, sym, ◌∙◌, Outcome, NodeEvent, Letter, CoreFrontsAreInOrder, log_is_own_end, top_of_end_is_top, top, step, row, IsEndOf, StepComesTo, DoesRow}
use Rattle.am_model.specs.Node as protocol
use Rattle.am_model.proofs.Hearing.{ends_step_alike}

-- a node of which nothing is trimmed is its own end
pub untrimmed_node_is_own_end : (m : protocol.Node) → m.core.base ≡ m.core.log.start → IsEndOf m m
untrimmed_node_is_own_end m h = record { stands = record { base = h; kept = log_is_own_end m.core.log }; same = refl }

pub node_end_has_same_top : (all m : protocol.Node) → IsEndOf all m → top m ≡ top all
node_end_has_same_top all m is = top_of_end_is_top all.core.log m.core.log is.stands.kept

-- what the end does, all of it does
pub whole_step_comes_to_end : (all m n : protocol.Node) (what : NodeEvent) (outcome : Outcome) (letters : List Letter) → IsEndOf all m → CoreFrontsAreInOrder m.core
    → DoesRow (λ k. row k what) m outcome letters n → StepComesTo (step all what) outcome letters n
unfolding step
whole_step_comes_to_end all m n what outcome letters is order does =
    let s = ends_step_alike all m what is order in
    record { node = s.node n does.node; answer = does.answer ∙ sym s.answer; sent = does.sent ∙ sym s.sent }
