-- What a member notes of the sequencer's fronts, and what stays.
use Rattle.am_ordering.proofs.ReceivingWords.{◌≡◌, ℕ, Option, refl, Entry, Outcome, receive_entry_is_alike, Reply, Replies, reply_on_whole_log, CoreState, CoreChangesAlike, CoreFrontsAreInOrder, Node}
use Rattle.am_ordering.proofs.ReceivingWords.{node_with_noted_fronts, receive_entry, IsEndOf, NodeKeeps, IsSteady, change_of_core_changes_node, untrimmed_node_ends_itself, steady_node_keeps_order, end_of_node_is_steady, end_keeps_node_order}
use Rattle.am_ordering.proofs.ReceivingWords.{steady_nodes_follow_each_other, note}

pub end_of_node_with_noted : (m : Node) (core : CoreState) (base acc : ℕ) → m.core.base ≡ m.core.log.start → CoreChangesAlike (note base acc) m.core core
    → IsEndOf (node_with_noted_fronts m base acc) (record m { core = core })
end_of_node_with_noted m core base acc kept keeps = change_of_core_changes_node (note base acc) m core keeps m (untrimmed_node_ends_itself m kept)

noted_steady : (m : Node) (base acc : ℕ) → IsSteady m (node_with_noted_fronts m base acc)
noted_steady m base acc = record { who = refl; promise = refl; told = refl; top = refl; status = refl; ballot = refl; leaving = refl; sends = refl }

pub end_with_noted_is_steady : (m n : Node) (base acc : ℕ) → IsEndOf (node_with_noted_fronts m base acc) n → IsSteady m n
end_with_noted_is_steady m n base acc end = steady_nodes_follow_each_other m (node_with_noted_fronts m base acc) n (noted_steady m base acc) (end_of_node_is_steady (node_with_noted_fronts m base acc) n end)

pub end_with_noted_keeps_node : (m n : Node) (base acc : ℕ) → IsEndOf (node_with_noted_fronts m base acc) n → NodeKeeps m → NodeKeeps n
end_with_noted_keeps_node m n base acc end keeps = end_keeps_node_order (node_with_noted_fronts m base acc) n end
    (steady_node_keeps_order m (node_with_noted_fronts m base acc) (noted_steady m base acc) keeps keeps.own)

-- what is replied to an entry with the noted fronts, the whole node replies
pub receive_entry_with_noted_replies : (m mid new : Node) (base acc from number : ℕ) (found : Option Entry) (missing : Outcome) (r : Reply)
    → IsEndOf (node_with_noted_fronts m base acc) mid → CoreFrontsAreInOrder mid.core → Replies (receive_entry mid from base number found missing) r new
    → Replies (receive_entry (node_with_noted_fronts m base acc) from base number found missing) r new
receive_entry_with_noted_replies m mid new base acc from number found missing r end order replies =
    reply_on_whole_log (λ n. receive_entry n from base number found missing) (node_with_noted_fronts m base acc) mid new r end order
    (λ all keeps. receive_entry_is_alike all mid from base number found missing keeps) replies
