-- What a Take makes of a node.
use Rattle.am_repair_takes.proofs.Words.{◌≡◌, ℕ, ◌+◌, ◌==◌, true, false, [], ◌∷◌, Option, Some, None, refl, sym, ap, ◌∙◌, subst, arith, split_on_bool, slice_get}
use Rattle.am_repair_takes.proofs.Words.{Outcome, Letter, Entry, log_entry_at, Node, is_member, other_members, Plan, step, plan_without_letters, finish, refresh, refresh_at_end}
use Rattle.am_repair_takes.proofs.Words.{settle_waiting_send, row, take_row, NodesStandAlike, nodes_stand_alike_by_parts, refreshed_node_stands_alike, settled_node_stands_alike, World, Repair, IsCalm}
use Rattle.am_repair_takes.proofs.Words.{zero, suc, size, sends_accept, accept_packet_of, letter_to}
use Rattle.am_base.specs.declared.event.NodeEvent.TheVariants as does
use Rattle.am_base.specs.declared.outcome.Outcome.TheVariants as said

-- ---- the row

-- a node with one entry more taken
abbrev pub taken_on : Node → Node
taken_on m = record m { core = record (m.core) { taken = m.core.taken + 1 } }

-- a Member takes the next of what it has accepted; else nothing is done
pub data Took (m : Node) : Node → Type 0 where
  nothing : Took m m
  next : (e : Entry) → is_member m.status ≡ true → (m.core.taken == m.core.acc) ≡ false → log_entry_at m.core.log (m.core.taken + 1) ≡ Some e → Took m (taken_on m)

pub record TakeIs (m : Node) : Type 0 where
  pub node : Node
  pub took : Took m node
  pub outcome : Outcome
  pub is : take_row m ≡ plan_without_letters node outcome

given : (m : Node) (o : Option Entry) → is_member m.status ≡ true → (m.core.taken == m.core.acc) ≡ false → log_entry_at m.core.log (m.core.taken + 1) ≡ o → TakeIs m
unfolding take_row
given m None t f is = record { node = m; took = nothing; outcome = said.Empty; is = rw (t, f, is) refl }
given m (Some e) t f is = record { node = taken_on m; took = next e t f is; outcome = said.Took (m.core.taken + 1) e; is = rw (t, f, is) refl }

pub take_is : (m : Node) → TakeIs m
unfolding take_row
take_is m = split_on_bool (is_member m.status)
    (λ t. split_on_bool (m.core.taken == m.core.acc)
    (λ u. record { node = m; took = nothing; outcome = said.Empty; is = rw (t, u) refl })
    (λ f. given m (log_entry_at m.core.log (m.core.taken + 1)) t f refl))
    (λ f. record { node = m; took = nothing; outcome = said.NotMember; is = rw f refl })

-- ---- the step

pub take_node : (m : Node) → (step m does.Take).node ≡ refresh_at_end (take_is m).node
unfolding step row finish
take_node m = ap (λ (p : Plan). (finish m p).node) (take_is m).is

-- it sends a front at most
quiet_letters : (r : Repair) (v : World) (m x : Node) (o : Outcome) (k : ℕ) (l : Letter) → slice_get (finish m (plan_without_letters x o)).letters k ≡ Some l
    → IsCalm r v l.packet
unfolding finish
quiet_letters r v m x o k l there = split_on_bool (sends_accept m (plan_without_letters x o) (refresh_at_end x))
    (λ t. split_on_bool (size (other_members (refresh_at_end x)) == 0)
    (λ u. absurd (let z = rw (t, u) at there in cc))
    (λ u. one k (rw (t, u) at there)))
    (λ f. absurd (let z = rw f at there in cc))
  where
    one : (k : ℕ) → slice_get (letter_to (other_members (refresh_at_end x)) (accept_packet_of (refresh_at_end x) false) ∷ []) k ≡ Some l → IsCalm r v l.packet
    one zero is = let same : letter_to (other_members (refresh_at_end x)) (accept_packet_of (refresh_at_end x) false) ≡ l = cc in subst (λ (y : Letter). IsCalm r v y.packet) same tt
    one (suc k) is = absurd (cc)

pub take_letters : (r : Repair) (v : World) (m : Node) (k : ℕ) (l : Letter) → slice_get (step m does.Take).letters k ≡ Some l → IsCalm r v l.packet
unfolding step row
take_letters r v m k l there = quiet_letters r v m (take_is m).node (take_is m).outcome k l
    (sym (ap (λ (p : Plan). slice_get (finish m p).letters k) (take_is m).is) ∙ there)

-- ---- nodes alike

pub alike_then : (a b c : Node) → NodesStandAlike a b → NodesStandAlike b c → NodesStandAlike a c
alike_then a b c x y =
    let acc = x.acc in let more = y.acc in let taken = x.taken in let on = y.taken in
    nodes_stand_alike_by_parts a c (y.log ∙ x.log) (y.who ∙ x.who) (y.promise ∙ x.promise) (y.status ∙ x.status) (y.leaving ∙ x.leaving) (y.ballot ∙ x.ballot)
    (omega arith) (omega arith)

pub alike_end : (m : Node) → NodesStandAlike m (refresh_at_end m)
unfolding refresh_at_end
alike_end m = alike_then m (refresh m) (settle_waiting_send (refresh m)) (refreshed_node_stands_alike m) (settled_node_stands_alike (refresh m))

pub took_alike : (m x : Node) → Took m x → NodesStandAlike m x
took_alike m x nothing = nodes_stand_alike_by_parts m m refl refl refl refl refl refl (omega arith) (omega arith)
took_alike m x (next e member some there) = nodes_stand_alike_by_parts m x refl refl refl refl refl refl (omega arith) (omega arith)

pub take_alike : (m : Node) → NodesStandAlike m (step m does.Take).node
take_alike m =
    let x = (take_is m).node in
    subst (NodesStandAlike m) (sym (take_node m)) (alike_then m x (refresh_at_end x) (took_alike m x (take_is m).took) (alike_end x))
