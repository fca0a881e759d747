-- What a node keeps, as it changes.
use Rattle.am_node_calls.proofs.Words.{◌≡◌, ℕ, ◌≤◌, List, [], ◌∷◌, filter, find, Bool, true, false, not, None, refl, sym, ◌∙◌, ap, subst, arith}
use Rattle.am_node_calls.proofs.Words.{life_of_name, row_at_place, split_on_bool_of_log, OwnSend, Node, image_of_node}
use Rattle.am_node_calls.proofs.Words.{is_member, NodeKeeps, RequestMayBeDue, steady_node_keeps_order, status_of_member_has_log, MayHoldSends}
use Rattle.am_node_defs.specs.Sends as own

pub node_keeps_by_greater_taken : (m : Node) (number : ℕ) → m.core.taken ≤ number → NodeKeeps m → NodeKeeps (record m { core = record (m.core) { taken = number } })
node_keeps_by_greater_taken m number more keeps = steady_node_keeps_order m (record m { core = record (m.core) { taken = number } })
    (record { who = refl; promise = refl; told = refl; top = refl; status = refl; ballot = refl; leaving = refl; sends = refl }) keeps (let old = keeps.own in
    omega arith)

-- ---- sends

pub submitted_sends_may_be_held : (m : Node) (sends : own.Sends) → NodeKeeps m → is_member m.status ≡ true → m.leaving ≡ false
    → own.next_request sends ≡ own.next_request m.sends → MayHoldSends m sends
submitted_sends_may_be_held m sends keeps member stays next = record {
  settled = λ leaves. absurd (let e = sym stays ∙ leaves in cc);
  due = subst (λ n. RequestMayBeDue (row_at_place (image_of_node m) m.core.who) (life_of_name m.core.who) n) (sym next) keeps.due;
  unsent = λ none. absurd (let e = sym (status_of_member_has_log m.status member) ∙ none in cc);
}

none_left : (p : OwnSend → Bool) (q : List OwnSend) → find own.is_unsettled q ≡ None → find own.is_unsettled (filter p q) ≡ None
none_left p [] none = refl
none_left p (s ∷ ss) none = split_on_bool_of_log (own.is_unsettled s)
    (λ t. let e = rw t at none in absurd (cc))
    (λ f.
    let rest = rw f at none in
    split_on_bool_of_log (p s)
    (λ kept. rw (kept, f) (none_left p ss rest))
    (λ gone. rw gone (none_left p ss rest)))

collect_waits : (req : ℕ) (sends : own.Sends) → own.first_unsettled_send sends ≡ None → own.first_unsettled_send (own.collect req sends) ≡ None
collect_waits req sends none = split_on_bool_of_log (own.has_settled_send req sends)
    (λ t. rw t (none_left (λ send. not (own.send_has_request req send)) sends.queue none))
    (λ f. rw f none)

pub collected_sends_may_be_held : (m : Node) (req : ℕ) (sends : own.Sends) → NodeKeeps m → sends ≡ own.collect req m.sends → own.next_request sends ≡ own.next_request m.sends
    → MayHoldSends m sends
collected_sends_may_be_held m req sends keeps is next = record {
  settled = λ leaves. ap own.first_unsettled_send is ∙ collect_waits req m.sends (keeps.settled leaves);
  due = subst (λ n. RequestMayBeDue (row_at_place (image_of_node m) m.core.who) (life_of_name m.core.who) n) (sym next) keeps.due;
  unsent = λ none. let few = keeps.unsent none in omega arith;
}
