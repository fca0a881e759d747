-- What a member does with what its sequencer tells.
use Rattle.am_repair.proofs.RepairWords.{◌≡◌, ℕ, ◌+◌, ◌-◌, ◌&&◌, not, max, min, nat_lt, nat_le, Bool, true, false, if◌then◌else◌, refl, sym, ap, ◌∙◌, arith}
use Rattle.am_repair.proofs.RepairWords.{length-append, nat_tests, Log, top_of_log, Node, top, set_of_one_name, is_sequencer, has_own_leave, push_entry, trim_node_up_to}
use Rattle.am_repair.proofs.RepairWords.{refresh_at_end, Plan, nack_packet_of, finish, hear_packet, hear_row, node_with_noted_fronts, bodies_after_stored_entry, accept_row, bcast_row, end_refresh_rests_with_list}
use Rattle.am_repair.proofs.RepairWords.{HearsFront, FrontsAreHeard, GapsAreAsked, EntriesAreStored}
use Rattle.am_base.specs.declared.outcome.Outcome.TheVariants as said
use Rattle.am_repair.proofs.Sets.{only_name_is_not_empty}
use Rattle.am_repair.proofs.Ends.{hearer_of_sequencer_leads_not, follower_accepts, telling_step_sends_one_letter}

-- a step leaves the list as its row does
end_top : (m : Node) → top (refresh_at_end m) ≡ top m
end_top m = ap (λ (l : Log). top_of_log l) (end_refresh_rests_with_list m).log

-- ---- how far the list goes

abbrev Noted : Node → ℕ → ℕ → Plan → Type 0
Noted m base acc p = (p.node ≡ node_with_noted_fronts m base acc) × (p.departs ≡ false)

noted_if : (m : Node) (base acc : ℕ) (b : Bool) (p q : Plan) → Noted m base acc p → Noted m base acc q → Noted m base acc (if b then p else q)
noted_if m base acc true p q f g = f
noted_if m base acc false p q f g = g

hears_plan : (m : Node) (base acc : ℕ) (p : Plan) → is_sequencer m ≡ false → Noted m base acc p → HearsFront m acc (finish m p).node
unfolding finish
hears_plan m base acc p follow is =
    let n = node_with_noted_fronts m base acc in
    let told : (refresh_at_end n).core.acc ≡ max m.core.acc (min (max m.core.told acc) (top m)) = follower_accepts n follow in
    rw (is.1, is.0) (record { stored = end_top n; accepted = omega arith })

pub fronts_are_heard : FrontsAreHeard
unfolding hear_packet hear_row accept_row
fronts_are_heard m s v base acc high poll heard =
    rw heard (hears_plan m base acc _ (hearer_of_sequencer_leads_not m s v heard) (noted_if m base acc (nat_lt (top m) high && not (has_own_leave m)) _ _ (refl, refl)
    (refl, refl)))

-- ---- what is missing

pub gaps_are_asked : GapsAreAsked
unfolding hear_packet hear_row accept_row finish
gaps_are_asked m s v base acc high poll heard gap stays =
    let n = node_with_noted_fronts m base acc in
    let below : nat_lt (top m) high ≡ true = grind (arith, nat_tests) in
    rw (heard, below, stays) (record {
      stored = end_top n;
      letters = telling_step_sends_one_letter m n (said.Gap (top m + 1)) (set_of_one_name s) nack_packet_of (hearer_of_sequencer_leads_not m s v heard) (only_name_is_not_empty s);
    })

-- ---- the next entry

pub entries_are_stored : EntriesAreStored
unfolding hear_packet hear_row bcast_row finish
entries_are_stored m s v base acc number e heard h =
    let n = trim_node_up_to (record m { core = record (m.core) { told = max m.core.told acc } }) base in
    let k = record (push_entry n e) { bodies = bodies_after_stored_entry m.bodies e } in
    let next = h.next in
    let a : nat_le number (top m) ≡ false = grind (arith, nat_tests) in
    let b : nat_lt (top m + 1) number ≡ false = grind (arith, nat_tests) in
    let c : nat_lt m.core.taken base ≡ false = grind (arith, nat_tests) in
    let d : nat_le base m.core.taken ≡ true = grind (arith, nat_tests) in
    let w : nat_le (number - max m.core.base base) (m.core.rules.window + 15) ≡ true = grind (arith, nat_tests) in
    let more : top k ≡ top m + 1 = simp length-append (omega arith) in
    rw (heard, d, a, h.stays, b, c, h.plain, h.fits, w) (end_top k ∙ more ∙ sym next)
