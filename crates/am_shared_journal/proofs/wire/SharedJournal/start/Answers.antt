use Rattle.am_shared_journal.proofs.Words.{◌≡◌, ◌≤◌, List, length, take, drop, map, sym, ap, ◌∙◌, subst, arith, SharerKey, Terms, caller_keys, Sat, fresh}
use Rattle.am_shared_journal.proofs.Dealt.{first_sixteen_are_place_keys, caller_keys_length, all_keys_at_least_sixteen, take_callers}
use Rattle.am_shared_journal.proofs.wire.SharedJournal.start.Goals as goal

pub deal-requires-clause-count : goal.deal-requires-clause-count
deal-requires-clause-count g c = λ _ _. subst (λ (ks : List SharerKey). 16 ≤ length ks) (sym (ap (λ (m : Sat). m.0.keys) c.in_ok-wire.ensures.seat.1))
    (all_keys_at_least_sixteen c.args.terms.now.callers)

pub deal-requires-2-clause-count : goal.deal-requires-2-clause-count
deal-requires-2-clause-count g c = λ _ _.
    let left : c.deal.new.seat.me.0.keys ≡ caller_keys c.args.terms.now.callers =
    c.in_ok-passes.ensures.keys ∙ ap (λ (m : Sat). drop 16 m.0.keys) c.in_ok-wire.ensures.seat.1 ∙ (first_sixteen_are_place_keys c.args.terms.now.callers).1
    in
    let many : length c.deal.new.seat.me.0.keys ≡ c.args.terms.now.callers = ap length left ∙ caller_keys_length c.args.terms.now.callers in
    omega arith

pub returns-clause-passes : goal.returns-clause-passes
returns-clause-passes g c =
    c.in_ok-passes.ensures.passes ∙ ap (λ (m : Sat). map (fresh c.in_ok-wire.wire.id m.0.terms) (take 16 m.0.keys)) c.in_ok-wire.ensures.seat.1
    ∙ ap (map (fresh c.in_ok-wire.wire.id c.args.terms.now)) (first_sixteen_are_place_keys c.args.terms.now.callers).0

pub returns-clause-shares : goal.returns-clause-shares
returns-clause-shares g c =
    let left = c.in_ok-passes.ensures.keys ∙ ap (λ (m : Sat). drop 16 m.0.keys) c.in_ok-wire.ensures.seat.1 ∙ (first_sixteen_are_place_keys c.args.terms.now.callers).1 in
    let terms = c.deal.ensures.terms ∙ ap (λ (m : Sat). m.0.terms) c.in_ok-wire.ensures.seat.1 in
    c.in_ok-shares.ensures.passes ∙ ap (λ (t : Terms). map (fresh c.in_ok-wire.wire.id t) (take c.args.terms.now.callers c.deal.new.seat.me.0.keys)) terms
    ∙ ap (λ (ks : List SharerKey). map (fresh c.in_ok-wire.wire.id c.args.terms.now) (take c.args.terms.now.callers ks)) left
    ∙ ap (map (fresh c.in_ok-wire.wire.id c.args.terms.now)) (take_callers c.args.terms.now.callers)
