-- There is one sequencer that runs.
use Rattle.am_repair.proofs.Repairable.RepairedWords.{member_has_not_departed, ◌≡◌, ℕ, ◌<◌, true, false, sym, ap, ◌∙◌, Rules, stamp_of_list, Group, IsUp, GroupKeeps, acts_in_its_view, is_member, is_sequencer}
use Rattle.am_repair.proofs.Repairable.RepairedWords.{World, is_stopped, both_of_and, member_status_has_log, Following, LeadsItsLine, sequencer_leads_its_line}
use Rattle.am_abstract_group.specs.Group as groups

-- it leads the group
pub running_sequencer_leads : (rules : Rules) (w : World) (s : Group) (q : ℕ) → Following rules w s → GroupKeeps s → q < 256 → (w.nodes q).core.who ≡ q
    → is_sequencer (w.nodes q) ≡ true → is_stopped w q ≡ false → LeadsItsLine q (w.nodes q) s
running_sequencer_leads rules w s q old k small who leads runs =
    let m = w.nodes q in
    let a = old.stands.each q small in
    let member = (both_of_and (is_member m.status) _ (both_of_and (acts_in_its_view m) _ leads).0).0 in
    let up : IsUp (s.node q) = record {
      log = a.log_ ∙ member_status_has_log m.status member;
      there = record { goes = a.stopped ∙ runs; stays = a.departed ∙ member_has_not_departed m.status member };
    } in
    sequencer_leads_its_line w q m s (record { kept = k; stands = a; up = up; who = who }) leads

runs_leads : (rules : Rules) (w : World) (s : Group) (q : ℕ) → Following rules w s → GroupKeeps s → q < 256 → (w.nodes q).core.who ≡ q
    → is_sequencer (w.nodes q) ≡ true → is_stopped w q ≡ false → groups.Leads q (s.node q)
runs_leads rules w s q old k small who leads runs = (running_sequencer_leads rules w s q old k small who leads runs).leads

pub one_sequencer_runs : (rules : Rules) (w : World) (s : Group) (p q : ℕ) → Following rules w s → GroupKeeps s → p < 256 → q < 256
    → (w.nodes p).core.who ≡ p → (w.nodes q).core.who ≡ q → is_sequencer (w.nodes p) ≡ true → is_sequencer (w.nodes q) ≡ true
    → is_stopped w p ≡ false → is_stopped w q ≡ false → p ≡ q
one_sequencer_runs rules w s p q old k few small who_p who_q leads_p leads_q runs_p runs_q =
    let a = runs_leads rules w s p old k few who_p leads_p runs_p in
    let b = runs_leads rules w s q old k small who_q leads_q runs_q in
    let same : (s.node p).list ≡ (s.node q).list = ((k.each p).leads a).chain ∙ sym ((k.each q).leads b).chain in
    sym a.by ∙ ap (λ l. (stamp_of_list l).by) same ∙ b.by
