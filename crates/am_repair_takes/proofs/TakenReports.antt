-- What the sequencer hears of what members have taken.
use Rattle.am_repair.proofs.RepairWords.{◌≡◌, ℕ, ◌+◌, ◌≤◌, ◌==◌, not, nat_lt, nat_le, Bool, true, false, if◌then◌else◌, List, refl, sym, ap, subst, arith, nat_tests}
use Rattle.am_repair.proofs.RepairWords.{Report, Node, has_room, node_with_report, refresh_at_end, Plan, finish, hear_packet, hears_packet_of_its_view, hear_row, has_no_join, take_report}
use Rattle.am_repair.proofs.RepairWords.{report_fits, is_sequencer, answer_request, request_row, ack_row, nack_row, both_of_and, ack, nack, request, spread, split_on_bool}
use Rattle.am_repair.proofs.RepairWords.{refresh, settle_changes_only_sends}
use Rattle.am_model.specs.Sequencing.{row_of_name_in_list}
use Rattle.am_repair.proofs.Ends.{reports_after_lead_no_less}
use Rattle.am_repair_takes.specs.Resting.{TakenIsKnown}

-- ---- reports are raised

-- no report is lowered by the end of a step
pub refreshed_taken : (m : Node) (name : ℕ) → (m.reports name).taken ≤ ((refresh m).reports name).taken
unfolding refresh
refreshed_taken m name = split_on_bool (is_sequencer m) (λ t. rw t (reports_after_lead_no_less m name).taken) (λ f. rw f (omega arith))

end_reports : (m : Node) → (refresh_at_end m).reports ≡ (refresh m).reports
unfolding refresh_at_end
end_reports m = ap (λ (n : Node). n.reports) (settle_changes_only_sends (refresh m))

pub taken_stays : (m : Node) (name : ℕ) → (m.reports name).taken ≤ ((refresh_at_end m).reports name).taken
taken_stays m name = subst (λ (f : ℕ → Report). (m.reports name).taken ≤ (f name).taken) (sym (end_reports m)) (refreshed_taken m name)

-- ---- each packet that brings a report

-- a plan whose node knows at least this of a name
abbrev Has : ℕ → ℕ → Plan → Type 0
Has s taken p = (taken ≤ (p.node.reports s).taken) × (p.departs ≡ false)

has_if : (s taken : ℕ) (b : Bool) (p q : Plan) → Has s taken p → Has s taken q → Has s taken (if b then p else q)
has_if s taken true p q f g = f
has_if s taken false p q f g = g

done_has : (m : Node) (s taken : ℕ) (p : Plan) → Has s taken p → taken ≤ ((finish m p).node.reports s).taken
unfolding finish
done_has m s taken p h = let a = h.0 in let b = taken_stays p.node s in rw h.1 (omega arith)

with_has : (m : Node) (s : ℕ) (report : Report) → report.taken ≤ ((node_with_report m s report).reports s).taken
with_has m s report = let t : (s == s) ≡ true = grind (arith, nat_tests) in rw t (omega arith)

reported_has : (m : Node) (s : ℕ) (report : Report) → report.taken ≤ ((take_report m s report).reports s).taken
reported_has m s report = let a = with_has m s report in let b = refreshed_taken (node_with_report m s report) s in omega arith

requested_has : (m : Node) (s : ℕ) (taken req : ℕ) (body : List ℕ) (by_order : Bool) → taken ≤ (m.reports s).taken
    → Has s taken (answer_request m s req body by_order)
requested_has m s taken req body by_order h =
    has_if s taken (nat_lt 0 (row_of_name_in_list m s).left) _ _ (h, refl)
    (has_if s taken (nat_le req (row_of_name_in_list m s).last) _ _ (h, refl)
    (has_if s taken (nat_lt ((row_of_name_in_list m s).last + 1) req) _ _ (h, refl)
    (has_if s taken (not (has_room m)) _ _ (h, refl) (h, refl))))

request_has : (m : Node) (s : ℕ) (report : Report) (req : ℕ) (body : List ℕ) (by_order : Bool) → has_no_join m s ≡ false → report_fits m report ≡ true
    → Has s report.taken (request_row m s report req body by_order)
unfolding request_row
request_has m s report req body by_order known fits = rw (known, fits)
    (requested_has (take_report m s report) s report.taken req body by_order (reported_has m s report))

pub taken_is_known : TakenIsKnown
unfolding hear_packet hear_row ack_row nack_row
taken_is_known m p s v report (ack s_ v_ report_) heard known fits = rw (heard, known, fits) (done_has m s report.taken _ (with_has m s report, refl))
taken_is_known m p s v report (nack s_ v_ report_) heard known fits =
    rw (heard, known, fits) (done_has m s report.taken _ (has_if s report.taken (nat_lt report.stored (take_report m s report).core.base) _ _
    (reported_has m s report, refl) (reported_has m s report, refl)))
taken_is_known m p s v report (request s_ v_ report_ req body) heard known fits = rw heard
    (done_has m s report.taken _ (request_has m s report req body false known fits))
taken_is_known m p s v report (spread s_ v_ report_ req body) heard known fits =
    let both = both_of_and (hears_packet_of_its_view m s v) (is_sequencer m) heard in
    rw (both.0, both.1) (done_has m s report.taken _ (request_has m s report req body true known fits))
