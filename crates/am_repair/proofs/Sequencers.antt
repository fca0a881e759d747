-- What the sequencer does with reports.
use Rattle.am_repair.proofs.RepairWords.{◌≡◌, ℕ, ◌+◌, ◌≤◌, ◌==◌, not, nat_lt, nat_le, Bool, true, false, if◌then◌else◌, List, [], refl, ap, ◌∙◌, arith, nat_tests}
use Rattle.am_repair.proofs.RepairWords.{All-nil, Report, Log, Node, set_of_one_name, is_sequencer, has_room, node_with_report, report_fits, refresh_at_end, Plan}
use Rattle.am_repair.proofs.RepairWords.{entries_to_serve, letters_of_entries, bcast_packet_of, finish, letters_with_accept, hear_packet, hears_packet_of_its_view, hear_row, has_no_join, take_report, serve_entries_above}
use Rattle.am_repair.proofs.RepairWords.{answer_request, request_row, ack_row, nack_row, both_of_and, refresh_rests_with_list, end_refresh_rests_with_list, ack, nack, request, spread}
use Rattle.am_repair.proofs.RepairWords.{ReportsAreTaken, bcasts, Serves, NacksAreServed}
use Rattle.am_model.specs.Sequencing.{row_of_name_in_list}
use Rattle.am_repair.proofs.Sets.{only_name_is_not_empty}
use Rattle.am_repair.proofs.Letters.{put_all_appends_bcasts, bcasts_are_low_packets, with_accept_appends_letters}
use Rattle.am_repair.proofs.Ends.{stored_reports_after_end, stored_reports_after_refresh}

-- ---- reports

-- a plan whose node has at least this report of a name
abbrev Has : ℕ → ℕ → Plan → Type 0
Has s stored p = (stored ≤ (p.node.reports s).stored) × (p.departs ≡ false)

has_if : (s stored : ℕ) (b : Bool) (p q : Plan) → Has s stored p → Has s stored q → Has s stored (if b then p else q)
has_if s stored true p q f g = f
has_if s stored false p q f g = g

done_has : (m : Node) (s stored : ℕ) (p : Plan) → Has s stored p → stored ≤ ((finish m p).node.reports s).stored
unfolding finish
done_has m s stored p h = let a = h.0 in let b = stored_reports_after_end p.node s in rw h.1 (omega arith)

with_has : (m : Node) (s : ℕ) (report : Report) → report.stored ≤ ((node_with_report m s report).reports s).stored
with_has m s report = let t : (s == s) ≡ true = grind (arith, nat_tests) in rw t (omega arith)

reported_has : (m : Node) (s : ℕ) (report : Report) → report.stored ≤ ((take_report m s report).reports s).stored
reported_has m s report = let a = with_has m s report in let b = stored_reports_after_refresh (node_with_report m s report) s in omega arith

requested_has : (m : Node) (s : ℕ) (stored req : ℕ) (body : List ℕ) (by_order : Bool) → stored ≤ (m.reports s).stored
    → Has s stored (answer_request m s req body by_order)
requested_has m s stored req body by_order h =
    has_if s stored (nat_lt 0 (row_of_name_in_list m s).left) _ _ (h, refl)
    (has_if s stored (nat_le req (row_of_name_in_list m s).last) _ _ (h, refl)
    (has_if s stored (nat_lt ((row_of_name_in_list m s).last + 1) req) _ _ (h, refl)
    (has_if s stored (not (has_room m)) _ _ (h, refl) (h, refl))))

request_has : (m : Node) (s : ℕ) (report : Report) (req : ℕ) (body : List ℕ) (by_order : Bool) → has_no_join m s ≡ false → report_fits m report ≡ true
    → Has s report.stored (request_row m s report req body by_order)
unfolding request_row
request_has m s report req body by_order known fits = rw (known, fits)
    (requested_has (take_report m s report) s report.stored req body by_order (reported_has m s report))

pub reports_are_taken : ReportsAreTaken
unfolding hear_packet hear_row ack_row nack_row
reports_are_taken m p s v report (ack s_ v_ report_) heard known fits = rw (heard, known, fits) (done_has m s report.stored _ (with_has m s report, refl))
reports_are_taken m p s v report (nack s_ v_ report_) heard known fits =
    rw (heard, known, fits) (done_has m s report.stored _ (has_if s report.stored (nat_lt report.stored (take_report m s report).core.base) _ _
    (reported_has m s report, refl) (reported_has m s report, refl)))
reports_are_taken m p s v report (request s_ v_ report_ req body) heard known fits = rw heard
    (done_has m s report.stored _ (request_has m s report req body false known fits))
reports_are_taken m p s v report (spread s_ v_ report_ req body) heard known fits =
    let both = both_of_and (hears_packet_of_its_view m s v) (is_sequencer m) heard in
    rw (both.0, both.1) (done_has m s report.stored _ (request_has m s report req body true known fits))

-- ---- what is sent again

serves_plan : (m p : Node) (s stored : ℕ) → p.core.log ≡ m.core.log → Serves m s stored (finish m (serve_entries_above p s stored))
unfolding finish
serves_plan m p s stored same =
    let n = refresh_at_end p in
    let es = entries_to_serve m stored in
    let is : entries_to_serve p stored ≡ es = ap (λ (l : Log). entries_to_serve (record m { core = record (m.core) { log = l } }) stored) same in
    let letters = ap (λ xs. letters_of_entries (bcast_packet_of n) (set_of_one_name s) (stored + 1) xs []) is
    ∙ put_all_appends_bcasts n (set_of_one_name s) (stored + 1) es [] (All-nil _) (only_name_is_not_empty s) in
    let last = with_accept_appends_letters m (serve_entries_above p s stored) n (bcasts n (set_of_one_name s) (stored + 1) es) (bcasts_are_low_packets n (set_of_one_name s) (stored + 1) es) in
    record { same = (end_refresh_rests_with_list p).log ∙ same; more = last.0; letters = ap (letters_with_accept m (serve_entries_above p s stored) n) letters ∙ last.1 }

pub nacks_are_served : NacksAreServed
unfolding hear_packet hear_row nack_row
nacks_are_served m s v report heard known fits low =
    let p = take_report m s report in
    let b : nat_lt report.stored p.core.base ≡ false = grind (arith, nat_tests) in
    rw (heard, known, fits, b) (serves_plan m p s report.stored ((refresh_rests_with_list (node_with_report m s report)).log))
