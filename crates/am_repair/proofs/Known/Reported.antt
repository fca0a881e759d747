-- What is known of a name to be taken, through each change: it was reported so, and taken, or is no more than the base.
use Rattle.am_repair.proofs.RepairWords.{welcomed_node_has_no_log, top_of_log, Leave, Report, Stamp, Outcome, settle_changes_only_sends, end_refresh_rests_with_list, refresh_rests_with_list, split_on_bool, BallotVerdict, Ballot}
use Rattle.am_repair.proofs.RepairWords.{is_sequencer, node_with_report, push_entry, Node, node_with_joiner_reports, refresh_at_end, refresh, nat_tests, ◌≡◌, ℕ, ◌≤◌, ◌==◌}
use Rattle.am_repair.proofs.RepairWords.{max, nat_lt, nat_le, false, if◌then◌else◌, List, refl, sym, ap, ◌∙◌, subst, arith, Change, refreshes, settles}
use Rattle.am_repair.proofs.RepairWords.{takes_report, admits, notes, begins_list, looks, fetches, stores_view, takes, closes, Says, leave_ask, LooksAtBallot}
use Rattle.am_repair.proofs.RepairWords.{finds_no_room, decides, Cause, hears, by_request, CauseHasReport, with_send, Packet, NodeTrimFronts, IsBlankWithoutLog}
use Rattle.am_step_laws.specs.Letters.{request, spread, ack, nack}
use Rattle.am_repair.proofs.RepairLeading.{lead_keeps_reports_of_others}

-- what a letter reports of its sender was taken
abbrev pub ReportTellsTaken : (ℕ → Node) → Packet → Type 0
ReportTellsTaken nodes (Packet.Request s v report req body) = report.taken ≤ (nodes s).core.taken
ReportTellsTaken nodes (Packet.Spread s v report req body) = report.taken ≤ (nodes s).core.taken
ReportTellsTaken nodes (Packet.Ack s v report) = report.taken ≤ (nodes s).core.taken
ReportTellsTaken nodes (Packet.Nack s v report) = report.taken ≤ (nodes s).core.taken
ReportTellsTaken nodes (Packet.LeaveAsk s v report) = report.taken ≤ (nodes s).core.taken
ReportTellsTaken nodes _ = Unit {0}

abbrev pub CauseReportsTaken : (ℕ → Node) → Cause → Type 0
CauseReportsTaken nodes (hears p) = ReportTellsTaken nodes p
CauseReportsTaken nodes _ = Unit {0}

-- what a report tells to be taken was taken
pub reported_taken_le_taken : (nodes : ℕ → Node) (c : Cause) (s : ℕ) (v : Stamp) (report : Report) → CauseHasReport c s v report → CauseReportsTaken nodes c
    → report.taken ≤ (nodes s).core.taken
reported_taken_le_taken nodes c s v report (with_send s_ v_ report_ req body (by_request s1 v1 report1 req1 body1)) h = h
reported_taken_le_taken nodes c s v report _ h = h

-- of another name
abbrev pub ReportsAreTruly : (ℕ → Node) → Node → Type 0
ReportsAreTruly nodes m = (name : ℕ) → (name == m.core.who) ≡ false → (m.reports name).taken ≤ max m.core.base (nodes name).core.taken

-- what rises
pub record BaseAndTakenRise (m n : Node) : Type 0 where
  pub base : m.core.base ≤ n.core.base
  pub taken : m.core.taken ≤ n.core.taken

rises_same : (m n : Node) → n.core.base ≡ m.core.base → n.core.taken ≡ m.core.taken → BaseAndTakenRise m n
rises_same m n base taken = record { base = omega arith; taken = omega arith }

noted_up : (old base taken : ℕ) → old ≤ max old (if nat_le base taken then base else old)
noted_up old base taken = omega arith

-- reports of others stay, and the base rises
truly_more : (nodes : ℕ → Node) (m n : Node) → n.core.who ≡ m.core.who → m.core.base ≤ n.core.base
    → ((name : ℕ) → (name == m.core.who) ≡ false → n.reports name ≡ m.reports name) → ReportsAreTruly nodes m → ReportsAreTruly nodes n
truly_more nodes m n who up same h name other =
    let o : (name == m.core.who) ≡ false = ap (λ k. name == k) (sym who) ∙ other in
    let b = ap (λ (r : Report). r.taken) (same name o) in
    omega arith

pub refresh_keeps_reports_of_others : (m : Node) (name : ℕ) → (name == m.core.who) ≡ false → (refresh m).reports name ≡ m.reports name
unfolding refresh
refresh_keeps_reports_of_others m name other = split_on_bool (is_sequencer m) (λ t. rw t (lead_keeps_reports_of_others m name other)) (λ f. rw f refl)

pub end_keeps_reports_of_others : (m : Node) (name : ℕ) → (name == m.core.who) ≡ false → (refresh_at_end m).reports name ≡ m.reports name
unfolding refresh_at_end
end_keeps_reports_of_others m name other = ap (λ (n : Node). n.reports name) (settle_changes_only_sends (refresh m)) ∙ refresh_keeps_reports_of_others m name other

truly_report : (nodes : ℕ → Node) (m : Node) (s : ℕ) (report : Report) → report.taken ≤ (nodes s).core.taken → ReportsAreTruly nodes m
    → ReportsAreTruly nodes (node_with_report m s report)
truly_report nodes m s report low h name other = split_on_bool (name == s)
    (λ t. let e : name ≡ s = grind (arith, nat_tests) in let a = h s (ap (λ k. k == m.core.who) (sym e) ∙ other) in rw (t, e) (omega arith))
    (λ f. rw f (h name other))

truly_admitted : (nodes : ℕ → Node) (m : Node) (s : ℕ) → ReportsAreTruly nodes m → ReportsAreTruly nodes (node_with_joiner_reports m s)
truly_admitted nodes m s h name other = split_on_bool (name == s) (λ t. rw t (omega arith)) (λ f. rw f (h name other))

truly_look : (nodes : ℕ → Node) (m : Node) (b : Ballot) (v : BallotVerdict) → LooksAtBallot m b v → ReportsAreTruly nodes m → ReportsAreTruly nodes v.node
truly_look nodes m b v (finds_no_room learned) h = truly_more nodes m v.node refl (omega arith) (λ name other. refl) h
truly_look nodes m b v (decides may) h = λ name other. split_on_bool (nat_lt name 256) (λ t. rw t (omega arith)) (λ f. rw f (omega arith))
truly_look nodes m b v _ h = h

rises_look : (m : Node) (b : Ballot) (v : BallotVerdict) → LooksAtBallot m b v → BaseAndTakenRise m v.node
rises_look m b v (finds_no_room learned) = record { base = omega arith; taken = omega arith }
rises_look m b v (decides may) = record { base = omega arith; taken = omega arith }
rises_look m b v _ = rises_same m _ refl refl

pub reports_stay_true_by_change : (nodes : ℕ → Node) (c : Cause) (o : Outcome) (m n : Node) → CauseReportsTaken nodes c → IsBlankWithoutLog m → Change c o m n → ReportsAreTruly nodes m
    → ReportsAreTruly nodes n
reports_stay_true_by_change nodes c o m n w k refreshes h = (let r = (refresh_rests_with_list m).rests in truly_more nodes m n r.who r.base (refresh_keeps_reports_of_others m) h)
reports_stay_true_by_change nodes c o m n w k settles h = subst (ReportsAreTruly nodes) (sym (settle_changes_only_sends m)) h
reports_stay_true_by_change nodes c o m n w k (takes_report s v report brings may) h = truly_report nodes m s report (reported_taken_le_taken nodes c s v report brings w) h
reports_stay_true_by_change nodes c o m n w k (admits s v is leads fit) h = truly_admitted nodes m s h
reports_stay_true_by_change nodes c o m n w k (notes s v base acc brings heard) h =
    truly_more nodes m n refl (noted_up m.core.base base m.core.taken) (λ name other. refl) h
reports_stay_true_by_change nodes c o m n w k (begins_list s v base join image is says may) h =
    (let none = (k (welcomed_node_has_no_log m s v base join image may)).base_ in truly_more nodes m n refl (omega arith) (λ name other. refl) h)
reports_stay_true_by_change nodes c o m n w k (looks b verdict over why look is) h = truly_look nodes m b verdict look h
reports_stay_true_by_change nodes c o m n w k (fetches s v base number e is heard promise below why may) h =
    truly_more nodes m n refl (omega arith) (λ name other. refl) h
reports_stay_true_by_change nodes c o m n w k (stores_view s base number v is heard own other promise below may) h =
    truly_more nodes m n refl (omega arith) (λ name other. refl) h
reports_stay_true_by_change nodes c o m n w k (closes leads leaves alone room) h =
    (let r = (end_refresh_rests_with_list (push_entry m (Leave m.core.who))).rests in truly_more nodes m n r.who r.base (end_keeps_reports_of_others (push_entry m (Leave m.core.who))) h)
reports_stay_true_by_change nodes c o m n w k _ h = h

pub base_and_taken_rise : (c : Cause) (o : Outcome) (m n : Node) → IsBlankWithoutLog m → NodeTrimFronts m → Change c o m n → BaseAndTakenRise m n
base_and_taken_rise c o m n k f refreshes = (let r = (refresh_rests_with_list m).rests in record { base = r.base; taken = r.taken })
base_and_taken_rise c o m n k f settles = subst (BaseAndTakenRise m) (sym (settle_changes_only_sends m)) (record { base = omega arith; taken = omega arith })
base_and_taken_rise c o m n k f (notes s v base acc brings heard) = record { base = noted_up m.core.base base m.core.taken; taken = omega arith }
base_and_taken_rise c o m n k f (begins_list s v base join image is says may) =
    (let none = k (welcomed_node_has_no_log m s v base join image may) in
    let b = ap top_of_log none.blank_ in
    record { base = omega arith; taken = omega arith })
base_and_taken_rise c o m n k f (looks b verdict over why look is) = rises_look m b verdict look
base_and_taken_rise c o m n k f (fetches s v base number e is heard promise below why may) = record { base = omega arith; taken = omega arith }
base_and_taken_rise c o m n k f (stores_view s base number v is heard own other promise below may) =
    record { base = omega arith; taken = omega arith }
base_and_taken_rise c o m n k f (takes e is says member some there_) = record { base = omega arith; taken = omega arith }
base_and_taken_rise c o m n k f (closes leads leaves alone room) =
    (let r = (end_refresh_rests_with_list (push_entry m (Leave m.core.who))).rests in record { base = r.base; taken = r.taken })
base_and_taken_rise c o m n k f _ = rises_same m n refl refl

-- what a letter of a step reports
pub letter_of_node_reports_taken : (nodes : ℕ → Node) (m n : Node) (c : Cause) (to : List ℕ) (p : Packet) → n.core.taken ≤ (nodes n.core.who).core.taken
    → Says m c n to p → ReportTellsTaken nodes p
letter_of_node_reports_taken nodes m n c to p low (request _ req body a f s) = low
letter_of_node_reports_taken nodes m n c to p low (spread _ req body a f s) = low
letter_of_node_reports_taken nodes m n c to p low (ack _ a) = low
letter_of_node_reports_taken nodes m n c to p low (nack _ a) = low
letter_of_node_reports_taken nodes m n c to p low (leave_ask _ a l) = low
letter_of_node_reports_taken nodes m n c to p low _ = tt
