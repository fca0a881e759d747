-- A node and the same node with all of a list: what they tell, and what the refresh makes of them.
use Rattle.am_model.proofs.EndWords.{[], ◌≡◌, ℕ, ◌+◌, ◌-◌, ◌<◌, ◌≤◌, List, ◌∷◌, length-append, drop, take, position, refl, sym, ◌∙◌, ap, arith, Option, Some, None}
use Rattle.am_model.proofs.EndWords.{true, false, ◌&&◌, ◌==◌, drop-drop, Entry, Image, Log, image_of_log, log_image_at, log_entry_at, log_with_entry, stamps_are_equal, IsEndOfLog, CoreFrontsAreInOrder}
use Rattle.am_model.proofs.EndWords.{CoreState, core_with_log, raise_accepted_to_told, pass_over_below_join, members_since_accepted, split_on_bool_of_log, top_of_end_is_top, end_has_image_of_whole_log, image_at_end_is_image, entry_at_end_is_entry, end_stays_by_push, since_accepted_reads_kept_end}
use Rattle.am_model.proofs.EndWords.{least_taken_of_names, CoreWithReports, raise_own_report, tell_accept_front, advance_with_reports, trim_to_least_taken, base_after_trim, raise_accepted_by_reports, reports_with_log, go_up_on_whole_log, OwnSend, Node, is_member}
use Rattle.am_model.proofs.EndWords.{top, image_of_node, is_sequencer, waiting_send_of, entries_above, push_entry, trim_node_up_to, advance_node, refresh_as_sequencer, refresh, core_with_reports_of, is_data_of}
use Rattle.am_model.proofs.EndWords.{accepted_number_of_send, settle_send_at, settle_send_where_accepted, settle_waiting_send, refresh_at_end, node_with_log, IsEndOf, FrontsAreOrdered}

-- the node keeps an end of this list, and its numbers stand in their order
pub record KeepsEndOfLog (all : Log) (m : Node) : Type 0 where
  pub kept : IsEndOfLog all m.core.log
  pub order : FrontsAreOrdered m.core

-- the first node is the second with all of a list
pub record IsNodeWithWholeLog (m n : Node) : Type 0 where
  pub log : Log
  pub keeps : KeepsEndOfLog log n
  pub node : m ≡ node_with_log n log

low_acc : (all : Log) (m : Node) → KeepsEndOfLog all m → m.core.log.start ≤ m.core.acc
low_acc all m h = let o = h.order in omega arith

-- ---- what both tell

-- what goes by the image and the top alone
pub reading_on_whole_log : {X : Type 0} (all : Log) (m : Node) (f : Image → ℕ → X) → KeepsEndOfLog all m → f (image_of_node (node_with_log m all)) (top (node_with_log m all))
    ≡ f (image_of_node m) (top m)
reading_on_whole_log all m f h = ap (f (image_of_log all)) (sym (top_of_end_is_top all m.core.log h.kept)) ∙ ap (λ i. f i (top m)) (sym (end_has_image_of_whole_log all m.core.log h.kept))

entries_end : (all kept : Log) (number : ℕ) → IsEndOfLog all kept → kept.start ≤ number
    → drop (number - all.start) all.entries ≡ drop (number - kept.start) kept.entries
entries_end all kept number is low =
    let at : (kept.start - all.start) + (number - kept.start) ≡ number - all.start = omega arith in
    ap (λ k. drop k all.entries) (sym at) ∙ sym (drop-drop (number - kept.start) (kept.start - all.start) all.entries) ∙ ap
    (drop (number - kept.start)) (sym is.entries)

-- the end of an end
pub end_of_end_is_end : (all some kept : Log) → IsEndOfLog all some → IsEndOfLog some kept → IsEndOfLog all kept
end_of_end_is_end all some kept a b =
    let t = top_of_end_is_top all some a in
    record {
      low = omega arith;
      high = omega arith;
      image = b.image ∙ image_at_end_is_image all some kept.start a b.low;
      entries = b.entries ∙ sym (entries_end all some kept.start a b.low);
    }

pub entries_above_on_whole_log : (all : Log) (m : Node) (number : ℕ) → KeepsEndOfLog all m → m.core.base ≤ number → entries_above (node_with_log m all) number ≡ entries_above m number
entries_above_on_whole_log all m number h low = let o = h.order in entries_end all m.core.log number h.kept (omega arith)

pub entry_at_on_whole_log : (all : Log) (m : Node) (number : ℕ) → KeepsEndOfLog all m → m.core.log.start < number → log_entry_at all number ≡ log_entry_at m.core.log number
entry_at_on_whole_log all m number h low = sym (entry_at_end_is_entry all m.core.log number h.kept low)

pub base_image_on_whole_log : (all : Log) (m : Node) → KeepsEndOfLog all m → log_image_at all m.core.base ≡ log_image_at m.core.log m.core.base
base_image_on_whole_log all m h = sym (image_at_end_is_image all m.core.log m.core.base h.kept h.order.base)

pub since_accepted_on_whole_log : (all : Log) (m : Node) → KeepsEndOfLog all m → members_since_accepted (core_with_log all m.core) ≡ members_since_accepted m.core
since_accepted_on_whole_log all m h =
    let c : CoreState = record (m.core) { base = m.core.log.start } in
    sym (since_accepted_reads_kept_end c (low_acc all m h) all (record { base = refl; kept = h.kept }))

-- ---- changes

pub keeps_log_by_push : (all : Log) (m : Node) (e : Entry) → KeepsEndOfLog all m → KeepsEndOfLog (log_with_entry all e) (push_entry m e)
keeps_log_by_push all m e h =
    let o = h.order in
    let l = length-append m.core.log.entries (e ∷ []) in
    record { kept = end_stays_by_push all m.core.log e h.kept; order = record { base = o.base; taken = o.taken; given = o.given; accepted = omega arith } }

pub keeps_log_by_trim : (all : Log) (m : Node) (base : ℕ) → KeepsEndOfLog all m → KeepsEndOfLog all (trim_node_up_to m base)
keeps_log_by_trim all m base h = record {
  kept = h.kept;
  order = let o = h.order in record { base = omega arith; taken = o.taken; given = o.given; accepted = o.accepted };
}

-- ---- the refresh

advance_end : (all : Log) (m : Node) → KeepsEndOfLog all m → advance_node (node_with_log m all) ≡ node_with_log (advance_node m) all
unfolding raise_accepted_to_told pass_over_below_join
advance_end all m h = let e = top_of_end_is_top all m.core.log h.kept in rw e refl

keeps_advance : (all : Log) (m : Node) → KeepsEndOfLog all m → KeepsEndOfLog all (advance_node m)
unfolding raise_accepted_to_told pass_over_below_join
keeps_advance all m h =
    let o = h.order in
    record { kept = h.kept; order = record { base = o.base; taken = grind arith; given = grind arith; accepted = omega arith } }

grows_base : (o : Option ℕ) (start base : ℕ) → start ≤ base → start ≤ base_after_trim o base
grows_base None start base h = h
grows_base (Some to) start base h = omega arith

keeps_led : (all : Log) (m : Node) → KeepsEndOfLog all m → KeepsEndOfLog all (refresh_as_sequencer m)
unfolding refresh_as_sequencer raise_own_report tell_accept_front advance_with_reports trim_to_least_taken raise_accepted_to_told pass_over_below_join
keeps_led all m h =
    let o = h.order in
    record {
      kept = h.kept;
      order = record {
        base = grows_base (least_taken_of_names (raise_accepted_by_reports (core_with_reports_of m)).reports (members_since_accepted (raise_accepted_by_reports (core_with_reports_of m)).core)) m.core.log.start m.core.base o.base;
        taken = grind arith;
        given = grind arith;
        accepted = omega arith;
      };
    }

-- a sequencer's refresh, on all of the list as on its end
go_up_end : (all : Log) (m : Node) → KeepsEndOfLog all m → raise_accepted_by_reports (core_with_reports_of (node_with_log m all)) ≡ reports_with_log all (raise_accepted_by_reports (core_with_reports_of m))
unfolding raise_own_report tell_accept_front advance_with_reports raise_accepted_to_told pass_over_below_join
go_up_end all m h =
    let s : CoreWithReports = record { core = record (m.core) { base = m.core.log.start }; reports = m.reports } in
    ap (λ (l : CoreWithReports). record l { core = record (l.core) { base = m.core.base } }) (go_up_on_whole_log all s (record { base = refl; kept = h.kept }) (low_acc all m h))

-- what stands of the led node before the base goes on
risen : Node → Node
risen m = record m { core = (raise_accepted_by_reports (core_with_reports_of m)).core; reports = (raise_accepted_by_reports (core_with_reports_of m)).reports }

keeps_risen : (all : Log) (m : Node) → KeepsEndOfLog all m → KeepsEndOfLog all (risen m)
unfolding risen raise_own_report tell_accept_front advance_with_reports raise_accepted_to_told pass_over_below_join
keeps_risen all m h =
    let o = h.order in
    record { kept = h.kept; order = record { base = o.base; taken = grind arith; given = grind arith; accepted = omega arith } }

let_go_end : (all : Log) (s : CoreWithReports) → members_since_accepted (core_with_log all s.core) ≡ members_since_accepted s.core → trim_to_least_taken (reports_with_log all s) ≡ reports_with_log all (trim_to_least_taken s)
unfolding trim_to_least_taken
let_go_end all s e = ap (λ since. let l : CoreWithReports = record {
  core = record
      (core_with_log all s.core) { base = base_after_trim (least_taken_of_names s.reports since) s.core.base };
  reports = s.reports;
} in l) e

lead_end : (all : Log) (m : Node) → KeepsEndOfLog all m → refresh_as_sequencer (node_with_log m all) ≡ node_with_log (refresh_as_sequencer m) all
unfolding refresh_as_sequencer risen
lead_end all m h = ap (λ (l : CoreWithReports). let n : Node = record m { core = l.core; reports = l.reports } in n)
    (ap trim_to_least_taken (go_up_end all m h) ∙ let_go_end all (raise_accepted_by_reports (core_with_reports_of m)) (since_accepted_on_whole_log all (risen m) (keeps_risen all m h)))

pub is_sequencer_on_whole_log : (all : Log) (m : Node) → KeepsEndOfLog all m → is_sequencer (node_with_log m all) ≡ is_sequencer m
is_sequencer_on_whole_log all m h = reading_on_whole_log all m (λ i t. is_member m.status && stamps_are_equal m.core.promise i.view && (i.view.by == m.core.who)) h

pub refresh_on_whole_log : (all : Log) (m : Node) → KeepsEndOfLog all m → refresh (node_with_log m all) ≡ node_with_log (refresh m) all
unfolding refresh
refresh_on_whole_log all m h =
    let e = is_sequencer_on_whole_log all m h in
    split_on_bool_of_log (is_sequencer m)
    (λ t. let u : is_sequencer (node_with_log m all) ≡ true = e ∙ t in rw (t, u) (lead_end all m h))
    (λ t. let u : is_sequencer (node_with_log m all) ≡ false = e ∙ t in rw (t, u) (advance_end all m h))

pub keeps_log_by_refresh : (all : Log) (m : Node) → KeepsEndOfLog all m → KeepsEndOfLog all (refresh m)
unfolding refresh
keeps_log_by_refresh all m h = split_on_bool_of_log (is_sequencer m) (λ t. rw t (keeps_led all m h)) (λ t. rw t (keeps_advance all m h))

-- ---- the end of a step

accepted_end : (all : Log) (m : Node) (req : ℕ) → KeepsEndOfLog all m → accepted_number_of_send (node_with_log m all) req ≡ accepted_number_of_send m req
accepted_end all m req h = ap (λ (es : List Entry). position (is_data_of m.core.who req) (take (m.core.acc - m.core.base) es))
    (entries_above_on_whole_log all m m.core.base h (omega arith))

settled_at_end : (all : Log) (m : Node) (req : ℕ) (at : Option ℕ) → settle_send_at (node_with_log m all) req at ≡ node_with_log (settle_send_at m req at) all
settled_at_end all m req None = refl
settled_at_end all m req (Some k) = refl

settled_end : (all : Log) (m : Node) (w : Option OwnSend) → KeepsEndOfLog all m → settle_send_where_accepted (node_with_log m all) w ≡ node_with_log (settle_send_where_accepted m w) all
settled_end all m None h = refl
settled_end all m (Some s) h = ap (settle_send_at (node_with_log m all) s.req) (accepted_end all m s.req h) ∙ settled_at_end all m s.req (accepted_number_of_send m s.req)

keeps_settled_at : (all : Log) (m : Node) (req : ℕ) (at : Option ℕ) → KeepsEndOfLog all m → KeepsEndOfLog all (settle_send_at m req at)
keeps_settled_at all m req None h = h
keeps_settled_at all m req (Some k) h = record { kept = h.kept; order = h.order }

keeps_settled : (all : Log) (m : Node) (w : Option OwnSend) → KeepsEndOfLog all m → KeepsEndOfLog all (settle_send_where_accepted m w)
keeps_settled all m None h = h
keeps_settled all m (Some s) h = keeps_settled_at all m s.req (accepted_number_of_send m s.req) h

pub end_refresh_on_whole_log : (all : Log) (m : Node) → KeepsEndOfLog all m → refresh_at_end (node_with_log m all) ≡ node_with_log (refresh_at_end m) all
unfolding refresh_at_end settle_waiting_send
end_refresh_on_whole_log all m h =
    ap (λ n. settle_send_where_accepted n (waiting_send_of n)) (refresh_on_whole_log all m h) ∙ settled_end all (refresh m) (waiting_send_of (refresh m)) (keeps_log_by_refresh all m h)

pub keeps_log_by_end_refresh : (all : Log) (m : Node) → KeepsEndOfLog all m → KeepsEndOfLog all (refresh_at_end m)
unfolding refresh_at_end settle_waiting_send
keeps_log_by_end_refresh all m h = keeps_settled all (refresh m) (waiting_send_of (refresh m)) (keeps_log_by_refresh all m h)

-- a node and the end of it
pub end_of_node_keeps_log : (all m : Node) → IsEndOf all m → CoreFrontsAreInOrder m.core → KeepsEndOfLog all.core.log m
end_of_node_keeps_log all m end order =
    let base = end.stands.base in
    let given = order.given in
    record { kept = end.stands.kept; order = record { base = omega arith; taken = omega arith; given = given; accepted = order.accepted } }
