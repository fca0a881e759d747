-- Each own send that stands in a node's list, from where the node joined up to what it has accepted, is settled.
use Rattle.am_step_laws.proofs.Words.{◌≡◌, ◌⊎◌, inl, inr, ℕ, zero, suc, ◌+◌, ◌-◌, ◌<◌, ◌≤◌, ◌==◌, ◌&&◌, max, nat_lt, nat_le, Bool}
use Rattle.am_step_laws.proofs.Words.{true}
use Rattle.am_step_laws.proofs.Words.{false, List, [], ◌∷◌, ◌++◌, length, take, drop, find, Option, Some, None, slice_get, refl, sym, ap, ◌∙◌}
use Rattle.am_step_laws.proofs.Words.{arith, split_on_bool, nat_tests, length-drop, length-take, get_or, cases_lt, Stamp, Image, Entry, Data, Leave}
use Rattle.am_step_laws.proofs.Words.{Outcome, Log}
use Rattle.am_step_laws.proofs.Words.{top_of_log, log_entry_at, OwnSend, Node, Ballot, push_entry, waiting_send_of, accepted_number_of_send, settle_send_at}
use Rattle.am_step_laws.proofs.Words.{BallotVerdict}
use Rattle.am_step_laws.proofs.Words.{settle_send_where_accepted, settle_waiting_send, refresh, refresh_at_end, refresh_as_sequencer, raise_own_report, tell_accept_front, advance_with_reports, pass_over_below_join, is_sequencer}
use Rattle.am_step_laws.proofs.Words.{start, Cause, calls}
use Rattle.am_step_laws.proofs.Words.{hears}
use Rattle.am_step_laws.proofs.Words.{LooksAtBallot, finds_itself_out, Change, refreshes, settles, begins_list, looks, takes, closes, numbers, stores, fetches}
use Rattle.am_step_laws.proofs.Words.{stores_view}
use Rattle.am_step_laws.proofs.Words.{decides, View}
use Rattle.am_step_laws.proofs.Words.{settle_changes_only_sends, refresh_rests_with_list, end_refresh_rests_with_list, entry_at_number_of_log, slice_get_of_front}
use Rattle.std.proofs.Common.{cond, append_assoc}
use Rattle.std.specs.List.{position, position_or_len}
use Rattle.std.proofs.lemmas.List.{get_or-drop, get_or-take}
use Rattle.std.proofs.lemmas.List.Folds.{find_at}
use Rattle.std.proofs.lemmas.Option.{slice_get-get_or, get_or_from_slice_get, slice_get_past, slice_get_within}
use Rattle.am_base.specs.declared.outcome.Outcome.TheVariants as said
use Rattle.am_base.specs.declared.event.NodeEvent.TheVariants as does
use Rattle.am_packet.specs.declared.packet.Packet.TheVariants as packet
use Rattle.am_node_defs.specs.Cores.{CoreState, raise_accepted_to_told}
use Rattle.am_node_defs.specs.Refresh.{trim_to_least_taken}
use Rattle.am_node_defs.specs.Sends as own
use Rattle.am_node_defs.specs.Sends.{unsettled_sends_are_in_line, next_unsettled_request, is_unsettled, send_has_request}
use Rattle.am_node_defs.proofs.Lines.{next_in_line_is_waiting, sends_in_line_after_settle}
use Rattle.am_model.specs.Refresh.{is_data_of}
use Rattle.am_run_laws.proofs.Chains.{front_of_given, front_after_pass_over}
use Rattle.am_repair.proofs.Answered.Lined.{greatest_request_sent}

-- ---- entries

pub entry_number_above_start : (log : Log) (number : ℕ) (e : Entry) → log_entry_at log number ≡ Some e → log.start < number
entry_number_above_start log zero e is = absurd (cc)
entry_number_above_start log (suc before) e is = split_on_bool (nat_le log.start before)
    (λ t. grind (arith, nat_tests))
    (λ f. absurd (let x = rw f at is in cc))

-- what stands in a list that went on stood in it before, up to where that ended
pub entry_at_in_older_log : (old new : Log) (more : List Entry) (number : ℕ) (e : Entry) → new.start ≡ old.start → new.entries ≡ old.entries ++ more → number ≤ top_of_log old
    → log_entry_at new number ≡ Some e → log_entry_at old number ≡ Some e
entry_at_in_older_log old new more number e start goes low is =
    let above = entry_number_above_start new number e is in
    let k = number - old.start - 1 in
    let within : k < length old.entries = omega arith in
    let there : slice_get old.entries k ≡ Some (get_or old.entries k e) = slice_get-get_or old.entries k e within in
    let here : log_entry_at old number ≡ slice_get old.entries k = entry_at_number_of_log old number k (omega arith) in
    let now : log_entry_at new number ≡ slice_get new.entries k = entry_at_number_of_log new number k (omega arith) in
    let longer : slice_get new.entries k ≡ Some (get_or old.entries k e) =
    ap (λ (es : List Entry). slice_get es k) goes ∙ slice_get_of_front old.entries more k (get_or old.entries k e) there in
    here ∙ there ∙ sym longer ∙ sym now ∙ is

none_by : (b : Bool) (at : ℕ) → cond b (Some at) None ≡ None → b ≡ false
none_by true at is = absurd (cc)
none_by false at is = refl

none_found : (p : Entry → Bool) (xs : List Entry) (k : ℕ) (e : Entry) → find p xs ≡ None → slice_get xs k ≡ Some e → p e ≡ false
none_found p [] k e none at = absurd (cc)
none_found p (x ∷ xs) zero e none at = split_on_bool (p x)
    (λ t. absurd (let y = rw t at none in cc))
    (λ f. let same : x ≡ e = cc in ap p (sym same) ∙ f)
none_found p (x ∷ xs) (suc k) e none at = split_on_bool (p x)
    (λ t. absurd (let y = rw t at none in cc))
    (λ f. none_found p xs k e (rw f at none) at)

no_position : (p : Entry → Bool) (xs : List Entry) (k : ℕ) (e : Entry) → position p xs ≡ None → slice_get xs k ≡ Some e → p e ≡ false
no_position p xs k e none at =
    let past : nat_lt (position_or_len p xs) (length xs) ≡ false = none_by (nat_lt (position_or_len p xs) (length xs)) (position_or_len p xs) none in
    let long : length xs ≤ position_or_len p xs = grind (arith, nat_tests) in
    none_found p xs k e (find_at p xs ∙ slice_get_past xs (position_or_len p xs) long) at

-- who isn't found among the accepted entries doesn't stand there
not_accepted : (m : Node) (req number : ℕ) (e : Entry) → accepted_number_of_send m req ≡ None → m.core.log.start ≤ m.core.base → m.core.base < number → number ≤ m.core.acc
    → log_entry_at m.core.log number ≡ Some e → is_data_of m.core.who req e ≡ false
not_accepted m req number e none kept above low is =
    let log = m.core.log in
    let k = number - m.core.base - 1 in
    let d = m.core.base - log.start in
    let at : log_entry_at log number ≡ slice_get log.entries (d + k) = entry_at_number_of_log log number (d + k) (omega arith) in
    let there : slice_get log.entries (d + k) ≡ Some e = sym at ∙ is in
    let within = slice_get_within log.entries (d + k) e there in
    let xs = take (m.core.acc - m.core.base) (drop d log.entries) in
    let few : k < length xs = simp (length-take, length-drop) (omega arith) in
    let same : get_or xs k e ≡ e = get_or-take (m.core.acc - m.core.base) (drop d log.entries) k e (omega arith) ∙ get_or-drop d log.entries k e
    ∙ get_or_from_slice_get log.entries (d + k) e e there in
    let found : slice_get xs k ≡ Some e = slice_get-get_or xs k e few ∙ ap (λ x. Some x) same in
    no_position (is_data_of m.core.who req) xs k e none found

-- ---- a node at the end of a step

-- own sends that stand in the list, from where it joined up to what it has accepted, are below the next that may go out
abbrev pub OwnSendsAreSettled : CoreState → own.Sends → Type 0
OwnSendsAreSettled core sends = (number req : ℕ) (body : List ℕ) → core.start ≤ number → number ≤ core.acc → log_entry_at core.log number ≡ Some (Data core.who req body)
    → req < own.next_request sends

-- what is so where the waiting send may be settled
pub record SendsReadyToSettle (y : Node) : Type 0 where
  pub line : unsettled_sends_are_in_line y.sends.last y.sends.queue ≡ true
  pub kept : y.core.log.start ≤ y.core.base
  pub out : (number req : ℕ) (body : List ℕ) → log_entry_at y.core.log number ≡ Some (Data y.core.who req body) → req ≤ greatest_request_sent y
  pub low : (number req : ℕ) (body : List ℕ) → y.core.start ≤ number → number ≤ y.core.base → log_entry_at y.core.log number ≡ Some (Data y.core.who req body)
      → req < own.next_request y.sends

settled_by : (y : Node) (w : Option OwnSend) → waiting_send_of y ≡ w → SendsReadyToSettle y → OwnSendsAreSettled (settle_send_where_accepted y w).core (settle_send_where_accepted y w).sends
settled_by y None is h = λ number req body from low at.
    let none = none_next y.sends.last y.sends.queue is in
    let out = h.out number req body at in
    omega arith
  where
    none_next : (last : ℕ) (q : List OwnSend) → find is_unsettled q ≡ None → next_unsettled_request last q ≡ last + 1
    none_next last [] none = refl
    none_next last (s ∷ ss) none = split_on_bool (is_unsettled s)
        (λ t. absurd (let x = rw t at none in cc))
        (λ f. rw f (none_next last ss (rw f at none)))
settled_by y (Some s) is h = by (accepted_number_of_send y s.req) refl
  where
    by : (at : Option ℕ) → accepted_number_of_send y s.req ≡ at → OwnSendsAreSettled (settle_send_at y s.req at).core (settle_send_at y s.req at).sends
    by (Some k) found = λ number req body from low at.
        let t = sends_in_line_after_settle y.sends.last s.req (y.core.base + 1 + k) y.sends.queue s h.line is refl in
        let next = t.next in
        let before = next_in_line_is_waiting y.sends.last y.sends.queue s is in
        let out = h.out number req body at in
        omega arith
    by None found = λ number req body from low at.
        let before = next_in_line_is_waiting y.sends.last y.sends.queue s is in
        let out = h.out number req body at in
        elim (cases_lt y.core.base number) [
          | inl above ↦ (let other = not_accepted y s.req number (Data y.core.who req body) found h.kept above low at in
              let differs : ((y.core.who == y.core.who) && (req == s.req)) ≡ false = other in
              grind (arith, nat_tests))
          | inr below ↦ h.low number req body from below at
        ]

pub sends_are_settled_by_settle : (y : Node) → SendsReadyToSettle y → OwnSendsAreSettled (settle_waiting_send y).core (settle_waiting_send y).sends
unfolding settle_waiting_send
sends_are_settled_by_settle y h = settled_by y (waiting_send_of y) refl h

-- ---- what a step leaves of a list

-- the list goes on, or the node had accepted nothing
pub record AcceptedAndListGoOn (m x : Node) : Type 0 where
  pub acc : m.core.acc ≤ x.core.acc
  pub begins : x.core.start ≡ m.core.start
  pub from : x.core.log.start ≡ m.core.log.start
  pub more : List Entry
  pub entries : x.core.log.entries ≡ m.core.log.entries ++ more

abbrev pub AcceptedFrontWent : Node → Node → Type 0
AcceptedFrontWent m x = AcceptedAndListGoOn m x ⊎ (m.core.acc ≡ 0)

went_same : (k m n : Node) → m.core.acc ≤ n.core.acc → n.core.start ≡ m.core.start → n.core.log ≡ m.core.log → AcceptedFrontWent k m → AcceptedFrontWent k n
went_same k m n up begins log (inl h) = let acc = h.acc in inl (record {
  acc = omega arith;
  begins = begins ∙ h.begins;
  from = ap (λ (l : Log). l.start) log ∙ h.from;
  more = h.more;
  entries = ap (λ (l : Log). l.entries) log ∙ h.entries;
})
went_same k m n up begins log (inr none) = inr none

pub accepted_front_went_by_push : (k m : Node) (e : Entry) → AcceptedFrontWent k m → AcceptedFrontWent k (push_entry m e)
accepted_front_went_by_push k m e (inl h) = inl (record {
  acc = h.acc;
  begins = h.begins;
  from = h.from;
  more = h.more ++ e ∷ [];
  entries = ap (λ (es : List Entry). es ++ e ∷ []) h.entries ∙ append_assoc k.core.log.entries h.more (e ∷ []);
})
accepted_front_went_by_push k m e (inr none) = inr none

went_looked : (k m : Node) (b : Ballot) (v : BallotVerdict) → LooksAtBallot m b v → AcceptedFrontWent k m → AcceptedFrontWent k v.node
went_looked k m b v (decides may) h = went_same k (push_entry m _) v.node (omega arith) refl refl (accepted_front_went_by_push k m _ h)
went_looked k m b v (finds_itself_out x) h = went_same k m v.node (omega arith) refl refl h
went_looked k m b v _ h = went_same k m v.node (omega arith) refl refl h

-- a Welcome came where nothing was accepted
abbrev Begins : Node → Cause → Outcome → Type 0
Begins m c o = (s : ℕ) (v : Stamp) (base join : ℕ) (image : Image) → c ≡ hears (packet.Welcome s v base join image) → o ≡ said.Welcomed join → m.core.acc ≡ 0

pub accepted_front_went_by_change : {c : Cause} {o : Outcome} (k m n : Node) → Begins k c o → Change c o m n → AcceptedFrontWent k m → AcceptedFrontWent k n
accepted_front_went_by_change k m n begins refreshes h = let r = refresh_rests_with_list m in went_same k m (refresh m) r.rests.acc r.begins r.log h
accepted_front_went_by_change k m n begins settles h =
    let same = ap (λ (x : Node). x.core) (settle_changes_only_sends m) in
    let acc = ap (λ (c : CoreState). c.acc) same in
    went_same k m (settle_waiting_send m) (omega arith) (ap (λ (c : CoreState). c.start) same) (ap (λ (c : CoreState). c.log) same) h
accepted_front_went_by_change k m n begins (numbers e leads room why) h = accepted_front_went_by_push k m e h
accepted_front_went_by_change k m n begins (stores s v base acc number e by seq plain may) h =
    went_same k (push_entry m e) n (omega arith) refl refl (accepted_front_went_by_push k m e h)
accepted_front_went_by_change k m n begins (begins_list s v base join image is o may) h = inr (begins s v base join image is o)
accepted_front_went_by_change k m n begins (looks b verdict over why look is) h = went_looked k m b verdict look h
accepted_front_went_by_change k m n begins (fetches s v base number e is by promise below who may) h =
    went_same k (push_entry m e) n (omega arith) refl refl (accepted_front_went_by_push k m e h)
accepted_front_went_by_change k m n begins (stores_view s base number v is by own_ other promise below may) h =
    went_same k (push_entry m (View v)) n (omega arith) refl refl (accepted_front_went_by_push k m (View v) h)
accepted_front_went_by_change k m n begins (closes leads leaves alone room) h =
    let p = push_entry m (Leave m.core.who) in
    let r = end_refresh_rests_with_list p in
    went_same k p n r.rests.acc r.begins r.log (accepted_front_went_by_push k m (Leave m.core.who) h)
accepted_front_went_by_change k m n begins _ h = went_same k m n (omega arith) refl refl h

-- ---- how far the application took the list, and what a joiner passes over

abbrev pub TakenFrontIsLow : Node → Node → Type 0
TakenFrontIsLow k x = front_of_given x ≤ max k.core.acc (x.core.start - 1)

front_same : (k m n : Node) → front_of_given n ≡ front_of_given m → n.core.start ≡ m.core.start → TakenFrontIsLow k m → TakenFrontIsLow k n
front_same k m n same begins h = let s = ap (λ x. x - 1) begins in omega arith

refresh_front : (m : Node) → (front_of_given (refresh m) ≡ front_of_given m) × ((refresh m).core.start ≡ m.core.start)
unfolding refresh refresh_as_sequencer raise_own_report tell_accept_front advance_with_reports trim_to_least_taken raise_accepted_to_told pass_over_below_join
refresh_front m = split_on_bool (is_sequencer m)
    (λ t. rw t ((front_after_pass_over m.core.taken _ m.core.start, refl)))
    (λ f. rw f ((front_after_pass_over m.core.taken _ m.core.start, refl)))

pub front_is_kept_by_end : (m : Node) → (front_of_given (refresh_at_end m) ≡ front_of_given m) × ((refresh_at_end m).core.start ≡ m.core.start)
unfolding refresh_at_end
front_is_kept_by_end m =
    let same = ap (λ (x : Node). x.core) (settle_changes_only_sends (refresh m)) in
    let r = refresh_front m in
    (ap (λ (c : CoreState). max c.taken (c.start - 1)) same ∙ r.0, ap (λ (c : CoreState). c.start) same ∙ r.1)

front_looked : (k m : Node) (b : Ballot) (v : BallotVerdict) → LooksAtBallot m b v → TakenFrontIsLow k m → TakenFrontIsLow k v.node
front_looked k m b v (finds_itself_out x) h = h
front_looked k m b v _ h = h

-- what was taken had been accepted
abbrev Takes : Node → Cause → Outcome → Type 0
Takes m c o = (number : ℕ) (e : Entry) → c ≡ calls does.Take → o ≡ said.Took number e → number ≤ m.core.acc

pub taken_front_low_after_change : {c : Cause} {o : Outcome} (k m n : Node) → Takes k c o → Change c o m n → TakenFrontIsLow k m → TakenFrontIsLow k n
taken_front_low_after_change k m n took refreshes h = let r = refresh_front m in front_same k m (refresh m) r.0 r.1 h
taken_front_low_after_change k m n took settles h =
    let same = ap (λ (x : Node). x.core) (settle_changes_only_sends m) in
    front_same k m (settle_waiting_send m) (ap (λ (c : CoreState). max c.taken (c.start - 1)) same) (ap (λ (c : CoreState). c.start) same) h
taken_front_low_after_change k m n took (begins_list s v base join image is o may) h = let above = may.above in omega arith
taken_front_low_after_change k m n took (looks b verdict over why look is) h = front_looked k m b verdict look h
taken_front_low_after_change k m n took (takes e is says member some there) h = let low = took (m.core.taken + 1) e is says in omega arith
taken_front_low_after_change k m n took (closes leads leaves alone room) h =
    let r = front_is_kept_by_end (push_entry m (Leave m.core.who)) in front_same k (push_entry m (Leave m.core.who)) n r.0 r.1 h
taken_front_low_after_change k m n took _ h = h
