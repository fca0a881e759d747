-- What the rows of packets with entries store: the next entry, above a base that was noted.
use Rattle.am_lawful_runs.proofs.Words.{◌≡◌, ℕ, ◌+◌, ◌≤◌, ◌==◌, ◌&&◌, ◌||◌, not, nat_lt, nat_le, Bool, true, false, if◌then◌else◌, List, [], ◌∷◌, ◌++◌, Option}
use Rattle.am_lawful_runs.proofs.Words.{Some, None, refl, sym, ap, ◌∙◌, append-nil, arith, nat_tests, Entry, Data, View, GroupView, Stamp, Outcome, stamp_is_less}
use Rattle.am_lawful_runs.proofs.Words.{stamps_are_equal, Log, top_of_log, fits, CoreState, Packet, Departed, Node, Ballot, top, image_of_node, view, has_own_leave}
use Rattle.am_lawful_runs.proofs.Words.{number_is_within_bound, push_entry, trim_node_up_to, Plan, plan_without_letters, finish, node_with_promise, decide, is_unfinished_ballot, member_hears_other}
use Rattle.am_lawful_runs.proofs.Words.{hears_packet_of_sequencer, hear_row, is_view, node_with_noted_fronts, store_numbered_entry, receive_entry, data_entry_of, body_of_spread_send, bcast_row, order_row}
use Rattle.am_lawful_runs.proofs.Words.{refresh_at_end, push_fetched, catch_up, look_at_ballot_anew, fetches_from, piece_promised, piece_for, piece_row, result_row, hear_packet}
use Rattle.am_lawful_runs.proofs.Words.{split_on_bool, both_of_and, end_refresh_rests_with_list, or_false_first_is_false}
use Rattle.am_base.specs.declared.outcome.Outcome.TheVariants as said
use Rattle.am_lawful_runs.proofs.Ways.{decide_lets_list_go_on}
use Rattle.std.proofs.lemmas.Bool.{not-false}

-- ---- what a row does to the list

-- the next entry was stored, with this number, and its base was noted; so it is with whatever came after it
pub record NodeStoresNextEntry (m x : Node) (base number : ℕ) (e : Entry) : Type 0 where
  pub next : number ≡ top m + 1
  pub base_ : base ≤ x.core.base
  pub start : x.core.log.start ≡ m.core.log.start
  pub more : List Entry
  pub entries : x.core.log.entries ≡ (m.core.log.entries ++ e ∷ []) ++ more

-- or nothing
pub data RowStoresOrKeeps (m x : Node) (base number : ℕ) (e : Entry) (P : Type 0) : Type 0 where
  nothing : x.core.log ≡ m.core.log → m.core.base ≤ x.core.base → RowStoresOrKeeps m x base number e P
  one : P → NodeStoresNextEntry m x base number e → RowStoresOrKeeps m x base number e P

-- by a test of the row
either : (m : Node) (base number : ℕ) (e : Entry) (P : Type 0) (b : Bool) (p q : Plan) → (b ≡ true → RowStoresOrKeeps m p.node base number e P)
    → (b ≡ false → RowStoresOrKeeps m q.node base number e P) → RowStoresOrKeeps m (if b then p else q).node base number e P
either m base number e P true p q f g = f refl
either m base number e P false p q f g = g refl

-- what is known of who heard it
with_why : (m x : Node) (base number : ℕ) (e : Entry) (P Q : Type 0) → (P → Q) → RowStoresOrKeeps m x base number e P → RowStoresOrKeeps m x base number e Q
with_why m x base number e P Q f (nothing h up) = nothing h up
with_why m x base number e P Q f (one p h) = one (f p) h

-- where the list was as it is
from_same : (m p x : Node) (base number : ℕ) (e : Entry) (P : Type 0) → p.core.log ≡ m.core.log → m.core.base ≤ p.core.base → RowStoresOrKeeps p x base number e P
    → RowStoresOrKeeps m x base number e P
from_same m p x base number e P log low (nothing h up) = nothing (h ∙ log) (omega arith)
from_same m p x base number e P log low (one why h) = one why (record {
  next = h.next ∙ ap (λ (l : Log). top_of_log l + 1) log;
  base_ = h.base_;
  start = h.start ∙ ap (λ (l : Log). l.start) log;
  more = h.more;
  entries = h.entries ∙ ap (λ (l : Log). (l.entries ++ e ∷ []) ++ h.more) log;
})

-- ---- a numbered entry

stored_one : (m : Node) (s base number : ℕ) (e : Entry) (missing : Outcome) → number ≡ top m + 1 → base ≤ m.core.base
    → RowStoresOrKeeps m (store_numbered_entry m s number (Some e) missing).node base number e (is_view e ≡ false)
stored_one m s base number e missing next low = either m base number e (is_view e ≡ false)
    (is_view e || (not (fits (image_of_node m) e) || not (number_is_within_bound m m.core.base number))) (plan_without_letters m said.Unfit) _
    (λ t. nothing refl (omega arith))
    (λ f. one (or_false_first_is_false _ _ f) (record { next = next; base_ = low; start = refl; more = []; entries = sym (append-nil (m.core.log.entries ++ e ∷ [])) }))

received_one : (m p : Node) (s base number : ℕ) (e : Entry) (missing : Outcome) → p.core.log ≡ m.core.log → m.core.base ≤ p.core.base
    → (nat_lt p.core.taken base ≡ false → base ≤ p.core.base) → RowStoresOrKeeps m (receive_entry p s base number (Some e) missing).node base number e (is_view e ≡ false)
received_one m p s base number e missing log up low = from_same m p _ base number e (is_view e ≡ false) log up
    (either p base number e _ (nat_le number (top p)) (plan_without_letters p said.Known) _ (λ t. nothing refl (omega arith))
    (λ new. either p base number e _ (has_own_leave p) (plan_without_letters p said.Behind) _ (λ t. nothing refl (omega arith))
    (λ stays. either p base number e _ (nat_lt (top p + 1) number) _ _ (λ t. nothing refl (omega arith))
    (λ near. either p base number e _ (nat_lt p.core.taken base) (plan_without_letters p said.Behind) _ (λ t. nothing refl (omega arith))
    (λ f. (let next : number ≡ top p + 1 = grind (arith, nat_tests) in stored_one p s base number e missing next (low f)))))))

missing_one : (m p : Node) (s base number : ℕ) (e : Entry) (missing : Outcome) (P : Type 0) → p.core.log ≡ m.core.log → m.core.base ≤ p.core.base
    → RowStoresOrKeeps m (receive_entry p s base number None missing).node base number e P
missing_one m p s base number e missing P log up = from_same m p _ base number e P log up
    (either p base number e _ (nat_le number (top p)) (plan_without_letters p said.Known) _ (λ t. nothing refl (omega arith))
    (λ new. either p base number e _ (has_own_leave p) (plan_without_letters p said.Behind) _ (λ t. nothing refl (omega arith))
    (λ stays. either p base number e _ (nat_lt (top p + 1) number) _ _ (λ t. nothing refl (omega arith))
    (λ near. either p base number e _ (nat_lt p.core.taken base) (plan_without_letters p said.Behind) _ (λ t. nothing refl (omega arith)) (λ f. nothing refl (omega arith))))))

noted_low : (m : Node) (base acc : ℕ) → nat_lt (node_with_noted_fronts m base acc).core.taken base ≡ false → base ≤ (node_with_noted_fronts m base acc).core.base
noted_low m base acc f =
    let low : nat_le base m.core.taken ≡ true = grind (arith, nat_tests) in
    rw low (omega arith)

-- of a sequencer's packet
pub record EntryHeardInView (m : Node) (s : ℕ) (v : Stamp) (e : Entry) : Type 0 where
  pub heard : hears_packet_of_sequencer m s v ≡ true
  pub plain : is_view e ≡ false

pub bcast_stores_or_keeps : (m : Node) (s : ℕ) (v : Stamp) (base acc number : ℕ) (e : Entry)
    → RowStoresOrKeeps m (hear_row m (Packet.Bcast s v base acc number e)).node base number e (EntryHeardInView m s v e)
unfolding hear_row bcast_row
bcast_stores_or_keeps m s v base acc number e = either m base number e _ (hears_packet_of_sequencer m s v) _ (plan_without_letters m said.Elsewhere)
    (λ t. with_why m _ base number e (is_view e ≡ false) _ (λ plain. record { heard = t; plain = plain })
    (received_one m (node_with_noted_fronts m base acc) s base number e said.Known refl (omega arith) (noted_low m base acc)))
    (λ f. nothing refl (omega arith))

-- a send whose body is there
pub data OrderStoresOrKeeps (m x : Node) (s : ℕ) (v : Stamp) (base number from req : ℕ) : Type 0 where
  nothing : x.core.log ≡ m.core.log → m.core.base ≤ x.core.base → OrderStoresOrKeeps m x s v base number from req
  one : (body : List ℕ) → EntryHeardInView m s v (Data from req body) → NodeStoresNextEntry m x base number (Data from req body) → OrderStoresOrKeeps m x s v base number from req

pub order_row_stores_or_keeps : (m : Node) (s : ℕ) (v : Stamp) (base acc number from req : ℕ)
    → OrderStoresOrKeeps m (hear_row m (Packet.Order s v base acc number from req)).node s v base number from req
unfolding hear_row order_row
order_row_stores_or_keeps m s v base acc number from req = split_on_bool (hears_packet_of_sequencer m s v)
    (λ t. rw t (by_body t (body_of_spread_send (node_with_noted_fronts m base acc) from req)))
    (λ f. rw f (nothing refl (omega arith)))
  where
    as_order : (x : Node) (body : List ℕ) → RowStoresOrKeeps m x base number (Data from req body) (EntryHeardInView m s v (Data from req body))
        → OrderStoresOrKeeps m x s v base number from req
    as_order x body (nothing h up) = nothing h up
    as_order x body (one why h) = one body why h

    by_body : hears_packet_of_sequencer m s v ≡ true → (o : Option (List ℕ))
        → OrderStoresOrKeeps m (receive_entry (node_with_noted_fronts m base acc) s base number (data_entry_of from req o) (said.NoBody from req)).node s v base number from req
    by_body t None = as_order _ [] (missing_one m (node_with_noted_fronts m base acc) s base number (Data from req []) (said.NoBody from req) _ refl (omega arith))
    by_body t (Some body) = as_order _ body (with_why m _ base number (Data from req body) (is_view (Data from req body) ≡ false) _
        (λ plain. record { heard = t; plain = plain })
        (received_one m (node_with_noted_fronts m base acc) s base number (Data from req body) (said.NoBody from req) refl (omega arith) (noted_low m base acc)))

-- ---- a fetched entry

fetched_one : (m : Node) (v : Stamp) (base number : ℕ) (e : Entry) (in_ballot : Bool) (then_ : Node → Plan) (P : Type 0) → P
    → (number ≡ top m + 1 → NodeStoresNextEntry m (then_ (push_entry (trim_node_up_to m base) e)).node base number e)
    → RowStoresOrKeeps m (push_fetched m v base number e in_ballot then_).node base number e P
fetched_one m v base number e in_ballot then_ P why f =
    either m base number e P (nat_le number (top m)) (plan_without_letters m said.Known) _ (λ t. nothing refl (omega arith))
    (λ new. either m base number e P (has_own_leave m) (plan_without_letters m said.Behind) _ (λ t. nothing refl (omega arith))
    (λ stays. either m base number e P (nat_lt (top m + 1) number) (plan_without_letters m (said.Gap (top m + 1))) _ (λ t. nothing refl (omega arith))
    (λ near. either m base number e P (nat_lt m.core.taken base) (plan_without_letters m said.Behind) _ (λ t. nothing refl (omega arith))
    (λ low. either m base number e P _ (plan_without_letters m said.Unfit) _ (λ t. nothing refl (omega arith))
    (λ g. (let next : number ≡ top m + 1 = grind (arith, nat_tests) in one why (f next)))))))

pushed_one : (m : Node) (base number : ℕ) (e : Entry) → number ≡ top m + 1 → NodeStoresNextEntry m (push_entry (trim_node_up_to m base) e) base number e
pushed_one m base number e next = record {
  next = next;
  base_ = omega arith;
  start = refl;
  more = [];
  entries = sym (append-nil (m.core.log.entries ++ e ∷ []));
}

-- and what a look at the ballot makes of it
looked_one : (m : Node) (base number : ℕ) (e : Entry) (b : Ballot) → number ≡ top m + 1
    → NodeStoresNextEntry m (decide (push_entry (trim_node_up_to m base) e) b).node base number e
looked_one m base number e b next =
    let y = push_entry (trim_node_up_to m base) e in
    let a = decide_lets_list_go_on y b in
    record {
      next = next;
      base_ = omega arith;
      start = a.log_start;
      more = a.more;
      entries = a.entries;
    }

-- it was fetched without a ballot of the node's own, or for the one that is open
pub data WasFetchedInView (m : Node) (s : ℕ) (v : Stamp) : Type 0 where
  without : is_unfinished_ballot m.ballot ≡ false → (v.by == s) ≡ true → WasFetchedInView m s v
  for_ballot : is_unfinished_ballot m.ballot ≡ true → WasFetchedInView m s v

pub record PieceMayBeStored (m : Node) (s : ℕ) (v : Stamp) : Type 0 where
  pub member : member_hears_other m s ≡ true
  pub promise : stamps_are_equal v m.core.promise ≡ true
  pub how : WasFetchedInView m s v

pub piece_stores_or_keeps : (m : Node) (s : ℕ) (v : Stamp) (base number : ℕ) (e : Entry)
    → RowStoresOrKeeps m (hear_row m (Packet.Piece s v base number e)).node base number e (PieceMayBeStored m s v)
unfolding hear_row piece_row
piece_stores_or_keeps m s v base number e = either m base number e _ (member_hears_other m s) _ (plan_without_letters m said.Elsewhere)
    (λ t. either m base number e _ (not (stamps_are_equal v m.core.promise) || stamps_are_equal (view m) v) (plan_without_letters m said.Elsewhere) _ (λ u. nothing refl (omega arith))
    (λ f. by_ballot t (not-false _ (or_false_first_is_false _ _ f)) m.ballot refl))
    (λ f. nothing refl (omega arith))
  where
    promised_one : member_hears_other m s ≡ true → stamps_are_equal v m.core.promise ≡ true → is_unfinished_ballot m.ballot ≡ false
        → RowStoresOrKeeps m (piece_promised m s v base number e).node base number e (PieceMayBeStored m s v)
    promised_one t p none = either m base number e _ (not (v.by == s)) (plan_without_letters m said.Elsewhere) _ (λ u. nothing refl (omega arith))
        (λ f. fetched_one m v base number e false (catch_up s v number) (PieceMayBeStored m s v)
        (record { member = t; promise = p; how = without none (not-false _ f) })
        (pushed_one m base number e))

    by_ballot : member_hears_other m s ≡ true → stamps_are_equal v m.core.promise ≡ true → (o : Option Ballot) → m.ballot ≡ o
        → RowStoresOrKeeps m (piece_for m s v base number e o).node base number e (PieceMayBeStored m s v)
    by_ballot t p None is = promised_one t p (ap is_unfinished_ballot is)
    by_ballot t p (Some b) is = either m base number e _ b.is_over (piece_promised m s v base number e) _
        (λ u. promised_one t p (ap is_unfinished_ballot is ∙ ap not u))
        (λ f. either m base number e _ (not (fetches_from b.answer s)) (plan_without_letters m said.Elsewhere) _ (λ u. nothing refl (omega arith))
        (λ g. fetched_one m v base number e true (look_at_ballot_anew b) (PieceMayBeStored m s v)
        (record { member = t; promise = p; how = for_ballot (ap is_unfinished_ballot is ∙ ap not f) })
        (looked_one m base number e b)))

-- ---- a View

pub record ResultMayBeStored (m : Node) (s : ℕ) (v : Stamp) : Type 0 where
  pub member : member_hears_other m s ≡ true
  pub by : (v.by == s) ≡ true

pub result_stores_or_keeps : (m : Node) (s : ℕ) (base number : ℕ) (v : GroupView)
    → RowStoresOrKeeps m (hear_row m (Packet.Result s base number v)).node base number (View v) (ResultMayBeStored m s v.stamp)
unfolding hear_row result_row
result_stores_or_keeps m s base number v =
    let e = View v in
    let p = node_with_promise m v.stamp in
    either m base number e _ (member_hears_other m s && (v.stamp.by == s)) _ (plan_without_letters m said.Elsewhere)
    (λ t. either m base number e _ ((v.stamp.by == m.core.who) || stamp_is_less v.stamp m.core.promise) (plan_without_letters m said.Elsewhere) _ (λ u. nothing refl (omega arith))
    (λ f.
    let why : ResultMayBeStored m s v.stamp = (let b = both_of_and _ _ t in record { member = b.0; by = b.1 }) in
    from_same m p _ base number e (ResultMayBeStored m s v.stamp) refl (omega arith)
    (either p base number e _ (stamps_are_equal (view p) v.stamp) _ _ (λ u. nothing refl (omega arith))
    (λ other. either p base number e _ (nat_le number (top p)) (plan_without_letters p said.Unfit) _ (λ u. nothing refl (omega arith))
    (λ new. either p base number e _ (has_own_leave p) (plan_without_letters p said.Behind) _ (λ u. nothing refl (omega arith))
    (λ stays. either p base number e _ (nat_lt (top p + 1) number) _ _ (λ u. nothing refl (omega arith))
    (λ near. either p base number e _ (nat_lt p.core.taken base) (plan_without_letters p said.Behind) _ (λ u. nothing refl (omega arith))
    (λ low. either p base number e _ _ (plan_without_letters p said.Unfit) _ (λ u. nothing refl (omega arith))
    (λ g. (let next : number ≡ top p + 1 = grind (arith, nat_tests) in one why (pushed_one p base number e next)))))))))))
    (λ f. nothing refl (omega arith))

-- ---- the end of the step

ended : (x : Node) (b : Bool) → (if b then record x { status = Departed } else x).core ≡ x.core
ended x true = refl
ended x false = refl

-- what is heard ends with what its row does
pub record HearingEndsRow (m : Node) (p : Packet) : Type 0 where
  pub log : (hear_packet m p).node.core.log ≡ (hear_row m p).node.core.log
  pub base : (hear_row m p).node.core.base ≤ (hear_packet m p).node.core.base

pub hearing_ends_its_row : (m : Node) (p : Packet) → HearingEndsRow m p
unfolding hear_packet finish
hearing_ends_its_row m p =
    let x = (hear_row m p).node in
    let r = end_refresh_rests_with_list x in
    let e = ended (refresh_at_end x) (hear_row m p).departs in
    let base = ap (λ (c : CoreState). c.base) e in
    record { log = ap (λ (c : CoreState). c.log) e ∙ r.log; base = omega arith }
