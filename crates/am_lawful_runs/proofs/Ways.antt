-- The changes of a node by what they do to what its application was given, and to its own sends.
use Rattle.am_lawful_runs.proofs.Words.{sequencer_is_member, ◌≡◌, ℕ, ◌+◌, ◌≤◌, ◌-◌, ◌==◌, ◌||◌, not, nat_lt, Bool, true, false, if◌then◌else◌, List, [], ◌∷◌, ◌++◌, refl}
use Rattle.am_lawful_runs.proofs.Words.{sym, ◌∙◌, append-nil, arith, Entry, Leave, View, Image, Stamp, Outcome, has, size, Node, Ballot, top, names_that_pass, is_member}
use Rattle.am_lawful_runs.proofs.Words.{push_entry, node_unsettled_count, BallotVerdict, decide, verdict_ending, restart_reports, trim_to_least_taken_by, need_set_of, need_set_without_given_up, best_vote_for_ballot, is_waited_for}
use Rattle.am_lawful_runs.proofs.Words.{decide_view, node_with_queued_send, is_unfinished_ballot, node_of_welcomed, refresh, settle_waiting_send, refresh_at_end, both_of_and, Cause, hears, LooksAtBallot}
use Rattle.am_lawful_runs.proofs.Words.{decides, MayBeWelcomed, Change, refreshes, settles, numbers, stores, begins_list, looks, fetches, stores_view, queues}
use Rattle.am_lawful_runs.proofs.Words.{collects, takes, asks_to_join, asks_to_leave, closes, Packet, Status}
use Rattle.am_step_laws.specs.Changes.{departs}
use Rattle.am_model.specs.Ballots.{verdict_going_on, decided_view}
use Rattle.am_base.specs.declared.outcome.Outcome.TheVariants as said
use Rattle.am_node_defs.specs.Sends as own

-- nothing of that changes; the list may get more
pub record ListAndNamesGoOn (m n : Node) : Type 0 where
  pub who : n.core.who ≡ m.core.who
  pub base : m.core.base ≤ n.core.base
  pub acc : n.core.acc ≡ m.core.acc
  pub taken : n.core.taken ≡ m.core.taken
  pub start : n.core.start ≡ m.core.start
  pub status : n.status ≡ m.status
  pub leaving : n.leaving ≡ m.leaving
  pub sends : n.sends ≡ m.sends
  pub log_start : n.core.log.start ≡ m.core.log.start
  pub more : List Entry
  pub entries : n.core.log.entries ≡ m.core.log.entries ++ more

abbrev closed : Node → Node
closed m = record (refresh_at_end (push_entry m (Leave m.core.who))) { status = Status.Departed }

pub data ChangeByItsKind (c : Cause) (o : Outcome) (m : Node) : Node → Type 0 where
  alike : {n : Node} → ListAndNamesGoOn m n → ChangeByItsKind c o m n
  refreshed : ChangeByItsKind c o m (refresh m)
  settled : ChangeByItsKind c o m (settle_waiting_send m)
  began : (s : ℕ) (v : Stamp) (base join : ℕ) (image : Image) → c ≡ hears (Packet.Welcome s v base join image) → o ≡ said.Welcomed join
      → MayBeWelcomed m s v base join image → ChangeByItsKind c o m (node_of_welcomed m v base join image)
  left : is_member m.status ≡ true → m.leaving ≡ true → ChangeByItsKind c o m (record m { status = Status.Departed })
  sent : (body : List ℕ) → m.leaving ≡ false → ChangeByItsKind c o m (node_with_queued_send m body)
  collected : (req : ℕ) → ChangeByItsKind c o m (record m { sends = own.collect req m.sends })
  took : (e : Entry) → o ≡ said.Took (m.core.taken + 1) e → is_member m.status ≡ true → (m.core.taken == m.core.acc) ≡ false
      → ChangeByItsKind c o m (record m { core = record (m.core) { taken = m.core.taken + 1 } })
  asked_in : m.status ≡ Status.Stranger → ChangeByItsKind c o m (record m { status = Status.Asking })
  asked_out : m.status ≡ Status.Member → (nat_lt 0 (node_unsettled_count m) || is_unfinished_ballot m.ballot) ≡ false → ChangeByItsKind c o m (record m { leaving = true })
  gone : is_member m.status ≡ true → m.leaving ≡ true → ChangeByItsKind c o m (closed m)

-- with more entries, and anything else but what is told here
pushes : (m n : Node) (es : List Entry) → n.core.who ≡ m.core.who → m.core.base ≤ n.core.base → n.core.acc ≡ m.core.acc → n.core.taken ≡ m.core.taken
    → n.core.start ≡ m.core.start → n.status ≡ m.status → n.leaving ≡ m.leaving → n.sends ≡ m.sends → n.core.log.start ≡ m.core.log.start
    → n.core.log.entries ≡ m.core.log.entries ++ es → ListAndNamesGoOn m n
pushes m n es who base acc taken start status_ leaving sends log entries = search (
  es,
  who,
  base,
  acc,
  taken,
  start,
  leaving,
  sends,
  entries,
)

same_log : (m n : Node) → n.core.who ≡ m.core.who → m.core.base ≤ n.core.base → n.core.acc ≡ m.core.acc → n.core.taken ≡ m.core.taken
    → n.core.start ≡ m.core.start → n.status ≡ m.status → n.leaving ≡ m.leaving → n.sends ≡ m.sends → n.core.log.start ≡ m.core.log.start
    → n.core.log.entries ≡ m.core.log.entries → ListAndNamesGoOn m n
same_log m n who base acc taken start status_ leaving sends log entries =
    pushes m n [] who base acc taken start status_ leaving sends log (entries ∙ sym (append-nil m.core.log.entries))

-- with one entry more
pub push_lets_list_go_on : (m : Node) (e : Entry) → ListAndNamesGoOn m (push_entry m e)
push_lets_list_go_on m e = pushes m (push_entry m e) (e ∷ []) refl (omega arith) refl refl refl refl refl refl refl refl

look_alike : (m : Node) (b : Ballot) (v : BallotVerdict) → LooksAtBallot m b v → ListAndNamesGoOn m v.node
look_alike m b v (decides may) = pushes m v.node (_ ∷ []) refl (omega arith) refl refl refl refl refl refl refl refl
look_alike m b v _ = same_log m v.node refl (omega arith) refl refl refl refl refl refl refl refl

-- whatever a ballot comes to
alike_if : (m : Node) (b : Bool) (x y : BallotVerdict) → ListAndNamesGoOn m x.node → ListAndNamesGoOn m y.node → ListAndNamesGoOn m (if b then x else y).node
alike_if m true x y f g = f
alike_if m false x y f g = g

pub decide_lets_list_go_on : (m : Node) (b : Ballot) → ListAndNamesGoOn m (decide m b).node
unfolding decide
decide_lets_list_go_on m b =
    let names = need_set_without_given_up b (need_set_of m b) in
    let view = View (decided_view m b names) in
    let over : (o : Outcome) → ListAndNamesGoOn m (verdict_ending m b o).node = λ o. same_log m (verdict_ending m b o).node refl (omega arith) refl refl refl refl refl refl refl refl in
    let on : (o : Outcome) → ListAndNamesGoOn m (verdict_going_on m b o).node = λ o. same_log m (verdict_going_on m b o).node refl (omega arith) refl refl refl refl refl refl refl refl in
    let before = trim_to_least_taken_by m b names in
    let last : (o : Outcome) → ListAndNamesGoOn m (verdict_ending (restart_reports (push_entry before view)) b o).node = λ o.
    pushes m (verdict_ending (restart_reports (push_entry before view)) b o).node (view ∷ []) refl (omega arith) refl refl refl refl refl refl refl refl in
    let crowded : (o : Outcome) → ListAndNamesGoOn m (verdict_ending before b o).node = λ o. same_log m (verdict_ending before b o).node refl (omega arith) refl refl refl refl refl refl
    refl refl in
    let few = names_that_pass (is_waited_for m.core.who b) (need_set_of m b) in
    let crowd : Outcome = said.Crowded before.core.base (top before) in
    let done : Outcome = said.Decided (top before + 1) names in
    let decided : ListAndNamesGoOn m (decide_view before b names).node = alike_if m
    (nat_lt (before.core.rules.window + 16 - size names) (top before + 1 - before.core.base)) (verdict_ending before b crowd)
    (verdict_ending (restart_reports (push_entry before view)) b done)
    (crowded crowd) (last done) in
    let small : Outcome = said.TooFew (size names) b.least in
    let v4 : BallotVerdict = if nat_lt (size names) b.least then verdict_ending m b small else decide_view before b names in
    let a4 : ListAndNamesGoOn m v4.node = alike_if m (nat_lt (size names) b.least) (verdict_ending m b small) (decide_view before b names) (over small) decided in
    let fetch : Outcome = said.Fetching (best_vote_for_ballot m b).by (top m + 1) in
    let v3 : BallotVerdict = if not ((best_vote_for_ballot m b).by == m.core.who) then verdict_going_on m b fetch else v4 in
    let a3 : ListAndNamesGoOn m v3.node = alike_if m (not ((best_vote_for_ballot m b).by == m.core.who)) (verdict_going_on m b fetch) v4 (on fetch) a4 in
    let wait : Outcome = said.Waiting few in
    let v2 : BallotVerdict = if nat_lt 0 (size few) then verdict_going_on m b wait else v3 in
    let a2 : ListAndNamesGoOn m v2.node = alike_if m (nat_lt 0 (size few)) (verdict_going_on m b wait) v3 (on wait) a3 in
    let out : Outcome = said.NotIn (best_vote_for_ballot m b).vote.view in
    alike_if m (not (has (need_set_of m b) m.core.who)) (verdict_ending m b out) v2 (over out) a2

pub change_has_its_kind : {c : Cause} {o : Outcome} (m n : Node) → Change c o m n → ChangeByItsKind c o m n
change_has_its_kind m n refreshes = refreshed
change_has_its_kind m n settles = settled
change_has_its_kind m n (numbers e leads room why) = alike (pushes m n (e ∷ []) refl (omega arith) refl refl refl refl refl refl refl refl)
change_has_its_kind m n (stores s v base acc number e by heard plain may) = alike (pushes m n (e ∷ []) refl (omega arith) refl refl refl refl refl refl refl refl)
change_has_its_kind m n (begins_list s v base join image is o may) = began s v base join image is o may
change_has_its_kind m n (departs s v number is heard leaves) = left (both_of_and _ (is_member m.status) heard).1 leaves
change_has_its_kind m n (looks b verdict over why look is) = alike (look_alike m b verdict look)
change_has_its_kind m n (fetches s v base number e is heard promise below from may) = alike (pushes m n (e ∷ []) refl (omega arith) refl refl refl refl refl refl refl refl)
change_has_its_kind m n (stores_view s base number v is heard own_ other promise below may) =
    alike (pushes m n (View v ∷ []) refl (omega arith) refl refl refl refl refl refl refl refl)
change_has_its_kind m n (queues body is o member stays few) = sent body stays
change_has_its_kind m n (collects req is) = collected req
change_has_its_kind m n (takes e is o member some there) = took e o member some
change_has_its_kind m n (asks_to_join is was) = asked_in was
change_has_its_kind m n (asks_to_leave is was stays done) = asked_out was done
change_has_its_kind m n (closes leads leaves alone room) = gone (sequencer_is_member m leads) leaves
change_has_its_kind m n _ = alike (same_log m n refl (omega arith) refl refl refl refl refl refl refl refl)
