-- What is known of a name's node within its step: what its application was given, and which of its sends are settled.
use Rattle.am_lawful_runs.proofs.Words.{status_without_log_is_nonmember, member_has_not_departed, still_change_gives_nothing, front_after_pass_over, or_false_first_is_false, no_waiting_send_after_filter, ◌≡◌, ◌⊎◌, either, inl, inr, ℕ, ◌+◌, ◌-◌, ◌<◌}
use Rattle.am_lawful_runs.proofs.Words.{◌≤◌, max, min, ◌==◌, not, nat_lt, Bool, true, false, if◌then◌else◌, List, [], ◌∷◌, ◌++◌, find, count_by, Option, Some}
use Rattle.am_lawful_runs.proofs.Words.{None, slice_get, refl, sym, ap, ◌∙◌, subst, arith, All, nat_tests, sum_by-cons, All-push, All-filter, All-map, Packet}
use Rattle.am_lawful_runs.proofs.Words.{All-weaker, Entry, Data, Leave, Image, Stamp, Outcome, CoreState, raise_accepted_to_told, pass_over_below_join, raise_own_report, tell_accept_front, advance_with_reports, Log}
use Rattle.am_lawful_runs.proofs.Words.{OwnSend, Status, Node, is_member, is_asking_status, is_sequencer, waiting_send_of, node_unsettled_count, push_entry, has_log_by_status, has_departed}
use Rattle.am_lawful_runs.proofs.Words.{node_of_welcomed, advance_node, refresh_as_sequencer, refresh, settle_waiting_send, settle_send_where_accepted, settle_send_at, accepted_number_of_send, refresh_at_end, split_on_bool, both_of_and}
use Rattle.am_lawful_runs.proofs.Words.{item_at, Cause, hears, MayBeWelcomed, slice_get_of_front, refresh_rests_with_list, refresh_changes_only_fronts, settle_changes_only_sends, welcomed_node_is_asking, member_status_has_log, asking_status_has_no_log, front_of_given}
use Rattle.am_lawful_runs.proofs.Words.{GaveByAnswer, nothing, took, began, taken_below_accepted_passes_low, welcome_gives_begun_list, departed_member_has_log_still, accepted_at_gives_found_send}
use Rattle.am_node_defs.specs.Refresh.{trim_to_least_taken}
use Rattle.am_base.specs.declared.outcome.Outcome.TheVariants as said
use Rattle.am_node_defs.specs.Sends as own
use Rattle.am_lawful_runs.proofs.Ways.{ListAndNamesGoOn, ChangeByItsKind, push_lets_list_go_on}
use Rattle.am_lawful_runs.proofs.Ways as kinds

-- ---- sends that are settled

-- it was settled in this step, by an entry of the name's own list that it accepted
pub record IsFreshEntryInLog (m : Node) (who : ℕ) (log : Log) (acc req number : ℕ) : Type 0 where
  pub body : List ℕ
  pub index : ℕ
  pub there : slice_get log.entries index ≡ Some (Data who req body)
  pub at : number ≡ log.start + index + 1
  pub low : number ≤ acc
  pub stays : has_departed m.status ≡ false

abbrev pub IsFreshEntryForNode : Node → Node → ℕ → ℕ → Type 0
IsFreshEntryForNode m x req number = IsFreshEntryInLog m x.core.who x.core.log x.core.acc req number

-- or it stood in the group list before
abbrev pub SendIsSettledInStep : List Entry → ℕ → Node → Node → ℕ → Option ℕ → Type 0
SendIsSettledInStep group i m x req None = Unit {0}
SendIsSettledInStep group i m x req (Some number) = ((body : List ℕ) × (item_at group number ≡ Some (Data i req body))) ⊎ IsFreshEntryForNode m x req number

abbrev pub SendIsInGroupInStep : List Entry → ℕ → Node → Node → OwnSend → Type 0
SendIsInGroupInStep group i m x s = SendIsSettledInStep group i m x s.req s.number

-- ---- within a step that began with node m

-- how the fronts of a node stand to one another
pub record TakenFollowsStart (core : CoreState) : Type 0 where
  pub kept : core.log.start ≤ core.base
  pub taken : core.taken ≤ core.acc
  pub passed : core.taken < core.start - 1 → core.acc ≤ core.taken

pub record NodeWithinItsStep (group : List Entry) (i : ℕ) (c : Cause) (o : Outcome) (m x : Node) : Type 0 where
  pub gave : GaveByAnswer c o m x
  pub order : TakenFollowsStart x.core
  pub open order use *
  -- who had departed is given nothing
  pub departed : has_departed m.status ≡ true → (has_departed x.status ≡ true) × (front_of_given x ≡ front_of_given m)
  -- who leaves has no send that waits
  pub leaves : m.leaving ≡ true → x.leaving ≡ true
  pub gone : has_departed x.status ≡ true → x.leaving ≡ true
  pub silent : x.leaving ≡ true → waiting_send_of x ≡ None
  -- who has no list has accepted nothing
  pub bare : has_log_by_status x.status ≡ false → x.core.acc ≡ 0
  pub sends : All (SendIsInGroupInStep group i m x) x.sends.queue

-- ---- fronts

-- what a refresh makes of the numbers
record Fronts (m n : Node) : Type 0 where
  front_ : front_of_given n ≡ front_of_given m
  start : n.core.start ≡ m.core.start
  taken : n.core.taken ≤ n.core.acc
  passed : n.core.taken < n.core.start - 1 → n.core.acc ≤ n.core.taken

passing : (taken acc new start : ℕ) → acc ≤ new → taken ≤ acc → (taken < start - 1 → acc ≤ taken)
    → ((if nat_lt taken (start - 1) then max taken (min new (start - 1)) else taken) ≤ new)
    × ((if nat_lt taken (start - 1) then max taken (min new (start - 1)) else taken) < start - 1
    → new ≤ (if nat_lt taken (start - 1) then max taken (min new (start - 1)) else taken))
passing taken acc new start up low h = split_on_bool (nat_lt taken (start - 1))
    (λ t. rw t (omega arith, λ below. omega arith))
    (λ f. let z : start - 1 ≤ taken = grind (arith, nat_tests) in rw f (omega arith, λ below. absurd (omega arith)))

lead_fronts : (m : Node) → m.core.taken ≤ m.core.acc → (m.core.taken < m.core.start - 1 → m.core.acc ≤ m.core.taken) → Fronts m (refresh_as_sequencer m)
unfolding refresh_as_sequencer raise_own_report tell_accept_front advance_with_reports trim_to_least_taken raise_accepted_to_told pass_over_below_join
lead_fronts m low h =
    let p = passing m.core.taken m.core.acc (refresh_as_sequencer m).core.acc m.core.start (omega arith) low h in
    record { front_ = front_after_pass_over m.core.taken _ m.core.start; start = refl; taken = p.0; passed = p.1 }

advance_fronts : (m : Node) → m.core.taken ≤ m.core.acc → (m.core.taken < m.core.start - 1 → m.core.acc ≤ m.core.taken) → Fronts m (advance_node m)
unfolding raise_accepted_to_told pass_over_below_join
advance_fronts m low h =
    let p = passing m.core.taken m.core.acc (advance_node m).core.acc m.core.start (omega arith) low h in
    record { front_ = front_after_pass_over m.core.taken _ m.core.start; start = refl; taken = p.0; passed = p.1 }

refresh_fronts : (m : Node) → m.core.taken ≤ m.core.acc → (m.core.taken < m.core.start - 1 → m.core.acc ≤ m.core.taken) → Fronts m (refresh m)
unfolding refresh
refresh_fronts m low h = split_on_bool (is_sequencer m) (λ t. rw t (lead_fronts m low h)) (λ f. rw f (advance_fronts m low h))

-- ---- what was given

number_of : Outcome → ℕ
number_of (said.Took number e) = number
number_of _ = 0

gave_taken : {c : Cause} {o : Outcome} (k m : Node) (e : Entry) → m.core.taken ≤ m.core.acc → (m.core.taken < m.core.start - 1 → m.core.acc ≤ m.core.taken)
    → is_member m.status ≡ true → (m.core.taken == m.core.acc) ≡ false → o ≡ said.Took (m.core.taken + 1) e → GaveByAnswer c o k m
    → GaveByAnswer c o k (record m { core = record (m.core) { taken = m.core.taken + 1 } })
unfolding number_of
gave_taken k m e low passed member some says (nothing x y z) =
    let less : m.core.taken < m.core.acc = grind (arith, nat_tests) in
    let p : m.core.start - 1 ≤ m.core.taken = taken_below_accepted_passes_low m.core.taken m.core.acc (m.core.start - 1) passed less in
    let log = member_status_has_log m.status member in
    took m.core.taken e says (omega arith) (omega arith) y (omega arith) log (sym z ∙ log)
gave_taken k m e low passed member some says (took j g was x y z w u v) =
    let same : said.Took (m.core.taken + 1) e ≡ said.Took (j + 1) g = sym says ∙ was in
    let number : m.core.taken + 1 ≡ j + 1 = ap number_of same in
    absurd (omega arith)
gave_taken k m e low passed member some says (began s v base join image a b x y z w u) = let same = sym says ∙ b in absurd (cc)

-- ---- statuses

pub asking_status_has_not_departed : (s : Status) → is_asking_status s ≡ true → has_departed s ≡ false
asking_status_has_not_departed Status.Departed h = absurd (cc)
asking_status_has_not_departed _ h = refl

-- ---- sends

count_more : (s : OwnSend) (q : List OwnSend) → count_by own.is_unsettled (s ∷ q) ≡ (if own.is_unsettled s then 1 else 0) + count_by own.is_unsettled q
count_more s q = sum_by-cons (λ x. if own.is_unsettled x then 1 else 0) s q

none_waits : (queue : List OwnSend) → nat_lt 0 (count_by own.is_unsettled queue) ≡ false → find own.is_unsettled queue ≡ None
none_waits [] h = refl
none_waits (s ∷ q) h = split_on_bool (own.is_unsettled s)
    (λ t. absurd (let one : count_by own.is_unsettled (s ∷ q) ≡ 1 + count_by own.is_unsettled q = count_more s q
    ∙ ap (λ (b : Bool). (if b then 1 else 0) + count_by own.is_unsettled q) t in
    let z : ⊥ = grind (arith, nat_tests) in z))
    (λ f. let same : count_by own.is_unsettled (s ∷ q) ≡ 0 + count_by own.is_unsettled q = count_more s q
    ∙ ap (λ (b : Bool). (if b then 1 else 0) + count_by own.is_unsettled q) f in
    let rest : nat_lt 0 (count_by own.is_unsettled q) ≡ false = grind (arith, nat_tests) in
    rw f (none_waits q rest))

-- a send that was settled stays so where the list goes on and no less is accepted
fresh_on : (m x y : Node) (req number : ℕ) → y.core.who ≡ x.core.who → y.core.log.start ≡ x.core.log.start
    → (rest : List Entry) × (y.core.log.entries ≡ x.core.log.entries ++ rest) → x.core.acc ≤ y.core.acc → IsFreshEntryForNode m x req number → IsFreshEntryForNode m y req number
fresh_on m x y req number who start more up h = record {
  body = h.body;
  index = h.index;
  there = ap (λ l. slice_get l h.index) more.1 ∙ slice_get_of_front x.core.log.entries more.0 h.index (Data x.core.who req h.body) h.there
      ∙ ap (λ k. Some (Data k req h.body)) (sym who);
  at = h.at ∙ ap (λ k. k + h.index + 1) (sym start);
  low = let a = h.low in omega arith;
  stays = h.stays;
}

settled_on : (group : List Entry) (i : ℕ) (m x y : Node) → ((req number : ℕ) → IsFreshEntryForNode m x req number → IsFreshEntryForNode m y req number) → (req : ℕ) (number : Option ℕ)
    → SendIsSettledInStep group i m x req number → SendIsSettledInStep group i m y req number
settled_on group i m x y f req None h = tt
settled_on group i m x y f req (Some number) h = either h
    (λ a. inl a)
    (λ a. inr (f req number a))

sends_on : (group : List Entry) (i : ℕ) (m x y : Node) (queue : List OwnSend) → ((req number : ℕ) → IsFreshEntryForNode m x req number → IsFreshEntryForNode m y req number)
    → All (SendIsInGroupInStep group i m x) queue → All (SendIsInGroupInStep group i m y) queue
sends_on group i m x y queue f h = All-weaker (SendIsInGroupInStep group i m x) (SendIsInGroupInStep group i m y) (λ s. settled_on group i m x y f s.req s.number) queue h

-- ---- who has no list

bare_refresh : (x : Node) → has_log_by_status x.status ≡ false → x.core.acc ≡ 0 → x.core.told ≡ 0 → (refresh x).core.acc ≡ 0
unfolding refresh raise_accepted_to_told pass_over_below_join
bare_refresh x none acc told = split_on_bool (is_sequencer x)
    (λ t. absurd (let a = (both_of_and (is_member x.status) _ (both_of_and _ _ t).0).0 in let b = status_without_log_is_nonmember x.status none in cc))
    (λ f. rw f (omega arith))

-- ---- each kind of change

module _ (group : List Entry) (i : ℕ) (c : Cause) (o : Outcome) (m : Node) where
  inside_alike : (x y : Node) → ListAndNamesGoOn x y → NodeWithinItsStep group i c o m x → NodeWithinItsStep group i c o m y
  inside_alike x y a h =
      let log = ap has_log_by_status a.status in
      let front_ : front_of_given y ≡ front_of_given x = λ j. max (a.taken j) (a.start j - 1) in
      record {
        gave = still_change_gives_nothing m x y front_ a.start log h.gave;
        order = record {
          kept = omega (arith, h.kept, a.log_start, a.base);
          taken = omega (arith, h.taken, a.taken, a.acc);
          passed = λ below. (let st = ap (λ t. t - 1) a.start in let given = a.taken in let z = h.passed (omega arith) in omega (arith, a.acc));
        };
        departed = λ t. (let d = h.departed t in (ap has_departed a.status ∙ d.0, front_ ∙ d.1));
        leaves = λ t. a.leaving ∙ h.leaves t;
        gone = λ t. a.leaving ∙ h.gone (ap has_departed (sym a.status) ∙ t);
        silent = λ t. ap (λ (q : own.Sends). own.first_unsettled_send q) a.sends ∙ h.silent (sym a.leaving ∙ t);
        bare = λ t. a.acc ∙ h.bare (sym log ∙ t);
        sends = subst (λ (q : own.Sends). All (SendIsInGroupInStep group i m y) q.queue) (sym a.sends)
            (sends_on group i m x y x.sends.queue (λ req number f. fresh_on m x y req number a.who a.log_start (a.more, a.entries) (omega (arith, a.acc)) f)
            h.sends);
      }

  inside_refreshed : (x : Node) → (has_log_by_status x.status ≡ false → x.core.told ≡ 0) → NodeWithinItsStep group i c o m x → NodeWithinItsStep group i c o m (refresh x)
  inside_refreshed x bare h =
      let y = refresh x in
      let r = refresh_rests_with_list x in
      let f = refresh_fronts x h.taken h.passed in
      let log = ap has_log_by_status r.rests.status in
      let sends_ : y.sends ≡ x.sends = ap (λ (z : Node). z.sends) (refresh_changes_only_fronts x) in
      let kept = h.kept in
      let more : (rest : List Entry) × (y.core.log.entries ≡ x.core.log.entries ++ rest) = (r.rests.more, r.rests.entries) in
      record {
        gave = still_change_gives_nothing m x y f.front_ f.start log h.gave;
        order = record { kept = omega arith; taken = f.taken; passed = f.passed };
        departed = λ t. (let d = h.departed t in (ap has_departed r.rests.status ∙ d.0, f.front_ ∙ d.1));
        leaves = λ t. r.rests.leaving ∙ h.leaves t;
        gone = λ t. r.rests.leaving ∙ h.gone (ap has_departed (sym r.rests.status) ∙ t);
        silent = λ t. ap (λ (q : own.Sends). own.first_unsettled_send q) sends_ ∙ h.silent (sym r.rests.leaving ∙ t);
        bare = λ t. (let before = sym log ∙ t in bare_refresh x before (h.bare before) (bare before));
        sends = subst (λ (q : own.Sends). All (SendIsInGroupInStep group i m y) q.queue) (sym sends_)
            (sends_on group i m x y x.sends.queue (λ req number g. fresh_on m x y req number r.rests.who r.rests.start more r.rests.acc g) h.sends);
      }

  -- nobody who had departed settles anything
  stays_up : (x : Node) (s : OwnSend) → waiting_send_of x ≡ Some s → NodeWithinItsStep group i c o m x → has_departed m.status ≡ false
  stays_up x s is h = split_on_bool (has_departed m.status)
      (λ t. absurd (let none = h.silent (h.gone (h.departed t).0) in cc))
      (λ f. f)

  -- only the sends change
  inside_sends : (x : Node) (q : own.Sends) → (x.leaving ≡ true → own.first_unsettled_send q ≡ None) → All (SendIsInGroupInStep group i m x) q.queue → NodeWithinItsStep group i c o m x
      → NodeWithinItsStep group i c o m (record x { sends = q })
  inside_sends x q silent sends h =
      assumption (still_change_gives_nothing m x (record x { sends = q }) refl refl refl h.gave, silent, sends)

  inside_settled_at : (x : Node) (req : ℕ) (at : Option ℕ) → accepted_number_of_send x req ≡ at → has_departed m.status ≡ false → x.leaving ≡ false
      → NodeWithinItsStep group i c o m x → NodeWithinItsStep group i c o m (settle_send_at x req at)
  inside_settled_at x req None is up stays h = h
  inside_settled_at x req (Some k) is up stays h =
      let number = x.core.base + 1 + k in
      let y = settle_send_at x req (Some k) in
      let f = accepted_at_gives_found_send x req k is in
      let low = f.low in
      let fresh : IsFreshEntryForNode m y req number = record {
        body = f.body;
        index = (x.core.base - x.core.log.start) + k;
        there = f.there;
        at = omega arith;
        low = omega arith;
        stays = up;
      } in
      inside_sends x y.sends (λ t. absurd (cc)) (All-map (SendIsInGroupInStep group i m y) (own.settle_send req number) x.sends.queue
      (All-weaker (SendIsInGroupInStep group i m x) (λ s. SendIsInGroupInStep group i m y (own.settle_send req number s))
      (λ s old. now_settled x y req number s fresh old)
      x.sends.queue h.sends)) h
    where
      now_settled : (x y : Node) (req number : ℕ) (s : OwnSend) → IsFreshEntryForNode m y req number → SendIsInGroupInStep group i m y s
          → SendIsInGroupInStep group i m y (own.settle_send req number s)
      now_settled x y req number s fresh old = split_on_bool (s.req == req)
          (λ t. let same : req ≡ s.req = grind (arith, nat_tests) in rw t (inr (subst (λ r. IsFreshEntryForNode m y r number) same fresh)))
          (λ f. rw f old)

  inside_settled : (x : Node) (w : Option OwnSend) → waiting_send_of x ≡ w → NodeWithinItsStep group i c o m x → NodeWithinItsStep group i c o m (settle_send_where_accepted x w)
  inside_settled x None is h = h
  inside_settled x (Some s) is h = inside_settled_at x s.req (accepted_number_of_send x s.req) refl (stays_up x s is h)
      (split_on_bool x.leaving (λ t. absurd (let none = h.silent t in cc)) (λ f. f)) h

  inside_begun : (x : Node) (s : ℕ) (v : Stamp) (base join : ℕ) (image : Image) → c ≡ hears (Packet.Welcome s v base join image) → o ≡ said.Welcomed join
      → MayBeWelcomed x s v base join image → NodeWithinItsStep group i c o m x → NodeWithinItsStep group i c o m (node_of_welcomed x v base join image)
  inside_begun x s v base join image is says may h =
      let y = node_of_welcomed x v base join image in
      let none = asking_status_has_no_log x.status (welcomed_node_is_asking x s v base join image may) in
      let bare = h.bare none in
      record {
        gave = welcome_gives_begun_list m x s v base join image is says may h.gave;
        order = record { kept = omega arith; taken = omega arith; passed = λ below. omega arith };
        departed = λ t. absurd (let d = (h.departed t).0 in let a = asking_status_has_not_departed x.status (welcomed_node_is_asking x s v base join image may) in cc);
        leaves = h.leaves;
        gone = λ t. absurd (cc);
        silent = h.silent;
        bare = λ t. absurd (cc);
        sends = sends_on group i m x y x.sends.queue (λ req number g. absurd (let a = g.at in let b = g.low in let z : ⊥ = omega arith in z)) h.sends;
      }

  -- only the status changes
  inside_status : (x : Node) (s : Status) → has_log_by_status s ≡ has_log_by_status x.status → (has_departed m.status ≡ true → has_departed s ≡ true)
      → (has_departed s ≡ true → x.leaving ≡ true) → NodeWithinItsStep group i c o m x → NodeWithinItsStep group i c o m (record x { status = s })
  inside_status x s log stays leaves h =
      let y = record x { status = s } in
      let departed : has_departed m.status ≡ true → (has_departed s ≡ true) × (front_of_given y ≡ front_of_given m) = λ t. (stays t, (h.departed t).1) in
      let bare : has_log_by_status s ≡ false → x.core.acc ≡ 0 = λ t. h.bare (sym log ∙ t) in
      assumption (still_change_gives_nothing m x y refl refl log h.gave, departed, bare)

  inside_collected : (x : Node) (req : ℕ) → NodeWithinItsStep group i c o m x → NodeWithinItsStep group i c o m (record x { sends = own.collect req x.sends })
  inside_collected x req h = split_on_bool (own.has_settled_send req x.sends)
      (λ t. rw t (inside_sends x (own.sends_without_request req x.sends) (λ u. no_waiting_send_after_filter (λ s. not (own.send_has_request req s)) x.sends.queue (h.silent u))
      (All-filter (λ s. not (own.send_has_request req s)) (SendIsInGroupInStep group i m x) x.sends.queue h.sends) h))
      (λ f. rw f (inside_sends x x.sends h.silent h.sends h))

  inside_took : (x : Node) (e : Entry) → o ≡ said.Took (x.core.taken + 1) e → is_member x.status ≡ true → (x.core.taken == x.core.acc) ≡ false
      → NodeWithinItsStep group i c o m x → NodeWithinItsStep group i c o m (record x { core = record (x.core) { taken = x.core.taken + 1 } })
  inside_took x e says member some h =
      let less : x.core.taken < x.core.acc = grind (arith, nat_tests) in
      let y = record x { core = record (x.core) { taken = x.core.taken + 1 } } in
      let taken : y.core.taken ≤ x.core.acc = omega arith in
      let passed : y.core.taken < x.core.start - 1 → x.core.acc ≤ y.core.taken = λ below. (let z = h.passed (omega arith) in absurd (omega arith)) in
      let departed : has_departed m.status ≡ true → (has_departed x.status ≡ true) × (front_of_given y ≡ front_of_given m)
      = λ t. absurd (let d = (h.departed t).0 in let a = member_has_not_departed x.status member in cc) in
      assumption (gave_taken m x e h.taken h.passed member some says h.gave, taken, passed, departed)

  inside_asked : (x : Node) → nat_lt 0 (node_unsettled_count x) ≡ false → NodeWithinItsStep group i c o m x → NodeWithinItsStep group i c o m (record x { leaving = true })
  inside_asked x none h =
      let y = record x { leaving = true } in
      assumption (still_change_gives_nothing m x y refl refl refl h.gave, none_waits x.sends.queue none)

  pub node_within_step_by_kind : (x y : Node) → ChangeByItsKind c o x y → (has_log_by_status x.status ≡ false → x.core.told ≡ 0) → NodeWithinItsStep group i c o m x → NodeWithinItsStep group i c o m y
  unfolding settle_waiting_send refresh_at_end
  node_within_step_by_kind x y (kinds.alike a) bare h = inside_alike x y a h
  node_within_step_by_kind x y kinds.refreshed bare h = inside_refreshed x bare h
  node_within_step_by_kind x y kinds.settled bare h = inside_settled x (waiting_send_of x) refl h
  node_within_step_by_kind x y (kinds.began s v base join image is says may) bare h = inside_begun x s v base join image is says may h
  node_within_step_by_kind x y (kinds.left member leaves) bare h = inside_status x Status.Departed (departed_member_has_log_still x.status member) (λ t. refl) (λ t. leaves) h
  node_within_step_by_kind x y (kinds.sent body stays) bare h =
      inside_sends x (own.queue_send body x.sends) (λ t. absurd (cc)) (All-push (SendIsInGroupInStep group i m x) x.sends.queue _ h.sends tt) h
  node_within_step_by_kind x y (kinds.collected req) bare h = inside_collected x req h
  node_within_step_by_kind x y (kinds.took e says member some) bare h = inside_took x e says member some h
  node_within_step_by_kind x y (kinds.asked_in was) bare h = inside_status x Status.Asking (sym (ap has_log_by_status was))
      (λ t. absurd (let d = (h.departed t).0 in let s = ap has_departed was in cc)) (λ t. absurd (cc)) h
  node_within_step_by_kind x y (kinds.asked_out was done) bare h = inside_asked x (or_false_first_is_false _ _ done) h
  node_within_step_by_kind x y (kinds.gone member leaves) bare h =
      let p = push_entry x (Leave x.core.who) in
      let log = member_status_has_log x.status member in
      let a = inside_alike x p (push_lets_list_go_on x (Leave x.core.who)) h in
      let b = inside_refreshed p (λ none. absurd (cc)) a in
      let r = (refresh_rests_with_list p).rests in
      let d = inside_settled (refresh p) (waiting_send_of (refresh p)) refl b in
      let st : (settle_waiting_send (refresh p)).status ≡ x.status = ap (λ (z : Node). z.status) (settle_changes_only_sends (refresh p)) ∙ r.status in
      let lv : (settle_waiting_send (refresh p)).leaving ≡ x.leaving = ap (λ (z : Node). z.leaving) (settle_changes_only_sends (refresh p)) ∙ r.leaving in
      inside_status (settle_waiting_send (refresh p)) Status.Departed (departed_member_has_log_still x.status member ∙ ap has_log_by_status (sym st)) (λ t. refl) (λ t. lv ∙ leaves) d
