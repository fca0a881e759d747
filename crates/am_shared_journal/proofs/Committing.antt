-- What a commit leaves.
use Rattle.am_shared_journal.proofs.Words.{◌≡◌, ℕ, ◌+◌, ◌<◌, false, List, [], ◌∷◌, ◌++◌, length, take, drop, Result, Ok, Err, IfOk, OnOk, OnErr, sym, refl}
use Rattle.am_shared_journal.proofs.Words.{ap, ◌∙◌, subst, arith, most_events_of_run, TableId, Record, SharerKey, Terms, SeatView, WireRefusal}
use Rattle.am_shared_journal.proofs.Words.{times, Sat, seat_view, GoesOn, EachComesNext, SeatIsIdle, HasTurn, SeatTakes, Unites, Parts, AddsRecord, Known, known_by, Sees, Committed}
use Rattle.am_shared_journal.proofs.Words.{times_of_append, records_go_on_through_both}
use Rattle.am_shared_journal.proofs.{Keeps.log_follows_with_next_record, Passing.PassSitsAtSeat, Passing.records_go_on_equal_keys, Passing.first_key_splits_off, Passing.pass_sees_view_of_seat}

-- a seat of two passes has taken the slot
pub record CommitHoldsRule (next : Terms → List Record → Record → Type 0) (p q : Known) (t : Sat) : Type 0 where
  pub turn : HasTurn t
  pub terms : (t.0.terms ≡ p.terms) × (q.terms ≡ p.terms)
  pub lawful : EachComesNext (next p.terms) t.0.seen
  pub cut : (take 1 t.0.keys ≡ q.keys) × (drop 1 t.0.keys ≡ p.keys)
  pub keyed : (0 < length p.keys) × (0 < length q.keys)
  pub keys : (key : SharerKey) → times key t.0.keys ≡ times key q.keys + times key p.keys
  pub goes : GoesOn p.keys p.seen t.0.seen × GoesOn q.keys q.seen t.0.seen

pub commit_holds_rule : (next : Terms → List Record → Record → Type 0) (p q : Known) (id other : TableId) (s r u t : Sat) → PassSitsAtSeat p id s → PassSitsAtSeat q other r
    → q.terms ≡ p.terms
    → length q.keys ≡ 1 → Unites next s.0 r.0 u → SeatTakes next u t → CommitHoldsRule next p q t
commit_holds_rule next p q id other s r u t sits its agree one unites takes =
    let terms : t.0.terms ≡ p.terms = takes.terms ∙ unites.terms ∙ sym sits.terms in
    let single : length r.0.keys ≡ 1 = ap length (sym its.keys) ∙ one in
    let cut = first_key_splits_off r.0.keys s.0.keys single in
    let keys : t.0.keys ≡ r.0.keys ++ s.0.keys = takes.keys ∙ unites.keys in
    let united : GoesOn (r.0.keys ++ s.0.keys) u.0.seen t.0.seen = subst (λ (ks : List SharerKey). GoesOn ks u.0.seen t.0.seen) unites.keys takes.goes in record {
      turn = takes.turn;
      terms = (terms, agree);
      lawful = subst (λ (x : Terms). EachComesNext (next x) t.0.seen) terms takes.lawful;
      cut = (ap (take 1) keys ∙ cut.0 ∙ sym its.keys, ap (drop 1) keys ∙ cut.1 ∙ sym sits.keys);
      keyed = (subst (λ (ks : List SharerKey). 0 < length ks) (sym sits.keys) sits.keyed, subst (λ (ks : List SharerKey). 0 < length ks) (sym its.keys) its.keyed);
      keys = λ key. ap (times key) keys ∙ times_of_append key r.0.keys s.0.keys
          ∙ ap (λ (ks : List SharerKey). times key ks + times key s.0.keys) (sym its.keys) ∙ ap (λ (ks : List SharerKey). times key q.keys + times key ks) (sym sits.keys);
      goes = (
        records_go_on_equal_keys s.0.keys p.keys s.0.seen p.seen t.0.seen t.0.seen (sym sits.keys) (sym sits.seen) refl
            (records_go_on_through_both s.0.keys (r.0.keys ++ s.0.keys) s.0.seen u.0.seen t.0.seen (λ key h. let e = times_of_append key r.0.keys s.0.keys in
            omega arith) unites.mine united),
        records_go_on_equal_keys r.0.keys q.keys r.0.seen q.seen t.0.seen t.0.seen (sym its.keys) (sym its.seen) refl
            (records_go_on_through_both r.0.keys (r.0.keys ++ s.0.keys) r.0.seen u.0.seen t.0.seen (λ key h. let e = times_of_append key r.0.keys s.0.keys in
            omega arith) unites.theirs united),
      );
    }

-- ---- what an addition wants

-- by what others had added, the record comes next
pub next_lawful_after_commit : (next : Terms → List Record → Record → Type 0) (p q : Known) (t : Sat) (item : Record) → CommitHoldsRule next p q t
    → ((before : List Record) → GoesOn p.keys p.seen before → GoesOn q.keys q.seen before → EachComesNext (next p.terms) before → next p.terms before item)
    → next t.0.terms t.0.seen item
next_lawful_after_commit next p q t item holds may =
    subst (λ (x : Terms). next x t.0.seen item) (sym holds.terms.0) (may t.0.seen holds.goes.0 holds.goes.1 holds.lawful)

-- ---- what is left

-- the seat with the turn, after the addition or without it
pub record SatAfterCommit (t : Sat) (item : Record) (answer : Result ℕ WireRefusal) (a : Sat) : Type 0 where
  pub turn : HasTurn a
  pub terms : a.0.terms ≡ t.0.terms
  pub keys : a.0.keys ≡ t.0.keys
  pub ok : OnOk answer (a.0.seen ≡ t.0.seen ++ item ∷ [])
  pub err : OnErr answer (a.0.seen ≡ t.0.seen)

pub sat_after_commit_by_answer : (t : Sat) (item : Record) (answer : Result ℕ WireRefusal) (a : Sat) → HasTurn t → OnOk answer (AddsRecord t item a) → OnErr answer (a ≡ t)
    → SatAfterCommit t item answer a
sat_after_commit_by_answer t item (Ok n) a turn ok err = record { turn = ok.turn; terms = ok.terms; keys = ok.keys; ok = ok.seen; err = tt }
sat_after_commit_by_answer t item (Err e) a turn ok err = record {
  turn = subst HasTurn (sym err) turn;
  terms = ap (λ (m : Sat). m.0.terms) err;
  keys = ap (λ (m : Sat). m.0.keys) err;
  ok = tt;
  err = ap
      (λ (m : Sat). m.0.seen) err;
}

-- the two seats afterwards
pub record CommitLeavesSeats (p q : Known) (a m o : Sat) : Type 0 where
  pub idle : SeatIsIdle m × SeatIsIdle o
  pub keyed : (0 < length m.0.keys) × (0 < length o.0.keys)
  pub terms : (m.0.terms ≡ p.terms) × (o.0.terms ≡ q.terms)
  pub keys : (m.0.keys ≡ p.keys) × (o.0.keys ≡ q.keys)
  pub seen : (m.0.seen ≡ a.0.seen) × (o.0.seen ≡ a.0.seen)

pub commit_leaves_seats : (next : Terms → List Record → Record → Type 0) (p q : Known) (t : Sat) (item : Record) (answer : Result ℕ WireRefusal) (a g m o : Sat)
    → CommitHoldsRule next p q t → SatAfterCommit t item answer a
    → g ≡ (seat_view a.0.terms a.0.keys a.0.seen [] false, []) → Parts g m o → CommitLeavesSeats p q a m o
commit_leaves_seats next p q t item answer a g m o holds later gave parts =
    let keys : g.0.keys ≡ t.0.keys = ap (λ (x : Sat). x.0.keys) gave ∙ later.keys in
    let seen : g.0.seen ≡ a.0.seen = ap (λ (x : Sat). x.0.seen) gave in
    let terms : g.0.terms ≡ p.terms = ap (λ (x : Sat). x.0.terms) gave ∙ later.terms ∙ holds.terms.0 in
    let mine : m.0.keys ≡ p.keys = parts.keys ∙ ap (drop 1) keys ∙ holds.cut.1 in
    let theirs : o.0.keys ≡ q.keys = parts.other_keys ∙ ap (take 1) keys ∙ holds.cut.0 in record {
      idle = parts.idle;
      keyed = (subst (λ (ks : List SharerKey). 0 < length ks) (sym mine) holds.keyed.0, subst (λ (ks : List SharerKey). 0 < length ks) (sym theirs) holds.keyed.1);
      terms = (parts.terms ∙ terms, parts.other_terms ∙ terms ∙ sym holds.terms.1);
      keys = (mine, theirs);
      seen = (parts.seen ∙ seen, parts.other_seen ∙ seen);
    }

known_as : (p : Known) (wire : TableId) (v : SeatView) (views : List SeatView) (seen : List Record) → views ≡ v ∷ [] → wire ≡ p.wire → v.terms ≡ p.terms
    → v.keys ≡ p.keys → v.seen ≡ seen → known_by wire views ≡ record p { seen = seen }
known_as p wire v views seen one same terms keys is = ap (known_by wire) one ∙ (λ i. record { wire = same i; terms = terms i; keys = keys i; seen = is i })

-- what two badges tell then
pub record SeatsHaveTheirBadges (p q : Known) (m o : Sat) (mine theirs : TableId) (views others : List SeatView) : Type 0 where
  pub wires : (mine ≡ p.wire) × (theirs ≡ q.wire)
  pub one : (views ≡ m.0 ∷ []) × (others ≡ o.0 ∷ [])

pub commit_adds_record : (next : Terms → List Record → Record → Type 0) (p q : Known) (t : Sat) (item : Record) (answer : Result ℕ WireRefusal) (a m o : Sat)
    (mine theirs : TableId) (views others : List SeatView)
    → CommitHoldsRule next p q t → SatAfterCommit t item answer a → CommitLeavesSeats p q a m o → SeatsHaveTheirBadges p q m o mine theirs views others → IfOk answer (λ n. n ≡ length t.0.seen + 1)
    → OnOk answer (length t.0.seen < most_events_of_run)
    → IfOk answer (λ n. Committed (next p.terms) p q item n (known_by mine views) (known_by theirs others))
commit_adds_record next p q t item (Ok n) a m o mine theirs views others holds later left badges number room = record {
  before = t.0.seen;
  room = room;
  number = number;
  pass = holds.goes.0;
  share = holds.goes.1;
  lawful = holds.lawful;
  pass_after = known_as p mine m.0 views (t.0.seen ++ item ∷ []) badges.one.0 badges.wires.0 left.terms.0 left.keys.0 (left.seen.0 ∙ later.ok);
  share_after = known_as q theirs o.0 others (t.0.seen ++ item ∷ []) badges.one.1 badges.wires.1 left.terms.1 left.keys.1 (left.seen.1 ∙ later.ok);
}
commit_adds_record next p q t item (Err e) a m o mine theirs views others holds later left badges number room = tt

pub commit_refused_keeps_seats : (next : Terms → List Record → Record → Type 0) (p q : Known) (t : Sat) (item : Record) (answer : Result ℕ WireRefusal) (a m o : Sat)
    (mine theirs : TableId) (views others : List SeatView)
    → CommitHoldsRule next p q t → SatAfterCommit t item answer a → CommitLeavesSeats p q a m o → SeatsHaveTheirBadges p q m o mine theirs views others
    → OnErr answer (Sees p (known_by mine views) × Sees q (known_by theirs others))
commit_refused_keeps_seats next p q t item (Ok n) a m o mine theirs views others holds later left badges = tt
commit_refused_keeps_seats next p q t item (Err e) a m o mine theirs views others holds later left badges = (
  pass_sees_view_of_seat p mine m.0 views badges.one.0 badges.wires.0 left.terms.0 left.keys.0 (subst (GoesOn p.keys p.seen) (sym (left.seen.0 ∙ later.err)) holds.goes.0),
  pass_sees_view_of_seat q theirs o.0 others badges.one.1 badges.wires.1 left.terms.1 left.keys.1 (subst (GoesOn q.keys q.seen) (sym (left.seen.1 ∙ later.err)) holds.goes.1),
)

-- all that is seen then follows
pub seen_lawful_after_commit : (next : Terms → List Record → Record → Type 0) (p q : Known) (t : Sat) (item : Record) (answer : Result ℕ WireRefusal) (a m o : Sat)
    (wire : TableId)
    (views : List SeatView) → CommitHoldsRule next p q t → SatAfterCommit t item answer a → CommitLeavesSeats p q a m o → views ≡ m.0 ∷ [] → next t.0.terms t.0.seen item
    → EachComesNext (next p.terms) (known_by wire views).seen
seen_lawful_after_commit next p q t item (Ok n) a m o wire views holds later left one its =
    subst (λ (vs : List SeatView). EachComesNext (next p.terms) (known_by wire vs).seen) (sym one) (subst (EachComesNext (next p.terms)) (sym (left.seen.0 ∙ later.ok))
    (log_follows_with_next_record (next p.terms) t.0.seen item holds.lawful (subst (λ (x : Terms). next x t.0.seen item) holds.terms.0 its)))
seen_lawful_after_commit next p q t item (Err e) a m o wire views holds later left one its =
    subst (λ (vs : List SeatView). EachComesNext (next p.terms) (known_by wire vs).seen) (sym one)
    (subst (EachComesNext (next p.terms)) (sym (left.seen.0 ∙ later.err)) holds.lawful)
