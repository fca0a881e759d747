-- What a pass tells of its seat.
use Rattle.am_shared_journal.proofs.Words.{◌≡◌, ◌<◌, ◌≤◌, List, [], ◌∷◌, ◌++◌, length, take, drop, sym, refl, ap, ◌∙◌, subst, arith, most_events_of_run}
use Rattle.am_shared_journal.proofs.Words.{TableId, Terms, SeatView, Record, SharerKey, Sat, longer_list, GoesOn, EachComesNext, SeatIsIdle, Unites, Parts, Known, known_by, OneSeatRests}
use Rattle.am_shared_journal.proofs.Words.{Sees}

-- the seat of a pass between two calls
pub record PassSitsAtSeat (p : Known) (id : TableId) (m : Sat) : Type 0 where
  pub wire : p.wire ≡ id
  pub terms : p.terms ≡ m.0.terms
  pub keys : p.keys ≡ m.0.keys
  pub seen : p.seen ≡ m.0.seen
  pub idle : SeatIsIdle m
  pub keyed : 0 < length m.0.keys

pub pass_sits_at_seat : (p : Known) (id : TableId) (views : List SeatView) (m : Sat) → p ≡ known_by id views → OneSeatRests views → views ≡ m.0 ∷ [] → m.1 ≡ [] → PassSitsAtSeat p id m
pass_sits_at_seat p id views m is rests one empty =
    let known : p ≡ known_by id (m.0 ∷ []) = is ∙ ap (known_by id) one in
    let its : rests.its ≡ m.0 = ap (head rests.its) (sym rests.one ∙ one) in record {
      wire = ap (λ (x : Known). x.wire) known;
      terms = ap (λ (x : Known). x.terms) known;
      keys = ap (λ (x : Known). x.keys) known;
      seen = ap (λ (x : Known). x.seen) known;
      idle = record {
        turn = ap (λ (v : SeatView). v.turn) (sym its) ∙ rests.turn;
        older = ap (λ (v : SeatView). v.older) (sym its) ∙ rests.older;
        empty = empty;
      };
      keyed = subst (λ (v : SeatView). 0 < length v.keys) its rests.keyed;
    }
  where
    head : SeatView → List SeatView → SeatView
    head v [] = v
    head v (u ∷ us) = u

-- the badge of an idle seat
pub idle_seat_rests : (m : Sat) (views : List SeatView) → SeatIsIdle m → 0 < length m.0.keys → views ≡ m.0 ∷ [] → OneSeatRests views
idle_seat_rests m views idle keyed one = record { its = m.0; one = one; turn = idle.turn; older = idle.older; keyed = keyed }

-- ---- between the two: what a pass sees

pub pass_sees_view_of_seat : (p : Known) (wire : TableId) (v : SeatView) (views : List SeatView) → views ≡ v ∷ [] → wire ≡ p.wire → v.terms ≡ p.terms → v.keys ≡ p.keys
    → GoesOn p.keys p.seen v.seen → Sees p (known_by wire views)
pass_sees_view_of_seat p wire v views one same terms keys goes = subst (λ (vs : List SeatView). Sees p (known_by wire vs)) (sym one)
    (record { wire = same; terms = terms; keys = keys; goes = goes })

pub records_go_on_equal_keys : (keys keys' : List SharerKey) (seen seen' log log' : List Record) → keys ≡ keys' → seen ≡ seen' → log ≡ log' → GoesOn keys seen log
    → GoesOn keys' seen' log'
records_go_on_equal_keys keys keys' seen seen' log log' k s l g = subst (λ (x : List Record). GoesOn keys' seen' x) l
    (subst (λ (x : List Record). GoesOn keys' x log) s (subst (λ (x : List SharerKey). GoesOn x seen log) k g))

-- two that met
pub first_key_splits_off : (keys others : List SharerKey) → length keys ≡ 1 → (take 1 (keys ++ others) ≡ keys) × (drop 1 (keys ++ others) ≡ others)
first_key_splits_off [] others e = absurd (omega arith)
first_key_splits_off (key ∷ []) others e = (refl, refl)
first_key_splits_off (key ∷ more ∷ keys) others e = absurd (omega arith)

pub record PassesMeetAtSeat (next : Terms → List Record → Record → Type 0) (p q : Known) (m o : Sat) : Type 0 where
  pub idle : SeatIsIdle m × SeatIsIdle o
  pub keyed : (0 < length m.0.keys) × (0 < length o.0.keys)
  pub terms : (m.0.terms ≡ p.terms) × (o.0.terms ≡ q.terms)
  pub lawful : EachComesNext (next p.terms) m.0.seen
  pub few : length m.0.seen ≤ most_events_of_run
  pub keys : (m.0.keys ≡ p.keys) × (o.0.keys ≡ q.keys)
  pub goes : GoesOn p.keys p.seen m.0.seen × GoesOn q.keys q.seen o.0.seen
  pub longer : m.0.seen ≡ longer_list p.seen q.seen
  pub both : o.0.seen ≡ m.0.seen

pub passes_meet_at_seat : (next : Terms → List Record → Record → Type 0) (p q : Known) (id other : TableId) (s r u m o : Sat) → PassSitsAtSeat p id s → PassSitsAtSeat q other r
    → q.terms ≡ p.terms
    → length q.keys ≡ 1 → Unites next s.0 r.0 u → Parts u m o → PassesMeetAtSeat next p q m o
passes_meet_at_seat next p q id other s r u m o sits its agree one unites parts =
    let terms : u.0.terms ≡ p.terms = unites.terms ∙ sym sits.terms in
    let single : length r.0.keys ≡ 1 = ap length (sym its.keys) ∙ one in
    let cut = first_key_splits_off r.0.keys s.0.keys single in
    let m_keys : m.0.keys ≡ s.0.keys = parts.keys ∙ ap (drop 1) unites.keys ∙ cut.1 in
    let o_keys : o.0.keys ≡ r.0.keys = parts.other_keys ∙ ap (take 1) unites.keys ∙ cut.0 in record {
      idle = parts.idle;
      keyed = (subst (λ (ks : List SharerKey). 0 < length ks) (sym m_keys) sits.keyed, subst (λ (ks : List SharerKey). 0 < length ks) (sym o_keys) its.keyed);
      terms = (parts.terms ∙ terms, parts.other_terms ∙ terms ∙ sym agree);
      lawful = subst (EachComesNext (next p.terms)) (sym parts.seen) (subst (λ (x : Terms). EachComesNext (next x) u.0.seen) terms unites.lawful);
      few = subst (λ (rs : List Record). length rs ≤ most_events_of_run) (sym parts.seen) unites.few;
      keys = (m_keys ∙ sym sits.keys, o_keys ∙ sym its.keys);
      goes = (
        records_go_on_equal_keys s.0.keys p.keys s.0.seen p.seen u.0.seen m.0.seen (sym sits.keys) (sym sits.seen) (sym parts.seen) unites.mine,
        records_go_on_equal_keys r.0.keys q.keys r.0.seen q.seen u.0.seen o.0.seen (sym its.keys) (sym its.seen) (sym parts.other_seen) unites.theirs,
      );
      longer = parts.seen ∙ unites.seen ∙ ap (λ (l : List Record). longer_list l r.0.seen) (sym sits.seen) ∙ ap (longer_list p.seen) (sym its.seen);
      both = parts.other_seen ∙ sym parts.seen;
    }
