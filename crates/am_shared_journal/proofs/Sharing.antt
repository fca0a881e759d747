-- Looking at the count, splitting and joining seats keep the rule of a wire; how it begins, and what its last seat finds.
use Rattle.am_shared_journal.proofs.Words.{◌≡◌, ℕ, zero, suc, ◌+◌, ◌<◌, ◌≤◌, Bool, cond, true, false, true≢false, List, [], ◌∷◌, ◌++◌, length, take, drop, map, set}
use Rattle.am_shared_journal.proofs.Words.{sym, refl, ap, ◌∙◌, subst, inl, inr, arith, append-nil, length-append, eq-eqb, slice_index, All, if◌then◌else◌, most_events_of_run}
use Rattle.am_shared_journal.proofs.Words.{none, some, some-injective, some-ne-none, get_elem?, lt-ltb, take-append-drop, length-take, mod-lt, step, opening, keeps}
use Rattle.am_shared_journal.proofs.Words.{Allows, Splits, Joins, Final, Seen, rest, at_set, at_snoc, set_else, place_of_name, Record, SharerKey, Place, Caller, Sight, Terms}
use Rattle.am_shared_journal.proofs.Words.{SeatView, is_of, of_key, same_key, times, all_keys, Page, seat_view, sight_of, no_terms, longer_list, StartsWith, GoesOn, EachComesNext, ShownJournal}
use Rattle.am_shared_journal.proofs.Words.{Sat, seats_with_key, Fits, Stands, SeatLooks, look_step, Unites, HasEachKey, log_is_start_and_rest, of_key_of_append, records_go_on_to_themselves, times_of_append, times_of_cons}
use Rattle.am_shared_journal.proofs.Words.{BothRecordsGoOn, both_records_go_on}
use Rattle.am_shared_journal.proofs.Views.{standing_after_set_view, standing_after_pushed_view}
use Rattle.am_shared_journal.proofs.Keeps.{page_of_shared_records, set_of_equal_count_word, keys_of_wire_stay_once, empty_list_is_no_append, nothing_older_is_fine, view_fits_without_turn, turns_stay_by_set, turns_stay_by_push, turns_stay_through_both, rule_kept_with_equal_turns, key_stands_in_one_view}
use Rattle.am_shared_journal.proofs.Keeps.{view_key_is_wire_key, beginning_of_lawful_log_follows}
use Rattle.am_shared_journal.proofs.{Dealt.each_key_dealt_once}

-- ---- looking

no_longer : (log seen : List Record) → StartsWith log seen → length log ≤ most_events_of_run → length seen ≤ most_events_of_run
no_longer log seen begins most = omega (arith, length-take (length seen) log, ap length begins)

pub rule_allows_look_at_count : (next : Terms → List Record → Record → Type 0) (terms : Terms) (slots id : ℕ) (me : Sat) → me.0.turn ≡ false → me.1 ≡ []
    → Allows (Stands next terms) slots id me 1 (λ n. n) (look_step next (step slots 1 0 0 none) me)
rule_allows_look_at_count next terms slots id me off empty s k len at small =
    let mine = k.fits id me.0 at in
    let new : SeatView = seat_view me.0.terms me.0.keys me.0.seen [] false in
    let x : ℕ = slice_index s.words 1 in
    let same_words : set s.words 1 x ≡ s.words = set_of_equal_count_word s.words x k.two refl in (
      new,
      keeps,
      tt,
      subst (λ (ws : List ℕ). Stands next terms (record { words = ws; homes = s.homes; views = set s.views id new })) (sym same_words)
          (rule_kept_with_equal_turns next terms s k (set s.views id new) (keys_of_wire_stay_once next terms s k id me.0 new at refl)
          (λ j v here. elim (at_set s.views id j new v here) [
            | inl t ↦ subst (Fits terms k.log) t.1 (view_fits_without_turn terms k.log me.0 mine)
            | inr t ↦ k.fits j v t.1
          ])
          (turns_stay_by_set s.views id me.0 new at off refl)),
      record {
        same = ap (λ (c : List (ℕ × Page)). (new, c)) empty;
        goes = mine.older;
        lawful = λ keyed. subst (λ (t : Terms). EachComesNext (next t) me.0.seen) (sym (mine.founded keyed))
            (beginning_of_lawful_log_follows (next terms) k.log me.0.seen mine.goes.begins k.lawful);
        few = no_longer k.log me.0.seen mine.goes.begins k.most;
      },
    )

-- ---- splitting

some_left : (keys : List SharerKey) → 0 < length (drop 1 keys) → 0 < length keys
some_left [] h = absurd (omega arith)
some_left (x ∷ xs) h = omega arith

cut_keys : (key : SharerKey) (keys : List SharerKey) → times key keys ≡ times key (take 1 keys) + times key (drop 1 keys)
cut_keys key keys = ap (times key) (sym (take-append-drop 1 keys)) ∙ times_of_append key (take 1 keys) (drop 1 keys)

some_of : (keys : List SharerKey) → 0 < length (take 1 keys) → 0 < length keys
some_of [] h = absurd (omega arith)
some_of (x ∷ xs) h = omega arith

pub rule_allows_split_of_seat : (next : Terms → List Record → Record → Type 0) (terms : Terms) (id : ℕ) (v : SeatView) → v.turn ≡ false
    → Splits (Stands next terms) id v (seat_view v.terms (drop 1 v.keys) v.seen v.older v.turn) (seat_view v.terms (take 1 v.keys) v.seen [] false)
rule_allows_split_of_seat next terms id v off s k at =
    let mine = k.fits id v at in
    let left : SeatView = seat_view v.terms (drop 1 v.keys) v.seen v.older v.turn in
    let right : SeatView = seat_view v.terms (take 1 v.keys) v.seen [] false in
    let cut : List SeatView = set s.views id left in
    rule_kept_with_equal_turns next terms s k (cut ++ right ∷ [])
    (λ key. let a = standing_after_set_view key s.views id v left at in let b = standing_after_pushed_view key cut right in let c = cut_keys key v.keys in let o = k.once key in omega arith)
    (λ j u here. elim (at_snoc cut right u j here) [
      | inl old ↦ elim (at_set s.views id j left u old) [
        | inl t ↦ subst (Fits terms k.log) t.1 (record {
          goes = record { begins = mine.goes.begins; own = λ key h. mine.goes.own key (let c = cut_keys key v.keys in omega arith) };
          older = mine.older;
          founded = λ h. mine.founded (some_left v.keys h);
          whole = mine.whole;
          keyed = λ bad. absurd (true≢false (sym bad ∙ off));
        })
        | inr t ↦ k.fits j u t.1
      ]
      | inr new ↦ subst (Fits terms k.log) new (record {
        goes = record { begins = mine.goes.begins; own = λ key h. mine.goes.own key (let c = cut_keys key v.keys in omega arith) };
        older = nothing_older_is_fine _;
        founded = λ h. mine.founded (some_of v.keys h);
        whole = λ bad. absurd (true≢false (sym bad));
        keyed = λ bad. absurd (true≢false (sym bad));
      })
    ])
    (turns_stay_through_both s.views cut (cut ++ right ∷ []) (turns_stay_by_set s.views id v left at off off) (turns_stay_by_push cut right refl))

-- ---- joining

both_older : (P : Sight → Type 0) (a b : Sight) → P a → P b → All P (a ∷ b ∷ [])
both_older P a b p q zero d h = p
both_older P a b p q (suc zero) d h = q
both_older P a b p q (suc (suc k)) d h = absurd (omega arith)

pub rule_allows_join_of_seats : (next : Terms → List Record → Record → Type 0) (terms : Terms) (id other : ℕ) (v w : SeatView) → v.turn ≡ false → w.turn ≡ false → 0 < length v.keys
    → Joins (Stands next terms) id v other w (seat_view v.terms (w.keys ++ v.keys) (longer_list v.seen w.seen) (sight_of v ∷ sight_of w ∷ []) false)
    (seat_view no_terms [] [] [] false)
rule_allows_join_of_seats next terms id other v w off gone keyed s k at apart there =
    let seen : List Record = longer_list v.seen w.seen in
    let both : SeatView = seat_view v.terms (w.keys ++ v.keys) seen (sight_of v ∷ sight_of w ∷ []) false in
    let spent : SeatView = seat_view no_terms [] [] [] false in
    let one : List SeatView = set s.views id both in
    let old_w : get_elem? s.views other ≡ some w = sym (set_else s.views id other both apart) ∙ there in
    let mine = k.fits id v at in
    let its = k.fits other w old_w in
    let go : BothRecordsGoOn v.keys w.keys v.seen w.seen seen k.log = both_records_go_on v.keys w.keys v.seen w.seen k.log mine.goes its.goes in
    rule_kept_with_equal_turns next terms s k (set one other spent)
    (λ key.
    let a = standing_after_set_view key s.views id v both at in
    let b = standing_after_set_view key one other w spent there in
    let c = times_of_append key w.keys v.keys in
    let none_left : times key [] ≡ 0 = refl in
    let o = k.once key in
    omega arith)
    (λ j u here. elim (at_set one other j spent u here) [
      | inl t ↦ subst (Fits terms k.log) t.1 (record {
        goes = record { begins = refl; own = λ key h. absurd (omega arith) };
        older = nothing_older_is_fine _;
        founded = λ h. absurd (omega arith);
        whole = λ bad. absurd (true≢false (sym bad));
        keyed = λ bad. absurd (true≢false (sym bad));
      })
      | inr t ↦ elim (at_set s.views id j both u t.1) [
        | inl e ↦ subst (Fits terms k.log) e.1 (record {
          goes = go.both;
          older = both_older (λ o. GoesOn o.keys o.seen seen) (sight_of v) (sight_of w) go.first go.second;
          founded = λ h. mine.founded keyed;
          whole = λ bad. absurd (true≢false (sym bad));
          keyed = λ bad. absurd (true≢false (sym bad));
        })
        | inr e ↦ k.fits j u e.1
      ]
    ])
    (turns_stay_through_both s.views one (set one other spent) (turns_stay_by_set s.views id v both at off refl) (turns_stay_by_set one other w spent there gone refl))

-- ---- the end

all_rest : (seen rest : List Record)
    → ((r : Record) → of_key (Place (place_of_name r.event.node)) (seen ++ rest) ≡ of_key (Place (place_of_name r.event.node)) seen) → rest ≡ []
all_rest seen [] same = refl
all_rest seen (r ∷ rest) same =
    let key : SharerKey = Place (place_of_name r.event.node) in
    let its : is_of key r ≡ true = eq-eqb (place_of_name r.event.node) (place_of_name r.event.node) refl in
    let first : of_key key (r ∷ rest) ≡ r ∷ of_key key rest = ap (λ (b : Bool). cond b (r ∷ of_key key rest) (of_key key rest)) its in
    let whole : of_key key (seen ++ (r ∷ rest)) ≡ of_key key seen ++ (r ∷ of_key key rest) = of_key_of_append key seen (r ∷ rest)
    ∙ ap (λ (l : List Record). of_key key seen ++ l) first in
    let e : length (of_key key seen ++ (r ∷ of_key key rest)) ≡ length (of_key key seen) = ap length (sym whole ∙ same r) in
    let n = length-append (of_key key seen) (r ∷ of_key key rest) in
    let c : length (r ∷ of_key key rest) ≡ suc (length (of_key key rest)) = refl in
    absurd (omega arith)

first_of : (keys : List SharerKey) → 0 < length keys → (key : SharerKey) × (0 < times key keys)
first_of [] h = absurd (omega arith)
first_of (key ∷ keys) h = (key, let e = times_of_cons key key keys in let o = one_if (same_key key key) (same_as_itself key) in omega arith)
  where
    one_if : (b : Bool) → b ≡ true → 0 < (if b then 1 else 0)
    one_if true is = omega arith
    one_if false is = absurd (true≢false (sym is))

    same_as_itself : (key : SharerKey) → same_key key key ≡ true
    same_as_itself (Place place) = eq-eqb place place refl
    same_as_itself (Caller caller) = eq-eqb caller caller refl

-- the seat with all keys has seen the whole journal, which lies at home
record Ends (next : Terms → List Record → Record → Type 0) (terms : Terms) (s : ShownJournal) (v : SeatView) : Type 0 where
  pub home : s.homes ≡ some (page_of_shared_records terms v.seen) ∷ []
  pub callers : All (λ r. r.by.caller < terms.callers) v.seen
  pub lawful : EachComesNext (next terms) v.seen

saw_all : (next : Terms → List Record → Record → Type 0) (terms : Terms) (s : ShownJournal) (k : Stands next terms s) (id : ℕ) (v : SeatView)
    → get_elem? s.views id ≡ some v → HasEachKey terms.callers v.keys → k.log ≡ v.seen
saw_all next terms s k id v at all =
    let goes = (k.fits id v at).goes in
    let is : k.log ≡ v.seen ++ drop (length v.seen) k.log = log_is_start_and_rest k.log v.seen goes.begins in
    is ∙ ap (λ (l : List Record). v.seen ++ l) (all_rest v.seen (drop (length v.seen) k.log) (λ r.
    let key : SharerKey = Place (place_of_name r.event.node) in
    ap (of_key key) (sym is) ∙ goes.own key (all key (lt-ltb (place_of_name r.event.node) 16 (mod-lt r.event.node (omega arith)))))) ∙ append-nil v.seen

ends : (next : Terms → List Record → Record → Type 0) (terms : Terms) (s : ShownJournal) → Stands next terms s → (id : ℕ) (v : SeatView)
    → get_elem? s.views id ≡ some v → v.turn ≡ false
    → HasEachKey terms.callers v.keys → Ends next terms s v
ends next terms s k id v at off all =
    let whole : k.log ≡ v.seen = saw_all next terms s k id v at all in
    elim k.turn [
      | inl free ↦ record {
        home = free.home ∙ ap (λ (l : List Record). some (page_of_shared_records terms l) ∷ []) whole;
        callers = subst (All (λ (r : Record). r.by.caller < terms.callers)) whole k.callers;
        lawful = subst (EachComesNext (next terms)) whole k.lawful;
      }
      | inr taken ↦
          let key = first_of taken.its.keys ((k.fits taken.holder taken.its taken.there).keyed taken.has) in
          let has = all key.0 (view_key_is_wire_key next terms s k key.0 taken.holder taken.its taken.there key.1) in
          absurd (key_stands_in_one_view next terms s k key.0 taken.holder id taken.its v (λ e. true≢false (sym taken.has
          ∙ ap (λ (u : SeatView). u.turn) (some-injective taken.its v (sym taken.there ∙ ap (get_elem? s.views) e ∙ at)) ∙ off)) taken.there at key.1 has)
    ]

-- what the slot holds then
pub last_view_closes_wire : (next : Terms → List Record → Record → Type 0) (terms : Terms) (id : ℕ) (v : SeatView) → v.turn ≡ false → HasEachKey terms.callers v.keys
    → (words : List ℕ) (pages : List Page)
    → Final (Seen (Stands next terms) id v) words pages
    → (last : Page) → get_elem? pages 0 ≡ some last → (last ≡ page_of_shared_records terms v.seen) × All (λ r. r.by.caller < terms.callers) v.seen × EachComesNext (next terms) v.seen
last_view_closes_wire next terms id v off all words pages (s, seen, same_words, same_slots, homes) last at =
    let e = ends next terms s seen.0 id v seen.1 off all in
    let there : get_elem? pages 0 ≡ some (page_of_shared_records terms v.seen) = homes 0 (page_of_shared_records terms v.seen) (ap (λ hs. get_elem? hs 0) e.home) in
    (some-injective last (page_of_shared_records terms v.seen) (sym at ∙ there), e.callers, e.lawful)

-- ---- what calls say of it

both_keyed : (keys others : List SharerKey) → 0 < length keys → 0 < length (others ++ keys)
both_keyed keys others h = omega (arith, length-append others keys)

unites_after : (next : Terms → List Record → Record → Type 0) (v w : SeatView) (m' : Sat) → 0 < length v.keys
    → SeatLooks next (seat_view v.terms (w.keys ++ v.keys) (longer_list v.seen w.seen) (sight_of v ∷ sight_of w ∷ []) false, []) m' → Unites next v w m'
unites_after next v w m' keyed l = subst (Unites next v w) (sym l.same) (record {
  idle = record { turn = refl; older = refl; empty = refl };
  terms = refl;
  lawful = l.lawful (both_keyed v.keys w.keys keyed);
  few = l.few;
  keys = refl;
  seen = refl;
  mine = l.goes 0 (sight_of v) (omega arith);
  theirs = l.goes 1 (sight_of v) (omega arith);
})

pub joined_views_unite : (next : Terms → List Record → Record → Type 0) (v w : SeatView) (carry : List (ℕ × Page)) (m m' : Sat) → 0 < length v.keys
    → m ≡ (seat_view v.terms (w.keys ++ v.keys) (longer_list v.seen w.seen) (sight_of v ∷ sight_of w ∷ []) false, carry) → carry ≡ []
    → SeatLooks next m m' → Unites next v w m'
joined_views_unite next v w carry m m' keyed is empty looks =
    let both : SeatView = seat_view v.terms (w.keys ++ v.keys) (longer_list v.seen w.seen) (sight_of v ∷ sight_of w ∷ []) false in
    unites_after next v w m' keyed (subst (λ (x : Sat). SeatLooks next x m') (is ∙ ap (λ (x : List (ℕ × Page)). (both, x)) empty) looks)

-- ---- the start

at_first : (views : List SeatView) (v : SeatView) → views ≡ v ∷ [] → (id : ℕ) (u : SeatView) → get_elem? views id ≡ some u → v ≡ u
at_first views v is zero u at = some-injective v u (sym (ap (λ (l : List SeatView). get_elem? l 0) is) ∙ at)
at_first views v is (suc id) u at = absurd (some-ne-none u (sym at ∙ ap (λ (l : List SeatView). get_elem? l (suc id)) is))

first_standing : (key : SharerKey) (v : SeatView) (n : ℕ) → times key v.keys ≡ n → seats_with_key key (v ∷ []) ≡ n
first_standing key v n is = let l = standing_after_pushed_view key [] v in let z : seats_with_key key [] ≡ 0 = refl in
    let l' : seats_with_key key (v ∷ []) ≡ seats_with_key key [] + times key v.keys = l in omega arith

pub first_view_opens_wire : (next : Terms → List Record → Record → Type 0) (terms : Terms) (pages : List Page) → pages ≡ record { founding = terms.founding; records = [] } ∷ []
    → Stands next terms (opening (0 ∷ 0 ∷ []) pages (seat_view terms (all_keys terms.callers) [] [] false))
first_view_opens_wire next terms pages is =
    let v : SeatView = seat_view terms (all_keys terms.callers) [] [] false in record {
      log = [];
      two = refl;
      count = refl;
      most = omega arith;
      lawful = λ before rest r e. absurd (empty_list_is_no_append before rest r e);
      callers = λ k d h. absurd (omega arith);
      once = λ key. first_standing key v _ (each_key_dealt_once terms.callers key);
      fits = λ id u at. subst (Fits terms []) (at_first (v ∷ []) v refl id u at) (record {
        goes = records_go_on_to_themselves (all_keys terms.callers) [];
        older = nothing_older_is_fine _;
        founded = λ h. refl;
        whole = λ bad. absurd (true≢false (sym bad));
        keyed = λ bad. absurd (true≢false (sym bad));
      });
      turn = inl (record {
        word = refl;
        home = ap (map some) is;
        nobody = λ id u at. ap (λ (x : SeatView). x.turn) (sym (at_first (v ∷ []) v refl id u at));
      });
    }
