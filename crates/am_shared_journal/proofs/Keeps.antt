-- Taking the slot, giving it back and counting a record keep the rule of a wire.
use Rattle.am_shared_journal.proofs.Words.{◌≡◌, ◌≢◌, ◌⊎◌, ℕ, zero, suc, ◌+◌, ◌%◌, ◌^◌, ◌<◌, ◌≤◌, Bool, cond, true, false, true≢false, eqb, List, [], ◌∷◌, ◌++◌, length}
use Rattle.am_shared_journal.proofs.Words.{take, drop, set, sym, refl, ap, ◌∙◌, subst, inl, inr, arith, append-nil, append_assoc, length-append, ap₂, slice_index, All}
use Rattle.am_shared_journal.proofs.Words.{if◌then◌else◌, most_events_of_run, Option, none, some, some-injective, some-ne-none, get_elem?, either, ltb-true, eqb-true}
use Rattle.am_shared_journal.proofs.Words.{take-append_seam, drop-append_seam, All-append, step, keeps, takes, gives, stepped, Allows, put_back, rest, at_set, at_snoc}
use Rattle.am_shared_journal.proofs.Words.{at_longer, set_again, set_else, place_of_name, Record, SharerKey, Place, Caller, Sight, Terms, SeatView, is_of, of_key, times, is_key}
use Rattle.am_shared_journal.proofs.Words.{Page, seat_view, StartsWith, EachComesNext, ShownJournal, Sat, seats_with_key, Fits, IsFree, IsTaken, Stands, SeatIsIdle, HasTurn, take_step}
use Rattle.am_shared_journal.proofs.Words.{page_records, count_step, give_step, log_is_start_and_rest, append_starts_with_front, starts_with_through_both, of_key_of_append, records_go_on_to_themselves}
use Rattle.am_shared_journal.proofs.Views.{standing_after_set_view, keys_of_view_le_standing, two_view_keys_le_standing}

abbrev pub page_of_shared_records : Terms → List Record → Page
page_of_shared_records terms log = record { founding = terms.founding; records = log }

-- ---- two words

-- with another word at one of the two places
record Written (ws : List ℕ) (n place other : ℕ) : Type 0 where
  two : length (set ws place n) ≡ 2
  here : slice_index (set ws place n) place ≡ n
  there : slice_index (set ws place n) other ≡ slice_index ws other

written : (ws : List ℕ) (n : ℕ) → length ws ≡ 2 → Written ws n 0 1 × Written ws n 1 0
written [] n e = absurd (omega arith)
written (a ∷ []) n e = absurd (omega arith)
written (a ∷ b ∷ []) n e = (record { two = refl; here = refl; there = refl }, record { two = refl; here = refl; there = refl })
written (a ∷ b ∷ c ∷ ws) n e = absurd (omega arith)

same_word : (ws : List ℕ) (n : ℕ) → length ws ≡ 2 → slice_index ws 0 ≡ n → set ws 0 n ≡ ws
same_word [] n e is = absurd (omega arith)
same_word (a ∷ []) n e is = absurd (omega arith)
same_word (a ∷ b ∷ []) n e is = λ i. sym is i ∷ b ∷ []
same_word (a ∷ b ∷ c ∷ ws) n e is = absurd (omega arith)

pub set_of_equal_count_word : (ws : List ℕ) (n : ℕ) → length ws ≡ 2 → slice_index ws 1 ≡ n → set ws 1 n ≡ ws
set_of_equal_count_word [] n e is = absurd (omega arith)
set_of_equal_count_word (a ∷ []) n e is = absurd (omega arith)
set_of_equal_count_word (a ∷ b ∷ []) n e is = λ i. a ∷ sym is i ∷ []
set_of_equal_count_word (a ∷ b ∷ c ∷ ws) n e is = absurd (omega arith)

not_true : (b : Bool) → (b ≡ true → ⊥) → b ≡ false
not_true true never = absurd (never refl)
not_true false never = refl

-- ---- views

new_there : (vs : List SeatView) (id : ℕ) (v w : SeatView) → get_elem? vs id ≡ some v → get_elem? (set vs id w) id ≡ some w
new_there [] id v w at = absurd (some-ne-none v (sym at))
new_there (x ∷ vs) zero v w at = refl
new_there (x ∷ vs) (suc id) v w at = new_there vs id v w at

-- a seat's view is another one, with the same keys
pub keys_of_wire_stay_once : (next : Terms → List Record → Record → Type 0) (terms : Terms) (s : ShownJournal) (k : Stands next terms s) (id : ℕ) (v w : SeatView)
    → get_elem? s.views id ≡ some v → w.keys ≡ v.keys
    → (key : SharerKey) → seats_with_key key (set s.views id w) ≡ (if is_key terms.callers key then 1 else 0)
keys_of_wire_stay_once next terms s k id v w at same key =
    let e = standing_after_set_view key s.views id v w at in
    let f : times key w.keys ≡ times key v.keys = ap (times key) same in
    let o = k.once key in
    omega arith

pub empty_list_is_no_append : (before rest : List Record) (r : Record) → [] ≡ before ++ r ∷ rest → ⊥
empty_list_is_no_append before rest r e = let n : length (before ++ r ∷ rest) ≡ 0 = ap length (sym e) in omega (arith, length-append before (r ∷ rest))

pub nothing_older_is_fine : (P : Sight → Type 0) → All P []
nothing_older_is_fine P = λ k d h. absurd (omega arith)

-- what a seat has seen, without the turn
pub view_fits_without_turn : (terms : Terms) (log : List Record) (v : SeatView) → Fits terms log v → Fits terms log (seat_view v.terms v.keys v.seen [] false)
view_fits_without_turn terms log v fits = record {
  goes = fits.goes;
  older = nothing_older_is_fine _;
  founded = fits.founded;
  whole = λ bad. absurd (true≢false (sym bad));
  keyed = λ bad. absurd (true≢false (sym bad));
}

-- the whole journal, as the seat with the turn sees it
all_seen : (terms : Terms) (log old : List Record) (v : SeatView) → Fits terms old v → 0 < length v.keys → Fits terms log (seat_view v.terms v.keys log [] true)
all_seen terms log old v fits keyed = record {
  goes = records_go_on_to_themselves v.keys log;
  older = nothing_older_is_fine _;
  founded = fits.founded;
  whole = λ is. refl;
  keyed = λ is. keyed;
}

-- ---- views alone change

-- the seats with the turn are the same
pub TurnsOfViewsAreSame : List SeatView → List SeatView → Type 0
TurnsOfViewsAreSame vs ws = (id : ℕ) (u : SeatView) → u.turn ≡ true → (get_elem? vs id ≡ some u → get_elem? ws id ≡ some u) ×
    (get_elem? ws id ≡ some u → get_elem? vs id ≡ some u)

pub turns_stay_by_set : (vs : List SeatView) (id : ℕ) (v w : SeatView) → get_elem? vs id ≡ some v → v.turn ≡ false → w.turn ≡ false → TurnsOfViewsAreSame vs (set vs id w)
unfolding TurnsOfViewsAreSame
turns_stay_by_set vs id v w at off gone = λ j u has. (
  (λ here. set_else vs id j w (λ is. let e : some v ≡ some u = sym at ∙ ap (get_elem? vs) (sym is) ∙ here in absurd (true≢false (sym has
      ∙ ap (λ (x : SeatView). x.turn) (sym (some-injective v u e)) ∙ off))) ∙ here),
  λ here. elim (at_set vs id j w u here) [
    | inl t ↦ absurd (true≢false (sym has ∙ ap (λ (x : SeatView). x.turn) (sym t.1) ∙ gone))
    | inr t ↦ t.1
  ],
)

pub turns_stay_by_push : (vs : List SeatView) (w : SeatView) → w.turn ≡ false → TurnsOfViewsAreSame vs (vs ++ w ∷ [])
unfolding TurnsOfViewsAreSame
turns_stay_by_push vs w off = λ j u has. (
  (λ here. at_longer vs (w ∷ []) j u here),
  λ here. elim (at_snoc vs w u j here) [
    | inl old ↦ old
    | inr new ↦ absurd (true≢false (sym has ∙ ap (λ (x : SeatView). x.turn) (sym new) ∙ off))
  ],
)

pub turns_stay_through_both : (us vs ws : List SeatView) → TurnsOfViewsAreSame us vs → TurnsOfViewsAreSame vs ws → TurnsOfViewsAreSame us ws
unfolding TurnsOfViewsAreSame
turns_stay_through_both us vs ws p q = λ j u has. ((λ here. (q j u has).0 ((p j u has).0 here)), λ here. (p j u has).1 ((q j u has).1 here))

-- the rule of the same journal
same_log : (next : Terms → List Record → Record → Type 0) (terms : Terms) (s s' : ShownJournal) (k : Stands next terms s) → length s'.words ≡ 2
    → slice_index s'.words 1 ≡ slice_index s.words 1 → ((key : SharerKey) → seats_with_key key s'.views ≡ (if is_key terms.callers key then 1 else 0))
    → ((id : ℕ) (v : SeatView) → get_elem? s'.views id ≡ some v → Fits terms k.log v) → IsFree terms s' k.log ⊎ IsTaken s' → Stands next terms s'
same_log next terms s s' k two counts once fits turn =
    record { log = k.log; two = two; count = counts ∙ k.count; most = k.most; lawful = k.lawful; callers = k.callers; once = once; fits = fits; turn = turn }

-- the rule with other views
pub rule_kept_with_equal_turns : (next : Terms → List Record → Record → Type 0) (terms : Terms) (s : ShownJournal) (k : Stands next terms s) (vs : List SeatView)
    → ((key : SharerKey) → seats_with_key key vs ≡ (if is_key terms.callers key then 1 else 0))
    → ((id : ℕ) (v : SeatView) → get_elem? vs id ≡ some v → Fits terms k.log v) → TurnsOfViewsAreSame s.views vs
    → Stands next terms (record { words = s.words; homes = s.homes; views = vs })
unfolding TurnsOfViewsAreSame
rule_kept_with_equal_turns next terms s k vs once fits turns = same_log next terms s (record { words = s.words; homes = s.homes; views = vs }) k k.two refl once fits
    (elim k.turn [
      | inl free ↦ inl (record {
        word = free.word;
        home = free.home;
        nobody = λ id v at. not_true v.turn (λ has. absurd (true≢false (sym has
            ∙ free.nobody id v ((turns id v has).1 at))));
      })
      | inr taken ↦ inr (record {
        word = taken.word;
        home = taken.home;
        holder = taken.holder;
        its = taken.its;
        there = (turns taken.holder taken.its taken.has).0 taken.there;
        has = taken.has;
        only = λ id v at has. taken.only id v ((turns id v has).1 at) has;
      })
    ])

-- a seat has the turn
holds_turn : (words : List ℕ) (homes : List (Option Page)) (views : List SeatView) (id : ℕ) (v new : SeatView) → slice_index words 0 ≡ 1 → homes ≡ none ∷ []
    → get_elem? views id ≡ some v → new.turn ≡ true → ((j : ℕ) (u : SeatView) → get_elem? views j ≡ some u → u.turn ≡ true → j ≡ id)
    → IsTaken (record { words = words; homes = homes; views = set views id new })
holds_turn words homes views id v new word home at has others = record {
  word = word;
  home = home;
  holder = id;
  its = new;
  there = new_there views id v new at;
  has = has;
  only = λ j u here turn. elim (at_set views id j new u here) [
    | inl t ↦ t.0
    | inr t ↦ others j u t.1 turn
  ];
}

-- the turn is the seat's that has it
its_turn : (next : Terms → List Record → Record → Type 0) (terms : Terms) (s : ShownJournal) → Stands next terms s → (id : ℕ) (v : SeatView)
    → get_elem? s.views id ≡ some v → v.turn ≡ true → IsTaken s
its_turn next terms s k id v at has = elim k.turn [
  | inl free ↦ absurd (true≢false (sym has ∙ free.nobody id v at))
  | inr taken ↦ taken
]

-- the rule where a seat takes the turn or gives it back
seat_turns : (next : Terms → List Record → Record → Type 0) (terms : Terms) (s : ShownJournal) (k : Stands next terms s) (n id : ℕ) (old new : SeatView)
    (homes : List (Option Page)) → get_elem? s.views id ≡ some old → new.keys ≡ old.keys → Fits terms k.log new
    → IsFree terms (record { words = set s.words 0 n; homes = homes; views = set s.views id new }) k.log
    ⊎ IsTaken (record { words = set s.words 0 n; homes = homes; views = set s.views id new })
    → Stands next terms (record { words = set s.words 0 n; homes = homes; views = set s.views id new })
seat_turns next terms s k n id old new homes at same fits turn = let w = (written s.words n k.two).0 in
    same_log next terms s (record { words = set s.words 0 n; homes = homes; views = set s.views id new }) k w.two w.there
    (keys_of_wire_stay_once next terms s k id old new at same) (λ j v here. elim (at_set s.views id j new v here) [
      | inl t ↦ subst (Fits terms k.log) t.1 fits
      | inr t ↦ k.fits j v t.1
    ]) turn

-- ---- taking the slot

free_takes : (next : Terms → List Record → Record → Type 0) (terms : Terms) (s : ShownJournal) (k : Stands next terms s) (id : ℕ) (me : Sat) → IsFree terms s k.log
    → 0 < length me.0.keys
    → get_elem? s.views id ≡ some me.0
    → Stands next terms (stepped s 0 1 id me.1 (seat_view me.0.terms me.0.keys k.log [] true) (takes 0 (page_of_shared_records terms k.log)))
free_takes next terms s k id me free keyed at =
    let new : SeatView = seat_view me.0.terms me.0.keys k.log [] true in
    seat_turns next terms s k 1 id me.0 new (set s.homes 0 none) at refl (all_seen terms k.log k.log me.0 (k.fits id me.0 at) keyed) (inr
    (holds_turn (set s.words 0 1) (set s.homes 0 none) s.views id me.0 new (written s.words 1 k.two).0.here (ap (λ hs. set hs 0 none) free.home) at refl
    (λ j v here has. absurd (true≢false (sym has ∙ free.nobody j v here)))))

unmoved : (next : Terms → List Record → Record → Type 0) (terms : Terms) (s : ShownJournal) (k : Stands next terms s) (n id : ℕ) (me : Sat) → slice_index s.words 0 ≡ n
    → get_elem? s.views id ≡ some me.0
    → Stands next terms (stepped s 0 n id me.1 me.0 keeps)
unmoved next terms s k n id me is at =
    let same_words : set s.words 0 n ≡ s.words = same_word s.words n k.two is in
    let same_views : set s.views id me.0 ≡ s.views = set_again s.views id me.0 at in
    subst (λ (t : List ℕ × List SeatView). Stands next terms (record { words = t.0; homes = s.homes; views = t.1 })) (λ i. (sym same_words i, sym same_views i)) k

pub rule_allows_take_of_slot : (next : Terms → List Record → Record → Type 0) (terms : Terms) (slots id : ℕ) (me : Sat) → SeatIsIdle me → 0 < length me.0.keys
    → Allows (Stands next terms) slots id me 0 (λ n. either (eqb n 0) 1 n) (take_step next (step slots 0 0 1 none) me)
rule_allows_take_of_slot next terms slots id me idle keyed s k len at small = elim k.turn [
  | inl free ↦ let x : slice_index s.words 0 ≡ 0 = free.word in let new : SeatView = seat_view me.0.terms me.0.keys k.log [] true in (
    new,
    takes 0 (page_of_shared_records terms k.log),
    subst (λ hs. get_elem? hs 0 ≡ some (some (page_of_shared_records terms k.log))) (sym free.home) refl,
    subst (λ (n : ℕ). Stands next terms (stepped s 0 (either (eqb n 0) 1 n) id me.1 new (takes 0 (page_of_shared_records terms k.log)))) (sym x)
        (free_takes next terms s k id me free keyed at),
    (
      (λ _. record {
        turn = record {
          turn = refl;
          older = refl;
          keyed = keyed;
          page = ap₂ (λ (c : List (ℕ × Page)) (f : Terms). (0, record { founding = f.founding; records = k.log }) ∷ c) idle.empty (sym
              ((k.fits id me.0 at).founded keyed));
        };
        keys = refl;
        goes = (k.fits id me.0 at).goes;
        most = k.most;
        terms = refl;
        lawful = subst (λ (t : Terms). EachComesNext (next t) k.log) (sym ((k.fits id me.0 at).founded keyed)) k.lawful;
      }),
      λ not. absurd (not x),
    ),
  )
  | inr taken ↦ let x : slice_index s.words 0 ≡ 1 = taken.word in (
    me.0,
    keeps,
    tt,
    subst (λ (n : ℕ). Stands next terms (stepped s 0 (either (eqb n 0) 1 n) id me.1 me.0 keeps)) (sym x) (unmoved next terms s k 1 id me x at),
    ((λ (e : slice_index s.words 0 ≡ 0). absurd (omega arith)), λ _. refl),
  )
]

-- ---- giving it back

pub rule_allows_give_of_slot : (next : Terms → List Record → Record → Type 0) (terms : Terms) (slots id : ℕ) (me : Sat) → HasTurn me
    → Allows (Stands next terms) slots id me 0 (λ _. 0) (λ _. give_step (step slots 0 0 0 none) me 0)
rule_allows_give_of_slot next terms slots id me has s k len at small =
    let mine = k.fits id me.0 at in
    let whole : me.0.seen ≡ k.log = mine.whole has.turn in
    let founded : me.0.terms ≡ terms = mine.founded (mine.keyed has.turn) in
    let new : SeatView = seat_view me.0.terms me.0.keys me.0.seen [] false in
    let taken = its_turn next terms s k id me.0 at has.turn in (
      new,
      gives,
      tt,
      seat_turns next terms s k 0 id me.0 new (put_back s.homes me.1) at refl (view_fits_without_turn terms k.log me.0 mine) (inl (record {
        word = (written s.words 0 k.two).0.here;
        home = given s.homes me.1 (record { founding = me.0.terms.founding; records = me.0.seen }) (page_of_shared_records terms k.log) taken.home has.page (ap₂
            (λ (f : Terms) (l : List Record). record { founding = f.founding; records = l }) founded whole);
        nobody = λ j v here. elim (at_set s.views id j new v here) [
          | inl t ↦ ap (λ (x : SeatView). x.turn) (sym t.1)
          | inr t ↦ not_true v.turn (λ is. t.0 (taken.only j v t.1 is ∙ sym (taken.only id me.0 at has.turn)))
        ];
      })),
      ap (λ (c : List (ℕ × Page)). (new, rest c)) has.page,
    )
  where
    given : (hs : List (Option Page)) (c : List (ℕ × Page)) (seen log : Page) → hs ≡ none ∷ [] → c ≡ (0, seen) ∷ [] → seen ≡ log → put_back hs c ≡ some log ∷ []
    given hs c seen log h e is = ap₂ put_back h e ∙ ap (λ (x : Page). some x ∷ []) is

-- ---- counting a record

is_own : (key : SharerKey) (r : Record) → is_of key r ≡ true → (key ≡ Place (place_of_name r.event.node)) ⊎ (key ≡ Caller r.by.caller)
is_own (Place place) r is = inl (ap Place (sym (eqb-true (place_of_name r.event.node) place is)))
is_own (Caller caller) r is = inr (ap Caller (sym (eqb-true r.by.caller caller is)))

lone : (key : SharerKey) (r : Record) (b : Bool) → is_of key r ≡ b → of_key key (r ∷ []) ≡ cond b (r ∷ []) []
lone key r b is = ap (λ (x : Bool). cond x (r ∷ []) []) is

key_stays : (key : SharerKey) (log : List Record) (r : Record) → is_of key r ≡ false → of_key key (log ++ r ∷ []) ≡ of_key key log
key_stays key log r is = of_key_of_append key log (r ∷ []) ∙ ap (λ (l : List Record). of_key key log ++ l) (lone key r false is) ∙ append-nil (of_key key log)

at_most_one : (b : Bool) → (if b then 1 else 0) ≤ 1
at_most_one true = omega arith
at_most_one false = omega arith

-- a key is with one seat alone
pub key_stands_in_one_view : (next : Terms → List Record → Record → Type 0) (terms : Terms) (s : ShownJournal) (k : Stands next terms s) (key : SharerKey) (i j : ℕ) (v w : SeatView) → i ≢ j
    → get_elem? s.views i ≡ some v
    → get_elem? s.views j ≡ some w
    → 0 < times key v.keys → 0 < times key w.keys → ⊥
key_stands_in_one_view next terms s k key i j v w apart at there one two =
    let t = two_view_keys_le_standing key s.views i j v w apart at there in
    let o = k.once key in
    let m = at_most_one (is_key terms.callers key) in
    omega arith

snoc_same : (xs ys : List Record) (x y : Record) → xs ++ x ∷ [] ≡ ys ++ y ∷ [] → (xs ≡ ys) × (x ≡ y)
snoc_same xs ys x y e =
    let n : length (xs ++ x ∷ []) ≡ length (ys ++ y ∷ []) = ap length e in
    let same : length xs ≡ length ys = omega (arith, length-append xs (x ∷ []), length-append ys (y ∷ [])) in
    let front : xs ≡ ys = sym (take-append_seam xs (x ∷ [])) ∙ ap (take (length xs)) e ∙ ap (λ (k : ℕ). take k (ys ++ y ∷ [])) same
    ∙ take-append_seam ys (y ∷ []) in
    let end : x ∷ [] ≡ y ∷ [] = sym (drop-append_seam xs (x ∷ [])) ∙ ap (drop (length xs)) e ∙ ap (λ (k : ℕ). drop k (ys ++ y ∷ [])) same
    ∙ drop-append_seam ys (y ∷ []) in
    (front, ap (λ (l : List Record). first l) end)
  where
    first : List Record → Record
    first [] = x
    first (z ∷ zs) = z

-- a beginning of one
pub beginning_of_lawful_log_follows : (next : List Record → Record → Type 0) (log seen : List Record) → StartsWith log seen → EachComesNext next log → EachComesNext next seen
beginning_of_lawful_log_follows next log seen begins each before rest r e =
    each before (rest ++ drop (length seen) log) r
    (log_is_start_and_rest log seen begins ∙ ap (λ (l : List Record). l ++ drop (length seen) log) e ∙ append_assoc before (r ∷ rest) (drop (length seen) log))

-- a journal of which each record comes next, and one that comes next after it
pub log_follows_with_next_record : (next : List Record → Record → Type 0) (log : List Record) (r : Record) → EachComesNext next log → next log r → EachComesNext next (log ++ r ∷ [])
log_follows_with_next_record next log r each its before others q e = behind others e
  where
    last_two : (rest : List Record) (x : Record) → (more : List Record) × ((y : Record) × (x ∷ rest ≡ more ++ y ∷ []))
    last_two [] x = ([], (x, refl))
    last_two (z ∷ rest) x = let m = last_two rest z in (x ∷ m.0, (m.1.0, ap (λ (l : List Record). x ∷ l) m.1.1))

    behind : (rest : List Record) → log ++ r ∷ [] ≡ before ++ q ∷ rest → next before q
    behind [] is = let s = snoc_same log before r q is in subst (λ (l : List Record). next l q) s.0 (subst (next log) s.1 its)
    behind (x ∷ more) is =
        let m = last_two more x in
        let whole : log ++ r ∷ [] ≡ (before ++ q ∷ m.0) ++ m.1.0 ∷ [] = is ∙ ap (λ (l : List Record). before ++ q ∷ l) m.1.1
        ∙ sym (append_assoc before (q ∷ m.0) (m.1.0 ∷ [])) in
        each before m.0 q (snoc_same log (before ++ q ∷ m.0) r m.1.0 whole).0

all_one : (P : Record → Type 0) (r : Record) → P r → All P (r ∷ [])
all_one P r p zero d h = p
all_one P r p (suc k) d h = absurd (omega arith)

is_true_if : (b : Bool) → 0 < (if b then 1 else 0) → b ≡ true
is_true_if true h = refl
is_true_if false h = absurd (omega arith)

-- a key that a seat has is one of the wire's
pub view_key_is_wire_key : (next : Terms → List Record → Record → Type 0) (terms : Terms) (s : ShownJournal) (k : Stands next terms s) (key : SharerKey) (id : ℕ) (v : SeatView)
    → get_elem? s.views id ≡ some v
    → 0 < times key v.keys → is_key terms.callers key ≡ true
view_key_is_wire_key next terms s k key id v at has = let t = keys_of_view_le_standing key s.views id v at in let o = k.once key in is_true_if (is_key terms.callers key) (omega arith)

-- what a seat is to have before it counts a record
pub record MayCountRecord (next : Terms → List Record → Record → Type 0) (me : Sat) (r : Record) : Type 0 where
  pub turn : me.0.turn ≡ true
  pub page : me.1 ≡ (0, record { founding = me.0.terms.founding; records = me.0.seen ++ r ∷ [] }) ∷ []
  pub room : length me.0.seen < most_events_of_run
  pub place : 0 < times (Place (place_of_name r.event.node)) me.0.keys
  pub caller : 0 < times (Caller r.by.caller) me.0.keys
  pub lawful : next me.0.terms me.0.seen r

-- another seat's view fits what is longer by a record
others_fit : (next : Terms → List Record → Record → Type 0) (terms : Terms) (s : ShownJournal) (k : Stands next terms s) (id : ℕ) (me : Sat) (r : Record)
    → MayCountRecord next me r → get_elem? s.views id ≡ some me.0
    → (j : ℕ) (u : SeatView) → j ≢ id → get_elem? s.views j ≡ some u
    → (u.turn ≡ true → ⊥) → Fits terms (k.log ++ r ∷ []) u
others_fit next terms s k id me r may at j u apart here off = let old = k.fits j u here in record {
  goes = record {
    begins = starts_with_through_both u.seen k.log (k.log ++ r ∷ []) old.goes.begins (append_starts_with_front (k.log ++ r ∷ []) k.log (r ∷ []) refl);
    own = λ key h. key_stays key k.log r (not_true (is_of key r) (λ is. elim (is_own key r is) [
      | inl e ↦ key_stands_in_one_view next terms s k key j id u me.0 apart here at h (subst (λ (x : SharerKey). 0 < times x me.0.keys) (sym e) may.place)
      | inr e ↦ key_stands_in_one_view next terms s k key j id u me.0 apart here at h (subst (λ (x : SharerKey). 0 < times x me.0.keys) (sym e) may.caller)
    ])) ∙ old.goes.own key h;
  };
  older = old.older;
  founded = old.founded;
  whole = λ is. absurd (off is);
  keyed = λ is. absurd (off is);
}

pub rule_allows_count_of_record : (next : Terms → List Record → Record → Type 0) (terms : Terms) (slots id : ℕ) (me : Sat) (r : Record) → MayCountRecord next me r
    → Allows (Stands next terms) slots id me 1 (λ n. (n + 1) % 2 ^ 64) (count_step (step slots 1 1 0 none) me)
rule_allows_count_of_record next terms slots id me r may s k len at small =
    let x : ℕ = slice_index s.words 1 in
    let mine = k.fits id me.0 at in
    let whole : me.0.seen ≡ k.log = mine.whole may.turn in
    let more : List Record = k.log ++ r ∷ [] in
    let is : page_records me.1 ≡ more = ap page_records may.page ∙ ap (λ (l : List Record). l ++ r ∷ []) whole in
    let new : SeatView = seat_view me.0.terms me.0.keys (page_records me.1) [] true in
    let n : ℕ = (x + 1) % 18446744073709551616 in
    let w = (written s.words n k.two).1 in
    let at_x : x ≡ length k.log = k.count in
    let same : length me.0.seen ≡ length k.log = ap length whole in
    let grown : length more ≡ length k.log + 1 = length-append k.log (r ∷ []) in
    let room = may.room in
    let counts : n ≡ length more = omega arith in
    let founded : me.0.terms ≡ terms = mine.founded (mine.keyed may.turn) in
    let lawful : EachComesNext (next terms) more = log_follows_with_next_record (next terms) k.log r k.lawful
    (subst (λ (t : Terms). next t k.log r) founded (subst (λ (l : List Record). next me.0.terms l r) whole may.lawful)) in
    let caller : r.by.caller < terms.callers = ltb-true r.by.caller terms.callers (view_key_is_wire_key next terms s k (Caller r.by.caller) id me.0 at may.caller) in
    let taken = its_turn next terms s k id me.0 at may.turn in
    let only = λ (j : ℕ) (v : SeatView) (there : get_elem? s.views j ≡ some v) (has : v.turn ≡ true). taken.only j v there has
    ∙ sym (taken.only id me.0 at may.turn) in (
      new,
      keeps,
      tt,
      record {
        log = more;
        two = w.two;
        count = w.here ∙ counts;
        most = omega arith;
        lawful = lawful;
        callers = All-append (λ (q : Record). q.by.caller < terms.callers) k.log (r ∷ []) k.callers (all_one
            (λ (q : Record). q.by.caller < terms.callers) r caller);
        once = keys_of_wire_stay_once next terms s k id me.0 new at refl;
        fits = λ j v here. elim (at_set s.views id j new v here) [
          | inl t ↦ subst (Fits terms more) t.1
              (subst (λ (l : List Record). Fits terms more (seat_view me.0.terms me.0.keys l [] true)) (sym is) (all_seen terms more k.log me.0 mine
              (mine.keyed may.turn)))
          | inr t ↦ others_fit next terms s k id me r may at j v t.0 t.1 (λ has. absurd (t.0 (only j v t.1 has)))
        ];
        turn = inr (holds_turn (set s.words 1 n) s.homes s.views id me.0 new (w.there ∙ taken.word) taken.home at refl only);
      },
      refl,
    )
