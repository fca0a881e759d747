-- What a turn finds: who is waited for in vain, and the letters for a name.
use Rattle.am_race_laws.proofs.Words.{◌≡◌, ◌≢◌, ◌⊎◌, inl, inr, ℕ, zero, suc, ◌+◌, ◌<◌, max, List, [], ◌∷◌, ◌++◌, length, drop, Bool, true, false, true≢false}
use Rattle.am_race_laws.proofs.Words.{Option, Some, None, cond, sym, refl, ap, ◌∙◌, subst, arith, append-nil, map, TableId, Known, WireRefusal, IfSome, IfNone}
use Rattle.am_race_laws.proofs.Words.{if◌then◌else◌, not, ◌==◌, ◌&&◌, ◌||◌, slice_index, slice_get, list_any, eqb-true, ltb-true, none-some, same_Some}
use Rattle.am_race_laws.proofs.Words.{flat_map-append, place_of_name, life_of_name, name_of_place_and_life, name_is_less, rank_of_name, has, names_of, names_from, Letter, Act, Record, RacePlan}
use Rattle.am_race_laws.proofs.Words.{is_for, first_for, next_for, acting_name_of_record, letters_of_records, letter_at, slice_get-drop, packet_heard_by_act, IsEndOf, Node, names_waited_for, Terms}
use Rattle.am_race_laws.proofs.Words.{EachComesNext, StartsWith, GoesOn, stopped_names, has_stopped, of_place, is_waited, is_least, waits_in_vain, greatest_number, last_heard}
use Rattle.am_race_laws.proofs.Words.{unless_nought, or_nought, IsLawfulRecord, IsSent, is_of_race, terms_of, InBoth, IsLeastOf, IsBox, Boxed, BoxLooks, GivesUp, Hears}
use Rattle.am_race_laws.proofs.Words.{heard_in, node_by, Choice, Luck, again, choice_of, Place, IsPacket, log_is_start_and_rest, records_go_on_through_both, filter-append, and_parts, split_on_bool}
use Rattle.am_group.specs.declared.event.Act.TheVariants as act
use Rattle.am_shared_journal_defs.specs.declared.choice.Choice.TheVariants as choice
use Rattle.std.proofs.lemmas.Bool.{and_from, false_from_ne_true}
use Rattle.std.proofs.lemmas.Option.{IfSome_then}
use Rattle.am_race_laws.proofs.{Knows.journal_keeps_what_records_keep, Boxing.greatest_of_place_with_last, Names.stopped_names_are_set, Nexts.item_at_in_longer_list}

-- ---- names of a set

any_from : (lives : List ℕ) (place : ℕ) (test : ℕ → Bool) → ((k : ℕ) → k < length lives → 0 < slice_index lives k
    → test (name_of_place_and_life (place + k) (slice_index lives k)) ≡ false)
    → list_any test (names_from place lives) ≡ false
any_from [] place test none = refl
any_from (zero ∷ lives) place test none =
    any_from lives (place + 1) test (λ k h some. ap (λ (p : ℕ). test (name_of_place_and_life p (slice_index lives k))) (let e : place + 1 + k ≡ place + suc k = omega arith in
    e) ∙ none (suc k) (omega arith) some)
any_from (suc before ∷ lives) place test none =
    let first : test (name_of_place_and_life place (suc before)) ≡ false = ap (λ (p : ℕ). test (name_of_place_and_life p (suc before))) (let e : place ≡ place + 0 = omega arith in e)
    ∙ none 0 (omega arith) (omega arith) in
    let rest = any_from lives (place + 1) test (λ k h some. ap (λ (p : ℕ). test (name_of_place_and_life p (slice_index lives k))) (let e : place + 1 + k ≡ place + suc k =
    omega arith in e) ∙ none (suc k) (omega arith) some) in
    ap (λ (b : Bool). b || list_any test (names_from (place + 1) lives)) first ∙ rest

-- a test that none of a set's names passes
none_of_names : (set : List ℕ) (test : ℕ → Bool) → ((k : ℕ) → k < length set → 0 < slice_index set k → test (name_of_place_and_life k (slice_index set k)) ≡ false)
    → list_any test (names_of set) ≡ false
none_of_names set test none =
    any_from set 0 test (λ k h some. ap (λ (p : ℕ). test (name_of_place_and_life p (slice_index set k))) (let e : 0 + k ≡ k = omega arith in e) ∙ none k h some)

-- a name of both sets is of a place of both
in_both : (waited stopped : List ℕ) (k : ℕ) → k < 16 → 0 < slice_index waited k → has stopped (name_of_place_and_life k (slice_index waited k)) ≡ true
    → InBoth waited stopped k
in_both waited stopped k low some is =
    let life : ℕ = slice_index waited k in
    let p : place_of_name (name_of_place_and_life k life) ≡ k = omega arith in
    let l : life_of_name (name_of_place_and_life k life) ≡ life = omega arith in
    let e = eqb-true (slice_index stopped (place_of_name (name_of_place_and_life k life))) (life_of_name (name_of_place_and_life k life)) is in
    (some, ap (slice_index stopped) (sym p) ∙ e ∙ l)

nobody_waits : (m : Node) (seen : List Record) (waited stopped : List ℕ) → waited ≡ names_waited_for m.ballot → length waited ≡ 16
    → ((name : ℕ) → has stopped name ≡ has_stopped seen name)
    → ((place : ℕ) → place < 16 → InBoth waited stopped place → ⊥) → waits_in_vain m seen ≡ false
nobody_waits m seen waited stopped is many known none =
    ap (λ (w : List ℕ). list_any (λ name. has w name && has_stopped seen name) (names_of w)) (sym is)
    ∙ none_of_names waited (λ name. has waited name && has_stopped seen name) (λ k h some.
    false_from_ne_true (has waited (name_of_place_and_life k (slice_index waited k)) && has_stopped seen (name_of_place_and_life k (slice_index waited k)))
    (λ e. none k (omega arith) (in_both waited stopped k (omega arith) some (known (name_of_place_and_life k (slice_index waited k)) ∙ (and_parts _ _ e).1))))

least_waits : (m : Node) (seen : List Record) (waited stopped : List ℕ) (name : ℕ) → waited ≡ names_waited_for m.ballot → length waited ≡ 16
    → ((k : ℕ) → has stopped k ≡ has_stopped seen k)
    → IsLeastOf waited stopped name → (is_waited m seen name ≡ true) × (is_least m seen name ≡ true)
least_waits m seen waited stopped name is many known least = (
  and_from _ _ (ap (λ (w : List ℕ). has w name) (sym is) ∙ least.first) (sym (known name) ∙ least.second),
  ap not (ap (λ (w : List ℕ). list_any (λ other. name_is_less other name && (has w other && has_stopped seen other)) (names_of w)) (sym is)
      ∙ none_of_names waited (λ other. name_is_less other name && (has waited other && has_stopped seen other)) (λ k h some.
      false_from_ne_true _ (λ e.
      let a = and_parts _ _ e in
      let lower = ltb-true (rank_of_name (name_of_place_and_life k (slice_index waited k))) (rank_of_name name) a.0 in
      let here = eqb-true (slice_index waited (place_of_name name)) (life_of_name name) least.first in
      let low : k < 16 = omega arith in
      let apart : k ≢ place_of_name name = λ s.
      let same : slice_index waited k ≡ life_of_name name = ap (slice_index waited) s ∙ here in
      omega arith in
      least.below k (let byte = least.low in omega arith)
      (in_both waited stopped k low some (known (name_of_place_and_life k (slice_index waited k)) ∙ (and_parts _ _ a.1).1))))),
)

-- ---- letters for a name

first_there : (letters : List Letter) (from name n : ℕ) → first_for letters from name ≡ Some n → (k : ℕ) × (n ≡ from + k)
    × ((l : Letter) × ((slice_get letters k ≡ Some l) × (is_for l name ≡ true)))
first_there [] from name n e = absurd (none-some n e)
first_there (l ∷ letters) from name n e = split_on_bool (is_for l name)
    (λ t. (0, (let s = same_Some from n (rw t at e) in omega arith), (l, (refl, t))))
    (λ f. let r = first_there letters (from + 1) name n (rw f at e) in (suc r.0, omega (arith, r.1), r.2))

-- the next letter for a name was sent to it
pub next_letter_was_sent : (seen : List Record) (name after n : ℕ) → next_for (letters_of_records seen) name after ≡ Some n → IsSent seen name n × (after < n)
unfolding next_for
next_letter_was_sent seen name after n e =
    let f = first_there (drop after (letters_of_records seen)) (after + 1) name n e in
    let number : n ≡ suc (after + f.0) = omega (arith, f.1) in (
      record {
        letter = f.2.0;
        there = ap (letter_at (letters_of_records seen)) number ∙ sym (slice_get-drop after f.0 (letters_of_records seen)) ∙ f.2.1.0;
        its = f.2.1.1;
      },
      omega arith,
    )

sent_more : (before more : List Record) (name number : ℕ) → IsSent before name number → IsSent (before ++ more) name number
sent_more before more name number s = record {
  letter = s.letter;
  there = ap (λ (ls : List Letter). letter_at ls number) (flat_map-append (λ (r : Record). r.packets) before more)
      ∙ item_at_in_longer_list (letters_of_records before) (letters_of_records more) number s.letter s.there;
  its = s.its;
}

-- ---- as a box finds them

if_none : {A : Type 0} {P Q : Type 0} (o : Option A) → (P → Q) → IfNone o P → IfNone o Q
if_none None f h = f h
if_none (Some x) f h = tt

waits_by : (all m : Node) → IsEndOf all m → names_waited_for m.ballot ≡ names_waited_for all.ballot
waits_by all m is = ap (λ (n : Node). names_waited_for n.ballot) is.same

module _ (wire : TableId) (plan : RacePlan) (name : ℕ) (pass : Known) (m : Node) (far : ℕ) (last : Option ℕ) (stopped : Bool) (closed : Option WireRefusal)
    (box : IsBox wire plan name pass m far last stopped closed) (runs : closed ≡ None) (waited gone : List ℕ) (is : waited ≡ names_waited_for m.ballot) where
  its : waited ≡ names_waited_for (node_by plan pass.seen name).ballot
  its = is ∙ waits_by (node_by plan pass.seen name) m (box.node runs).end

  gives_up_by : gone ≡ stopped_names pass.seen → length waited ≡ 16 → (other : ℕ) → IsLeastOf waited gone other → GivesUp plan pass.seen name other
  gives_up_by known many other least =
      least_waits (node_by plan pass.seen name) pass.seen waited gone other its many
      (λ k. ap (λ (s : List ℕ). has s k) known ∙ (stopped_names_are_set (terms_of plan) pass.seen box.lawful).each k) least

  nobody_by : gone ≡ stopped_names pass.seen → length waited ≡ 16 → ((place : ℕ) → place < 16 → InBoth waited gone place → ⊥)
      → waits_in_vain (node_by plan pass.seen name) pass.seen ≡ false
  nobody_by known many none =
      nobody_waits (node_by plan pass.seen name) pass.seen waited gone its many
      (λ k. ap (λ (s : List ℕ). has s k) known ∙ (stopped_names_are_set (terms_of plan) pass.seen box.lawful).each k) none

  -- what is found in both sets, or not
  pub found_name_waits_in_vain : (found : Option ℕ) → gone ≡ stopped_names pass.seen → length waited ≡ 16 → IfSome found (λ other. IsLeastOf waited gone other)
      → IfNone found ((place : ℕ) → place < 16 → InBoth waited gone place → ⊥)
      → IfSome found (GivesUp plan pass.seen name) × IfNone found (waits_in_vain (node_by plan pass.seen name) pass.seen ≡ false)
  found_name_waits_in_vain found known many some none = (IfSome_then found some (gives_up_by known many), if_none found (nobody_by known many) none)

-- ---- what was heard last

abbrev is_nought_or : List Record → ℕ → ℕ → Type 0
is_nought_or before name number = (number ≡ 0) ⊎ IsSent before name number

abbrev LastSent : ℕ → List Record → Type 0
LastSent name before = is_nought_or before name (greatest_number (map (λ r. packet_heard_by_act r.event.act) (of_place name before)))

higher : (before : List Record) (name a b : ℕ) → is_nought_or before name a → is_nought_or before name b → is_nought_or before name (max a b)
higher before name a b p q =
    let one : (max a b ≡ a) ⊎ (max a b ≡ b) = grind arith in
    elim one [
      | inl e ↦ rw e p
      | inr e ↦ rw e q
    ]

still_sent : (before : List Record) (r : Record) (name number : ℕ) → is_nought_or before name number → is_nought_or (before ++ r ∷ []) name number
still_sent before r name number p = elim p [
  | inl e ↦ inl e
  | inr s ↦ inr (sent_more before (r ∷ []) name number s)
]

heard_next : (terms : Terms) (before : List Record) (r : Record) → IsLawfulRecord terms before r → is_nought_or before (acting_name_of_record r) (packet_heard_by_act r.event.act)
heard_next terms before r lawful = by_act r.event.act refl
  where
    by_act : (a : Act) → r.event.act ≡ a → is_nought_or before (acting_name_of_record r) (packet_heard_by_act r.event.act)
    by_act (act.Hear number) e = inr (subst (IsSent before (acting_name_of_record r)) (sym (ap packet_heard_by_act e)) (lawful.hears number e))
    by_act (act.Cut number keep) e = absurd (true≢false (sym lawful.act_ ∙ ap is_of_race e))
    by_act _ e = inl (ap packet_heard_by_act e)

last_next : (terms : Terms) (name : ℕ) (before : List Record) (r : Record) → name < 16 → IsLawfulRecord terms before r → LastSent name before
    → LastSent name (before ++ r ∷ [])
last_next terms name before r low lawful so_far =
    let heard : Record → ℕ = λ q. packet_heard_by_act q.event.act in
    split_on_bool (place_of_name r.event.node == name)
    (λ here.
    let first : acting_name_of_record r ≡ name = ap (name_of_place_and_life (place_of_name r.event.node)) lawful.life ∙ (let e = eqb-true (place_of_name r.event.node) name here in omega arith) in
    subst (is_nought_or (before ++ r ∷ []) name) (sym (greatest_of_place_with_last heard name before r here))
    (higher (before ++ r ∷ []) name (greatest_number (map heard (of_place name before))) (heard r) (still_sent before r name _ so_far)
    (still_sent before r name (heard r) (subst (λ (k : ℕ). is_nought_or before k (heard r)) first (heard_next terms before r lawful)))))
    (λ there.
    let same : of_place name (before ++ r ∷ []) ≡ of_place name before =
    filter-append (λ (q : Record). place_of_name q.event.node == name) before (r ∷ []) ∙ ap (λ (b : Bool). of_place name before ++ cond b (r ∷ []) []) there
    ∙ append-nil (of_place name before)
    in
    subst (λ (rs : List Record). is_nought_or (before ++ r ∷ []) name (greatest_number (map heard rs))) (sym same) (still_sent before r name _ so_far))

last_is_sent : (terms : Terms) (name number : ℕ) (before : List Record) → name < 16 → EachComesNext (IsLawfulRecord terms) before → last_heard name before ≡ Some number
    → IsSent before name number
last_is_sent terms name number before low follows e =
    by_number (greatest_number (map (λ r. packet_heard_by_act r.event.act) (of_place name before))) e
    (journal_keeps_what_records_keep (LastSent name) (IsLawfulRecord terms) (λ done r lawful so_far. last_next terms name done r low lawful so_far) [] before (inl refl) follows)
  where
    by_number : (n : ℕ) → unless_nought n ≡ Some number → is_nought_or before name n → IsSent before name number
    by_number zero is p = absurd (none-some number is)
    by_number (suc n) is p = elim p [
      | inl z ↦ absurd (omega arith)
      | inr s ↦ subst (IsSent before name) (ap or_nought is) s
    ]

-- ---- a letter that is read

pub sent_letter_stays_sent : (before after : List Record) (name number : ℕ) → StartsWith after before → IsSent before name number → IsSent after name number
sent_letter_stays_sent before after name number begins s =
    subst (λ (rs : List Record). IsSent rs name number) (sym (log_is_start_and_rest after before begins)) (sent_more before (drop (length before) after) name number s)

one_of : Option Letter → Letter → Letter
one_of None other = other
one_of (Some l) other = l

pub sent_letter_is_there : (seen : List Record) (name number : ℕ) (found : Option Letter) → found ≡ letter_at (letters_of_records seen) number → IsSent seen name number
    → found ≡ None → ⊥
sent_letter_is_there seen name number found is s none = none-some s.letter (sym none ∙ is ∙ s.there)

pub found_letter_is_heard : (seen : List Record) (name number : ℕ) (found : Option Letter) (l : Letter) → found ≡ letter_at (letters_of_records seen) number
    → IsSent seen name number → found ≡ Some l
    → IsPacket l.packet → Hears seen name number (Some l)
unfolding one_of
found_letter_is_heard seen name number found l is s got packet =
    let same : s.letter ≡ l = ap (λ (o : Option Letter). one_of o l) (sym s.there ∙ sym is ∙ got) in record {
      letter = l;
      is = refl;
      sent = sym is ∙ got;
      its = ap (λ (x : Letter). is_for x name) (sym same) ∙ s.its;
      packet = packet;
    }

-- ---- a choice hears what was sent

either_heard : (b c : Bool) (n number : ℕ) (last : Option ℕ) → heard_in (if b then choice.Lose n else if c then again n last else choice.Hear n) ≡ Some number
    → (Some n ≡ Some number) ⊎ (last ≡ Some number)
either_heard true c n number last e = absurd (none-some number e)
either_heard false true n number (Some l) e = inr e
either_heard false _ n number _ e = inl e

pub chosen_letter_was_sent : (terms : Terms) (seen : List Record) (name far : ℕ) (luck : Luck) (ahead last : Option ℕ) → name < 16 → EachComesNext (IsLawfulRecord terms) seen
    → ahead ≡ next_for (letters_of_records seen) name far → last ≡ last_heard name seen → (said : Choice) → said ≡ choice_of luck ahead last → (number : ℕ)
    → heard_in said ≡ Some number
    → IsSent seen name number
chosen_letter_was_sent terms seen name far luck None last low follows next was said is number e = absurd (none-some number (ap heard_in (sym is) ∙ e))
chosen_letter_was_sent terms seen name far luck (Some n) last low follows next was said is number e =
    elim (either_heard _ _ n number last (ap heard_in (sym is) ∙ e)) [
      | inl same ↦ (next_letter_was_sent seen name far number (sym next ∙ same)).0
      | inr again_ ↦ last_is_sent terms name number seen low follows (sym was ∙ again_)
    ]

pub box_looks_through_middle : (b : Boxed) (name : ℕ) (seen middle : List Record) (closed : Option WireRefusal) (after : Boxed)
    → record { name = name; seen = seen; closed = closed } ≡ b
    → GoesOn (Place name ∷ []) seen middle → BoxLooks (record { name = name; seen = middle; closed = closed }) after → BoxLooks b after
box_looks_through_middle b name seen middle closed after is goes looks = subst (λ (x : Boxed). BoxLooks x after) is (record {
  name = looks.name;
  closed = looks.closed;
  goes = records_go_on_through_both (Place name ∷ []) (Place name ∷ []) seen middle after.seen (λ key h. h) goes looks.goes;
})
