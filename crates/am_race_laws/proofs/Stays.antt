-- A turn stays one, whatever records of other places and callers come between.
use Rattle.am_race_laws.proofs.Words.{◌≡◌, ℕ, zero, suc, ◌+◌, List, [], ◌∷◌, ◌++◌, drop, Bool, true, false, true≢false, Option, Some, None, sym, refl, ap, ◌∙◌}
use Rattle.am_race_laws.proofs.Words.{subst, arith, append_assoc, append-nil, not, ◌&&◌, All, map, count_by, nat_lt, is_none, eqb-true}
use Rattle.am_race_laws.proofs.Words.{list_any-append, place_of_name, name_of_place_and_life, Letter, Act, By, Event, Record, RacePlan, is_for, first_for, next_for, letters_of_records}
use Rattle.am_race_laws.proofs.Words.{packet_heard_by_act, Node, World, current, has_stopped, world_after, of_place, of_caller, of_call, own_of, is_turn_part, up_to_last}
use Rattle.am_race_laws.proofs.Words.{is_ready, cursor, last_heard, words_drawn, unless_nought, choice_after, follows, is_waited, is_choice, is_turn_of, turns_at}
use Rattle.am_race_laws.proofs.Words.{is_turn, letter_lost_by_part, is_due, may_end, greatest_number, passed_number, RecordIsApart, KnowledgeIsSame, and_parts, none-some, split_on_bool}
use Rattle.am_group.specs.declared.event.Act.TheVariants as act
use Rattle.std.proofs.lemmas.Bool.{and_from, or_left}
use Rattle.am_group.proofs.Places.{letters_of_pushed_record}
use Rattle.am_race_laws.proofs.{Apart.records_of_others_are_apart, Others.others_nodes_stay_through_event}

-- ---- letters

first_stays : (letters more : List Letter) (number name n : ℕ) → first_for letters number name ≡ Some n → first_for (letters ++ more) number name ≡ Some n
first_stays [] more number name n e = absurd (none-some n e)
first_stays (l ∷ letters) more number name n e = split_on_bool (is_for l name)
    (λ t. rw t (rw t at e))
    (λ f. rw f (first_stays letters more (number + 1) name n (rw f at e)))

dropped : (letters more : List Letter) (count : ℕ) → (rest : List Letter) × (drop count (letters ++ more) ≡ drop count letters ++ rest)
dropped letters more zero = (more, refl)
dropped [] more (suc count) = (drop (suc count) more, refl)
dropped (l ∷ letters) more (suc count) = dropped letters more count

-- the next letter stays it
pub next_letter_stays_among_more : (letters more : List Letter) (name after n : ℕ) → next_for letters name after ≡ Some n → next_for (letters ++ more) name after ≡ Some n
unfolding next_for
next_letter_stays_among_more letters more name after n e =
    let d = dropped letters more after in
    ap (λ (ls : List Letter). first_for ls (after + 1) name) d.1 ∙ first_stays (drop after letters) d.0 (after + 1) name n e

-- ---- choices

-- whatever is heard or lost
abbrev hears : Act → ℕ → Bool
hears (act.Hear number) lost = true
hears act.Tick (suc lost) = true
hears _ lost = false

choice_stays : (plan : RacePlan) (caller count : ℕ) (ahead later last : Option ℕ) (does : Act) (lost : ℕ)
    → ((n : ℕ) → ahead ≡ Some n → later ≡ Some n) → hears does lost ≡ true
    → follows (choice_after plan caller count ahead last) does lost ≡ true → follows (choice_after plan caller count later last) does lost ≡ true
choice_stays plan caller count (Some n) later last does lost keeps is follow =
    subst (λ (o : Option ℕ). follows (choice_after plan caller count o last) does lost ≡ true) (sym (keeps n refl)) follow
choice_stays plan caller count None later last (act.Hear number) lost keeps is follow = absurd (true≢false (sym follow))
choice_stays plan caller count None later last act.Tick (suc lost) keeps is follow = let z = eqb-true (suc lost) 0 follow in absurd (omega arith)
choice_stays plan caller count None later last _ _ keeps is follow = absurd (true≢false (sym is))

-- ---- one record more

stopped_stays : (before : List Record) (r : Record) (name : ℕ) → has_stopped before name ≡ true → has_stopped (before ++ r ∷ []) name ≡ true
stopped_stays before r name is =
    list_any-append _ before (r ∷ []) ∙ or_left (has_stopped before name) (has_stopped (r ∷ []) name) is

waited_stays : (m : Node) (before : List Record) (r : Record) (name : ℕ) → is_waited m before name ≡ true → is_waited m (before ++ r ∷ []) name ≡ true
waited_stays m before r name is = let a = and_parts _ _ is in and_from _ _ a.0 (stopped_stays before r name a.1)

turn_of_stays : (plan : RacePlan) (before knew : List Record) (r : Record) (m : Node) (name caller : ℕ) (does : Act) (lost : ℕ)
    → of_place (place_of_name name) (before ++ r ∷ []) ≡ of_place (place_of_name name) before → of_caller caller (before ++ r ∷ []) ≡ of_caller caller before
    → is_turn_of plan before knew m name caller does lost ≡ true → is_turn_of plan (before ++ r ∷ []) knew m name caller does lost ≡ true
turn_of_stays plan before knew r m name caller does lost place its is = by_act does lost is
  where
    more : List Record
    more = before ++ r ∷ []

    same_cursor : cursor (place_of_name name) more ≡ cursor (place_of_name name) before
    same_cursor = ap (λ (rs : List Record). greatest_number (map passed_number rs)) place

    picks : (a : Act) (l : ℕ) → hears a l ≡ true → is_choice plan before (place_of_name name) name caller a l ≡ true
        → is_choice plan more (place_of_name name) name caller a l ≡ true
    picks a l heard choice =
        let words : words_drawn caller more ≡ words_drawn caller before =
        ap (λ (rs : List Record). count_by (λ q. is_turn_part q.by.part && nat_lt 0 (passed_number q)) rs) its in
        let last : last_heard (place_of_name name) more ≡ last_heard (place_of_name name) before =
        ap (λ (rs : List Record). unless_nought (greatest_number (map (λ q. packet_heard_by_act q.event.act) rs))) place in
        let ahead : Option ℕ = next_for (letters_of_records before) name (cursor (place_of_name name) before) in
        let later : Option ℕ = next_for (letters_of_records more) name (cursor (place_of_name name) before) in
        let go = choice_stays plan caller (words_drawn caller before) ahead later (last_heard (place_of_name name) before) a l
        (λ n e. ap (λ (ls : List Letter). next_for ls name (cursor (place_of_name name) before)) (letters_of_pushed_record before r)
        ∙ next_letter_stays_among_more (letters_of_records before) r.packets name (cursor (place_of_name name) before) n e)
        heard choice in
        subst (λ (t : ℕ × ℕ × Option ℕ). follows (choice_after plan caller t.0 (next_for (letters_of_records more) name t.1) t.2) a l ≡ true)
        (λ i. (sym words i, sym same_cursor i, sym last i)) go

    by_act : (a : Act) (l : ℕ) → is_turn_of plan before knew m name caller a l ≡ true → is_turn_of plan more knew m name caller a l ≡ true
    by_act (act.GiveUp other) l e =
        let a = and_parts _ _ e in
        let b = and_parts _ _ a.1 in
        and_from _ _ a.0 (and_from _ _ (waited_stays m before r other b.0) b.1)
    by_act act.Tick zero e = let a = and_parts _ _ e in and_from _ _ a.0 (ap (λ (k : ℕ). is_none (next_for (letters_of_records knew) name k)) same_cursor ∙ a.1)
    by_act act.Tick (suc k) e = let a = and_parts _ _ e in and_from _ _ a.0 (picks act.Tick (suc k) refl a.1)
    by_act (act.Hear number) l e = let a = and_parts _ _ e in and_from _ _ a.0 (picks (act.Hear number) l refl a.1)
    by_act _ l e = absurd (true≢false (sym e))

pub place_of_place : (n : ℕ) → place_of_name (place_of_name n) ≡ place_of_name n
place_of_place n = omega arith

place_of_life : (n life : ℕ) → place_of_name (name_of_place_and_life (place_of_name n) life) ≡ place_of_name n
place_of_life n life = omega arith

-- after one record of another place and another caller
module _ (plan : RacePlan) (before : List Record) (r : Record) (e : Event) (by : By) (apart : RecordIsApart (place_of_name e.node) by.caller r) where
  abbrev old : World
  old = world_after plan.founding before

  abbrev new : World
  new = world_after plan.founding (before ++ r ∷ [])

  abbrev place : ℕ
  place = place_of_name e.node

  abbrev more : List Record
  more = before ++ r ∷ []

  abbrev name : ℕ
  name = current old place

  here : current new place ≡ name
  here =
      let first = others_nodes_stay_through_event plan.founding before r place (λ s. apart.place (sym s ∙ place_of_place e.node)) in
      ap (name_of_place_and_life place) (ap new.lives (sym (place_of_place e.node)) ∙ first.1 ∙ ap old.lives (place_of_place e.node))

  its : place_of_name name ≡ place
  its = place_of_life e.node (old.lives place)

  node : new.nodes name ≡ old.nodes name
  node = (others_nodes_stay_through_event plan.founding before r name (λ s. apart.place (sym s ∙ its))).0

  left : KnowledgeIsSame place by.caller by.call before more
  left = records_of_others_are_apart place by.caller by.call before r apart

  turn_stays : is_turn plan before e by ≡ true → is_turn plan more e by ≡ true
  unfolding is_turn
  turn_stays is =
      let its_place : of_place (place_of_name name) more ≡ of_place (place_of_name name) before = ap (λ (k : ℕ). of_place k more) its ∙ left.place
      ∙ ap (λ (k : ℕ). of_place k before) (sym its) in
      let knew : up_to_last (place_of_name name) by.caller more ≡ up_to_last (place_of_name name) by.caller before = ap (λ (k : ℕ). up_to_last k by.caller more) its
      ∙ left.known ∙ ap (λ (k : ℕ). up_to_last k by.caller before) (sym its) in
      let both = and_parts _ _ is in
      let ready : not (is_ready (new.nodes name) (own_of (of_call by.caller by.call more))) ≡ true = rw (node, left.call) both.0 in
      let turn : is_turn_of plan more (up_to_last (place_of_name name) by.caller more) (new.nodes name) name by.caller e.act (letter_lost_by_part by.part) ≡ true =
      rw (node, knew) (turn_of_stays plan before (up_to_last (place_of_name name) by.caller before) r (old.nodes name) name by.caller e.act (letter_lost_by_part by.part)
      its_place left.caller both.1) in
      subst (λ (k : ℕ). turns_at plan more new k e by ≡ true) (sym here) (and_from _ _ ready turn)

  -- an end stays one, too
  end_stays : may_end plan before e by ≡ true → may_end plan more e by ≡ true
  unfolding may_end
  end_stays is =
      let due : is_due plan (new.nodes name) (of_call by.caller by.call more) ≡ true = rw (node, left.call) is in
      subst (λ (k : ℕ). is_due plan (new.nodes k) (of_call by.caller by.call more) ≡ true) (sym here) due

pub all_of_cons_gives_both : (P : Record → Type 0) (r : Record) (rest : List Record) → All P (r ∷ rest) → P r × All P rest
all_of_cons_gives_both P r rest all = (all 0 r (omega arith), λ k d h. all (suc k) d (omega arith))

-- after several of them
stays_through : (P : List Record → Type 0) (Q : Record → Type 0) → ((before : List Record) (r : Record) → Q r → P before → P (before ++ r ∷ []))
    → (before more : List Record) → All Q more → P before → P (before ++ more)
stays_through P Q stays before [] apart is = subst P (sym (append-nil before)) is
stays_through P Q stays before (r ∷ rest) apart is =
    let a = all_of_cons_gives_both Q r rest apart in
    subst P (append_assoc before (r ∷ []) rest) (stays_through P Q stays (before ++ r ∷ []) rest a.1 (stays before r a.0 is))

pub turn_stays_through_others : (plan : RacePlan) (before more : List Record) (e : Event) (by : By) → All (RecordIsApart (place_of_name e.node) by.caller) more
    → is_turn plan before e by ≡ true → is_turn plan (before ++ more) e by ≡ true
turn_stays_through_others plan before more e by = stays_through (λ rs. is_turn plan rs e by ≡ true) (RecordIsApart (place_of_name e.node) by.caller)
    (λ b r apart is. turn_stays plan b r e by apart is) before more

pub end_stays_through_others : (plan : RacePlan) (before more : List Record) (e : Event) (by : By) → All (RecordIsApart (place_of_name e.node) by.caller) more
    → may_end plan before e by ≡ true → may_end plan (before ++ more) e by ≡ true
end_stays_through_others plan before more e by = stays_through (λ rs. may_end plan rs e by ≡ true) (RecordIsApart (place_of_name e.node) by.caller)
    (λ b r apart is. end_stays plan b r e by apart is) before more
