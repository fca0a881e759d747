-- A joiner's Join stands at the number with which it is welcomed.
use Rattle.am_lawful_runs.proofs.Words.{◌≡◌, ◌⊎◌, either, inl, inr, ℕ, zero, suc, ◌+◌, ◌<◌, ◌≤◌, true, false, List, [], ◌∷◌, ◌++◌, length, take, Some, slice_get}
use Rattle.am_lawful_runs.proofs.Words.{refl, sym, ap, ◌∙◌, subst, arith, All, Entry, Join, Image, Stamp, Rules, place_of_name, life_of_name, has, Letter, goes_to_any}
use Rattle.am_lawful_runs.proofs.Words.{is_for, item_at, IsBeginningOf, IsGoodList, is_member_at_end, IsMemberRow, row_of_place, taken_front_begins_list, length_of_taken_list, beginning_of_good_is_good, image_after_pushed_entry, image_has_sixteen_rows, member_has_member_row}
use Rattle.am_lawful_runs.proofs.Words.{member_row_gives_member, member_of_pushed_view_members, Group, is_asking_status, founders_entry, World, is_stopped, item_of_index_has_property, asking_status_has_no_log, PacketSays, WelcomeSays}
use Rattle.am_lawful_runs.proofs.Words.{has_begun, has_gone, has_left, is_leaving, may_begin, BecameMemberBy, stayed, joins, founds, new_member_came_by_entry, blank_image_is_of_nil, Following, Packet}
use Rattle.am_base.specs.Whole.{image_of_list}
use Rattle.am_safety.proofs.Inside.{asking_status_has_not_departed}
use Rattle.am_safety.proofs.Fitted.{letter_at_item_has_index}

-- ---- by the group list

-- the first so many entries and the next
split_at : (j : ℕ) (list : List Entry) → suc j ≤ length list → (e : Entry) × (take (suc j) list ≡ take j list ++ e ∷ []) × (slice_get list j ≡ Some e)
split_at j [] low = absurd (omega arith)
split_at zero (e ∷ es) low = (e, refl, refl)
split_at (suc j) (x ∷ es) low = let r = split_at j es (omega arith) in (r.0, ap (λ l. x ∷ l) r.1, r.2)

-- a name that becomes a member at a number, and wasn't before, joins there; or it is a name of the first View
becomes_at : (list : List Entry) (name j : ℕ) → IsGoodList list → suc j ≤ length list → is_member_at_end (take (suc j) list) name ≡ true
    → ((a : List Entry) → IsBeginningOf a list → length a < suc j → is_member_at_end a name ≡ true → ⊥) → (slice_get list j ≡ Some (Join name)) ⊎ (j ≡ 0)
becomes_at list name j good low member first =
    let r = split_at j list low in
    let a = take j list in
    let e = r.0 in
    let good_a : IsGoodList a = beginning_of_good_is_good (taken_front_begins_list j list) good in
    let here : is_member_at_end (a ++ e ∷ []) name ≡ true = subst (λ l. is_member_at_end l name ≡ true) r.1 member in
    let long = length_of_taken_list j list (omega arith) in
    by_kind a e r.2 good_a (λ before. first a (taken_front_begins_list j list) (omega arith) before) long
    (new_member_came_by_entry (image_of_list a) (1 + length a) e name (image_has_sixteen_rows a) (omega arith)
    (subst (λ (i : Image). IsMemberRow (row_of_place i (place_of_name name)) (life_of_name name)) (image_after_pushed_entry a e) (member_has_member_row (a ++ e ∷ []) name here)))
  where
    by_kind : (a : List Entry) (e : Entry) → slice_get list j ≡ Some e → IsGoodList a → (is_member_at_end a name ≡ true → ⊥) → length a ≡ j
        → BecameMemberBy (image_of_list a) (1 + length a) e name → (slice_get list j ≡ Some (Join name)) ⊎ (j ≡ 0)
    by_kind a e at good_a none long (stayed old same) = absurd (none (member_row_gives_member a name old))
    by_kind a e at good_a none long (joins is same) = inl (at ∙ ap Some is)
    by_kind a e at good_a none long (founds viewed blank_ same) =
        let nil = ap length (blank_image_is_of_nil a good_a blank_) in inr (omega arith)

-- the founders' View is the first entry
pub record GroupOpensWithFounders (rules : Rules) (group : List Entry) : Type 0 where
  pub first : IsBeginningOf (founders_entry rules ∷ []) group

founder_of : (rules : Rules) (group : List Entry) (name : ℕ) → GroupOpensWithFounders rules group → is_member_at_end (take 1 group) name ≡ true → has rules.founders name ≡ true
founder_of rules group name h member =
    let is : take 1 group ≡ founders_entry rules ∷ [] = one group h.first.rest (founders_entry rules) h.first.same in
    member_of_pushed_view_members [] _ name (subst (λ l. is_member_at_end l name ≡ true) is member)
  where
    one : (group rest : List Entry) (e : Entry) → (e ∷ []) ++ rest ≡ group → take 1 group ≡ e ∷ []
    one group rest e same = ap (take 1) (sym same)

joined_at : (rules : Rules) (group : List Entry) (name join : ℕ) → IsGoodList group → GroupOpensWithFounders rules group → 0 < join → join ≤ length group
    → is_member_at_end (take join group) name ≡ true → ((a : List Entry) → IsBeginningOf a group → length a < join → is_member_at_end a name ≡ true → ⊥)
    → has rules.founders name ≡ false → item_at group join ≡ Some (Join name)
joined_at rules group name zero good opens some low member first unfounded = absurd (omega arith)
joined_at rules group name (suc j) good opens some low member first unfounded = either (becomes_at group name j good low member first)
    (λ at. at)
    (λ none. absurd (let t = founder_of rules group name opens (subst (λ k. is_member_at_end (take (suc k) group) name ≡ true) none member) in cc))

-- ---- by a Welcome

-- each letter goes to any life of a place only where its kind does
abbrev pub IsAnyLetter : Letter → Type 0
IsAnyLetter l = l.any ≡ goes_to_any l.packet

-- what such a letter says to a name that asks
welcome_says : (rules : Rules) (w : World) (s : Group) (i number : ℕ) (l : Letter) (from : ℕ) (v : Stamp) (base join : ℕ) (image : Image) → Following rules w s
    → All IsAnyLetter w.letters → i < 256 → is_stopped w i ≡ false → is_asking_status (w.nodes i).status ≡ true → item_at w.letters number ≡ Some l
    → is_for l i ≡ true → l.packet ≡ Packet.Welcome from v base join image → WelcomeSays s from v base join image i
welcome_says rules w s i number l from v base join image h anys few runs asks at for_ is =
    let there = letter_at_item_has_index w.letters number l at in
    let any : l.any ≡ false = item_of_index_has_property IsAnyLetter w.letters there.0 l anys there.1 ∙ ap goes_to_any is in
    let among : has l.to i ≡ true = rw any at for_ in
    let says = subst (λ p. PacketSays w s l.to p) is (h.letters there.0 l there.1) in
    elim (says.1 i among) [
      | has_begun t ↦ absurd (let a = (h.stands.each i few).log_ in let b = asking_status_has_no_log (w.nodes i).status asks in cc)
      | has_gone t ↦ absurd (let a = (h.stands.each i few).stopped in cc)
      | has_left t ↦ absurd (let a = (h.stands.each i few).departed in let b = asking_status_has_not_departed (w.nodes i).status asks in cc)
      | is_leaving t ↦ absurd (let a = (h.stands.each i few).leaving in
          let b = (h.nodes i few (asking_status_has_not_departed (w.nodes i).status asks)).leaves (sym a ∙ t) in
          let d = asking_status_has_no_log (w.nodes i).status asks in cc)
      | may_begin says ↦ says
    ]

pub welcome_gives_number_of_join : (rules : Rules) (w : World) (s : Group) (i number : ℕ) (l : Letter) (from : ℕ) (v : Stamp) (base join : ℕ) (image : Image)
    → Following rules w s → IsGoodList w.group → GroupOpensWithFounders rules w.group
    → All IsAnyLetter w.letters → i < 256 → is_stopped w i ≡ false → is_asking_status (w.nodes i).status ≡ true → item_at w.letters number ≡ Some l
    → is_for l i ≡ true → l.packet ≡ Packet.Welcome from v base join image → has rules.founders i ≡ false → item_at w.group join ≡ Some (Join i)
welcome_gives_number_of_join rules w s i number l from v base join image h good opens anys few runs asks at for_ is unfounded =
    let says = welcome_says rules w s i number l from v base join image h anys few runs asks at for_ is in
    let same : s.group ≡ w.group = h.stands.group in
    joined_at rules w.group i join good opens (omega arith) (subst (λ (g : List Entry). join ≤ length g) same says.accepted)
    (subst (λ g. is_member_at_end (take join g) i ≡ true) same says.joined)
    (λ a begins short member. says.first a (subst (IsBeginningOf a) (sym same) begins) short member) unfounded
