-- How far above its base a name's entries lie, by the members at each: within a step.
use Rattle.am_lawful_runs.proofs.Words.{◌≡◌, ◌⊎◌, either, inl, inr, ℕ, suc, ◌+◌, ◌-◌, ◌<◌, ◌≤◌, ◌==◌, ◌&&◌, not, nat_lt, Bool, true, if◌then◌else◌, List, [], ◌∷◌}
use Rattle.am_lawful_runs.proofs.Words.{length, slice_index, refl, sym, ap, ◌∙◌, subst, length-append, arith, nat_tests, length-map, get_or-map, Packet}
use Rattle.am_lawful_runs.proofs.Words.{count_by-le-length, Entry, Leave, View, Image, Row, GroupView, Stamp, Outcome, Rules, size, Log, blank_row, member_life_of_row}
use Rattle.am_lawful_runs.proofs.Words.{members_of_image, log_members_at, log_image_at, top_of_log, log_with_entry, after, image_at_below_push, image_at_top_is_told, count_by_of_cons, IsMemberRow, row_of_place, sixteen_rows_after_entry}
use Rattle.am_lawful_runs.proofs.Words.{member_row_has_view_life, Node, Ballot, top, image_of_node, has_room, push_entry, BallotVerdict, need_set_of, need_set_without_given_up, trim_to_least_taken_by, split_on_bool, Cause, hears}
use Rattle.am_lawful_runs.proofs.Words.{LooksAtBallot, decides, CarriesEntry, whole_entry, by_number, Change, refreshes, settles, numbers, stores, begins_list, looks, fetches}
use Rattle.am_lawful_runs.proofs.Words.{stores_view, closes, Changes, unchanged, changed, refresh_rests_with_list, end_refresh_rests_with_list, settle_changes_only_sends, image_of_pushed_entry, change_keeps_list_blank}
use Rattle.am_lawful_runs.proofs.Words.{HeardWelcomeImageIsUsed, change_keeps_trimmed_taken, TrimsOnlyTakenAlongStep, NodeTrimFronts, told_image_is_used, HeardStampsHaveNames, change_keeps_stamp_names, change_keeps_list_and_ballot, length_of_selection, change_keeps_node_bounds}
use Rattle.am_lawful_runs.proofs.Words.{decided_view, le_or_gt}

-- ---- how many names

pub set_size_le_length : (set : List ℕ) → size set ≤ length set
set_size_le_length set = count_by-le-length (λ life. nat_lt 0 life) set

-- a set of no other names has no more
size_within : (a b : List ℕ) → length a ≤ length b → ((p : ℕ) → p < length a → 0 < slice_index a p → 0 < slice_index b p) → size a ≤ size b
size_within [] b long h = omega arith
size_within (x ∷ xs) [] long h = absurd (omega arith)
size_within (x ∷ xs) (y ∷ ys) long h =
    let rest = size_within xs ys (omega arith) (λ p low some. h (suc p) (omega arith) some) in
    let one = count_by_of_cons (λ life. nat_lt 0 life) x xs in
    let two = count_by_of_cons (λ life. nat_lt 0 life) y ys in
    split_on_bool (nat_lt 0 x)
    (λ t.
    let some : 0 < x = grind (arith, nat_tests) in
    let other = h 0 (omega arith) some in
    let u : nat_lt 0 y ≡ true = grind (arith, nat_tests) in
    let first : size (x ∷ xs) ≡ 1 + size xs = one ∙ ap (λ (b : Bool). (if b then 1 else 0) + size xs) t in
    let second : size (y ∷ ys) ≡ 1 + size ys = two ∙ ap (λ (b : Bool). (if b then 1 else 0) + size ys) u in
    omega arith)
    (λ f.
    let first : size (x ∷ xs) ≡ 0 + size xs = one ∙ ap (λ (b : Bool). (if b then 1 else 0) + size xs) f in
    omega arith)

in_life : (r : Row) → 0 < member_life_of_row r → IsMemberRow r (member_life_of_row r)
in_life r h = split_on_bool (nat_lt 0 r.joined && (r.left == 0))
    (λ t. rw t (record { joined = grind (arith, nat_tests); left = grind (arith, nat_tests); is = refl }))
    (λ f. absurd (let z : 0 < 0 = rw f at h in omega arith))

-- after a View there are no more members than it names
viewed_few : (image : Image) (n : ℕ) (v : GroupView) → length image.rows ≡ 16 → 0 < n → length v.members ≡ 16
    → size (members_of_image (after image n (View v))) ≤ size v.members
viewed_few image n v long some sixteen =
    let next = after image n (View v) in
    let rows = sixteen_rows_after_entry image n (View v) long in
    let count = length-map next.rows member_life_of_row in
    size_within (members_of_image next) v.members (omega arith) (λ p low above.
    (let place : p < 16 = omega arith in
    let within : p < length next.rows = omega arith in
    let at : slice_index (members_of_image next) p ≡ member_life_of_row (row_of_place next p) = get_or-map member_life_of_row next.rows p blank_row 0 within in
    let life : 0 < member_life_of_row (row_of_place next p) = omega arith in
    let is = member_row_has_view_life image n v p (member_life_of_row (row_of_place next p)) place some life (in_life (row_of_place next p) life) in
    omega arith))

-- ---- a number that fits, or that a packet tells

-- an entry of this number was heard
pub data CauseBringsEntry (c : Cause) (number : ℕ) : Type 0 where
  by_bcast : (s : ℕ) (v : Stamp) (base acc : ℕ) (e : Entry) → c ≡ hears (Packet.Bcast s v base acc number e) → CauseBringsEntry c number
  by_order : (s : ℕ) (v : Stamp) (base acc from req : ℕ) → c ≡ hears (Packet.Order s v base acc number from req) → CauseBringsEntry c number
  by_piece : (s : ℕ) (v : Stamp) (base : ℕ) (e : Entry) → c ≡ hears (Packet.Piece s v base number e) → CauseBringsEntry c number
  by_result : (s base : ℕ) (v : GroupView) → c ≡ hears (Packet.Result s base number v) → CauseBringsEntry c number

abbrev pub EntryFitsAboveBase : Rules → Node → ℕ → Type 0
EntryFitsAboveBase rules x number = number - x.core.base ≤ rules.window + 16 - size (log_members_at x.core.log number)

-- each number fits, but for that which was heard
abbrev Fitting : Rules → Cause → Node → Type 0
Fitting rules c x = (number : ℕ) → x.core.base < number → number ≤ top x → EntryFitsAboveBase rules x number ⊎ CauseBringsEntry c number

-- ---- changes

-- the same list, and no lower base
same_fits : (rules : Rules) (c : Cause) (x y : Node) → y.core.log ≡ x.core.log → x.core.base ≤ y.core.base → Fitting rules c x → Fitting rules c y
same_fits rules c x y log up h number above within =
    let t = ap top_of_log log in
    either (h number (omega arith) (omega arith))
    (λ a. inl (let same = ap (λ (l : Log). size (log_members_at l number)) log in omega arith))
    (λ a. inr a)

-- with one entry more
push_fits : (rules : Rules) (c : Cause) (x y : Node) (e : Entry) → y.core.log ≡ log_with_entry x.core.log e → x.core.base ≤ y.core.base
    → EntryFitsAboveBase rules y (top x + 1) ⊎ CauseBringsEntry c (top x + 1) → Fitting rules c x → Fitting rules c y
push_fits rules c x y e log up new h number above within =
    let long = length-append x.core.log.entries (e ∷ []) in
    let t = ap top_of_log log in
    either (le_or_gt number (top x))
    (λ low. either (h number (omega arith) low)
    (λ a. inl (
    let same : log_members_at y.core.log number ≡ log_members_at x.core.log number = ap (λ (l : Log). log_members_at l number) log
    ∙ ap members_of_image (image_at_below_push x.core.log e number low) in
    let sizes = ap size same in omega arith))
    (λ a. inr a))
    (λ high. (let is : top x + 1 ≡ number = omega arith in
    subst (λ k. EntryFitsAboveBase rules y k ⊎ CauseBringsEntry c k) is new))

-- what is told at an entry more
image_more : (x : Node) (e : Entry) → log_image_at (log_with_entry x.core.log e) (top x + 1) ≡ after (image_of_node x) (top x + 1) e
image_more x e =
    let long = length-append x.core.log.entries (e ∷ []) in
    let all : top_of_log (log_with_entry x.core.log e) ≡ top x + 1 = omega arith in
    ap (log_image_at (log_with_entry x.core.log e)) (sym all) ∙ image_at_top_is_told (log_with_entry x.core.log e) ∙ image_of_pushed_entry x e

-- there are at most sixteen members after an entry
few_members : (x : Node) (e : Entry) → NodeTrimFronts x → size (log_members_at (log_with_entry x.core.log e) (top x + 1)) ≤ 16
few_members x e h =
    let used = told_image_is_used x h in
    let rows = sixteen_rows_after_entry (image_of_node x) (top x + 1) e used.places in
    let count = length-map (after (image_of_node x) (top x + 1) e).rows member_life_of_row in
    let most = set_size_le_length (members_of_image (after (image_of_node x) (top x + 1) e)) in
    let same = ap (λ i. size (members_of_image i)) (image_more x e) in
    omega arith

-- what is numbered fits where there is room
room_fits : (rules : Rules) (c : Cause) (x : Node) (e : Entry) → x.core.rules ≡ rules → NodeTrimFronts x → has_room x ≡ true → Fitting rules c x
    → Fitting rules c (push_entry x e)
room_fits rules c x e same fronts room h =
    let few = few_members x e fronts in
    let window = ap (λ (r : Rules). r.window) same in
    let low : top x + 1 - x.core.base ≤ x.core.rules.window = grind (arith, nat_tests) in
    push_fits rules c x (push_entry x e) e refl (omega arith) (inl (omega arith)) h

-- and a View that is decided
look_fits : (rules : Rules) (c : Cause) (x : Node) (b : Ballot) (v : BallotVerdict) → x.core.rules ≡ rules → NodeTrimFronts x → LooksAtBallot x b v → Fitting rules c x
    → Fitting rules c v.node
look_fits rules c x b v same fronts (decides may) h =
    let names = need_set_without_given_up b (need_set_of x b) in
    let before = trim_to_least_taken_by x b names in
    let e = View (decided_view x b names) in
    let used = told_image_is_used x fronts in
    let few = viewed_few (image_of_node x) (top x + 1) (decided_view x b names) used.places (omega arith)
    (length_of_selection (λ name. not (b.given_up name)) (need_set_of x b)) in
    let sizes = ap (λ i. size (members_of_image i)) (image_more x e) in
    let window = ap (λ (r : Rules). r.window) same in
    let low : top x + 1 - before.core.base ≤ x.core.rules.window + 16 - size names = grind (arith, nat_tests) in
    push_fits rules c x v.node e refl (omega arith) (inl (omega arith)) h
look_fits rules c x b v same fronts _ h = same_fits rules c x v.node refl (omega arith) h

-- what a packet carries has the number that it tells
carried : (c : Cause) (m : Node) (s : ℕ) (v : Stamp) (base acc number : ℕ) (e : Entry) → CarriesEntry c m s v base acc number e → CauseBringsEntry c number
carried c m s v base acc number e (whole_entry x is) = by_bcast s v base acc x is
carried c m s v base acc number e (by_number from req body is there) = by_order s v base acc from req is

told_entry : (rules : Rules) (c : Cause) (x y : Node) (number : ℕ) → number ≡ top x + 1 → CauseBringsEntry c number
    → EntryFitsAboveBase rules y (top x + 1) ⊎ CauseBringsEntry c (top x + 1)
told_entry rules c x y number next h = inr (subst (CauseBringsEntry c) next h)

fitting_change : (rules : Rules) (c : Cause) (o : Outcome) (x y : Node) → x.core.rules ≡ rules → NodeTrimFronts x → Change c o x y → Fitting rules c x
    → Fitting rules c y
fitting_change rules c o x y same fronts refreshes h = let r = refresh_rests_with_list x in same_fits rules c x y r.log r.rests.base h
fitting_change rules c o x y same fronts settles h =
    let base = ap (λ (z : Node). z.core.base) (settle_changes_only_sends x) in
    same_fits rules c x y (ap (λ (z : Node). z.core.log) (settle_changes_only_sends x)) (omega arith) h
fitting_change rules c o x y same fronts (numbers e leads room why) h = room_fits rules c x e same fronts room h
fitting_change rules c o x y same fronts (stores s v base acc number e by heard plain may) h =
    push_fits rules c x y e refl (omega arith) (told_entry rules c x y number may.next (carried c x s v base acc number e by)) h
fitting_change rules c o x y same fronts (begins_list s v base join image is says may) h = λ number above within. absurd (omega arith)
fitting_change rules c o x y same fronts (looks b verdict over why look is) h = look_fits rules c x b verdict same fronts look h
fitting_change rules c o x y same fronts (fetches s v base number e is heard promise below from may) h =
    push_fits rules c x y e refl (omega arith) (told_entry rules c x y number may.next (by_piece s v base e is)) h
fitting_change rules c o x y same fronts (stores_view s base number v is heard own other promise below may) h =
    push_fits rules c x y (View v) refl (omega arith) (told_entry rules c x y number may.next (by_result s base v is)) h
fitting_change rules c o x y same fronts (closes leads leaves alone room) h =
    let p = push_entry x (Leave x.core.who) in
    let r = end_refresh_rests_with_list p in
    same_fits rules c p y r.log r.rests.base (room_fits rules c x (Leave x.core.who) same fronts room h)
fitting_change rules c o x y same fronts _ h = same_fits rules c x y refl (omega arith) h

pub entries_fit_after_change : (rules : Rules) (c : Cause) (o : Outcome) (x y : Node) → HeardStampsHaveNames c → HeardWelcomeImageIsUsed c → Changes c o x y → TrimsOnlyTakenAlongStep rules x → Fitting rules c x
    → Fitting rules c y
entries_fit_after_change rules c o x y heard used unchanged a h = h
entries_fit_after_change rules c o x y heard used (changed {n = z} one more) a h =
    entries_fit_after_change rules c o z y heard used more (record {
      names = change_keeps_stamp_names heard x z one a.names;
      balloted = (change_keeps_list_and_ballot heard x z one a.names a.balloted).balloted;
      blanked = change_keeps_list_blank x z one a.balloted a.blanked;
      kept = change_keeps_node_bounds rules x z one a.kept;
      owned = change_keeps_trimmed_taken _ _ x z used a.kept.itself a.balloted a.blanked one a.owned;
    }) (fitting_change rules c o x z a.kept.founding a.owned.fronts one h)
