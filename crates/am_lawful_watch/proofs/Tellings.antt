-- What a watcher is told, one after another.
use Rattle.am_lawful_watch.proofs.WatchWords.{or-true, or-false, ◌≡◌, ℕ, ◌+◌, ◌-◌, ◌<◌, ◌≤◌, ◌&&◌, ◌||◌, ◌==◌, not, Bool, true, false, List, [], ◌∷◌, ◌++◌, length}
use Rattle.am_lawful_watch.proofs.WatchWords.{take, drop, map, get_or, if◌then◌else◌, Option, Some, None, refl, sym, ap, ◌∙◌, arith, get_or-drop, length-take}
use Rattle.am_lawful_watch.proofs.WatchWords.{take_more, take_all, length-drop, append-nil, Entry, Pending, stamps_are_equal, stamp_is_less, Watching, note_entries, watch_with_entry}
use Rattle.am_lawful_watch.proofs.WatchWords.{watching_with_entries, watching_with_decided, watch_decides, new_pending, standing, watch_accepts, place_view_among_entries, number_of_view, number_or_else, watch_finish, NodeEvent}
use Rattle.am_lawful_watch.proofs.WatchWords.{is_member, DecidedView, ShownNode, NameStanding, list_begins_in_step, standing_after, views_stored_in_step, watching_with_views, watching_after_told_step, entries_go_on}
use Rattle.am_lawful_watch.proofs.WatchWords.{accepted_goes_on}

-- nothing was stored, or one entry
pub with_entries_of_none : (k : Watching) (name : ℕ) → watching_with_entries k name [] ≡ k
unfolding note_entries
with_entries_of_none k name = ap (λ b. record k { is_due = b }) (or-false k.is_due)

pub with_entries_of_one : (k : Watching) (name : ℕ) (e : Entry) → watching_with_entries k name (e ∷ []) ≡ watch_with_entry k name e
with_entries_of_one k name e = entries_go_on k name [] e ∙ ap (λ q. watch_with_entry q name e) (with_entries_of_none k name)

pub ruleset with_entries_rules = (with_entries_of_none, with_entries_of_one)

-- the last View of those that were stored
pub with_entries_if_not_begun : (k stored : Watching) (name : ℕ) (begun same : Bool) (earlier found : List Entry) (last e : Entry) → begun ≡ false → same ≡ false
    → found ≡ earlier → e ≡ last → stored ≡ watching_with_entries k name found
    → watch_with_entry stored name e ≡ watching_with_entries k name (if begun || same then [] else earlier ++ last ∷ [])
with_entries_if_not_begun k stored name begun same earlier found last e begins_no other is ends was =
    let neither : (begun || same) ≡ false = ap (λ b. b || same) begins_no ∙ other in
    ap (λ q. watch_with_entry q name e) (was ∙ ap (watching_with_entries k name) is) ∙ ap (watch_with_entry (watching_with_entries k name earlier) name) ends
    ∙ sym (entries_go_on k name earlier last)
    ∙ ap (λ b. watching_with_entries k name (if b then [] else earlier ++ last ∷ [])) (sym neither)

pub with_entries_if_new : (k : Watching) (name : ℕ) (begun same : Bool) (es : List Entry) → begun ≡ false → same ≡ false
    → watching_with_entries k name es ≡ watching_with_entries k name (if begun || same then [] else es)
with_entries_if_new k name begun same es begins_no other = ap (λ b. watching_with_entries k name (if b then [] else es)) (sym (ap (λ b. b || same) begins_no ∙ other))

pub with_entries_if_begun : (k : Watching) (name : ℕ) (b : Bool) (es : List Entry) → b ≡ true → k ≡ watching_with_entries k name (if b then [] else es)
with_entries_if_begun k name b es is = rw is (sym (with_entries_of_none k name))

-- ---- the group list

placed_none : (number : ℕ) (v : Pending) → place_view_among_entries number [] v ≡ v
unfolding number_of_view
placed_none number v = ap (λ n. record v { number_in_group = n }) (or_same v.number_in_group)
  where
    or_same : (n : Option ℕ) → number_or_else n None ≡ n
    or_same None = refl
    or_same (Some x) = refl

map_same : (f : Pending → Pending) → ((v : Pending) → f v ≡ v) → (vs : List Pending) → map f vs ≡ vs
map_same f h [] = refl
map_same f h (v ∷ vs) = ap (λ x. x ∷ map f vs) (h v) ∙ ap (λ xs. v ∷ xs) (map_same f h vs)

accepted_none : (k : Watching) (number : ℕ) → watch_accepts k number [] ≡ k
accepted_none k number = ap (λ ps. record k { pending = ps }) (map_same (place_view_among_entries number []) (placed_none number) k.pending)

-- up to a number of the list, above what was known
abbrev pub group_entries_between_numbers : List Entry → ℕ → ℕ → List Entry
group_entries_between_numbers group known index = take (index - known) (drop known group)

pub accept_of_no_entry : (k : Watching) (number : ℕ) (group : List Entry) (known : ℕ) → k ≡ watch_accepts k number (group_entries_between_numbers group known known)
accept_of_no_entry k number group known = let none : known - known ≡ 0 = omega arith in rw none (sym (accepted_none k number))

pub accept_of_next_group_entry : (k now : Watching) (group : List Entry) (known index : ℕ) (e : Entry) → known ≤ index → index < length group → e ≡ get_or group index e
    → now ≡ watch_accepts k (known + 1) (group_entries_between_numbers group known index) → watch_accepts now (index + 1) (e ∷ []) ≡ watch_accepts k (known + 1) (group_entries_between_numbers group known (index + 1))
accept_of_next_group_entry k now group known index e low high is was =
    let rest = drop known group in
    let i = index - known in
    let long : length (group_entries_between_numbers group known index) ≡ i = simp (length-take, length-drop) (omega arith) in
    let number : index + 1 ≡ (known + 1) + length (group_entries_between_numbers group known index) = omega arith in
    let one_more : index + 1 - known ≡ i + 1 = omega arith in
    let at : known + i ≡ index = omega arith in
    let there : get_or rest i e ≡ e = get_or-drop known group i e ∙ ap (λ j. get_or group j e) at ∙ sym is in
    let within : i < length rest = simp length-drop (omega arith) in
    ap (λ q. watch_accepts q (index + 1) (e ∷ [])) was ∙ ap (λ n. watch_accepts (watch_accepts k (known + 1) (group_entries_between_numbers group known index)) n (e ∷ [])) number
    ∙ sym (accepted_goes_on k (known + 1) (group_entries_between_numbers group known index) (e ∷ []))
    ∙ ap (watch_accepts k (known + 1)) (sym (ap (λ j. take j rest) one_more ∙ take_more rest i e within ∙ ap (λ x. take i rest ++ x ∷ []) there))

pub accept_of_all_group_entries : (k : Watching) (group : List Entry) (known index : ℕ) → length group ≤ index
    → watch_accepts k (known + 1) (group_entries_between_numbers group known index) ≡ watch_accepts k (known + 1) (drop known group)
accept_of_all_group_entries k group known index high = ap (watch_accepts k (known + 1)) (take_all (index - known) (drop known group) (simp length-drop (omega arith)))

-- ---- a step

none_decided : (is_member is_own : Bool) → (is_member && (is_own && not true)) ≡ false
none_decided false own = refl
none_decided true false = refl
none_decided true true = refl

-- a step in which the last View stayed: none was decided, and none stored
pub with_views_of_same_view : (k : Watching) (name : ℕ) (before after : NameStanding) (v : DecidedView) (what : NodeEvent) → before ≡ standing k name
    → stamps_are_equal before.view after.view ≡ true → k ≡ watching_with_views k name before after v what
with_views_of_same_view k name before after v what was same =
    let own = after.view.by == name in
    let no : watch_decides (standing k name) name after ≡ false = ap (λ s. watch_decides s name after) (sym was)
    ∙ ap (λ x. is_member before.status && (own && not x)) same ∙ none_decided (is_member before.status) own in
    let still : watching_with_decided k name after v ≡ k = ap (λ b. record k {
      pending = k.pending
          ++ (if b && stamp_is_less k.complete.view.stamp v.view.stamp then new_pending v ∷ [] else []);
    }) no ∙ ap (λ ps. record k { pending = ps }) (append-nil k.pending) in
    let stays = ap (λ x. list_begins_in_step before after.status || x) same ∙ or-true (list_begins_in_step before after.status) in
    with_entries_if_begun k name (list_begins_in_step before after.status || stamps_are_equal before.view after.view) _ stays
    ∙ ap (λ q. watching_with_entries q name (views_stored_in_step name before after v what)) (sym still)

abbrev told : Watching → ℕ → ShownNode → NodeEvent → ℕ → List Entry → NameStanding → NameStanding → Watching
told k name n what number more before after = watch_accepts (watch_finish (watching_with_views k name before after n.decided what) name after) number more

pub noted_watching_is_told_step : (k views_ finished_ new : Watching) (name : ℕ) (n : ShownNode) (what : NodeEvent) (number : ℕ) (more : List Entry) (before after : NameStanding)
    → before ≡ standing k name → after ≡ standing_after before n → views_ ≡ watching_with_views k name before after n.decided what
    → finished_ ≡ watch_finish views_ name after → new ≡ watch_accepts finished_ number more → new ≡ watching_after_told_step k name n what number more
unfolding watching_after_told_step
noted_watching_is_told_step k views_ finished_ new name n what number more before after was stands s f a =
    a ∙ ap (λ q. watch_accepts q number more) (f ∙ ap (λ q. watch_finish q name after) s)
    ∙ ap (told k name n what number more before) stands
    ∙ ap (λ x. told k name n what number more x (standing_after x n)) was
