-- Who joins is one of the 256 names, and a View has a set of them: so members are sets of names.
use Rattle.am_refinement.proofs.Words.{split_on_bool, ◌≡◌, either, ℕ, ◌+◌, ◌-◌, ◌<◌, ◌≤◌, ◌==◌, ◌&&◌, not, nat_lt, Bool, true, false, List, [], ◌∷◌, ◌++◌, length}
use Rattle.am_refinement.proofs.Words.{take, Option, Some, slice_get, slice_index, refl, sym, ap, ◌∙◌, subst, arith, All, nat_tests, length-map, get_or-replicate}
use Rattle.am_refinement.proofs.Words.{All-head, All-tail, All-nil, All-cons, All-append, All-take, Entry, Data, Join, Leave, View, Row, Image, IsSetOfNames, place_of_name}
use Rattle.am_refinement.proofs.Words.{life_of_name, has, blank_row, blank, is_blank_image, row_at_place, member_life_of_row, members_of_image, image_with_row, row_after_view, after, image_after_entries, top_of_log}
use Rattle.am_refinement.proofs.Words.{counting_names_of_entry, union_is_within_bound, members_of_at_row_place, IsBeginningOf, image_of_list, key_of_stamp, row_of_place, row_of_with_row, row_after_pushed_view, sixteen_rows_after_entry, mod_sixteen_lt, image_has_sixteen_rows, list_with_chosen_view}
use Rattle.am_refinement.proofs.Words.{chain_of, chosen_by, node_with_entry, put_at_same_index, item_of_index_has_property, Node, concerned_names, World, NamesNamed, NameStands, CountsNames, RowsLive}
use Rattle.am_refinement.proofs.Words.{MovesNamed}
use Rattle.am_abstract_group.specs.Group as groups
use Rattle.am_abstract_group.specs.Moves as group
use Rattle.am_model.specs.Node as nodes
use Rattle.am_refinement.proofs.Changes.{image_of_whole_list}
use Rattle.am_refinement.proofs.Membership.LeftOut.{chain_after_numbered_entry}
use Rattle.am_refinement.proofs.Parts.{counted_at_of_whole_list, image_at_of_whole_list}

-- ---- each move

pushed_named : (list : List Entry) (e : Entry) → All NamesNamed list → NamesNamed e → All NamesNamed (list ++ e ∷ [])
pushed_named list e h new = All-append NamesNamed list (e ∷ []) h (All-cons NamesNamed e [] new (All-nil NamesNamed))

pub named_list_has_named_front : (a b : List Entry) → IsBeginningOf a b → All NamesNamed b → All NamesNamed a
named_list_has_named_front [] b h k = All-nil NamesNamed
named_list_has_named_front (x ∷ a) b h k = (let all = subst (All NamesNamed) (sym h.same) k in
    All-cons NamesNamed x a (All-head NamesNamed x (a ++ h.rest) all)
    (named_list_has_named_front a (a ++ h.rest) (record { rest = h.rest; same = refl }) (All-tail NamesNamed x (a ++ h.rest) all)))

pub moves_keep_names_named : MovesNamed
moves_keep_names_named s t (group.numbers i e leads fit may) ok k h = subst (All NamesNamed) (sym (chain_after_numbered_entry s i (node_with_entry (s.node i) e) e k leads refl))
    (pushed_named (chain_of s.views) e h ok)
moves_keep_names_named s t (group.decides i v may) ok k h =
    subst (All NamesNamed) (sym (put_at_same_index s.views.line (key_of_stamp (s.node i).promise) (list_with_chosen_view (chosen_by (s.node i) v))))
    (pushed_named (s.node i).list (View (chosen_by (s.node i) v).view) (named_list_has_named_front (s.node i).list (chain_of s.views) ((k.each i).list may.up) h) ok.0)
moves_keep_names_named s t (group.closes i n leads leaving alone may) ok k h =
    subst (All NamesNamed) (sym (chain_after_numbered_entry s i (record (node_with_entry (s.node i) (Leave i)) { departed = true }) (Leave i) k leads refl))
    (pushed_named (chain_of s.views) (Leave i) h tt)
moves_keep_names_named s t _ ok k h = h

-- ---- rows

record RowNamed (r : Row) : Type 0 where
  life : r.life ≤ 16
  lives : r.life ≡ 0 → r.joined ≡ 0

abbrev RowsNamed : Image → Type 0
RowsNamed image = (place : ℕ) → place < 16 → RowNamed (row_of_place image place)

put_named : (image : Image) (who : ℕ) (r : Row) → length image.rows ≡ 16 → RowNamed r → RowsNamed image → RowsNamed (image_with_row image who r)
put_named image who r long new h place low = either (row_of_with_row image who place r long)
    (λ z. subst RowNamed (sym z.1) new)
    (λ z. subst RowNamed (sym z.1) (h place low))

viewed_named : (first : Bool) (n given : ℕ) (r : Row) → given ≤ 16 → RowNamed r → RowNamed (row_after_view first n given r)
viewed_named true n given r low h = split_on_bool (given == 0)
    (λ t. rw t h)
    (λ f. rw f (record { life = low; lives = λ z. absurd (grind (arith, nat_tests)) }))
viewed_named false n given r low h = split_on_bool (nat_lt 0 (member_life_of_row r) && not (member_life_of_row r == given))
    (λ t. rw t (record { life = h.life; lives = h.lives }))
    (λ f. rw f h)

after_named : (image : Image) (n : ℕ) (e : Entry) → length image.rows ≡ 16 → NamesNamed e → RowsNamed image → RowsNamed (after image n e)
unfolding after
after_named image n (Data from req body) long e h = split_on_bool ((row_at_place image from).life == life_of_name from)
    (λ t. rw t (put_named image from (record (row_at_place image from) { last = req }) long
    (let o = h (place_of_name from) (mod_sixteen_lt from) in record { life = o.life; lives = o.lives }) h))
    (λ f. rw f h)
after_named image n (Join name) long e h = put_named image name (record { life = life_of_name name; joined = n; left = 0; last = 0 }) long
    (record { life = omega arith; lives = λ z. absurd (omega arith) }) h
after_named image n (Leave name) long e h = split_on_bool ((row_at_place image name).life == life_of_name name)
    (λ t. rw t (put_named image name (record (row_at_place image name) { left = n }) long
    (let o = h (place_of_name name) (mod_sixteen_lt name) in record { life = o.life; lives = o.lives }) h))
    (λ f. rw f h)
after_named image n (View v) long e h = λ place low.
    (let places = e.places in
    subst RowNamed (sym (row_after_pushed_view image n v place low))
    (viewed_named (is_blank_image image) n (slice_index v.members place) (row_of_place image place) (e.lives place (omega arith)) (h place low)))

fold_named : (image : Image) (n : ℕ) (es : List Entry) → length image.rows ≡ 16 → All NamesNamed es → RowsNamed image → RowsNamed (image_after_entries image n es)
unfolding image_after_entries
fold_named image n [] long k h = h
fold_named image n (e ∷ es) long k h = fold_named (after image n e) (n + 1) es (sixteen_rows_after_entry image n e long) (All-tail NamesNamed e es k)
    (after_named image n e long (All-head NamesNamed e es k) h)

rows_named : (list : List Entry) → All NamesNamed list → RowsNamed (image_of_list list)
rows_named list k = fold_named blank 1 list refl k
    (λ place low. subst RowNamed (sym (get_or-replicate 16 place blank_row blank_row low)) (record { life = omega arith; lives = λ z. refl }))

member_named : (r : Row) → RowNamed r → member_life_of_row r ≤ 16
member_named r h = split_on_bool (nat_lt 0 r.joined && (r.left == 0)) (λ t. rw t h.life) (λ f. rw f (omega arith))

pub named_list_members_are_set : (list : List Entry) → All NamesNamed list → IsSetOfNames (members_of_image (image_of_list list))
named_list_members_are_set list k =
    let long = image_has_sixteen_rows list in
    let size = length-map (image_of_list list).rows member_life_of_row ∙ long in
    record {
      places = size;
      lives = λ place low. (let small : place < 16 = omega arith in
          let is = members_of_at_row_place (image_of_list list) place (omega arith) in
          let most = member_named (row_of_place (image_of_list list) place) (rows_named list k place small) in
          omega arith);
    }

counted_named : (list : List Entry) (n : ℕ) (o : Option Entry) → All NamesNamed list → ((e : Entry) → o ≡ Some e → NamesNamed e)
    → IsSetOfNames (counting_names_of_entry o (members_of_image (image_of_list (take n list))))
counted_named list n (Some (View v)) k its = its (View v) refl
counted_named list n _ k its = named_list_members_are_set (take n list) (All-take NamesNamed n list k)

-- ---- of a node, whose list is so

pub counted_names_of_named_list : (v : World) (i : ℕ) (x : Node) (a : groups.ChainNode) → NameStands v i x a → All NamesNamed a.list → CountsNames x
counted_names_of_named_list v i x a h k n low = subst IsSetOfNames (sym (counted_at_of_whole_list v i n x a h low))
    (counted_named a.list (n - 1) (slice_get a.list (n - 1)) k (λ e is. item_of_index_has_property NamesNamed a.list (n - 1) e k is))

pub rows_of_named_list_live : (v : World) (i : ℕ) (x : Node) (a : groups.ChainNode) → NameStands v i x a → All NamesNamed a.list → RowsLive x
rows_of_named_list_live v i x a h k name none =
    let is = image_of_whole_list v i x a h in
    let row = rows_named a.list k (place_of_name name) (mod_sixteen_lt name) in
    let same : row_of_place (image_of_list a.list) (place_of_name name) ≡ row_at_place (nodes.image_of_node x) name = ap (λ (g : Image). row_at_place g name) is in
    ap (λ (r : Row). r.joined) (sym same) ∙ row.lives (ap (λ (r : Row). r.life) same ∙ none)

pub concerned_names_are_below_256 : (v : World) (i : ℕ) (x : Node) (a : groups.ChainNode) → NameStands v i x a → All NamesNamed a.list → x.core.log.start ≤ x.core.acc
    → (j : ℕ) → has (concerned_names x) j ≡ true → j < 256
concerned_names_are_below_256 v i x a h k low j in_ =
    let log = x.core.log in
    let place = mod_sixteen_lt j in
    let most = union_is_within_bound log x.core.acc (top_of_log log - x.core.acc) (place_of_name j) 16 place (λ n from upto.
    (let is = ap (λ (g : Image). members_of_image g) (image_at_of_whole_list v i n x a h (omega arith)) in
    let set = named_list_members_are_set (take n a.list) (All-take NamesNamed n a.list k) in
    let same = ap (λ m. slice_index m (place_of_name j)) is in
    omega arith)) in
    let at : slice_index (concerned_names x) (place_of_name j) ≡ life_of_name j = grind (arith, nat_tests) in
    omega arith
