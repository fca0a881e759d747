-- With each move a group goes on as letters need it.
use Rattle.am_refinement.proofs.Words.{split_on_bool, ◌≡◌, inl, inr, either, ℕ, ◌==◌, List, [], ◌∷◌, ◌++◌, length, take, true, false, Some, refl, sym, ap, ◌∙◌, subst}
use Rattle.am_refinement.proofs.Words.{arith, nat_tests, GroupView, Entry, Leave, IsBeginningOf, stamp_of_list, key_of_stamp, list_begins_itself, empty_list_begins_all, front_begins_append, begins_through_both}
use Rattle.am_refinement.proofs.Words.{shorter_beginning_begins_longer, taken_front_begins_list, length_of_taken_list, Group, function_with_value, MayAccept, group_with_node, group_with_choice, chosen_by, node_with_entry, numbers, stores}
use Rattle.am_refinement.proofs.Words.{accepts, learns, begins, raises, shows, serves, fetches, gives_over, welcomes, asks, departs, closes, stops, GroupKeeps, own_stamp_is_above_promise}
use Rattle.am_refinement.proofs.Words.{put_keeps_property, put2_at_same_or_other, NameGrows, NewView, Grows, MovesGrow, ◌≤◌, View, Move, next_own_stamp, beginning_is_no_longer}
use Rattle.am_refinement.specs.Growing.{DecidesNew}
use Rattle.am_abstract_group.specs.Group.{Leads}
use Rattle.am_abstract_group.specs.Moves.{decides}
use Rattle.am_abstract_group.specs.Group as groups

-- ---- one name

no_less : (n : ℕ) → n ≤ n
no_less n = omega arith

pub name_grows_to_itself : (a : groups.ChainNode) → NameGrows a a
name_grows_to_itself a = assumption (list_begins_itself a.list, no_less (key_of_stamp a.promise))

longer_name : (a : groups.ChainNode) (e : Entry) → NameGrows a (node_with_entry a e)
longer_name a e = assumption (front_begins_append a.list (e ∷ []), no_less (key_of_stamp a.promise))

put_grows : (s : Group) (i : ℕ) (b : groups.ChainNode) → NameGrows (s.node i) b → (j : ℕ) → NameGrows (s.node j) (function_with_value s.node i b j)
put_grows s i b h j = put_keeps_property (λ k n. NameGrows (s.node k) n) s.node i b h (λ k other. name_grows_to_itself (s.node k)) j

-- where no view is decided, no choice changes, and what was shown and served stays
grows_by : (s t : Group) → ((i : ℕ) → NameGrows (s.node i) (t.node i)) → IsBeginningOf s.group t.group
    → ((x : ℕ) → IsBeginningOf (s.views.line x) (t.views.line x)) → t.views.decided ≡ s.views.decided → t.views.chosen ≡ s.views.chosen
    → ((x j : ℕ) (list : List Entry) → s.shown x j ≡ Some list → t.shown x j ≡ Some list) → ((x j : ℕ) → s.served x j ≡ true → t.served x j ≡ true) → Grows s t
grows_by s t each group lines decided chosen shown served = record {
  each = each;
  group = group;
  lines = λ x d. lines x;
  decided = λ x d. (ap (λ f. f x) decided ∙ d, ap (λ f. f x) chosen);
  new = λ x d. inl (ap (λ f. f x) (sym decided) ∙ d);
  shown = shown;
  served = served;
}

-- where names alone change, or nothing
pub growing_names_grow_group : (s t : Group) → ((i : ℕ) → NameGrows (s.node i) (t.node i)) → t.group ≡ s.group → t.views.line ≡ s.views.line
    → t.views.decided ≡ s.views.decided → t.views.chosen ≡ s.views.chosen → t.shown ≡ s.shown → t.served ≡ s.served → Grows s t
growing_names_grow_group s t each group line decided chosen shown served = grows_by s t each (subst (IsBeginningOf s.group) (sym group) (list_begins_itself s.group))
    (λ x. subst (IsBeginningOf (s.views.line x)) (ap (λ f. f x) (sym line)) (list_begins_itself (s.views.line x))) decided chosen
    (λ x j list is. ap (λ f. f x j) shown ∙ is) (λ x j is. ap (λ f. f x j) served ∙ is)

-- a move of one node alone
pub growing_node_grows_group : (s : Group) (i : ℕ) (b : groups.ChainNode) → NameGrows (s.node i) b → Grows s (group_with_node s i b)
growing_node_grows_group s i b h = growing_names_grow_group s (group_with_node s i b) (put_grows s i b h) refl refl refl refl refl refl

-- ---- a sequencer

pub line_of_leading_view : (s : Group) (i : ℕ) → GroupKeeps s → Leads i (s.node i) → s.views.line (key_of_stamp (stamp_of_list (s.node i).list)) ≡ (s.node i).list
line_of_leading_view s i k leads =
    let ok = (k.each i).leads leads in
    let viewed : stamp_of_list (s.node i).list ≡ s.views.current = ap stamp_of_list ok.chain ∙ k.views.view in
    ap s.views.line (ap key_of_stamp viewed) ∙ sym ok.chain

line_grows : (s : Group) (i : ℕ) (b : groups.ChainNode) (list : List Entry) → s.views.line (key_of_stamp (stamp_of_list (s.node i).list)) ≡ (s.node i).list
    → IsBeginningOf (s.node i).list list → (x : ℕ) → IsBeginningOf (s.views.line x) (function_with_value s.views.line (key_of_stamp (stamp_of_list (s.node i).list)) list x)
line_grows s i b list chain grows x = put_keeps_property (λ y l. IsBeginningOf (s.views.line y) l) s.views.line (key_of_stamp (stamp_of_list (s.node i).list)) list
    (subst (λ l. IsBeginningOf l list) (sym chain) grows) (λ y other. list_begins_itself (s.views.line y)) x

-- what begins the empty list is empty
pub beginning_of_nil_is_nil : (l : List Entry) → IsBeginningOf l [] → l ≡ []
beginning_of_nil_is_nil [] low = refl
beginning_of_nil_is_nil (e ∷ es) low = absurd (let long = beginning_is_no_longer low in omega arith)

-- what is accepted stands in what may be accepted
accepted_grows : (s : Group) (node : ℕ → groups.ChainNode) (list : List Entry) (n : ℕ) → IsBeginningOf s.group list → MayAccept node list (length s.group) n
    → IsBeginningOf s.group (take n list)
accepted_grows s node list n h may =
    let long = length_of_taken_list n list may.within in
    shorter_beginning_begins_longer h (taken_front_begins_list n list) (omega arith)

group_in : (s : Group) (i : ℕ) → GroupKeeps s → Leads i (s.node i) → IsBeginningOf s.group (s.node i).list
group_in s i k leads = subst (IsBeginningOf s.group) (sym ((k.each i).leads leads).chain) k.group

-- ---- a decision

decision_grows : (s : Group) (i : ℕ) (v : GroupView) → s.views.decided (key_of_stamp (s.node i).promise) ≡ false
    → NewView s (group_with_choice s i v) (key_of_stamp (s.node i).promise) → ((j : ℕ) → NameGrows (s.node j) ((group_with_choice s i v).node j)) → Grows s (group_with_choice s i v)
unfolding function_with_value
decision_grows s i v fresh new each = record {
  each = each;
  group = list_begins_itself s.group;
  lines = λ x d. (let f = other x d in rw f (list_begins_itself (s.views.line x)));
  decided = λ x d. (let f = other x d in (rw f d, rw f refl));
  new = λ x d. split_on_bool (x == key_of_stamp (s.node i).promise)
      (λ t. inr (let same : x ≡ key_of_stamp (s.node i).promise = grind (arith, nat_tests) in subst (NewView s (group_with_choice s i v)) (sym same) new))
      (λ f. inl (rw f at d));
  shown = λ x j list is. is;
  served = λ x j is. is;
}
  where
    other : (x : ℕ) → s.views.decided x ≡ true → (x == key_of_stamp (s.node i).promise) ≡ false
    other x d = split_on_bool (x == key_of_stamp (s.node i).promise)
        (λ t. absurd (let same : x ≡ key_of_stamp (s.node i).promise = grind (arith, nat_tests) in let z = ap s.views.decided same in cc))
        (λ f. f)

-- ---- each move

-- what a move makes of each name
pub move_grows_each_name : (s t : Group) → Move s t → GroupKeeps s → (j : ℕ) → NameGrows (s.node j) (t.node j)
move_grows_each_name s t (numbers i e leads fit may) k = put_grows s i (node_with_entry (s.node i) e) (longer_name (s.node i) e)
move_grows_each_name s t (stores i e up decided other stays next) k = put_grows s i (node_with_entry (s.node i) e) (longer_name (s.node i) e)
move_grows_each_name s t (learns i told acc up rises within before up_to given low) k =
    put_grows s i _ (assumption (list_begins_itself (s.node i).list, no_less (key_of_stamp (s.node i).promise)))
move_grows_each_name s t (begins i few up stays member) k =
    let above : key_of_stamp (s.node i).promise ≤ key_of_stamp (next_own_stamp i (s.node i)) = (let up_ = own_stamp_is_above_promise i (s.node i) (k.each i).small in omega arith) in
    put_grows s i _ (assumption (list_begins_itself (s.node i).list))
move_grows_each_name s t (raises i stamp there above) k =
    let higher : key_of_stamp (s.node i).promise ≤ key_of_stamp stamp = (let up_ = above.greater in omega arith) in
    put_grows s i _ (assumption (list_begins_itself (s.node i).list))
move_grows_each_name s t (fetches i h list e up ballot served shown next) k = put_grows s i (node_with_entry (s.node i) e) (longer_name (s.node i) e)
move_grows_each_name s t (decides i v may) k =
    put_grows s i _ (assumption (front_begins_append (s.node i).list (View (chosen_by (s.node i) v).view ∷ []), no_less (key_of_stamp (s.node i).promise)))
move_grows_each_name s t (gives_over i) k = put_grows s i _ (assumption (list_begins_itself (s.node i).list, no_less (key_of_stamp (s.node i).promise)))
move_grows_each_name s t (welcomes j stamp base join may) k =
    put_grows s j _ (assumption (subst (λ l. IsBeginningOf l (take base s.group)) (sym ((k.each j).blank may.no_log)) (empty_list_begins_all (take base s.group))))
move_grows_each_name s t (asks i up none) k = put_grows s i _ (assumption (list_begins_itself (s.node i).list, no_less (key_of_stamp (s.node i).promise)))
move_grows_each_name s t (departs i before may) k = put_grows s i _ (assumption (list_begins_itself (s.node i).list, no_less (key_of_stamp (s.node i).promise)))
move_grows_each_name s t (closes i n leads leaving alone may) k =
    put_grows s i _ (assumption (front_begins_append (s.node i).list (Leave i ∷ []), no_less (key_of_stamp (s.node i).promise)))
move_grows_each_name s t (stops i) k = put_grows s i _ (assumption (list_begins_itself (s.node i).list, no_less (key_of_stamp (s.node i).promise)))
move_grows_each_name s t _ k = λ j. name_grows_to_itself (s.node j)

-- and of the group
group_grows : (s t : Group) (move : Move s t) → GroupKeeps s → DecidesNew move → ((j : ℕ) → NameGrows (s.node j) (t.node j)) → Grows s t
group_grows s t (numbers i e leads fit may) k new each = grows_by s t each (list_begins_itself s.group)
    (line_grows s i (node_with_entry (s.node i) e) ((s.node i).list ++ e ∷ []) (line_of_leading_view s i k leads) (front_begins_append (s.node i).list (e ∷ []))) refl refl
    (λ x j list is. is) (λ x j is. is)
group_grows s t (accepts i n leads may) k new each = grows_by s t each
    (accepted_grows s s.node (s.node i).list n (group_in s i k leads) may) (λ x. list_begins_itself (s.views.line x)) refl refl (λ x j list is. is) (λ x j is. is)
group_grows s t (shows i there small other begun none) k new each = grows_by s t each (list_begins_itself s.group)
    (λ x. list_begins_itself (s.views.line x)) refl refl
    (λ x j list is. either (put2_at_same_or_other s.shown (key_of_stamp (s.node i).promise) i (Some (s.node i).list) x j)
    (λ z. (let same : s.shown (key_of_stamp (s.node i).promise) i ≡ Some list = (λ q. s.shown (sym z.0 q) (sym z.1 q)) ∙ is in absurd (cc)))
    (λ z. z.1 ∙ is))
    (λ x j is. is)
group_grows s t (serves i list up shown others) k new each = grows_by s t each (list_begins_itself s.group)
    (λ x. list_begins_itself (s.views.line x)) refl refl (λ x j l is. is)
    (λ x j is. either (put2_at_same_or_other s.served (key_of_stamp (s.node i).promise) i true x j) (λ z. z.2) (λ z. z.1 ∙ is))
group_grows s t (decides i v may) k new each = decision_grows s i v new.0 new.1 each
group_grows s t (closes i n leads leaving alone may) k new each =
    let m = s.node i in
    let more = front_begins_append m.list (Leave i ∷ []) in
    grows_by s t each (accepted_grows s (function_with_value s.node i (node_with_entry m (Leave i))) (m.list ++ Leave i ∷ []) n (begins_through_both (group_in s i k leads) more) may)
    (line_grows s i (node_with_entry m (Leave i)) (m.list ++ Leave i ∷ []) (line_of_leading_view s i k leads) more) refl refl (λ x j list is. is) (λ x j is. is)
group_grows s t _ k new each = growing_names_grow_group s t each refl refl refl refl refl refl

pub moves_grow_the_group : MovesGrow
moves_grow_the_group s t move k new = group_grows s t move k new (move_grows_each_name s t move k)
