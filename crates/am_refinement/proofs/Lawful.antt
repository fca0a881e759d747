-- As long as nobody stops, no move makes a run unlawful.
use Rattle.am_refinement.proofs.Words.{GroupView, split_on_bool, ◌≡◌, inl, ℕ, ◌==◌, ◌&&◌, ◌||◌, not, nat_lt, Bool, true, false, length, refl, sym, ap, ◌∙◌, subst, arith}
use Rattle.am_refinement.proofs.Words.{nat_tests, has, key_of_stamp, Group, Chosen, function_with_value, list_with_chosen_view, Move, group_with_choice, chosen_by, node_with_entry, numbers, stores, learns, begins}
use Rattle.am_refinement.proofs.Words.{raises, fetches, gives_over, welcomes, asks, departs, closes, stops, more, counts_for, IsLawful, GroupKeeps, put_keeps_property, count_le_of_weaker_test}
use Rattle.am_refinement.proofs.Words.{group_run_is_kept_lawful, IsNoStop, LawfulRunsGoOn}
use Rattle.am_abstract_group.specs.Moves.{decides}
use Rattle.am_abstract_group.specs.Group as groups

-- ---- what counts as lost

abbrev lost : Group → ℕ → ℕ → Bool
lost s view name = counts_for s view name && ((s.node name).stopped && not (s.node name).departed)

-- a node that counts no more than it did
data NoMore (a b : groups.ChainNode) : Type 0 where
  as_before : b.has_log ≡ a.has_log → b.start ≡ a.start → b.stopped ≡ a.stopped → (a.departed ≡ true → b.departed ≡ true) → NoMore a b
  runs : b.stopped ≡ false → NoMore a b

same_lost : (members : Bool) (a b : groups.ChainNode) (n : ℕ) → NoMore a b
    → ((members || (b.has_log && nat_lt n b.start)) && (b.stopped && not b.departed)) ≡ true
    → ((members || (a.has_log && nat_lt n a.start)) && (a.stopped && not a.departed)) ≡ true
same_lost members a b n (as_before log start_ stopped departed) h =
    let now : ((members || (a.has_log && nat_lt n a.start)) &&
    (a.stopped && not b.departed)) ≡ true = (λ i. (members || (sym log i && nat_lt n (sym start_ i))) && (sym stopped i && not b.departed)) ∙ h in
    split_on_bool a.departed
    (λ t. absurd (let gone = departed t in let z :
    ((members || (a.has_log && nat_lt n a.start)) &&
    (a.stopped && false)) ≡ true = subst (λ d. ((members || (a.has_log && nat_lt n a.start)) && (a.stopped && not d)) ≡ true) gone now in
    never (members || (a.has_log && nat_lt n a.start)) a.stopped z))
    (λ f. rw f (split_on_bool b.departed
    (λ t. absurd (let z : ((members || (a.has_log && nat_lt n a.start)) &&
    (a.stopped && false)) ≡ true = subst (λ d. ((members || (a.has_log && nat_lt n a.start)) && (a.stopped && not d)) ≡ true) t now in
    never (members || (a.has_log && nat_lt n a.start)) a.stopped z))
    (λ g. subst (λ d. ((members || (a.has_log && nat_lt n a.start)) && (a.stopped && not d)) ≡ true) g now)))
  where
    never : (x y : Bool) → (x && (y && false)) ≡ true → ⊥
    never true true z = cc
    never true false z = cc
    never false y z = cc
same_lost members a b n (runs f) h = absurd (
    let z : ((members || (b.has_log && nat_lt n b.start)) &&
    (false && not b.departed)) ≡ true = subst (λ d. ((members || (b.has_log && nat_lt n b.start)) && (d && not b.departed)) ≡ true) f h in
    none (members || (b.has_log && nat_lt n b.start)) z)
  where
    none : (x : Bool) → (x && false) ≡ true → ⊥
    none true z = cc
    none false z = cc

-- ---- a move

lawful_where : (s t : Group) → ((view : ℕ) → t.views.complete view ≡ true → (s.views.complete view ≡ true) × (t.views.chosen view ≡ s.views.chosen view))
    → ((x : ℕ) → s.views.complete x ≡ true → t.views.complete x ≡ true)
    → ((i : ℕ) → NoMore (s.node i) (t.node i)) → IsLawful s → IsLawful t
lawful_where s t old new each h = λ view complete greatest.
    (let o = old view complete in
    let before = h view o.0 (λ x c. greatest x (new x c)) in
    let fewer = count_le_of_weaker_test (lost t view) (lost s view) 256 (λ j passes.
    (let same : counts_for t view j ≡ (has (s.views.chosen view).members j ||
    ((t.node j).has_log && nat_lt (length (list_with_chosen_view (s.views.chosen view))) (t.node j).start)) =
    ap (λ (c : Chosen). has c.members j || ((t.node j).has_log && nat_lt (length (list_with_chosen_view c)) (t.node j).start)) o.1 in
    same_lost (has (s.views.chosen view).members j) (s.node j) (t.node j) (length (list_with_chosen_view (s.views.chosen view))) (each j)
    (ap (λ b. b && ((t.node j).stopped && not (t.node j).departed)) (sym same) ∙ passes))) in
    let bound = ap (λ (c : Chosen). c.resilience) o.1 in
    omega arith)

same_more : (a : groups.ChainNode) → NoMore a a
same_more a = as_before refl refl refl (λ t. t)

put_more : (s : Group) (i : ℕ) (b : groups.ChainNode) → NoMore (s.node i) b → (j : ℕ) → NoMore (s.node j) (function_with_value s.node i b j)
put_more s i b h j = put_keeps_property (λ k n. NoMore (s.node k) n) s.node i b h (λ k other. same_more (s.node k)) j

-- of a move that chooses nothing
lawful_same : (s t : Group) → t.views.complete ≡ s.views.complete → t.views.chosen ≡ s.views.chosen → ((i : ℕ) → NoMore (s.node i) (t.node i)) → IsLawful s
    → IsLawful t
lawful_same s t complete chosen each h = lawful_where s t (λ view c. (ap (λ f. f view) (sym complete) ∙ c, ap (λ f. f view) chosen))
    (λ x c. ap (λ f. f x) complete ∙ c) each h

-- a ballot that may be decided isn't
undecided : (s : Group) (i x : ℕ) → GroupKeeps s → groups.IsUp (s.node i) → (s.node i).ballot ≡ true → s.views.decided x ≡ true
    → (x == key_of_stamp (s.node i).promise) ≡ false
undecided s i x k up ballot d =
    let above = ((k.each i).ballot up ballot).above in
    let most = k.views.order x d in
    split_on_bool (x == key_of_stamp (s.node i).promise) (λ t. absurd (let same : x ≡ key_of_stamp (s.node i).promise = grind (arith, nat_tests) in omega arith)) (λ f. f)

decided_lawful : (s : Group) (i : ℕ) (v : GroupView) → GroupKeeps s → groups.IsUp (s.node i) → (s.node i).ballot ≡ true → IsLawful s
    → IsLawful (group_with_choice s i v)
unfolding function_with_value
decided_lawful s i v k up ballot h = lawful_where s (group_with_choice s i v)
    (λ view c. (let f = undecided s i view k up ballot (k.views.marked view c) in (c, rw f refl)))
    (λ x c. c)
    (λ j. put_more s i (record (s.node i) { list = list_with_chosen_view (chosen_by (s.node i) v); ballot = false }) (as_before refl refl refl (λ z. z)) j)
    h

lawful_move : (s t : Group) (move : Move s t) → GroupKeeps s → IsNoStop move → IsLawful s → IsLawful t
lawful_move s t (numbers i e leads fit may) k goes h = lawful_same s t refl refl (put_more s i (node_with_entry (s.node i) e) (as_before refl refl refl (λ z. z))) h
lawful_move s t (stores i e up decided other stays next) k goes h = lawful_same s t refl refl
    (put_more s i (node_with_entry (s.node i) e) (as_before refl refl refl (λ z. z))) h
lawful_move s t (learns i told acc up rises within before up_to given low) k goes h = lawful_same s t refl refl
    (put_more s i (record (s.node i) { told = told; acc = acc }) (as_before refl refl refl (λ z. z))) h
lawful_move s t (begins i few up stays member) k goes h = lawful_same s t refl refl (put_more s i _ (as_before refl refl refl (λ z. z))) h
lawful_move s t (raises i stamp there above) k goes h = lawful_same s t refl refl (put_more s i _ (as_before refl refl refl (λ z. z))) h
lawful_move s t (fetches i g list e up ballot served shown next) k goes h = lawful_same s t refl refl
    (put_more s i (node_with_entry (s.node i) e) (as_before refl refl refl (λ z. z))) h
lawful_move s t (decides i v may) k goes h = decided_lawful s i v k may.up may.ballot h
lawful_move s t (gives_over i) k goes h = lawful_same s t refl refl (put_more s i _ (as_before refl refl refl (λ z. z))) h
lawful_move s t (welcomes j stamp base join may) k goes h = lawful_same s t refl refl (put_more s j _ (runs may.there.goes)) h
lawful_move s t (asks i up none) k goes h = lawful_same s t refl refl (put_more s i _ (as_before refl refl refl (λ z. z))) h
lawful_move s t (departs i before may) k goes h = lawful_same s t refl refl (put_more s i _ (as_before refl refl refl (λ z. refl))) h
lawful_move s t (closes i n leads leaving alone may) k goes h = lawful_same s t refl refl (put_more s i _ (as_before refl refl refl (λ z. refl))) h
lawful_move s t (stops i) k goes h = absurd goes
lawful_move s t _ k goes h = lawful_same s t refl refl (λ j. same_more (s.node j)) h

-- ---- a run

pub moves_keep_run_lawful : LawfulRunsGoOn
moves_keep_run_lawful founders first resilience s t run move goes =
    let o = group_run_is_kept_lawful founders first resilience s run in
    more run (record { moved = t; move = move; complete = t.views.complete; stay = λ view c. c; marks = λ view c. inl c; is = refl })
    (lawful_move s t move o.kept goes o.lawful)

-- ---- a decision in a lawful run
