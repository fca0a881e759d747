-- What moves keep of each list, whoever has stopped or departed: it is a good one, on the line of a decided view; and each decided view has
-- a set of names.
use Rattle.am_lawful_runs.proofs.Words.{is_up_of_same_flags, ◌≡◌, ◌≢◌, ◌⊎◌, either, inl, inr, ℕ, ◌≤◌, List, length, Some, [], true, refl, sym, ap, ◌∙◌, subst, Entry, Leave}
use Rattle.am_lawful_runs.proofs.Words.{IsSetOfNames, item_at, IsBeginningOf, IsGoodList, stamp_of_list, key_of_stamp, list_begins_itself, begins_through_both, beginning_of_good_is_good, Group, Chosen, IsUp, function_with_value, chain_of}
use Rattle.am_lawful_runs.proofs.Words.{Move, group_with_node, chosen_by, node_with_entry, learns, begins, raises, gives_over, welcomes, asks, stops, GroupKeeps, put_at_same_or_other, put_at_same_index}
use Rattle.am_lawful_runs.proofs.Words.{MoveIsSound, Moves, none, moves, Grows, GroupOk, group_run_is_kept, group_goes_on_by_move, departs}
use Rattle.am_abstract_group.specs.Moves.{numbers, stores, fetches, decides, closes}
use Rattle.am_abstract_group.specs.Group as groups
use Rattle.am_lawful_runs.proofs.Lists.{item_stays_in_longer_list, item_at_in_beginning}

-- a list on the line of a decided view
pub record ListIsOnLineOfView (s : Group) (list : List Entry) : Type 0 where
  pub view : ℕ
  pub decided : s.views.decided view ≡ true
  pub line : IsBeginningOf list (s.views.line view)

pub record ListsAreShaped (s : Group) : Type 0 where
  pub lines : (i : ℕ) → (s.node i).list ≢ [] → ListIsOnLineOfView s (s.node i).list
  pub sets : (x : ℕ) → s.views.decided x ≡ true → IsSetOfNames (s.views.chosen x).members
  pub good : (i : ℕ) → IsGoodList (s.node i).list

-- ---- a move

-- a name's list is as it was, or the name is up, or it is the last member that goes
pub data ListOfNameGoes (s t : Group) (i : ℕ) : Type 0 where
  same : (t.node i).list ≡ (s.node i).list → ListOfNameGoes s t i
  up : IsUp (t.node i) → ListOfNameGoes s t i
  gone : IsBeginningOf (t.node i).list (chain_of t.views) → ListOfNameGoes s t i

put_goes : (s t : Group) (i : ℕ) (m : groups.ChainNode) → t.node ≡ function_with_value s.node i m → ((t.node i ≡ m) → ListOfNameGoes s t i) → (j : ℕ) → ListOfNameGoes s t j
put_goes s t i m is own j = either (put_at_same_or_other s.node i m j)
    (λ c. subst (ListOfNameGoes s t) (sym c.0) (own (ap (λ f. f i) is ∙ put_at_same_index s.node i m)))
    (λ c. same (ap (λ (a : groups.ChainNode). a.list) (ap (λ f. f j) is ∙ c.1)))

-- its list stays, or it is up with another
list_stays : (s t : Group) (i : ℕ) (m : groups.ChainNode) → t.node ≡ function_with_value s.node i m → m.list ≡ (s.node i).list → (j : ℕ) → ListOfNameGoes s t j
list_stays s t i m is list j = put_goes s t i m is (λ own. same (ap (λ (a : groups.ChainNode). a.list) own ∙ list)) j

now_up : (s t : Group) (i : ℕ) (m : groups.ChainNode) → t.node ≡ function_with_value s.node i m → IsUp m → (j : ℕ) → ListOfNameGoes s t j
now_up s t i m is there j = put_goes s t i m is (λ own. up (subst IsUp (sym own) there)) j

closed_line : (s t : Group) (i : ℕ) (m : groups.ChainNode) → GroupKeeps s → groups.Leads i (s.node i) → t.node ≡ function_with_value s.node i m → t.views.current ≡ s.views.current
    → t.views.line ≡ function_with_value s.views.line (key_of_stamp (stamp_of_list (s.node i).list)) m.list → (j : ℕ) → ListOfNameGoes s t j
closed_line s t i m k leads is current line j = put_goes s t i m is
    (λ own.
    let ok = (k.each i).leads leads in
    let viewed : stamp_of_list (s.node i).list ≡ s.views.current = ap stamp_of_list ok.chain ∙ k.views.view in
    let at = key_of_stamp (stamp_of_list (s.node i).list) in
    let chain : chain_of t.views ≡ m.list = (λ x. t.views.line (key_of_stamp (current x))) ∙ ap (λ u. t.views.line (key_of_stamp u)) (sym viewed) ∙ ap (λ f. f at) line
    ∙ put_at_same_index s.views.line at m.list in
    gone (subst (IsBeginningOf (t.node i).list) (sym chain) (subst (λ (a : groups.ChainNode). IsBeginningOf (t.node i).list a.list) own (list_begins_itself (t.node i).list)))) j

move_goes : (s t : Group) → Move s t → GroupKeeps s → (i : ℕ) → ListOfNameGoes s t i
move_goes s t (numbers i e leads fit may) k = now_up s t i (node_with_entry (s.node i) e) refl (is_up_of_same_flags (s.node i) (node_with_entry (s.node i) e) refl refl refl leads.up)
move_goes s t (stores i e there decided other stays next) k = now_up s t i (node_with_entry (s.node i) e) refl
    (is_up_of_same_flags (s.node i) (node_with_entry (s.node i) e) refl refl refl there)
move_goes s t (learns i told acc there rises within before up_to given low) k = list_stays s t i _ refl refl
move_goes s t (begins i few there stays member) k = list_stays s t i _ refl refl
move_goes s t (raises i stamp there above) k = list_stays s t i _ refl refl
move_goes s t (fetches i f list e there ballot served shown next) k = now_up s t i (node_with_entry (s.node i) e) refl
    (is_up_of_same_flags (s.node i) (node_with_entry (s.node i) e) refl refl refl there)
move_goes s t (decides i v may) k = now_up s t i _ refl (is_up_of_same_flags (s.node i) _ refl refl refl may.up)
move_goes s t (gives_over i) k = list_stays s t i _ refl refl
move_goes s t (welcomes j stamp base join may) k = now_up s t j _ refl (assumption)
move_goes s t (asks i there unballoted) k = list_stays s t i _ refl refl
move_goes s t (departs i before may) k = list_stays s t i _ refl refl
move_goes s t (closes i n leads leaving alone may) k = closed_line s t i (record (node_with_entry (s.node i) (Leave i)) { departed = true }) k leads refl refl refl
move_goes s t (stops i) k = list_stays s t i _ refl refl
move_goes s t _ k = λ j. same refl

-- ---- what is kept

lines_on : (s t : Group) → GroupKeeps t → Grows s t → ((i : ℕ) → ListOfNameGoes s t i) → ListsAreShaped s → (i : ℕ) → (t.node i).list ≢ [] → ListIsOnLineOfView t (t.node i).list
lines_on s t k g each h i some = elim (each i) [
  | same is ↦
      let o = h.lines i (λ none_. some (is ∙ none_)) in
      record {
        view = o.view;
        decided = (g.decided o.view o.decided).0;
        line = begins_through_both (subst (λ l. IsBeginningOf l (s.views.line o.view)) (sym is) o.line) (g.lines o.view o.decided);
      }
  | up there ↦ record { view = key_of_stamp t.views.current; decided = k.views.now; line = (k.each i).list there }
  | gone on ↦ record { view = key_of_stamp t.views.current; decided = k.views.now; line = on }
]

good_on : (s t : Group) → GroupKeeps t → ((i : ℕ) → ListOfNameGoes s t i) → ListsAreShaped s → (i : ℕ) → IsGoodList (t.node i).list
good_on s t k each h i = elim (each i) [
  | same is ↦ subst IsGoodList (sym is) (h.good i)
  | up there ↦ beginning_of_good_is_good ((k.each i).list there) k.views.good
  | gone on ↦ beginning_of_good_is_good on k.views.good
]

sets_on : (s t : Group) (move : Move s t) → MoveIsSound move → ListsAreShaped s → (x : ℕ) → t.views.decided x ≡ true → IsSetOfNames (t.views.chosen x).members
sets_on s t (decides i v may) ok h x d =
    let at = key_of_stamp (s.node i).promise in
    let choice = chosen_by (s.node i) v in
    by_number (put_at_same_or_other s.views.chosen at choice x) (put_at_same_or_other s.views.decided at true x)
  where
    by_number : ((x ≡ key_of_stamp (s.node i).promise) × (function_with_value s.views.chosen (key_of_stamp (s.node i).promise) (chosen_by (s.node i) v) x ≡ chosen_by
        (s.node i) v))
        ⊎ ((x ≢ key_of_stamp (s.node i).promise) × (function_with_value s.views.chosen (key_of_stamp (s.node i).promise) (chosen_by (s.node i) v) x ≡ s.views.chosen x))
        → ((x ≡ key_of_stamp (s.node i).promise) × (function_with_value s.views.decided (key_of_stamp (s.node i).promise) true x ≡ true))
        ⊎ ((x ≢ key_of_stamp (s.node i).promise) × (function_with_value s.views.decided (key_of_stamp (s.node i).promise) true x ≡ s.views.decided x))
        → IsSetOfNames (function_with_value s.views.chosen (key_of_stamp (s.node i).promise) (chosen_by (s.node i) v) x).members
    by_number (inl a) c = subst (λ (b : Chosen). IsSetOfNames b.members) (sym a.1) ok.0
    by_number (inr a) (inl c) = absurd (a.0 c.0)
    by_number (inr a) (inr c) = subst (λ (b : Chosen). IsSetOfNames b.members) (sym a.1) (h.sets x (sym c.1 ∙ d))
sets_on s t (stops i) ok h x d = absurd ok
sets_on s t _ ok h x d = h.sets x d

pub lists_are_shaped_after_move : (founders : List ℕ) (first resilience : ℕ) (s t : Group) → GroupOk founders first resilience s → (move : Move s t) → MoveIsSound move → ListsAreShaped s
    → ListsAreShaped t
lists_are_shaped_after_move founders first resilience s t g move ok h =
    let on = group_goes_on_by_move founders first resilience s t g move ok in
    record {
      lines = lines_on s t (group_run_is_kept founders first resilience t on.group_) on.grows
          (move_goes s t move (group_run_is_kept founders first resilience s g)) h;
      sets = sets_on s t move ok h;
      good = good_on s t (group_run_is_kept founders first resilience t on.group_)
          (move_goes s t move (group_run_is_kept founders first resilience s g)) h;
    }

pub lists_are_shaped_after_moves : (founders : List ℕ) (first resilience : ℕ) (s t : Group) → GroupOk founders first resilience s → Moves s t → ListsAreShaped s → ListsAreShaped t
lists_are_shaped_after_moves founders first resilience s t g none h = h
lists_are_shaped_after_moves founders first resilience s t g (moves {t = u} move ok rest) h =
    let on = group_goes_on_by_move founders first resilience s u g move ok in
    lists_are_shaped_after_moves founders first resilience u t on.group_ rest (lists_are_shaped_after_move founders first resilience s u g move ok h)

-- ---- a stop

pub lists_are_shaped_after_stop : (s : Group) (i : ℕ) → ListsAreShaped s → ListsAreShaped (group_with_node s i (record (s.node i) { stopped = true }))
lists_are_shaped_after_stop s i h = record {
  lines = λ j. either (put_at_same_or_other s.node i (record (s.node i) { stopped = true }) j)
      (λ c. of_node j (s.node i).list
      (ap (λ (a : groups.ChainNode). a.list) c.1) (ap (λ k. (s.node k).list) c.0))
      (λ c. of_node j (s.node j).list
      (ap (λ (a : groups.ChainNode). a.list) c.1) refl);
  sets = h.sets;
  good = λ j. either (put_at_same_or_other s.node i (record (s.node i) { stopped = true }) j)
      (λ c. subst IsGoodList (sym (ap (λ (a : groups.ChainNode). a.list) c.1)) (h.good i))
      (λ c. subst IsGoodList (sym (ap (λ (a : groups.ChainNode). a.list) c.1)) (h.good j));
}
  where
    of_node : (j : ℕ) (list : List Entry) → (function_with_value s.node i (record (s.node i) { stopped = true }) j).list ≡ list → (s.node j).list ≡ list
        → (function_with_value s.node i (record (s.node i) { stopped = true }) j).list ≢ []
        → ListIsOnLineOfView (group_with_node s i (record (s.node i) { stopped = true })) (function_with_value s.node i (record (s.node i) { stopped = true }) j).list
    of_node j list now was some =
        let same : (function_with_value s.node i (record (s.node i) { stopped = true }) j).list ≡ (s.node j).list = now ∙ sym was in
        let o = h.lines j (λ none_. some (same ∙ none_)) in
        record { view = o.view; decided = o.decided; line = subst (λ l. IsBeginningOf l (s.views.line o.view)) (sym same) o.line }

-- ---- a name's list goes on along the chain

-- as far as the group list was at the beginning of a step, a name's list has its entries
abbrev pub ListGoesAlong : Group → Group → ℕ → Type 0
ListGoesAlong s t i = (number : ℕ) (e : Entry) → number ≤ length s.group → item_at (t.node i).list number ≡ Some e → item_at s.group number ≡ Some e

along_chain : (s t : Group) (i : ℕ) → IsBeginningOf s.group t.group → GroupKeeps t → IsBeginningOf (t.node i).list (chain_of t.views) → ListGoesAlong s t i
along_chain s t i grows k on number e low at = item_at_in_beginning number e (begins_through_both grows k.group) low (item_stays_in_longer_list number e on at)

pub running_name_goes_along_itself : (s : Group) (i : ℕ) → GroupKeeps s → IsUp (s.node i) → ListGoesAlong s s i
running_name_goes_along_itself s i k up_ = along_chain s s i (list_begins_itself s.group) k ((k.each i).list up_)

along_move : (r s t : Group) (i : ℕ) → IsBeginningOf r.group t.group → GroupKeeps t → ListOfNameGoes s t i → ListGoesAlong r s i → ListGoesAlong r t i
along_move r s t i grows k (same is) h number e low at = h number e low (ap (λ l. item_at l number) (sym is) ∙ at)
along_move r s t i grows k (up there) h number e low at = along_chain r t i grows k ((k.each i).list there) number e low at
along_move r s t i grows k (gone on) h number e low at = along_chain r t i grows k on number e low at

-- what a name's list keeps from move to move, from a group on whose list grows
pub property_of_lists_by_moves : (P : Group → Type 0) (founders : List ℕ) (first resilience : ℕ) (r s t : Group) (i : ℕ)
    → ((a b : Group) → IsBeginningOf r.group b.group → GroupKeeps b → ListOfNameGoes a b i → P a → P b) → IsBeginningOf r.group s.group → GroupOk founders first resilience s → Moves s t
    → P s → P t
property_of_lists_by_moves P founders first resilience r s t i keeps grows g none h = h
property_of_lists_by_moves P founders first resilience r s t i keeps grows g (moves {t = u} move ok rest) h =
    let on = group_goes_on_by_move founders first resilience s u g move ok in
    let more = begins_through_both grows on.grows.group in
    property_of_lists_by_moves P founders first resilience r u t i keeps more on.group_ rest
    (keeps s u more (group_run_is_kept founders first resilience u on.group_) (move_goes s u move (group_run_is_kept founders first resilience s g) i) h)

pub name_goes_along_by_moves : (founders : List ℕ) (first resilience : ℕ) (r s t : Group) (i : ℕ) → IsBeginningOf r.group s.group → GroupOk founders first resilience s → Moves s t
    → ListGoesAlong r s i → ListGoesAlong r t i
name_goes_along_by_moves founders first resilience r s t i grows g path h =
    property_of_lists_by_moves (λ q. ListGoesAlong r q i) founders first resilience r s t i (λ a b. along_move r a b i) grows g path h
