-- What others' records leave of a name: its node, whether it stopped, and the letters that were sent.
use Rattle.am_race_laws.proofs.Words.{◌≡◌, ◌≢◌, ℕ, zero, suc, ◌<◌, List, [], ◌∷◌, ◌++◌, Bool, true, false, Some, sym, refl, ap, ◌∙◌, subst, arith, append_assoc}
use Rattle.am_race_laws.proofs.Words.{append-nil, ne_eqb, ◌==◌, ◌||◌, All, list_any-append, none-some, Rules, place_of_name, name_of_place_and_life, Record}
use Rattle.am_race_laws.proofs.Words.{acting_name_of_record, item_at, Terms, EachComesNext, is_stop, has_stopped, world_after, IsLawfulRecord}
use Rattle.am_race_laws.proofs.{Others.others_nodes_stay_through_event, Stays.all_of_cons_gives_both, Stays.place_of_place}
use Rattle.am_step_laws.proofs.Items.{slice_get_of_front}
use Rattle.am_race_laws.proofs.Words.{split_on_bool}

-- ---- others' records

pub nodes_stay_through_others_records : (rules : Rules) (before more : List Record) (name : ℕ) → All (λ r. place_of_name r.event.node ≢ place_of_name name) more
    → (world_after rules (before ++ more)).nodes name ≡ (world_after rules before).nodes name
nodes_stay_through_others_records rules before [] name apart = ap (λ (rs : List Record). (world_after rules rs).nodes name) (append-nil before)
nodes_stay_through_others_records rules before (r ∷ rest) name apart =
    let a = all_of_cons_gives_both (λ (q : Record). place_of_name q.event.node ≢ place_of_name name) r rest apart in
    ap (λ (rs : List Record). (world_after rules rs).nodes name) (sym (append_assoc before (r ∷ []) rest)) ∙ nodes_stay_through_others_records rules (before ++ r ∷ []) rest name a.1
    ∙ (others_nodes_stay_through_event rules before r name (λ s. a.0 (sym s))).0

-- whoever stopped in a beginning
pub has_stopped_in_longer_records : (before more : List Record) (name : ℕ) → has_stopped (before ++ more) name ≡ (has_stopped before name || has_stopped more name)
has_stopped_in_longer_records before more name = list_any-append _ before more

pub others_records_stop_no_name : (more : List Record) (name : ℕ) → All (λ r. place_of_name r.event.node ≢ place_of_name name) more → All (λ (r : Record). r.life ≡ 1) more → name < 16
    → has_stopped more name ≡ false
others_records_stop_no_name [] name apart lives few = refl
others_records_stop_no_name (r ∷ rest) name apart lives few =
    let a = all_of_cons_gives_both (λ (q : Record). place_of_name q.event.node ≢ place_of_name name) r rest apart in
    let l = all_of_cons_gives_both (λ (q : Record). q.life ≡ 1) r rest lives in
    let other : (acting_name_of_record r == name) ≡ false = ne_eqb (acting_name_of_record r) name
    (λ s. a.0 (sym (place_of_place r.event.node) ∙ ap place_of_name (sym (ap (name_of_place_and_life (place_of_name r.event.node)) l.0 ∙ omega arith) ∙ s))) in
    let none = others_records_stop_no_name rest name a.1 l.1 few in
    rw other (split_on_bool (is_stop r.event.act) (λ t. rw t none) (λ f. rw f none))

pub or_with_second_false : (a b : Bool) → b ≡ false → (a || b) ≡ a
or_with_second_false true b e = refl
or_with_second_false false b e = e

pub item_at_in_longer_list : {A : Type 0} (items more : List A) (number : ℕ) (x : A) → item_at items number ≡ Some x → item_at (items ++ more) number ≡ Some x
item_at_in_longer_list items more zero x e = absurd (none-some x e)
item_at_in_longer_list items more (suc k) x e = slice_get_of_front items more k x e

pub all_of_cons_records : (P : Record → Type 0) (r : Record) (rs : List Record) → P r → All P rs → All P (r ∷ rs)
all_of_cons_records P r rs p all zero d h = p
all_of_cons_records P r rs p all (suc k) d h = all k d (omega arith)

pub later_records_have_first_lives : (terms : Terms) (before more : List Record) → EachComesNext (IsLawfulRecord terms) (before ++ more) → All (λ (r : Record). r.life ≡ 1) more
later_records_have_first_lives terms before [] follows = λ k d h. absurd (omega arith)
later_records_have_first_lives terms before (r ∷ rest) follows =
    all_of_cons_records (λ (q : Record). q.life ≡ 1) r rest (follows before rest r refl).life
    (later_records_have_first_lives terms (before ++ r ∷ []) rest (subst (EachComesNext (IsLawfulRecord terms)) (sym (append_assoc before (r ∷ []) rest)) follows))
