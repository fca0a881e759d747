-- What a caller has seen grows by the records of one call.
use Rattle.am_race_laws.proofs.Words.{◌≡◌, ℕ, suc, ◌<◌, List, [], ◌∷◌, ◌++◌, filter, cond, Bool, true, false, sym, refl, ap, ◌∙◌, arith}
use Rattle.am_race_laws.proofs.Words.{append_assoc, append-nil, eq-eqb, ne_eqb, All, ◌==◌, list_all, and_parts, filter-append, list_all-append, place_of_name}
use Rattle.am_race_laws.proofs.Words.{Record, Caller, GoesOn, append_starts_with_front, starts_with_through_both, Tag, of_caller, of_call, Grown, CallerHasSeenMore}
use Rattle.am_race_laws.proofs.Boxing.{own_key_times_positive}
use Rattle.std.proofs.lemmas.Bool.{and_from}
use Rattle.am_race_laws.proofs.Words.{split_on_bool}

-- ---- tests of lists

pub list_all_of_one_item : {A : Type 0} (p : A → Bool) (x : A) → p x ≡ true → list_all p (x ∷ []) ≡ true
list_all_of_one_item p x is = and_from (p x) true is refl

pub list_all_of_appended_lists : {A : Type 0} (p : A → Bool) (xs ys : List A) → list_all p xs ≡ true → list_all p ys ≡ true → list_all p (xs ++ ys) ≡ true
list_all_of_appended_lists p xs ys a b = list_all-append p xs ys ∙ and_from (list_all p xs) (list_all p ys) a b

all_kept : {A : Type 0} (p : A → Bool) (xs : List A) → list_all p xs ≡ true → filter p xs ≡ xs
all_kept p [] is = refl
all_kept {A = A} p (x ∷ xs) is =
    ap (λ (b : Bool). cond b (x ∷ filter p xs) (filter p xs)) (and_parts (p x) (list_all p xs) is).0
    ∙ ap (λ (l : List A). x ∷ l) (all_kept p xs (and_parts (p x) (list_all p xs) is).1)

none_kept : {A : Type 0} (p : A → Bool) (xs : List A) → All (λ x. p x ≡ false) xs → filter p xs ≡ []
none_kept p [] none = refl
none_kept p (x ∷ xs) none = ap (λ (b : Bool). cond b (x ∷ filter p xs) (filter p xs)) (none 0 x (omega arith))
    ∙ none_kept p xs (λ k d h. none (suc k) d (omega arith))

-- ---- the records of a call

-- of those of its caller
of_call_is : (caller call : ℕ) (seen : List Record) → of_call caller call seen ≡ filter (λ r. r.by.call == call) (of_caller caller seen)
of_call_is caller call [] = refl
of_call_is caller call (r ∷ rest) = let so = of_call_is caller call rest in split_on_bool (r.by.caller == caller)
    (λ t. rw t (ap (λ (l : List Record). cond (r.by.call == call) (r ∷ l) l) so))
    (λ f. rw f so)

-- no call has been made under a number that is above all so far
pub no_records_of_new_call : (caller call : ℕ) (seen : List Record) → All (λ r. r.by.call < call) (of_caller caller seen) → of_call caller call seen ≡ []
no_records_of_new_call caller call seen earlier =
    of_call_is caller call seen
    ∙ none_kept (λ (r : Record). r.by.call == call) (of_caller caller seen) (λ k d h. ne_eqb _ call (λ e. let l = earlier k d h in omega arith))

pub records_of_call_grow : (place : ℕ) (tag : Tag) (old new mine : List Record) → CallerHasSeenMore place tag old new mine
    → of_call tag.caller tag.call new ≡ of_call tag.caller tag.call old ++ mine
records_of_call_grow place tag old new mine grows =
    of_call_is tag.caller tag.call new ∙ ap (filter (λ r. r.by.call == tag.call)) grows.all
    ∙ filter-append (λ (r : Record). r.by.call == tag.call) (of_caller tag.caller old) mine
    ∙ ap (λ (l : List Record). l ++ filter (λ r. r.by.call == tag.call) mine) (sym (of_call_is tag.caller tag.call old))
    ∙ ap (λ (l : List Record). of_call tag.caller tag.call old ++ l) (all_kept (λ (r : Record). r.by.call == tag.call) mine grows.call)

-- ---- growing

pub no_growth_without_own_record : (place : ℕ) (tag : Tag) (old new : List Record) → GoesOn (Caller tag.caller ∷ []) old new → CallerHasSeenMore place tag old new []
no_growth_without_own_record place tag old new goes = record {
  begins = goes.begins;
  all = goes.own (Caller tag.caller) (own_key_times_positive (Caller tag.caller)) ∙ sym (append-nil (of_caller tag.caller old));
  caller = refl;
  call = refl;
  place_ = refl;
}

pub growth_by_one_record : (place : ℕ) (tag : Tag) (old new : List Record) (item : Record) → Grown tag.caller old new item → place_of_name item.event.node ≡ place
    → item.by.caller ≡ tag.caller
    → item.by.call ≡ tag.call → CallerHasSeenMore place tag old new (item ∷ [])
growth_by_one_record place tag old new item grown at caller call =
    let its : (item.by.caller == tag.caller) ≡ true = eq-eqb item.by.caller tag.caller caller in record {
      begins = starts_with_through_both old grown.before new grown.goes.begins (append_starts_with_front new grown.before (item ∷ []) grown.is);
      all = ap (of_caller tag.caller) grown.is ∙ filter-append (λ (r : Record). r.by.caller == tag.caller) grown.before (item ∷ [])
          ∙ ap (λ (l : List Record). l ++ of_caller tag.caller (item ∷ [])) (grown.goes.own (Caller tag.caller) (own_key_times_positive (Caller tag.caller)))
          ∙ ap (λ (b : Bool). of_caller tag.caller old ++ cond b (item ∷ []) []) its;
      caller = list_all_of_one_item (λ (r : Record). r.by.caller == tag.caller) item its;
      call = list_all_of_one_item (λ (r : Record). r.by.call == tag.call) item (eq-eqb item.by.call tag.call call);
      place_ = list_all_of_one_item (λ (r : Record). place_of_name r.event.node == place) item (eq-eqb (place_of_name item.event.node) place at);
    }

pub growth_through_middle : (place : ℕ) (tag : Tag) (old middle new xs ys : List Record) → CallerHasSeenMore place tag old middle xs → CallerHasSeenMore place tag middle new ys
    → CallerHasSeenMore place tag old new (xs ++ ys)
growth_through_middle place tag old middle new xs ys a b = record {
  begins = starts_with_through_both old middle new a.begins b.begins;
  all = b.all ∙ ap (λ (l : List Record). l ++ ys) a.all ∙ append_assoc (of_caller tag.caller old) xs ys;
  caller = list_all_of_appended_lists (λ (r : Record). r.by.caller == tag.caller) xs ys a.caller b.caller;
  call = list_all_of_appended_lists (λ (r : Record). r.by.call == tag.call) xs ys a.call b.call;
  place_ = list_all_of_appended_lists (λ (r : Record). place_of_name r.event.node == place) xs ys a.place_ b.place_;
}
