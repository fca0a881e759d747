-- What holds of the acts of a call where it holds of the planned one, and of a whole journal where it holds of its turns, too.
use Rattle.am_trace_laws.proofs.ScriptWords.{◌≡◌, ℕ, zero, suc, ◌+◌, ◌-◌, ◌==◌, ◌&&◌, nat_lt, Bool, true, false, is_some, List, [], ◌∷◌, ◌++◌, length, take, drop}
use Rattle.am_trace_laws.proofs.ScriptWords.{filter, Option, Some, None, slice_get, refl, sym, ap, ap₂, ◌∙◌, subst, arith, ◌⊎◌, inl, inr, append_assoc, true≢false}
use Rattle.am_trace_laws.proofs.ScriptWords.{All, and_parts, nat_tests, All-nil, All-cons, All-append, All-head, All-tail, All-filter, split_on_bool, Outcome, Act, Record}
use Rattle.am_trace_laws.proofs.ScriptWords.{RacePlan, ThreadPlan, item_of_index_has_property, own_answer, is_take, same_bytes, same_act, has_no_records, asks, checks, is_followed}
use Rattle.am_trace_laws.proofs.ScriptWords.{is_receive, is_other, is_one_call, at_one_place, first_call, are_calls, IsLegalWithTags, calls_in, calls_of, of_caller}
use Rattle.am_trace_laws.proofs.ScriptWords.{is_own, is_turn_part, is_check}
use Rattle.am_race_laws.specs.Callers.{records_behind}
use Rattle.am_group.specs.declared.event.Act.TheVariants as act

-- ---- planned acts

pub same_bytes_gives_equal_lists : (xs ys : List ℕ) → same_bytes xs ys ≡ true → xs ≡ ys
same_bytes_gives_equal_lists [] [] h = refl
same_bytes_gives_equal_lists (x ∷ xs) (y ∷ ys) h =
    let parts = and_parts (x == y) (same_bytes xs ys) h in
    let first = parts.0 in
    let same : x ≡ y = grind (arith, nat_tests) in
    ap₂ (λ (z : ℕ) (zs : List ℕ). z ∷ zs) same (same_bytes_gives_equal_lists xs ys parts.1)
same_bytes_gives_equal_lists _ _ h = cc

-- an act like a planned one has the same answers
same_answers : (a b : Act) (o : Outcome) → same_act a b ≡ true → own_answer a o ≡ own_answer b o
unfolding own_answer
same_answers (act.Send x) (act.Send y) o h = refl
same_answers act.Take act.Take o h = refl
same_answers act.Join act.Join o h = refl
same_answers act.Leave act.Leave o h = refl
same_answers (act.Reset x y) (act.Reset z u) o h = refl
same_answers act.Stop act.Stop o h = refl
same_answers _ _ o h = absurd (true≢false (sym h))

-- ---- journals by record

there : (before rest : List Record) (r : Record) → slice_get (before ++ r ∷ rest) (length before) ≡ Some r
there [] rest r = refl
there (x ∷ before) rest r = there before rest r

-- what holds of each record, by those before it, holds of all
pub all_rest_of_each_record : (P : Record → Type 0) (journal before rest : List Record) → ((b more : List Record) (r : Record) → journal ≡ b ++ r ∷ more → P r)
    → journal ≡ before ++ rest → All P rest
all_rest_of_each_record P journal before [] each is = All-nil P
all_rest_of_each_record P journal before (r ∷ rest) each is =
    All-cons P r rest (each before rest r is) (all_rest_of_each_record P journal (before ++ r ∷ []) rest each (is ∙ sym (append_assoc before (r ∷ []) rest)))

pub all_of_append_gives_first : (P : Record → Type 0) (xs ys : List Record) → All P (xs ++ ys) → All P xs
all_of_append_gives_first P [] ys h = All-nil P
all_of_append_gives_first P (x ∷ xs) ys h = All-cons P x xs (All-head P x (xs ++ ys) h) (all_of_append_gives_first P xs ys (All-tail P x (xs ++ ys) h))

all_rest : (P : Record → Type 0) (xs ys : List Record) → All P (xs ++ ys) → All P ys
all_rest P [] ys h = h
all_rest P (x ∷ xs) ys h = all_rest P xs ys (All-tail P x (xs ++ ys) h)

-- ---- calls

-- a receive and what is like a planned act have it, and so has what a call asks at its end, where its own act, which isn't answered, is good
pub record ActPropertyIsKept (P : Act → Type 0) (Good : Record → Type 0) : Type 0 where
  pub take_ : P act.Take
  pub planned : (a b : Act) → same_act a b ≡ true → P a → P b
  pub asked : (own : Record) (b : Act) → Good own → is_some (own_answer own.event.act own.outcome) ≡ false
      → asks own.event.act own.outcome own.packets b ≡ true → P b

module _ (P : Act → Type 0) (Good : Record → Type 0) (kept : ActPropertyIsKept P Good) where
  -- a record is a turn, or its act has it
  abbrev IsFine : Record → Type 0
  IsFine r = (is_turn_part r.by.part ≡ true) ⊎ P r.event.act

  takes : (a : Act) → is_take a ≡ true → P a
  takes act.Take h = kept.take_
  takes _ h = absurd (true≢false (sym h))

  none_left : (rs : List Record) → has_no_records rs ≡ true → All IsFine rs
  none_left [] h = All-nil IsFine
  none_left (r ∷ rs) h = absurd (cc)

  receive_fine : (turns : ℕ) (rs : List Record) → is_receive turns rs ≡ true → All IsFine rs
  unfolding is_receive
  receive_fine turns [] h = All-nil IsFine
  receive_fine turns (r ∷ rs) h = split_on_bool (is_turn_part r.by.part)
      (λ t.
      let on = rw t at h in
      All-cons IsFine r rs (inl t) (receive_fine (turns - 1) rs ((and_parts (nat_lt 0 turns) (is_receive (turns - 1) rs) on).1)))
      (λ f.
      let on = rw f at h in
      let rest = (and_parts (is_own r.by.part) (is_take r.event.act && has_no_records rs) on).1 in
      let parts = and_parts (is_take r.event.act) (has_no_records rs) rest in
      All-cons IsFine r rs (inr (takes r.event.act parts.0)) (none_left rs parts.1))

  followed_fine : (turns : ℕ) (own : Record) (rs : List Record) → Good own → is_some (own_answer own.event.act own.outcome) ≡ false
      → is_followed turns own rs ≡ true → All IsFine rs
  unfolding is_followed
  followed_fine turns own [] good unanswered h = All-nil IsFine
  followed_fine turns own (r ∷ rs) good unanswered h = split_on_bool (is_turn_part r.by.part)
      (λ t.
      let on = rw t at h in
      All-cons IsFine r rs (inl t) (followed_fine (turns - 1) own rs good unanswered ((and_parts (nat_lt 0 turns) (is_followed (turns - 1) own rs) on).1)))
      (λ f.
      let on = rw f at h in
      let parts = and_parts (checks own r) (has_no_records rs) on in
      let check = (and_parts (is_check r.by.part) (asks own.event.act own.outcome own.packets r.event.act) parts.0).1 in
      All-cons IsFine r rs (inr (kept.asked own r.event.act good unanswered check)) (none_left rs parts.1))

  other_fine : (turns : ℕ) (planned : Act) (rs : List Record) → P planned → All Good rs → is_other turns planned rs ≡ true → All IsFine rs
  other_fine turns planned [] has good h = All-nil IsFine
  other_fine turns planned (own ∷ rs) has good h =
      let rest = (and_parts (is_own own.by.part) _ h).1 in
      let parts = and_parts (same_act planned own.event.act) _ rest in
      All-cons IsFine own rs (inr (kept.planned planned own.event.act parts.0 has)) (split_on_bool (is_some (own_answer planned own.outcome))
      (λ t. none_left rs (rw t at parts.1))
      (λ f. followed_fine turns own rs (All-head Good own rs good)
      (ap is_some (sym (same_answers planned own.event.act own.outcome parts.0)) ∙ f) (rw f at parts.1)))

  call_fine : (turns : ℕ) (planned : Act) (rs : List Record) → P planned → All Good rs → is_one_call turns planned rs ≡ true → All IsFine rs
  call_fine turns planned rs has good h = split_on_bool (is_take planned)
      (λ t. receive_fine turns rs (rw t at h))
      (λ f. other_fine turns planned rs has good (rw f at h))

  -- ---- a caller

  first_and_rest : {A : Type 0} (n : ℕ) (xs : List A) → take n xs ++ drop (length (take n xs)) xs ≡ xs
  first_and_rest (suc n) (x ∷ xs) = ap (λ l. x ∷ l) (first_and_rest n xs)
  first_and_rest _ _ = refl

  calls_fine : (turns number : ℕ) (calls : List Act) (rs : List Record) → All P calls → All Good rs → are_calls turns number calls rs ≡ true → All IsFine rs
  unfolding are_calls
  calls_fine turns number [] rs has good h = none_left rs h
  calls_fine turns number (planned ∷ calls) rs has good h =
      let one = and_parts (is_one_call turns planned (first_call number rs)) _ h in
      let two = and_parts (at_one_place (first_call number rs)) _ one.1 in
      let first = first_call number rs in
      let whole : first ++ records_behind number rs ≡ rs = first_and_rest _ rs in
      let both = subst (All Good) (sym whole) good in
      subst (All IsFine) whole (All-append IsFine first (records_behind number rs)
      (call_fine turns planned first (All-head P planned calls has) (all_of_append_gives_first Good first (records_behind number rs) both) one.0)
      (calls_fine turns (number + 1) calls (records_behind number rs) (All-tail P planned calls has) (all_rest Good first (records_behind number rs) both) two.1))

  -- ---- a journal

  -- what passes a test is among those that pass
  passing : (p : Record → Bool) (rs : List Record) (k : ℕ) (r : Record) → All IsFine (filter p rs) → slice_get rs k ≡ Some r → p r ≡ true → IsFine r
  passing p [] k r all at passes = absurd (cc)
  passing p (x ∷ rs) zero r all at passes =
      let same : x ≡ r = cc in
      let test : p x ≡ true = ap p same ∙ passes in
      subst IsFine same (All-head IsFine x (filter p rs) (rw test at all))
  passing p (x ∷ rs) (suc k) r all at passes = split_on_bool (p x)
      (λ t. passing p rs k r (All-tail IsFine x (filter p rs) (rw t at all)) at passes)
      (λ f. passing p rs k r (rw f at all) at passes)

  in_calls : (o : Option ThreadPlan) → ((thread : ThreadPlan) → o ≡ Some thread → All P thread.calls) → All P (calls_in o)
  in_calls None h = All-nil P
  in_calls (Some thread) h = h thread refl

  -- each record of a journal is a turn, or its act has it
  pub record_is_turn_or_planned : (plan : RacePlan) (journal before rest : List Record) (r : Record) → All (λ (thread : ThreadPlan). All P thread.calls) plan.threads
      → All Good journal → IsLegalWithTags plan (calls_of plan) journal → journal ≡ before ++ r ∷ rest → (is_turn_part r.by.part ≡ true) ⊎ P r.event.act
  record_is_turn_or_planned plan journal before rest r threads good legal is =
      let caller = r.by.caller in
      let calls = in_calls (slice_get plan.threads caller)
      (λ thread found. item_of_index_has_property (λ (t : ThreadPlan). All P t.calls) plan.threads caller thread threads found)
      in
      let its = All-filter (λ (x : Record). x.by.caller == caller) Good journal good in
      let fine = calls_fine plan.turns 0 (calls_of plan caller) (of_caller caller journal) calls its (legal.callers caller) in
      let own : (r.by.caller == caller) ≡ true = grind (arith, nat_tests) in
      let at : slice_get journal (length before) ≡ Some r = ap (λ l. slice_get l (length before)) is ∙ there before rest r in
      passing (λ x. x.by.caller == caller) journal (length before) r fine at own
