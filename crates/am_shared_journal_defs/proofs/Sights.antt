-- What starts with what, which records are of a key, and how journals go on.
use Rattle.std.proofs.Common.{◌≡◌, ℕ, zero, suc, ◌+◌, ◌<◌, ◌≤◌, ◌⊎◌, Bool, true, false, cond, nat_lt, List, [], ◌∷◌, ◌++◌, length, take, drop, sym, refl}
use Rattle.std.proofs.Common.{ap, ◌∙◌, subst, inl, inr, arith, append-nil, append_assoc, length-append}
use Rattle.std.proofs.Math.Seq.{take-append_seam, take-length}
use Rattle.std.proofs.lemmas.Bool.{ltb-true, ltb-false}
use Rattle.std.proofs.lemmas.List.{take-append-le, take-append-drop}
use Rattle.std.proofs.lemmas.List.Elements.{filter-append}
use Rattle.std.proofs.lemmas.List.Sums.{sum_by-append, sum_by-cons}
use Rattle.am_group.specs.declared.event.Record.{Record}
use Rattle.am_shared_journal_defs.specs.declared.terms.SharerKey.{SharerKey}
use Rattle.am_shared_journal_defs.specs.Keys.{is_of, of_key, same_key, times}
use Rattle.am_shared_journal_defs.specs.Sights.{StartsWith, GoesOn, longer_list}

-- ---- beginnings

pub append_starts_with_front : (log seen rest : List Record) → log ≡ seen ++ rest → StartsWith log seen
append_starts_with_front log seen rest e = ap (take (length seen)) e ∙ take-append_seam seen rest

pub log_is_start_and_rest : (log seen : List Record) → StartsWith log seen → log ≡ seen ++ drop (length seen) log
log_is_start_and_rest log seen e = sym (take-append-drop (length seen) log) ∙ ap (λ (l : List Record). l ++ drop (length seen) log) e

starts_all : (log : List Record) → StartsWith log log
starts_all log = take-length log

pub starts_with_through_both : (a b c : List Record) → StartsWith b a → StartsWith c b → StartsWith c a
starts_with_through_both a b c p q =
    append_starts_with_front c a (drop (length a) b ++ drop (length b) c)
    (log_is_start_and_rest c b q ∙ ap (λ (l : List Record). l ++ drop (length b) c) (log_is_start_and_rest b a p) ∙ append_assoc a (drop (length a) b) (drop (length b) c))

starts_shorter : (log xs ys : List Record) → StartsWith log xs → StartsWith log ys → length xs ≤ length ys → StartsWith ys xs
starts_shorter log xs ys p q le = sym (take-append-le (length xs) ys (drop (length ys) log) le) ∙ ap (take (length xs)) (sym (log_is_start_and_rest log ys q)) ∙ p

-- both are beginnings of the longer one, which is one of the log
record IsLonger (log xs ys zs : List Record) : Type 0 where
  pub of_log : StartsWith log zs
  pub first : StartsWith zs xs
  pub second : StartsWith zs ys

longer_by : (log xs ys : List Record) → StartsWith log xs → StartsWith log ys → (b : Bool) → nat_lt (length xs) (length ys) ≡ b
    → IsLonger log xs ys (cond b ys xs)
longer_by log xs ys p q true is = record {
  of_log = q;
  first = (let lt = ltb-true (length xs) (length ys) is in
      starts_shorter log xs ys p q (omega arith));
  second = starts_all ys;
}
longer_by log xs ys p q false is = record {
  of_log = p;
  first = starts_all xs;
  second = (let le = ltb-false (length xs) (length ys) is in
      starts_shorter log ys xs q p (omega arith));
}

longer_is : (log xs ys : List Record) → StartsWith log xs → StartsWith log ys → IsLonger log xs ys (longer_list xs ys)
longer_is log xs ys p q = longer_by log xs ys p q (nat_lt (length xs) (length ys)) refl

-- ---- records of a key

empty_list : {A : Type 0} (xs : List A) → length xs ≡ 0 → xs ≡ []
empty_list [] e = refl
empty_list (x ∷ xs) e = absurd (omega arith)

pub of_key_of_append : (key : SharerKey) (xs ys : List Record) → of_key key (xs ++ ys) ≡ of_key key xs ++ of_key key ys
of_key_of_append key xs ys = filter-append (is_of key) xs ys

nothing_more : (xs ys zs : List Record) → xs ++ (ys ++ zs) ≡ xs → ys ≡ []
nothing_more xs ys zs e =
    let l : length (xs ++ (ys ++ zs)) ≡ length xs = ap length e in
    let m = length-append xs (ys ++ zs) in
    let n = length-append ys zs in
    empty_list ys (omega arith)

-- where the last list has no more records of a key than the first, the one in between has neither
key_between : (key : SharerKey) (a b c : List Record) → StartsWith b a → StartsWith c b → of_key key c ≡ of_key key a → of_key key b ≡ of_key key a
key_between key a b c p q e =
    let r : List Record = drop (length a) b in
    let s : List Record = drop (length b) c in
    let of_b : of_key key b ≡ of_key key a ++ of_key key r = ap (of_key key) (log_is_start_and_rest b a p) ∙ of_key_of_append key a r in
    let of_c : of_key key c ≡ of_key key b ++ of_key key s = ap (of_key key) (log_is_start_and_rest c b q) ∙ of_key_of_append key b s in
    let all : of_key key a ++ (of_key key r ++ of_key key s) ≡ of_key key a =
    sym (append_assoc (of_key key a) (of_key key r) (of_key key s)) ∙ ap (λ (l : List Record). l ++ of_key key s) (sym of_b) ∙ sym of_c ∙ e
    in of_b ∙ ap (λ (l : List Record). of_key key a ++ l) (nothing_more (of_key key a) (of_key key r) (of_key key s) all) ∙ append-nil (of_key key a)

-- ---- going on

pub records_go_on_to_themselves : (keys : List SharerKey) (seen : List Record) → GoesOn keys seen seen
records_go_on_to_themselves keys seen = record { begins = starts_all seen; own = λ key h. refl }

pub records_go_on_through_both : (keys more : List SharerKey) (a b c : List Record) → ((key : SharerKey) → 0 < times key keys → 0 < times key more) → GoesOn keys a b
    → GoesOn more b c → GoesOn keys a c
records_go_on_through_both keys more a b c within p q = record {
  begins = starts_with_through_both a b c p.begins q.begins;
  own = λ key h. q.own key (within key h) ∙ p.own key h;
}

goes_between : (keys : List SharerKey) (a b c : List Record) → StartsWith b a → StartsWith c b → GoesOn keys a c → GoesOn keys a b
goes_between keys a b c p q g = record { begins = p; own = λ key h. key_between key a b c p q (g.own key h) }

pub times_of_append : (key : SharerKey) (xs ys : List SharerKey) → times key (xs ++ ys) ≡ times key xs + times key ys
times_of_append key xs ys = sum_by-append (λ k. cond (same_key key k) 1 0) xs ys

pub times_of_cons : (key x : SharerKey) (xs : List SharerKey) → times key (x ∷ xs) ≡ cond (same_key key x) 1 0 + times key xs
times_of_cons key x xs = sum_by-cons (λ k. cond (same_key key k) 1 0) x xs

either_more : (a b : ℕ) → 0 < a + b → (0 < a) ⊎ (0 < b)
either_more zero b h = inr (omega arith)
either_more (suc a) b h = inl (omega arith)

-- what two have seen of a journal, together
pub record BothRecordsGoOn (keys others : List SharerKey) (xs ys zs log : List Record) : Type 0 where
  pub first : GoesOn keys xs zs
  pub second : GoesOn others ys zs
  pub both : GoesOn (others ++ keys) zs log

pub both_records_go_on : (keys others : List SharerKey) (xs ys log : List Record) → GoesOn keys xs log → GoesOn others ys log → BothRecordsGoOn keys others xs ys (longer_list xs ys) log
both_records_go_on keys others xs ys log p q =
    let l = longer_is log xs ys p.begins q.begins in
    let one : GoesOn keys xs (longer_list xs ys) = goes_between keys xs (longer_list xs ys) log l.first l.of_log p in
    let two : GoesOn others ys (longer_list xs ys) = goes_between others ys (longer_list xs ys) log l.second l.of_log q in record {
      first = one;
      second = two;
      both = record {
        begins = l.of_log;
        own = λ key h. elim (either_more (times key others) (times key keys) (subst (λ (n : ℕ). 0 < n) (times_of_append key others keys) h)) [
          | inl t ↦ q.own key t ∙ sym (two.own key t)
          | inr t ↦ p.own key t ∙ sym (one.own key t)
        ];
      };
    }
