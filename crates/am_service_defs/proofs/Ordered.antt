-- Entries in order stay in order, whatever goes in or out, and how many they are.
use Rattle.std.proofs.Common.{◌≡◌, suc, ◌+◌, ◌≤◌, List, [], ◌∷◌, ◌++◌, Bool, true, false, cond, Some, length, refl, sym, ap}
use Rattle.std.proofs.Common.{◌∙◌, subst, arith}
use Rattle.std.specs.Prelude.{is_some}
use Rattle.std.specs.declared.cmp.Ordering.{Ordering}
use Rattle.std.specs.declared.cmp.Ordering.TheVariants.{Less, Equal, Greater}
use Rattle.std.specs.Ordering.{match_ordering, ordering_reverse, is_eq}
use Rattle.std.specs.Cmp.{IsTotalOrder}
use Rattle.std.specs.List.{AllByRecursion}
use Rattle.std.specs.List.Sorted.{IsStrictlySortedBy}
use Rattle.std.specs.Map.{keys_of, lookup, remove_entry}
use Rattle.std.specs.BTreeMap.{insert_entry, is_at}
use Rattle.std.proofs.lemmas.Map.{lookup-none}
use Rattle.std.proofs.lemmas.Map.Entries.{none_below_head}

module _ {K X : Type 0} (R : K → K → Ordering) (k : K) (v : X) where
  all-insert : (P : K → Type 0) (es : List (K × X)) → AllByRecursion P (keys_of es) → P k → AllByRecursion P (keys_of (insert_entry R es k v))
  all-insert P [] a p = (p, tt)
  all-insert P (e ∷ es) a p = by (R k e.0) (all-insert P es a.1 p)
    where
      by : (o : Ordering) → AllByRecursion P (keys_of (insert_entry R es k v))
          → AllByRecursion P (keys_of (match_ordering o ((k, v) ∷ e ∷ es) ((e.0, v) ∷ es) (e ∷ insert_entry R es k v)))
      by Less rest = (p, a)
      by Equal rest = (a.0, a.1)
      by Greater rest = (a.0, rest)

  pub length-insert : (es : List (K × X)) → length (insert_entry R es k v) ≤ length es + 1
  length-insert [] = omega arith
  length-insert (e ∷ es) = by (R k e.0) (length-insert es)
    where
      by : (o : Ordering) → length (insert_entry R es k v) ≤ length es + 1
          → length (match_ordering o ((k, v) ∷ e ∷ es) ((e.0, v) ∷ es) (e ∷ insert_entry R es k v)) ≤ length (e ∷ es) + 1
      by Less rest = omega arith
      by Equal rest = omega arith
      by Greater rest = omega arith

all-mono : {K : Type 0} (P Q : K → Type 0) → ((x : K) → P x → Q x) → (ks : List K) → AllByRecursion P ks → AllByRecursion Q ks
all-mono P Q h [] a = tt
all-mono P Q h (x ∷ ks) a = (h x a.0, all-mono P Q h ks a.1)

module _ {K X : Type 0} {R : K → K → Ordering} (total : IsTotalOrder R) (k : K) (v : X) where
  pub sorted-insert : (es : List (K × X)) → IsStrictlySortedBy R (keys_of es) → IsStrictlySortedBy R (keys_of (insert_entry R es k v))
  unfolding IsStrictlySortedBy
  sorted-insert [] s = (tt, tt)
  sorted-insert (e ∷ es) s = by (R k e.0) refl (sorted-insert es s.1)
    where
      by : (o : Ordering) → R k e.0 ≡ o → IsStrictlySortedBy R (keys_of (insert_entry R es k v))
          → IsStrictlySortedBy R (keys_of (match_ordering o ((k, v) ∷ e ∷ es) ((e.0, v) ∷ es) (e ∷ insert_entry R es k v)))
      by Less h rest = ((h, all-mono (λ y. R e.0 y ≡ Less) (λ y. R k y ≡ Less) (λ y below. total.trans k e.0 y h below) (keys_of es) s.0), s)
      by Equal h rest = s
      by Greater h rest = (all-insert R k v (λ y. R e.0 y ≡ Less) es s.0 (total.antisymm e.0 k ∙ ap ordering_reverse h), rest)

  -- a key that is there stays one key
  pub length-insert_found : (es : List (K × X)) → IsStrictlySortedBy R (keys_of es) → is_some (lookup (is_at (R k)) es) ≡ true
      → length (insert_entry R es k v) ≡ length es
  unfolding IsStrictlySortedBy
  length-insert_found [] s found = cc
  length-insert_found (e ∷ es) s found = by (R k e.0) refl (length-insert_found es s.1)
    where
      by : (o : Ordering) → R k e.0 ≡ o → (is_some (lookup (is_at (R k)) es) ≡ true → length (insert_entry R es k v) ≡ length es)
          → length (match_ordering o ((k, v) ∷ e ∷ es) ((e.0, v) ∷ es) (e ∷ insert_entry R es k v)) ≡ length (e ∷ es)
      by Less h rest =
          let none = lookup-none (is_at (R k)) (e ∷ es) (none_below_head total k e es s h) in
          let no : false ≡ true = sym (ap is_some none) ∙ found in
          cc
      by Equal h rest = refl
      by Greater h rest = ap suc (rest (subst (λ o. is_some (cond (is_eq o) (Some e.1) (lookup (is_at (R k)) es)) ≡ true) h found))

  -- a key above all others goes to the end
  pub insert-last : (es : List (K × X)) → AllByRecursion (λ y. R y k ≡ Less) (keys_of es) → insert_entry R es k v ≡ es ++ (k, v) ∷ []
  insert-last [] below = refl
  insert-last (e ∷ es) below =
      let above : R k e.0 ≡ Greater = total.antisymm k e.0 ∙ ap ordering_reverse below.0 in
      ap (λ o. match_ordering o ((k, v) ∷ e ∷ es) ((e.0, v) ∷ es) (e ∷ insert_entry R es k v)) above ∙ ap (λ rest. e ∷ rest) (insert-last es below.1)

module _ {K X : Type 0} (test : K → Bool) where
  all-remove : (P : K → Type 0) (es : List (K × X)) → AllByRecursion P (keys_of es) → AllByRecursion P (keys_of (remove_entry test es))
  all-remove P [] a = tt
  all-remove P (e ∷ es) a = by (test e.0) (all-remove P es a.1)
    where
      by : (b : Bool) → AllByRecursion P (keys_of (remove_entry test es)) → AllByRecursion P (keys_of (cond b es (e ∷ remove_entry test es)))
      by true rest = a.1
      by false rest = (a.0, rest)

  pub sorted-remove : (R : K → K → Ordering) (es : List (K × X)) → IsStrictlySortedBy R (keys_of es) → IsStrictlySortedBy R (keys_of (remove_entry test es))
  unfolding IsStrictlySortedBy
  sorted-remove R [] s = tt
  sorted-remove R (e ∷ es) s = by (test e.0) (sorted-remove R es s.1)
    where
      by : (b : Bool) → IsStrictlySortedBy R (keys_of (remove_entry test es)) → IsStrictlySortedBy R (keys_of (cond b es (e ∷ remove_entry test es)))
      by true rest = s.1
      by false rest = (all-remove (λ y. R e.0 y ≡ Less) es s.0, rest)

  pub length-remove : (es : List (K × X)) → length (remove_entry test es) ≤ length es
  length-remove [] = omega arith
  length-remove (e ∷ es) = by (test e.0) (length-remove es)
    where
      by : (b : Bool) → length (remove_entry test es) ≤ length es → length (cond b es (e ∷ remove_entry test es)) ≤ length (e ∷ es)
      by true rest = omega arith
      by false rest = omega arith
