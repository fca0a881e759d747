-- A map's entries, and the contents that they are: what is done to the one is done to the other.
use Rattle.std.proofs.Common.{◌≡◌, ℕ, List, [], ◌∷◌, Bool, cond, Option, Some, length, map, suc, true, false, refl, ap, ◌∙◌}
use Rattle.std.proofs.Common.{Vec}
use Rattle.std.specs.Ordering.{nat_cmp}
use Rattle.std.specs.Cmp.Lexicographic.{slice_cmp}
use Rattle.am_service_defs.specs.declared.setting.Setting.{Setting}
use Rattle.am_service_defs.specs.Contents.{Contents, key_cmp, setting_of, with_setting, without_key}
use Rattle.am_directory.specs.Kept.{contents_in}
use Rattle.std.specs.declared.cmp.Ordering.{Ordering}
use Rattle.std.specs.declared.cmp.Ordering.TheVariants.{Less, Equal, Greater}
use Rattle.std.specs.Ordering.{match_ordering}
use Rattle.std.specs.List.{AllByRecursion}
use Rattle.std.specs.List.Sorted.{IsStrictlySortedBy}
use Rattle.std.specs.Map.{keys_of, lookup, remove_entry}
use Rattle.std.specs.BTreeMap.{insert_entry, is_at}

-- entries whose keys are seen as f shows them, in an order by what is shown
module _ {K J X : Type 0} (f : K → J) (cmp : J → J → Ordering) where
  abbrev pub entries_with_seen_keys : List (K × X) → List (J × X)
  entries_with_seen_keys es = map (λ entry. (f entry.0, entry.1)) es

  pub lookup_in_entries_seen : (test : J → Bool) (es : List (K × X)) → lookup (λ k. test (f k)) es ≡ lookup test (entries_with_seen_keys es)
  lookup_in_entries_seen test [] = refl
  lookup_in_entries_seen test (e ∷ es) = ap (λ o. cond (test (f e.0)) (Some e.1) o) (lookup_in_entries_seen test es)

  pub remove_from_entries_seen : (test : J → Bool) (es : List (K × X)) → entries_with_seen_keys (remove_entry (λ k. test (f k)) es) ≡ remove_entry test (entries_with_seen_keys es)
  remove_from_entries_seen test [] = refl
  remove_from_entries_seen test (e ∷ es) = by (test (f e.0)) (remove_from_entries_seen test es)
    where
      by : (b : Bool) → entries_with_seen_keys (remove_entry (λ k. test (f k)) es) ≡ remove_entry test (entries_with_seen_keys es)
          → entries_with_seen_keys (cond b es (e ∷ remove_entry (λ k. test (f k)) es)) ≡ cond b (entries_with_seen_keys es) ((f e.0, e.1) ∷ remove_entry test (entries_with_seen_keys es))
      by true same = refl
      by false same = ap (λ rest. (f e.0, e.1) ∷ rest) same

  pub insert_into_entries_seen : (es : List (K × X)) (k : K) (v : X) → entries_with_seen_keys (insert_entry (λ x y. cmp (f x) (f y)) es k v) ≡ insert_entry cmp (entries_with_seen_keys es) (f k) v
  insert_into_entries_seen [] k v = refl
  insert_into_entries_seen (e ∷ es) k v = by (cmp (f k) (f e.0)) (insert_into_entries_seen es k v)
    where
      by : (o : Ordering) → entries_with_seen_keys (insert_entry (λ x y. cmp (f x) (f y)) es k v) ≡ insert_entry cmp (entries_with_seen_keys es) (f k) v
          → entries_with_seen_keys (match_ordering o ((k, v) ∷ e ∷ es) ((e.0, v) ∷ es) (e ∷ insert_entry (λ x y. cmp (f x) (f y)) es k v))
          ≡ match_ordering o ((f k, v) ∷ entries_with_seen_keys (e ∷ es)) ((f e.0, v) ∷ entries_with_seen_keys es) ((f e.0, e.1) ∷ insert_entry cmp (entries_with_seen_keys es) (f k) v)
      by Less same = refl
      by Equal same = refl
      by Greater same = ap (λ rest. (f e.0, e.1) ∷ rest) same

  pub length_of_entries_seen : (es : List (K × X)) → length (entries_with_seen_keys es) ≡ length es
  length_of_entries_seen [] = refl
  length_of_entries_seen (e ∷ es) = ap suc (length_of_entries_seen es)

  above-seen : (x : J) (es : List (K × X)) → AllByRecursion (λ y. cmp x (f y) ≡ Less) (keys_of es) → AllByRecursion (λ y. cmp x y ≡ Less) (keys_of (entries_with_seen_keys es))
  above-seen x [] a = tt
  above-seen x (e ∷ es) a = (a.0, above-seen x es a.1)

  pub sorted_stay_entries_seen : (es : List (K × X)) → IsStrictlySortedBy (λ x y. cmp (f x) (f y)) (keys_of es) → IsStrictlySortedBy cmp (keys_of (entries_with_seen_keys es))
  unfolding IsStrictlySortedBy
  sorted_stay_entries_seen [] s = tt
  sorted_stay_entries_seen (e ∷ es) s = (above-seen (f e.0) es s.0, sorted_stay_entries_seen es s.1)

-- ---- what a map's entries become

module _ {Y : Type 0} where
  abbrev key_of : Vec ℕ Y → List ℕ
  key_of key = key.items

  pub entry_found_is_setting_of : (es : List (Vec ℕ Y × Setting)) (contents : Contents) (key : List ℕ) (found : Option Setting)
      → found ≡ lookup (is_at (λ k. slice_cmp nat_cmp key k.items)) es
      → contents_in es ≡ contents → found ≡ setting_of contents key
  entry_found_is_setting_of es contents key found e same =
      e ∙ lookup_in_entries_seen key_of key_cmp (is_at (key_cmp key)) es ∙ ap (λ c. setting_of c key) same

  pub entry_set_is_with_setting : (es new : List (Vec ℕ Y × Setting)) (contents : Contents) (key : Vec ℕ Y) (bytes : List ℕ) (setting : Setting)
      → new ≡ insert_entry (λ x y. slice_cmp nat_cmp x.items y.items) es key setting → contents_in es ≡ contents → key.items ≡ bytes
      → contents_in new ≡ with_setting contents bytes setting
  entry_set_is_with_setting es new contents key bytes setting e same is =
      ap (λ n. contents_in n) e ∙ insert_into_entries_seen key_of key_cmp es key setting ∙ ap (λ c. with_setting c key.items setting) same
      ∙ ap (λ k. with_setting contents k setting) is

  pub entry_removed_is_without_key : (es new : List (Vec ℕ Y × Setting)) (contents : Contents) (key : List ℕ)
      → new ≡ remove_entry (is_at (λ k. slice_cmp nat_cmp key k.items)) es
      → contents_in es ≡ contents → contents_in new ≡ without_key contents key
  entry_removed_is_without_key es new contents key e same = ap (λ n. contents_in n) e ∙ remove_from_entries_seen key_of key_cmp (is_at (key_cmp key)) es
      ∙ ap (λ c. without_key c key) same
