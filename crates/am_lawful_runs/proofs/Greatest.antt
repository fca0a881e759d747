-- The greatest complete view of a watched run, and the marks of the group.
use Rattle.am_lawful_runs.proofs.Words.{◌≡◌, ◌⊎◌, either, inl, inr, ℕ, zero, suc, ◌+◌, ◌<◌, ◌≤◌, Bool, true, false, List, [], ◌∷◌, Option, Some, None, slice_get}
use Rattle.am_lawful_runs.proofs.Words.{refl, sym, ap, ◌∙◌, subst, arith, list_any, stamp_is_less, Event, key_of_stamp, key_is_less_for_lesser_stamp, stamp_lt_of_key_lt, Decided, World, happens, is_complete}
use Rattle.am_lawful_runs.proofs.Words.{is_lawful, Watch, watch_event, greater_complete, greatest_complete, first_unlawful_event_so_far, split_on_bool, le_or_gt}

-- ---- one item that passes

pub record SomeItemPasses {A : Type 0} (p : A → Bool) (xs : List A) : Type 0 where
  pub index : ℕ
  pub item : A
  pub there : slice_get xs index ≡ Some item
  pub passes : p item ≡ true

pub list_any_finds_passing_item : {A : Type 0} (p : A → Bool) (xs : List A) → list_any p xs ≡ true → SomeItemPasses p xs
list_any_finds_passing_item p [] h = absurd (cc)
list_any_finds_passing_item p (x ∷ xs) h = split_on_bool (p x)
    (λ t. record { index = 0; item = x; there = refl; passes = t })
    (λ f. let r = list_any_finds_passing_item p xs (rw f at h) in record { index = suc r.index; item = r.item; there = r.there; passes = r.passes })

pub list_any_of_passing_item : {A : Type 0} (p : A → Bool) (xs : List A) (k : ℕ) (x : A) → slice_get xs k ≡ Some x → p x ≡ true → list_any p xs ≡ true
list_any_of_passing_item p [] k x at t = absurd (cc)
list_any_of_passing_item p (y ∷ xs) zero x at t = let same : y ≡ x = cc in let u : p y ≡ true = ap p same ∙ t in rw u refl
list_any_of_passing_item p (y ∷ xs) (suc k) x at t = split_on_bool (p y) (λ u. rw u refl) (λ f. rw f (list_any_of_passing_item p xs k x at t))

-- ---- the greatest

abbrev pub DecidedStampsAreSmall : List Decided → Type 0
DecidedStampsAreSmall vs = (k : ℕ) (d : Decided) → slice_get vs k ≡ Some d → d.stamp.by < 256

-- it is what was the greatest, or one that is complete; and no less than either
pub record IsGreatestComplete (w : World) (best : Decided) (vs : List Decided) (g : Decided) : Type 0 where
  pub is : (g ≡ best) ⊎ ((k : ℕ) × (slice_get vs k ≡ Some g) × (is_complete w g ≡ true))
  pub up : key_of_stamp best.stamp ≤ key_of_stamp g.stamp
  pub above : (k : ℕ) (d : Decided) → slice_get vs k ≡ Some d → is_complete w d ≡ true → key_of_stamp d.stamp ≤ key_of_stamp g.stamp

-- of one view
greater_is : (w : World) (best v : Decided) → best.stamp.by < 256 → v.stamp.by < 256 → IsGreatestComplete w best (v ∷ []) (greater_complete w best v)
greater_is w best v small few = split_on_bool (stamp_is_less best.stamp v.stamp)
    (λ t. split_on_bool (is_complete w v)
    (λ c.
    let low = key_is_less_for_lesser_stamp best.stamp v.stamp small few t in
    rw (t, c) (record { is = inr (0, refl, c); up = omega arith; above = λ k d at done. one v d k at }))
    (λ n. rw (t, n) (record {
      is = inl refl;
      up = omega arith;
      above = λ k d at done. absurd (let same = only v d k at in let z = ap (is_complete w) same in cc);
    })))
    (λ f. rw f (record {
      is = inl refl;
      up = omega arith;
      above = λ k d at done. (let same = only v d k at in
          let high : key_of_stamp v.stamp ≤ key_of_stamp best.stamp = not_above best v small few f in
          subst (λ (x : Decided). key_of_stamp x.stamp ≤ key_of_stamp best.stamp) same high);
    }))
  where
    only : (v d : Decided) (k : ℕ) → slice_get (v ∷ []) k ≡ Some d → v ≡ d
    only v d zero at = cc
    only v d (suc k) at = absurd (cc)

    one : (v d : Decided) (k : ℕ) → slice_get (v ∷ []) k ≡ Some d → key_of_stamp d.stamp ≤ key_of_stamp v.stamp
    one v d k at = let same = only v d k at in subst (λ (x : Decided). key_of_stamp x.stamp ≤ key_of_stamp v.stamp) same (omega arith)

    not_above : (best v : Decided) → best.stamp.by < 256 → v.stamp.by < 256 → stamp_is_less best.stamp v.stamp ≡ false → key_of_stamp v.stamp ≤ key_of_stamp best.stamp
    not_above best v small few f = either (le_or_gt (key_of_stamp v.stamp) (key_of_stamp best.stamp))
        (λ le. le)
        (λ lt. absurd (let t = stamp_lt_of_key_lt best.stamp v.stamp small few lt in cc))

small_either : (w : World) (best v : Decided) → best.stamp.by < 256 → v.stamp.by < 256 → (greater_complete w best v).stamp.by < 256
small_either w best v small few = split_on_bool (stamp_is_less best.stamp v.stamp)
    (λ t. split_on_bool (is_complete w v) (λ c. rw (t, c) few) (λ n. rw (t, n) small))
    (λ f. rw f small)

pub greatest_complete_is_greatest : (w : World) (best : Decided) (vs : List Decided) → best.stamp.by < 256 → DecidedStampsAreSmall vs → IsGreatestComplete w best vs (greatest_complete w best vs)
unfolding greatest_complete
greatest_complete_is_greatest w best [] small few = record { is = inl refl; up = omega arith; above = λ k d at done. absurd (cc) }
greatest_complete_is_greatest w best (v ∷ vs) small few =
    let v_small = few 0 v refl in
    let mid = greater_complete w best v in
    let one = greater_is w best v small v_small in
    let rest = greatest_complete_is_greatest w mid vs (small_either w best v small v_small) (λ k d at. few (suc k) d at) in
    record {
      is = either rest.is
          (λ same. either one.is
          (λ a. inl (same ∙ a))
          (λ a. inr (first w v vs mid (greatest_complete w mid vs) same a)))
          (λ a. inr (suc a.0, a.1, a.2));
      up = omega arith;
      above = λ k d at done. by_place k d at done (λ at_first. (let a = one.above 0 d at_first done in omega arith))
          (λ j at_later. rest.above j d at_later done);
    }
  where
    first : (w : World) (v : Decided) (vs : List Decided) (mid g : Decided) → g ≡ mid → (k : ℕ) × (slice_get (v ∷ []) k ≡ Some mid) × (is_complete w mid ≡ true)
        → (k : ℕ) × (slice_get (v ∷ vs) k ≡ Some g) × (is_complete w g ≡ true)
    first w v vs mid g same (zero, at, done) = (0, at ∙ ap Some (sym same), ap (is_complete w) same ∙ done)
    first w v vs mid g same (suc k, at, done) = absurd (cc)

    by_place : {G : Type 0} (k : ℕ) (d : Decided) → slice_get (v ∷ vs) k ≡ Some d → is_complete w d ≡ true → (slice_get (v ∷ []) 0 ≡ Some d → G)
        → ((j : ℕ) → slice_get vs j ≡ Some d → G) → G
    by_place zero d at done f g = f at
    by_place (suc k) d at done f g = g k at

-- ---- the watched run of one event more

-- where it isn't broken, it wasn't before, and it is lawful now
pub record WatchWasUnbroken (s : Watch) (e : Event) : Type 0 where
  pub before : s.broken ≡ None
  pub now : is_lawful (watch_event s e).world (watch_event s e).complete ≡ true

pub watch_unbroken_before_event : (s : Watch) (e : Event) → (watch_event s e).broken ≡ None → WatchWasUnbroken s e
unfolding watch_event
watch_unbroken_before_event s e h =
    let w = happens s.world e in
    let best = greatest_complete w s.complete w.views in
    record { before = was_none w best s.count s.broken h; now = by_broken w best s.count s.broken h }
  where
    was_none : (w : World) (best : Decided) (n : ℕ) (o : Option ℕ) → first_unlawful_event_so_far w best (n + 1) o ≡ None → o ≡ None
    was_none w best n (Some k) h = absurd (cc)
    was_none w best n None h = refl

    by_broken : (w : World) (best : Decided) (n : ℕ) (o : Option ℕ) → first_unlawful_event_so_far w best (n + 1) o ≡ None → is_lawful w best ≡ true
    by_broken w best n (Some k) h = absurd (cc)
    by_broken w best n None h = split_on_bool (is_lawful w best) (λ t. t) (λ f. absurd (let z = rw f at h in cc))

pub complete_after_watched_event : (s : Watch) (e : Event) → (watch_event s e).complete ≡ greatest_complete (watch_event s e).world s.complete (watch_event s e).world.views
unfolding watch_event
complete_after_watched_event s e = refl
