-- The greatest complete view among the pending ones, and among all.
use Rattle.am_lawful_defs.proofs.Words.{◌≡◌, Bool, true, false, ◌&&◌, if◌then◌else◌, List, [], ◌∷◌, map, filter, refl, ap, ◌∙◌, Stamp, stamp_is_less, Decided, World}
use Rattle.am_lawful_defs.proofs.Words.{split_on_bool, DecidedView, Pending, Watching, greater_if_complete, watch_greatest, decided_of_view, comes_after, HoldsOfEach}
use Rattle.am_group_defs.specs.Lawful as law
use Rattle.am_lawful_defs.specs.Watching as kept
use Rattle.am_base.proofs.Rows.{left_of_and}
use Rattle.am_lawful_defs.proofs.{Order.stamp_lt_is_transitive, Order.stamp_lt_is_irreflexive}

pub each_with_weaker_property : {A : Type 0} (P Q : A → Type 0) → ((x : A) → P x → Q x) → (xs : List A) → HoldsOfEach P xs → HoldsOfEach Q xs
unfolding HoldsOfEach
each_with_weaker_property P Q f [] h = tt
each_with_weaker_property P Q f (x ∷ xs) (h, hs) = (f x h, each_with_weaker_property P Q f xs hs)

pub each_of_filtered_passes : {A : Type 0} (P : A → Type 0) (p : A → Bool) (xs : List A) → HoldsOfEach P xs → HoldsOfEach (λ x. P x × (p x ≡ true)) (filter p xs)
unfolding HoldsOfEach
each_of_filtered_passes P p [] h = tt
each_of_filtered_passes {A} P p (x ∷ xs) (h, hs) =
    let Q : A → Type 0 = λ x. P x × (p x ≡ true) in
    split_on_bool (p x) (λ t. rw t ((h, t), each_of_filtered_passes P p xs hs)) (λ t. rw t (each_of_filtered_passes P p xs hs))

pub map_of_filtered_list : {A B : Type 0} (f : A → B) (p : B → Bool) (xs : List A) → map f (filter (λ x. p (f x)) xs) ≡ filter p (map f xs)
map_of_filtered_list f p [] = refl
map_of_filtered_list f p (x ∷ xs) = split_on_bool (p (f x)) (λ t. rw t (ap (λ l. f x ∷ l) (map_of_filtered_list f p xs))) (λ t. rw t (map_of_filtered_list f p xs))

-- ---- no view becomes less

-- what isn't above the first isn't above the second
pub record StampIsUpTo (a b : Stamp) : Type 0 where
  pub keeps : (s : Stamp) → stamp_is_less a s ≡ false → stamp_is_less b s ≡ false

pub stamp_is_up_to_itself : (a : Stamp) → StampIsUpTo a a
stamp_is_up_to_itself a = record { keeps = λ s h. h }

up_trans : (a b c : Stamp) → StampIsUpTo a b → StampIsUpTo b c → StampIsUpTo a c
up_trans a b c g h = record { keeps = λ s f. h.keeps s (g.keeps s f) }

pub bool_is_not_both : {G : Type 0} (b : Bool) → b ≡ true → b ≡ false → G
bool_is_not_both b t f = absurd (cc)

up_lt : (a b : Stamp) → stamp_is_less a b ≡ true → StampIsUpTo a b
up_lt a b h = record { keeps = λ s f. split_on_bool (stamp_is_less b s) (λ t. bool_is_not_both (stamp_is_less a s) (stamp_lt_is_transitive a b s h t) f) (λ t. t) }

up_greater : (k : Watching) (best : DecidedView) (v : Pending) → StampIsUpTo best.view.stamp (greater_if_complete k best v).view.stamp
up_greater k best v = split_on_bool (stamp_is_less best.view.stamp v.decided.view.stamp && kept.watch_is_complete k v)
    (λ t. rw t (up_lt best.view.stamp v.decided.view.stamp (left_of_and _ _ t)))
    (λ t. rw t (stamp_is_up_to_itself best.view.stamp))

pub greatest_view_is_not_lower : (k : Watching) (best : DecidedView) (vs : List Pending) → StampIsUpTo best.view.stamp (watch_greatest k best vs).view.stamp
unfolding watch_greatest
greatest_view_is_not_lower k best [] = stamp_is_up_to_itself best.view.stamp
greatest_view_is_not_lower k best (v ∷ vs) = up_trans _ _ _ (up_greater k best v) (greatest_view_is_not_lower k (greater_if_complete k best v) vs)

-- ---- what is left isn't complete

pub record PendingIsLeftIncomplete (k : Watching) (best : Stamp) (v : Pending) : Type 0 where
  pub waits : stamp_is_less best v.decided.view.stamp ≡ true → kept.watch_is_complete k v ≡ false

left_one : (k : Watching) (best : DecidedView) (v : Pending) (end : Stamp) → StampIsUpTo (greater_if_complete k best v).view.stamp end → PendingIsLeftIncomplete k end v
left_one k best v end h = record {
  waits = λ above. split_on_bool (kept.watch_is_complete k v)
      (λ c. split_on_bool (stamp_is_less best.view.stamp v.decided.view.stamp)
      (λ t. let e : greater_if_complete k best v ≡ v.decided = rw t (rw c refl) in let g : StampIsUpTo v.decided.view.stamp end = rw e at h in
      bool_is_not_both (stamp_is_less end v.decided.view.stamp) above (g.keeps v.decided.view.stamp (stamp_lt_is_irreflexive v.decided.view.stamp)))
      (λ t. let e : greater_if_complete k best v ≡ best = rw t refl in let g : StampIsUpTo best.view.stamp end = rw e at h in
      bool_is_not_both (stamp_is_less end v.decided.view.stamp) above (g.keeps v.decided.view.stamp t)))
      (λ c. c);
}

pub each_pending_left_is_incomplete : (k : Watching) (best : DecidedView) (vs : List Pending) → HoldsOfEach (PendingIsLeftIncomplete k (watch_greatest k best vs).view.stamp) vs
unfolding watch_greatest HoldsOfEach
each_pending_left_is_incomplete k best [] = tt
each_pending_left_is_incomplete k best (v ∷ vs) = (
  left_one k best v (watch_greatest k (greater_if_complete k best v) vs).view.stamp (greatest_view_is_not_lower k (greater_if_complete k best v) vs),
  each_pending_left_is_incomplete k (greater_if_complete k best v) vs,
)

-- ---- the same among all views

choice_of : (b : Bool) (x y : DecidedView) → decided_of_view (if b then x else y) ≡ (if b then decided_of_view x else decided_of_view y)
choice_of true x y = refl
choice_of false x y = refl

-- it is complete in the world exactly where what is kept says so
pub record PendingIsCompleteAsInWorld (k : Watching) (w : World) (v : Pending) : Type 0 where
  pub is : kept.watch_is_complete k v ≡ law.is_complete w (decided_of_view v.decided)

pub greatest_kept_is_of_world : (k : Watching) (w : World) (best : DecidedView) (vs : List Pending) → HoldsOfEach (PendingIsCompleteAsInWorld k w) vs
    → decided_of_view (watch_greatest k best vs) ≡ law.greatest_complete w (decided_of_view best) (map (λ v. decided_of_view v.decided) vs)
unfolding watch_greatest law.greatest_complete HoldsOfEach
greatest_kept_is_of_world k w best [] h = refl
greatest_kept_is_of_world k w best (v ∷ vs) (h, hs) =
    let step : decided_of_view (greater_if_complete k best v) ≡ law.greater_complete w (decided_of_view best) (decided_of_view v.decided) =
    choice_of (stamp_is_less best.view.stamp v.decided.view.stamp && kept.watch_is_complete k v) v.decided best
    ∙ ap (λ c. if stamp_is_less best.view.stamp v.decided.view.stamp && c then decided_of_view v.decided else decided_of_view best) h.is in
    greatest_kept_is_of_world k w (greater_if_complete k best v) vs hs ∙ ap (λ b. law.greatest_complete w b (map (λ v. decided_of_view v.decided) vs)) step

up_complete : (w : World) (best v : Decided) → StampIsUpTo best.stamp (law.greater_complete w best v).stamp
up_complete w best v = split_on_bool (stamp_is_less best.stamp v.stamp && law.is_complete w v)
    (λ t. rw t (up_lt best.stamp v.stamp (left_of_and _ _ t)))
    (λ t. rw t (stamp_is_up_to_itself best.stamp))

-- the views that aren't above one that is complete don't count
pub greatest_of_views_above : (w : World) (low : Stamp) (best : Decided) (vs : List Decided) → StampIsUpTo low best.stamp
    → law.greatest_complete w best (filter (comes_after low) vs) ≡ law.greatest_complete w best vs
unfolding law.greatest_complete
greatest_of_views_above w low best [] h = refl
greatest_of_views_above w low best (v ∷ vs) h = split_on_bool (comes_after low v)
    (λ t. rw t (greatest_of_views_above w low (law.greater_complete w best v) vs (up_trans _ _ _ h (up_complete w best v))))
    (λ t.
    let below : stamp_is_less best.stamp v.stamp ≡ false = h.keeps v.stamp t in
    let e : law.greater_complete w best v ≡ best = rw below refl in
    rw t (rw e (greatest_of_views_above w low best vs h)))

pub views_above_twice_filtered : (low high : Stamp) (vs : List Decided) → StampIsUpTo low high
    → filter (comes_after high) (filter (comes_after low) vs) ≡ filter (comes_after high) vs
views_above_twice_filtered low high [] h = refl
views_above_twice_filtered low high (v ∷ vs) h = split_on_bool (comes_after low v)
    (λ t. split_on_bool (comes_after high v)
    (λ u. rw t (rw u (ap (λ l. v ∷ l) (views_above_twice_filtered low high vs h))))
    (λ u. rw t (rw u (views_above_twice_filtered low high vs h))))
    (λ t. let u : stamp_is_less high v.stamp ≡ false = h.keeps v.stamp t in rw t (rw u (views_above_twice_filtered low high vs h)))
