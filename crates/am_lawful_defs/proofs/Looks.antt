-- The end of an event: where it is looked for a greater complete view, and where nothing changed that views ask for.
use Rattle.am_lawful_defs.proofs.Words.{◌≡◌, ℕ, ◌+◌, Bool, true, false, ◌&&◌, if◌then◌else◌, List, [], ◌∷◌, length, map, filter, Option, Some, None, refl, sym, ap}
use Rattle.am_lawful_defs.proofs.Words.{◌∙◌, subst, Entry, stamp_is_less, Decided, World, Watch, split_on_bool, DecidedView, Pending, Watching, standing, greater_if_complete, watch_greatest}
use Rattle.am_lawful_defs.proofs.Words.{comes_after_view, end_event, look_for_complete_view, pass_event, decided_of_view, comes_after, HoldsOfEach, WatchSees, IsNoted, WatchesUpTo, watch_after}
use Rattle.am_group_defs.specs.Lawful as law
use Rattle.am_lawful_defs.specs.Watching as kept
use Rattle.am_lawful_defs.proofs.Folds.{StampIsUpTo, PendingIsLeftIncomplete, stamp_is_up_to_itself, greatest_view_is_not_lower, each_with_weaker_property, each_of_filtered_passes, map_of_filtered_list, each_pending_left_is_incomplete, greatest_kept_is_of_world, greatest_of_views_above}
use Rattle.am_lawful_defs.proofs.Folds.{views_above_twice_filtered}
use Rattle.am_lawful_defs.proofs.Complete.{each_pending_is_kept_complete, kept_is_lawful_of_world}

-- what is kept when an event is almost over
pub record LookMayFollowWorld (group : List Entry) (k : Watching) (s : Watch) (w : World) : Type 0 where
  pub sees : WatchSees k w group
  pub noted : HoldsOfEach (IsNoted w group) k.pending
  pub pending : map (λ v. decided_of_view v.decided) k.pending ≡ filter (comes_after s.complete.stamp) w.views
  pub complete : decided_of_view k.complete ≡ s.complete
  pub count : k.count ≡ s.count
  pub broken : k.broken ≡ s.broken

-- the same names in the same states
sees_as : (k l : Watching) (w : World) (group : List Entry) → ((name : ℕ) → standing l name ≡ standing k name) → l.names ≡ k.names → l.stopped ≡ k.stopped
    → WatchSees k w group → WatchSees l w group
sees_as k l w group same names stopped h = record {
  names = λ name. same name ∙ h.names name;
  places = ap length names ∙ h.places;
  stopped = stopped ∙ h.stopped;
  within = h.within;
  more = h.more;
  goes_on = h.goes_on;
}

best_is : (group : List Entry) (k : Watching) (s : Watch) (w : World) → LookMayFollowWorld group k s w
    → decided_of_view (watch_greatest k k.complete k.pending) ≡ law.greatest_complete w s.complete w.views
best_is group k s w r =
    greatest_kept_is_of_world k w k.complete k.pending (each_pending_is_kept_complete k w group k.pending r.sees r.noted)
    ∙ ap (law.greatest_complete w (decided_of_view k.complete)) r.pending
    ∙ ap (λ best. law.greatest_complete w best (filter (comes_after s.complete.stamp) w.views)) r.complete
    ∙ greatest_of_views_above w s.complete.stamp s.complete w.views (stamp_is_up_to_itself s.complete.stamp)

-- ---- whether it broke

broken_cases : (k : Watching) (w : World) (v : DecidedView) (count : ℕ) (broken : Option ℕ) → k.count ≡ count
    → kept.watch_is_lawful k v ≡ law.is_lawful w (decided_of_view v) → kept.watch_first_unlawful_event_so_far k v broken ≡ law.first_unlawful_event_so_far w (decided_of_view v) (count + 1) broken
broken_cases k w v count (Some at) h g = refl
broken_cases k w v count None h g = ap (λ b. if b then None else Some (k.count + 1)) g
    ∙ ap (λ c. if law.is_lawful w (decided_of_view v) then None else Some (c + 1)) h

some_none : {G : Type 0} (n : ℕ) → Some n ≡ None → G
some_none n h = absurd (cc)

lawful_cases : (k : Watching) (v : DecidedView) (broken : Option ℕ) → kept.watch_first_unlawful_event_so_far k v broken ≡ None → kept.watch_is_lawful k v ≡ true
lawful_cases k v (Some at) h = some_none at h
lawful_cases k v None h = split_on_bool (kept.watch_is_lawful k v)
    (λ t. t)
    (λ t. let e : Some (k.count + 1) ≡ None = rw t at h in some_none (k.count + 1) e)

-- ---- looked

left_over : (group : List Entry) (k : Watching) (s : Watch) (w : World) → LookMayFollowWorld group k s w
    → let best = watch_greatest k k.complete k.pending in map (λ v. decided_of_view v.decided) (filter (comes_after_view best.view.stamp) k.pending)
    ≡ filter (comes_after (law.greatest_complete w s.complete w.views).stamp) w.views
left_over group k s w r =
    let best = watch_greatest k k.complete k.pending in
    let up : StampIsUpTo s.complete.stamp best.view.stamp = subst (λ (v : Decided). StampIsUpTo v.stamp best.view.stamp) r.complete
    (greatest_view_is_not_lower k k.complete k.pending) in
    map_of_filtered_list (λ (v : Pending). decided_of_view v.decided) (comes_after best.view.stamp) k.pending
    ∙ ap (filter (comes_after best.view.stamp)) r.pending
    ∙ views_above_twice_filtered s.complete.stamp best.view.stamp w.views up
    ∙ ap (λ (v : Decided). filter (comes_after v.stamp) w.views) (best_is group k s w r)

pub look_follows_world : (group : List Entry) (k : Watching) (s : Watch) (w : World) → LookMayFollowWorld group k s w → WatchesUpTo group (look_for_complete_view k) (watch_after s w)
unfolding look_for_complete_view kept.watch_is_complete kept.watch_is_lawful
look_follows_world group k s w r =
    let best = watch_greatest k k.complete k.pending in
    let is = best_is group k s w r in
    record {
      sees = sees_as k (look_for_complete_view k) w group (λ name. refl) refl refl r.sees;
      due = refl;
      noted = each_with_weaker_property _ (IsNoted w group) (λ v h. h.0) _ (each_of_filtered_passes (IsNoted w group) (comes_after_view best.view.stamp) k.pending r.noted);
      pending = left_over group k s w r;
      rest = each_with_weaker_property _ (λ v. kept.watch_is_complete (end_event k best) v ≡ false) (λ v h. refl
          ∙ h.0.waits h.1) _ (each_of_filtered_passes (PendingIsLeftIncomplete k best.view.stamp) (comes_after_view best.view.stamp) k.pending (each_pending_left_is_incomplete k k.complete k.pending));
      complete = is;
      count = ap (λ c. c + 1) r.count;
      broken = ap (kept.watch_first_unlawful_event_so_far k best) r.broken ∙ broken_cases k w best s.count s.broken r.count (kept_is_lawful_of_world k w group best r.sees)
          ∙ ap (λ v. law.first_unlawful_event_so_far w v (s.count + 1) s.broken) is;
      lawful = λ h. refl ∙ lawful_cases k best k.broken h;
    }

-- ---- passed

stays : (k : Watching) (best : DecidedView) (vs : List Pending) → HoldsOfEach (λ v. kept.watch_is_complete k v ≡ false) vs → watch_greatest k best vs ≡ best
unfolding watch_greatest HoldsOfEach
stays k best [] h = refl
stays k best (v ∷ vs) (h, hs) =
    let e : greater_if_complete k best v ≡ best = either (stamp_is_less best.view.stamp v.decided.view.stamp) (kept.watch_is_complete k v) v.decided best h in
    ap (λ b. watch_greatest k b vs) e ∙ stays k best vs hs
  where
    either : (a b : Bool) (x y : DecidedView) → b ≡ false → (if a && b then x else y) ≡ y
    either true b x y h = rw h refl
    either false b x y h = refl

unbroken : (w : World) (v : Decided) (count : ℕ) (broken : Option ℕ) → (broken ≡ None → law.is_lawful w v ≡ true) → broken ≡ law.first_unlawful_event_so_far w v count broken
unbroken w v count (Some at) h = refl
unbroken w v count None h = let t = h refl in rw t refl

pub pass_follows_unchanged_world : (group : List Entry) (k : Watching) (s : Watch) (w : World) → LookMayFollowWorld group k s w → k.is_due ≡ false
    → HoldsOfEach (λ v. kept.watch_is_complete k v ≡ false) k.pending → (k.broken ≡ None → kept.watch_is_lawful k k.complete ≡ true) → WatchesUpTo group (pass_event k) (watch_after s w)
unfolding kept.watch_is_complete kept.watch_is_lawful
pass_follows_unchanged_world group k s w r due rest lawful =
    let is : decided_of_view k.complete ≡ law.greatest_complete w s.complete w.views = ap decided_of_view (sym (stays k k.complete k.pending rest))
    ∙ best_is group k s w r in
    let same : s.complete ≡ law.greatest_complete w s.complete w.views = sym r.complete ∙ is in
    record {
      sees = sees_as k (pass_event k) w group (λ name. refl) refl refl r.sees;
      due = due;
      noted = r.noted;
      pending = r.pending ∙ ap (λ (v : Decided). filter (comes_after v.stamp) w.views) same;
      rest = each_with_weaker_property (λ v. kept.watch_is_complete k v ≡ false) (λ v. kept.watch_is_complete (pass_event k) v ≡ false) (λ v h. refl ∙ h) k.pending rest;
      complete = is;
      count = ap (λ c. c + 1) r.count;
      broken = r.broken ∙ unbroken w (law.greatest_complete w s.complete w.views) (s.count + 1) s.broken (λ h. ap (law.is_lawful w) (sym is)
          ∙ sym (kept_is_lawful_of_world k w group k.complete r.sees) ∙ lawful (r.broken ∙ h));
      lawful = λ h. refl ∙ lawful h;
    }
