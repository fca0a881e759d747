-- What one change of a node does to its view and to the entries of its list.
use Rattle.am_step_laws.proofs.Words.{◌≡◌, ◌⊎◌, inl, inr, ⊎_elim, ℕ, zero, suc, ◌+◌, ◌-◌, ◌==◌, nat_le, true, false, List, [], ◌∷◌, length, Some, refl, sym, ap, ◌∙◌}
use Rattle.am_step_laws.proofs.Words.{subst, arith, GroupView, Stamp, Image, Entry, Data, Join, Leave, View, life_of_name, stamp_is_less, Log, row_at_place, after, fits, log_entry_at}
use Rattle.am_step_laws.proofs.Words.{image_of_log, log_with_entry, Node, top, image_of_node, view, push_entry, is_view, split_on_bool, slice_get_of_front, slice_get_of_pushed, image_of_pushed_entry, entry_at_number_of_log}
use Rattle.am_step_laws.proofs.Stamps.{stamp_below_then_at_most, lower_stamp_is_not_above}

-- ---- lists

-- an entry stays where it stands
pub entry_at_of_longer_log : (log : Log) (e x : Entry) (number : ℕ) → log_entry_at log number ≡ Some x → log_entry_at (log_with_entry log e) number ≡ Some x
entry_at_of_longer_log log e x zero h = absurd (cc)
entry_at_of_longer_log log e x (suc before) h = split_on_bool (nat_le log.start before)
    (λ t. rw t (slice_get_of_front log.entries (e ∷ []) (before - log.start) x (rw t at h)))
    (λ f. absurd (let g = rw f at h in cc))

entry_last : (m : Node) (e : Entry) → log_entry_at (push_entry m e).core.log (top m + 1) ≡ Some e
entry_last m e = entry_at_number_of_log (push_entry m e).core.log (top m + 1) (length m.core.log.entries) (omega arith) ∙ slice_get_of_pushed m.core.log.entries e

-- ---- views

-- the view, its number and its resilience
pub record HasSameView (a b : Image) : Type 0 where
  pub view : a.view ≡ b.view
  pub number : a.view_number ≡ b.view_number
  pub resilience : a.resilience ≡ b.resilience

pub plain_entry_keeps_image_view : (image : Image) (number : ℕ) (e : Entry) → is_view e ≡ false → HasSameView (after image number e) image
unfolding after
plain_entry_keeps_image_view image number (Data from req body) f = split_on_bool ((row_at_place image from).life == life_of_name from)
    (λ t. rw t (record { view = refl; number = refl; resilience = refl }))
    (λ g. rw g (record { view = refl; number = refl; resilience = refl }))
plain_entry_keeps_image_view image number (Join name) f = record { view = refl; number = refl; resilience = refl }
plain_entry_keeps_image_view image number (Leave name) f = split_on_bool ((row_at_place image name).life == life_of_name name)
    (λ t. rw t (record { view = refl; number = refl; resilience = refl }))
    (λ g. rw g (record { view = refl; number = refl; resilience = refl }))
plain_entry_keeps_image_view image number (View v) f = absurd (cc)

pub image_after_view_has_it : (image : Image) (number : ℕ) (v : GroupView)
    → ((after image number (View v)).view ≡ v.stamp) × ((after image number (View v)).view_number ≡ number)
    × ((after image number (View v)).resilience ≡ v.resilience)
unfolding after
image_after_view_has_it image number v = (refl, refl, refl)

-- the last View stands at its number
pub record LastViewStandsInLog (log : Log) : Type 0 where
  pub names : List ℕ
  pub there : log_entry_at log (image_of_log log).view_number
      ≡ Some (View (record { stamp = (image_of_log log).view; members = names; resilience = (image_of_log log).resilience }))

-- what has become of a list: its entries stay, and its view stays, or is greater and stands in it
pub record EntriesStayAndViewRises (old new : Log) : Type 0 where
  pub stays : (number : ℕ) (x : Entry) → log_entry_at old number ≡ Some x → log_entry_at new number ≡ Some x
  pub view : HasSameView (image_of_log new) (image_of_log old) ⊎ ((stamp_is_less (image_of_log old).view (image_of_log new).view ≡ true) × LastViewStandsInLog new)

goes_same : (log : Log) → EntriesStayAndViewRises log log
goes_same log = record { stays = λ number x h. h; view = inl (record { view = refl; number = refl; resilience = refl }) }

pub same_log_goes_on : (old new : Log) → new ≡ old → EntriesStayAndViewRises old new
same_log_goes_on old new is = subst (EntriesStayAndViewRises old) (sym is) (goes_same old)

stood_on : (old new : Log) → ((number : ℕ) (x : Entry) → log_entry_at old number ≡ Some x → log_entry_at new number ≡ Some x) → HasSameView (image_of_log new) (image_of_log old)
    → LastViewStandsInLog old → LastViewStandsInLog new
stood_on old new stays same h = record {
  names = h.names;
  there = ap (log_entry_at new) same.number ∙ stays (image_of_log old).view_number _ h.there
      ∙ (λ i. Some (View (record { stamp = sym same.view i; members = h.names; resilience = sym same.resilience i })));
}

pub log_growth_is_transitive : (a b c : Log) → EntriesStayAndViewRises a b → EntriesStayAndViewRises b c → EntriesStayAndViewRises a c
log_growth_is_transitive a b c h k = record {
  stays = λ number x at. k.stays number x (h.stays number x at);
  view = ⊎_elim
      (λ (s : HasSameView (image_of_log c) (image_of_log b)). ⊎_elim
      (λ (r : HasSameView (image_of_log b) (image_of_log a)). inl (record {
        view = s.view ∙ r.view;
        number = s.number ∙ r.number;
        resilience = s.resilience
            ∙ r.resilience;
      }))
      (λ (r : (stamp_is_less (image_of_log a).view (image_of_log b).view ≡ true)
      × LastViewStandsInLog b). inr (subst (λ (v : Stamp). stamp_is_less (image_of_log a).view v ≡ true) (sym s.view) r.0, stood_on b c k.stays s r.1))
      h.view)
      (λ (s : (stamp_is_less (image_of_log b).view (image_of_log c).view ≡ true) × LastViewStandsInLog c). ⊎_elim
      (λ (r : HasSameView (image_of_log b) (image_of_log a)). inr (subst (λ (v : Stamp). stamp_is_less v (image_of_log c).view ≡ true) r.view s.0, s.1))
      (λ (r : (stamp_is_less (image_of_log a).view (image_of_log b).view ≡ true)
      × LastViewStandsInLog b). inr (stamp_below_then_at_most (image_of_log a).view (image_of_log b).view (image_of_log c).view r.0 (lower_stamp_is_not_above (image_of_log b).view (image_of_log c).view s.0), s.1))
      h.view)
      k.view;
}

-- ---- an entry more

pub pushed_plain_entry_grows_log : (m : Node) (e : Entry) → is_view e ≡ false → EntriesStayAndViewRises m.core.log (push_entry m e).core.log
pushed_plain_entry_grows_log m e plain =
    let same = plain_entry_keeps_image_view (image_of_node m) (top m + 1) e plain in
    let is = image_of_pushed_entry m e in
    record {
      stays = λ number x h. entry_at_of_longer_log m.core.log e x number h;
      view = inl (record {
        view = ap (λ (i : Image). i.view) is ∙ same.view;
        number = ap (λ (i : Image). i.view_number) is ∙ same.number;
        resilience = ap (λ (i : Image). i.resilience) is ∙ same.resilience;
      });
    }

-- the view that a View makes
pub view_of_pushed_view : (m : Node) (v : GroupView) → view (push_entry m (View v)) ≡ v.stamp
view_of_pushed_view m v = ap (λ (i : Image). i.view) (image_of_pushed_entry m (View v))
    ∙ (image_after_view_has_it (image_of_node m) (top m + 1) v).0

-- and stands where it is told
pub pushed_view_at_its_number : (m : Node) (v : GroupView)
    → log_entry_at (push_entry m (View v)).core.log (image_of_node (push_entry m (View v))).view_number
    ≡ Some (View (record { stamp = view (push_entry m (View v)); members = v.members; resilience = (image_of_node (push_entry m (View v))).resilience }))
pushed_view_at_its_number m w =
    let e = View w in
    let is = image_of_pushed_entry m e in
    let new = image_after_view_has_it (image_of_node m) (top m + 1) w in
    let v : view (push_entry m e) ≡ w.stamp = ap (λ (i : Image). i.view) is ∙ new.0 in
    let n : (image_of_node (push_entry m e)).view_number ≡ top m + 1 = ap (λ (i : Image). i.view_number) is ∙ new.1 in
    let r : (image_of_node (push_entry m e)).resilience ≡ w.resilience = ap (λ (i : Image). i.resilience) is ∙ new.2 in
    ap (log_entry_at (push_entry m e).core.log) n ∙ entry_last m e ∙ (λ i. Some (View (record { stamp = sym v i; members = w.members; resilience = sym r i })))

pub pushed_higher_view_grows_log : (m : Node) (v : GroupView) → stamp_is_less (view m) v.stamp ≡ true
    → EntriesStayAndViewRises m.core.log (push_entry m (View v)).core.log
pushed_higher_view_grows_log m v above = record {
  stays = λ number x h. entry_at_of_longer_log m.core.log (View v) x number h;
  view = inr (
    subst (λ (s : Stamp). stamp_is_less (view m) s ≡ true) (sym (view_of_pushed_view m v)) above,
    record { names = v.members; there = pushed_view_at_its_number m v },
  );
}

-- any entry that fits
pub pushed_fitting_entry_grows_log : (m : Node) (e : Entry) → fits (image_of_node m) e ≡ true → EntriesStayAndViewRises m.core.log (push_entry m e).core.log
unfolding fits
pushed_fitting_entry_grows_log m (View v) fit = pushed_higher_view_grows_log m v
    (split_on_bool (stamp_is_less (view m) v.stamp) (λ t. t) (λ f. absurd (let g = rw f at fit in cc)))
pushed_fitting_entry_grows_log m e fit = pushed_plain_entry_grows_log m e refl
