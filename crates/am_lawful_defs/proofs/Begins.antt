-- A run without events.
use Rattle.am_lawful_defs.proofs.Words.{◌≡◌, ℕ, ◌<◌, ◌≤◌, false, if◌then◌else◌, [], length, map, slice_index, refl, sym, ap, ◌∙◌, inl, inr, arith}
use Rattle.am_lawful_defs.proofs.Words.{get_or_past, get_or-map-range_with_len, length-map-range_with_len, cases_lt, nat_tests, range_with_len, has, place_of_name}
use Rattle.am_lawful_defs.proofs.Words.{life_of_name, image_after_entries, Rules, MayFound, stamp_is_less, Member, founding_stamp, first_node, split_on_bool, blank_standing}
use Rattle.am_lawful_defs.proofs.Words.{standing, standing_at_start, watching_at_start, standing_of, HoldsOfEach, BeginningIsWatched}
use Rattle.am_base.specs.Lists.{after}
use Rattle.am_lawful_defs.specs.Watching as kept
use Rattle.am_lawful_defs.proofs.Order.{stamp_lt_is_irreflexive}

first_shown : (rules : Rules) (name : ℕ) → standing_at_start rules name ≡ standing_of (first_node rules name)
unfolding image_after_entries after
first_shown rules name = split_on_bool (has rules.founders name)
    (λ t. rw t (sym (refl)))
    (λ t. rw t (sym (refl)))

nobody_else : (rules : Rules) (name : ℕ) → MayFound rules → 256 ≤ name → has rules.founders name ≡ false
nobody_else rules name may high = split_on_bool (has rules.founders name)
    (λ t.
    let is : slice_index rules.founders (place_of_name name) ≡ life_of_name name = grind (arith, nat_tests) in
    let low : place_of_name name < length rules.founders = omega arith in
    let most : slice_index rules.founders (place_of_name name) ≤ 1 = may.first_lives (place_of_name name) low in
    absurd (omega arith))
    (λ t. t)

standing_first : (rules : Rules) (name : ℕ) → MayFound rules → standing (watching_at_start rules) name ≡ standing_of (first_node rules name)
standing_first rules name may = elim (cases_lt name 256) [
  | inl low ↦ get_or-map-range_with_len (standing_at_start rules) 0 256 name name blank_standing low (omega arith) ∙ first_shown rules name
  | inr high ↦ (
      let long = length-map-range_with_len (standing_at_start rules) 0 256 in
      let past : standing (watching_at_start rules) name ≡ blank_standing = get_or_past (map (standing_at_start rules) (range_with_len 0 256)) name blank_standing
      (omega arith) in
      past ∙ ap (λ b. if b then record { status = Member; view = founding_stamp rules; start = 1; from = 0 } else blank_standing)
      (sym (nobody_else rules name may high)) ∙ first_shown rules name)
]

pub beginning_is_watched : BeginningIsWatched
unfolding HoldsOfEach kept.watch_is_lawful
beginning_is_watched rules may = record {
  sees = record {
    names = λ name. standing_first rules name may;
    places = length-map-range_with_len (standing_at_start rules) 0 256;
    stopped = refl;
    within = λ name. (split_on_bool (has rules.founders name) (λ t. rw t (omega arith)) (λ t. rw t (omega arith)));
    more = [];
    goes_on = refl;
  };
  due = refl;
  noted = tt;
  pending = let e : stamp_is_less (founding_stamp rules) (founding_stamp rules) ≡ false = stamp_lt_is_irreflexive (founding_stamp rules) in rw e refl;
  rest = tt;
  complete = refl;
  count = refl;
  broken = refl;
  lawful = λ h. (grind (arith, nat_tests));
}
