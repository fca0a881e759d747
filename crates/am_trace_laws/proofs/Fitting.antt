-- A list that fits is read as one that fits, where the founding's resilience is read as 0.
use Rattle.am_trace_laws.proofs.Words.{◌≡◌, ℕ, zero, suc, ◌+◌, ◌<◌, ◌≤◌, ◌==◌, ◌&&◌, ◌||◌, nat_le, Bool, true, false, if◌then◌else◌, List, [], ◌∷◌, length, map}
use Rattle.am_trace_laws.proofs.Words.{refl, sym, ap, ◌∙◌, arith, Option, Some, None, Result, Ok, get_or, unwrap_or, All, slice_index, slice_index_or, list_all}
use Rattle.am_trace_laws.proofs.Words.{range_with_len, and_parts, and_from, nat_tests, All-head, All-tail, greatest_number, Rules, MayFound, has, life_of_name, names_are_within}
use Rattle.am_trace_laws.proofs.Words.{lowest_name_of, list_by_place, stamp_is_less, stamps_are_equal, no_stamp, blank, is_blank_image, is_blank_row, row_at_place, members_of_image, after, fits, AllEntriesFit}
use Rattle.am_trace_laws.proofs.Words.{row_after_view, blank_row, Image, Entry, split_on_bool, lowest_name_or_zero, founders_entry, lowest_founder_founds, entry_text, Outline, Verdict}
use Rattle.am_trace_laws.proofs.Words.{outline_of, or_else, bare_entry, is_lowest, founds, fits_at, image_after, first_misfit, IsSayable, IsRaised, entry_texts_of}
use Rattle.am_trace_laws.proofs.Entries.{resilience_as_read, outline_of_entry_as_read, outline_of_entry_text}
use Rattle.am_base.specs.declared.entry.Entry.TheVariants as entries
use Rattle.am_audit_defs.specs.declared.verdict.Verdict.TheVariants as verdicts

-- ---- images

-- an image as it is read
abbrev lowered : Rules → Image → Image
lowered rules image = record image { resilience = resilience_as_read rules image.resilience }

-- a view was begun, with the founding's resilience or more
record IsAbove (rules : Rules) (image : Image) : Type 0 where
  pub viewed : 0 < image.view_number
  pub least : rules.resilience ≤ image.resilience

not_blank : (image : Image) → 0 < image.view_number → is_blank_image image ≡ false
not_blank image viewed =
    let other : (image.view_number == 0) ≡ false = grind (arith, nat_tests) in
    ap (λ b. stamps_are_equal image.view no_stamp && (b && ((image.resilience == 0) && list_all is_blank_row image.rows))) other ∙ and_no (stamps_are_equal image.view no_stamp)
  where
    and_no : (b : Bool) → (b && false) ≡ false
    and_no true = refl
    and_no false = refl

after_above : (rules : Rules) (image : Image) (number : ℕ) (e : Entry) → 0 < number → fits image e ≡ true → IsAbove rules image
    → IsAbove rules (after image number e)
unfolding after fits
after_above rules image number (entries.Data from req body) some fit h = split_on_bool ((row_at_place image from).life == life_of_name from)
    (λ t. rw t (record { viewed = h.viewed; least = h.least }))
    (λ f. rw f h)
after_above rules image number (entries.Join name) some fit h = record { viewed = h.viewed; least = h.least }
after_above rules image number (entries.Leave name) some fit h = split_on_bool ((row_at_place image name).life == life_of_name name)
    (λ t. rw t (record { viewed = h.viewed; least = h.least }))
    (λ f. rw f h)
after_above rules image number (entries.View v) some fit h =
    let a = (and_parts (stamp_is_less image.view v.stamp) _ fit).1 in
    let b = (and_parts (is_blank_image image || names_are_within v.members (members_of_image image)) _ a).1 in
    let c = (and_parts (has v.members v.stamp.by) (nat_le image.resilience v.resilience) b).1 in
    let least = h.least in
    let up : image.resilience ≤ v.resilience = grind (arith, nat_tests) in
    record { viewed = some; least = omega arith }

low_rises : (rules : Rules) (a b : ℕ) → rules.resilience ≤ a → a ≤ b → nat_le (resilience_as_read rules a) (resilience_as_read rules b) ≡ true
low_rises rules a b least up = split_on_bool (a == rules.resilience)
    (λ t. rw t (split_on_bool (b == rules.resilience) (λ u. rw u refl) (λ g. rw g (grind (arith, nat_tests)))))
    (λ f. rw f (split_on_bool (b == rules.resilience)
    (λ u. absurd (let same : b ≡ rules.resilience = grind (arith, nat_tests) in let other : a ≡ rules.resilience → ⊥ = λ is. grind (arith, nat_tests) in
    other (omega arith)))
    (λ g. rw g (grind (arith, nat_tests)))))

-- what fits is read as what fits
fits_low : (rules : Rules) (image : Image) (e : Entry) → IsAbove rules image → fits image e ≡ true
    → fits (lowered rules image) (bare_entry (outline_of_entry_as_read rules e)) ≡ true
unfolding fits
fits_low rules image (entries.View v) h fit =
    let a = and_parts (stamp_is_less image.view v.stamp) _ fit in
    let b = and_parts (is_blank_image image || names_are_within v.members (members_of_image image)) _ a.1 in
    let c = and_parts (has v.members v.stamp.by) (nat_le image.resilience v.resilience) b.1 in
    let up : image.resilience ≤ v.resilience = let d = c.1 in grind (arith, nat_tests) in
    let within : names_are_within v.members (members_of_image image) ≡ true = ap (λ x. x || names_are_within v.members (members_of_image image)) (sym (not_blank image h.viewed)) ∙ b.0 in
    let other = not_blank (lowered rules image) h.viewed in
    and_from (stamp_is_less image.view v.stamp) _ a.0
    (and_from (is_blank_image (lowered rules image) || names_are_within v.members (members_of_image image)) _
    (ap (λ x. x || names_are_within v.members (members_of_image image)) other ∙ within)
    (and_from (has v.members v.stamp.by) _ c.0 (low_rises rules image.resilience v.resilience h.least up)))
fits_low rules image _ h fit = fit

-- and what it tells is read as what it tells
after_low : (rules : Rules) (image : Image) (number : ℕ) (e : Entry) → 0 < image.view_number
    → after (lowered rules image) number (bare_entry (outline_of_entry_as_read rules e)) ≡ lowered rules (after image number e)
unfolding after list_by_place
after_low rules image number (entries.Data from req body) viewed = split_on_bool ((row_at_place image from).life == life_of_name from) (λ t. rw t refl) (λ f. rw f refl)
after_low rules image number (entries.Join name) viewed = refl
after_low rules image number (entries.Leave name) viewed = split_on_bool ((row_at_place image name).life == life_of_name name) (λ t. rw t refl) (λ f. rw f refl)
after_low rules image number (entries.View v) viewed =
    let same : is_blank_image (lowered rules image) ≡ is_blank_image image = not_blank (lowered rules image) viewed ∙ sym (not_blank image viewed) in
    ap (λ b. record {
      view = v.stamp;
      view_number = number;
      resilience = resilience_as_read rules v.resilience;
      rows = map (λ place. row_after_view b number (slice_index v.members place) (slice_index_or image.rows place blank_row)) (range_with_len 0 16);
    }) same

-- ---- the list

fit_by : (rules : Rules) (number : ℕ) (image : Image) (o : Outline) (text : Result Outline _) (rest : Option Verdict) → text ≡ Ok o
    → fits_at number image (Ok o) ≡ true → or_else (if fits_at number image text then None else Some (verdicts.Misfit number)) rest ≡ rest
fit_by rules number image o text rest is fit =
    ap (λ t. or_else (if fits_at number image t then None else Some (verdicts.Misfit number)) rest) is
    ∙ ap (λ b. or_else (if b then None else Some (verdicts.Misfit number)) rest) fit

fits_at_later : (number : ℕ) (image : Image) (o : Outline) → 1 < number → number ≤ greatest_number → fits image (bare_entry o) ≡ true
    → fits_at number image (Ok o) ≡ true
fits_at_later number image o later low fit =
    let other : (number == 1) ≡ false = grind (arith, nat_tests) in
    let within : nat_le number greatest_number ≡ true = grind (arith, nat_tests) in
    ap (λ b. if b then founds o else nat_le number greatest_number && fits image (bare_entry o)) other ∙ and_from (nat_le number greatest_number) _ within fit

none_misfits : (rules : Rules) (number : ℕ) (image : Image) (es : List Entry) → AllEntriesFit image number es → IsAbove rules image → All IsSayable es → All (IsRaised rules) es
    → 1 < number → number + length es ≤ greatest_number + 1 → first_misfit number (lowered rules image) (entry_texts_of rules es) ≡ None
unfolding AllEntriesFit
none_misfits rules number image [] fit h say raised later low = refl
none_misfits rules number image (e ∷ es) fit h say raised later low =
    let read = outline_of_entry_text rules e (All-head IsSayable e es say) (All-head (IsRaised rules) e es raised) in
    fit_by rules number (lowered rules image) (outline_of_entry_as_read rules e) (outline_of (entry_text rules e)) _ read
    (fits_at_later number (lowered rules image) (outline_of_entry_as_read rules e) later (omega arith) (fits_low rules image e h fit.0))
    ∙ ap (λ t. first_misfit (number + 1) (image_after number (lowered rules image) t) (entry_texts_of rules es)) read
    ∙ ap (λ i. first_misfit (number + 1) i (entry_texts_of rules es)) (after_low rules image number e h.viewed)
    ∙ none_misfits rules (number + 1) (after image number e) es fit.1 (after_above rules image number e (omega arith) fit.0 h)
    (All-tail IsSayable e es say) (All-tail (IsRaised rules) e es raised) (omega arith) (omega arith)

-- ---- from the founders' view on

first_above : (rules : Rules) → IsAbove rules (after blank 1 (founders_entry rules))
unfolding after
first_above rules = record { viewed = omega arith; least = omega arith }

nobody_there : (xs : List ℕ) → lowest_name_of xs ≡ None → has xs 0 ≡ true → ⊥
nobody_there [] is there = cc
nobody_there (zero ∷ xs) is there = cc
nobody_there (suc x ∷ xs) is there = cc

lowest_by : (set : List ℕ) → has set (unwrap_or (lowest_name_of set) 0) ≡ true → is_lowest (lowest_name_of set) (lowest_name_or_zero set) ≡ true
lowest_by set there = by_option (lowest_name_of set) refl
  where
    by_option : (o : Option ℕ) → lowest_name_of set ≡ o → is_lowest (lowest_name_of set) (lowest_name_or_zero set) ≡ true
    by_option (Some name) is = rw is (grind (arith, nat_tests))
    by_option None is = absurd (nobody_there set is (rw is at there))

low_lives : (set : List ℕ) → ((i : ℕ) → i < length set → get_or set i 0 ≤ 1) → list_all (λ life. nat_le life 1) set ≡ true
low_lives [] each = refl
low_lives (life ∷ lives) each =
    let first : nat_le life 1 ≡ true = let low = each 0 (omega arith) in grind (arith, nat_tests) in
    and_from (nat_le life 1) _ first (low_lives lives (λ i within. each (suc i) (omega arith)))

founders_found : (rules : Rules) → MayFound rules → founds (outline_of_entry_as_read rules (founders_entry rules)) ≡ true
founders_found rules may =
    let own : (rules.resilience == rules.resilience) ≡ true = grind (arith, nat_tests) in
    let none : (resilience_as_read rules rules.resilience == 0) ≡ true = rw own refl in
    and_from _ _
    (and_from (1 == 1) _ refl (lowest_by rules.founders (lowest_founder_founds rules may).founds))
    (and_from (list_all (λ life. nat_le life 1) rules.founders) _ (low_lives rules.founders may.first_lives) none)

pub fitting_list_has_no_misfit : (rules : Rules) (rest : List Entry) → MayFound rules → AllEntriesFit blank 1 (founders_entry rules ∷ rest) → All IsSayable (founders_entry rules ∷ rest)
    → All (IsRaised rules) (founders_entry rules ∷ rest) → length (founders_entry rules ∷ rest) ≤ greatest_number → first_misfit 1 blank (entry_texts_of rules (founders_entry rules ∷ rest)) ≡ None
unfolding AllEntriesFit after list_by_place
fitting_list_has_no_misfit rules rest may fit say raised low =
    let first = founders_entry rules in
    let read = outline_of_entry_text rules first (All-head IsSayable first rest say) (All-head (IsRaised rules) first rest raised) in
    fit_by rules 1 blank (outline_of_entry_as_read rules first) (outline_of (entry_text rules first)) _ read (founders_found rules may)
    ∙ ap (λ t. first_misfit 2 (image_after 1 blank t) (entry_texts_of rules rest)) read
    ∙ none_misfits rules 2 (after blank 1 first) rest fit.1 (first_above rules) (All-tail IsSayable first rest say)
    (All-tail (IsRaised rules) first rest raised) (omega arith) (omega arith)
