-- What a node tells of its list by numbers is what the whole list tells.
use Rattle.am_refinement.proofs.Words.{◌≡◌, ℕ, zero, suc, ◌+◌, ◌-◌, ◌<◌, ◌≤◌, true, false, List, [], ◌∷◌, ◌++◌, length, take, drop, Option, Some, None, slice_get}
use Rattle.am_refinement.proofs.Words.{refl, sym, ap, ◌∙◌, subst, arith, take-append-add, length-take, take-append-drop, Entry, View, Image, IsSetOfNames, has, size}
use Rattle.am_refinement.proofs.Words.{blank, image_after_entries, after, members_of_image, log_entry_at, log_image_at, log_members_at, counting_names_of_entry, counting_names_at, needed_count_at, view_number_only_grows, IsGoodList}
use Rattle.am_refinement.proofs.Words.{image_of_list, is_member_at_end, resilience_of_list, IsBeginningOf, taken_front_begins_list, begins_push_next_entry, length_of_taken_list, length_of_pushed_list, take_length_of_beginning, beginning_of_good_is_good}
use Rattle.am_refinement.proofs.Words.{image_after_pushed_entry, name_in_view_is_member, count_of_passing_names, counting_names_in, Node, is_view, World, fold_append, split_on_bool, entry_at_number_of_log, plain_entry_keeps_image_view, NameStands}
use Rattle.am_refinement.proofs.Words.{IsConcerned}
use Rattle.am_abstract_group.specs.Group.{need_count}
use Rattle.am_abstract_group.specs.Group as groups
use Rattle.am_refinement.proofs.Counting.{names_of_set_le_size}
use Rattle.am_group.proofs.Places.{slice_get_of_append_back}

-- ---- by numbers

pub image_at_of_whole_list : (v : World) (i n : ℕ) (x : Node) (a : groups.ChainNode) → NameStands v i x a → x.core.log.start ≤ n
    → log_image_at x.core.log n ≡ image_of_list (take n a.list)
image_at_of_whole_list v i n x a h low =
    let start_ = x.core.log.start in
    let front = take start_ v.group in
    let part = take (n - start_) x.core.log.entries in
    let long : length front ≡ start_ = (let b = h.begins.within in let c = length-take start_ v.group in omega arith) in
    let at : n ≡ length front + (n - start_) = omega arith in
    let one : 1 + length front ≡ start_ + 1 = omega arith in
    let is : take n a.list ≡ front ++ part =
    ap (λ k. take k a.list) at ∙ ap (take (length front + (n - start_))) h.list ∙ take-append-add front x.core.log.entries (n - start_) in
    sym (ap image_of_list is ∙ fold_append blank 1 front part ∙ ap (λ (g : Image). image_after_entries g (1 + length front) part) (sym h.begins.image)
    ∙ ap (λ m. image_after_entries x.core.log.image m part) one)

pub entry_at_of_whole_list : (v : World) (i n : ℕ) (x : Node) (a : groups.ChainNode) → NameStands v i x a → x.core.log.start < n
    → log_entry_at x.core.log n ≡ slice_get a.list (n - 1)
entry_at_of_whole_list v i n x a h low =
    let start_ = x.core.log.start in
    let front = take start_ v.group in
    let index = n - 1 - start_ in
    let long : length front ≡ start_ = (let b = h.begins.within in let c = length-take start_ v.group in omega arith) in
    let at : length front + index ≡ n - 1 = omega arith in
    entry_at_number_of_log x.core.log n index (omega arith) ∙ sym (slice_get_of_append_back front x.core.log.entries index) ∙ ap (slice_get (front ++ x.core.log.entries)) at
    ∙ ap (λ l. slice_get l (n - 1)) (sym h.list)

-- who counts, and how many are needed
pub counted_at_of_whole_list : (v : World) (i n : ℕ) (x : Node) (a : groups.ChainNode) → NameStands v i x a → x.core.log.start < n
    → counting_names_at x.core.log n ≡ counting_names_in a.list n
counted_at_of_whole_list v i n x a h low =
    ap (λ o. counting_names_of_entry o (log_members_at x.core.log (n - 1))) (entry_at_of_whole_list v i n x a h low)
    ∙ ap (λ (g : Image). counting_names_of_entry (slice_get a.list (n - 1)) (members_of_image g)) (image_at_of_whole_list v i (n - 1) x a h (omega arith))

pub need_at_covers_whole_need : (v : World) (i n : ℕ) (x : Node) (a : groups.ChainNode) → NameStands v i x a → x.core.log.start < n
    → IsSetOfNames (counting_names_at x.core.log n) → need_count a.list n ≤ needed_count_at x.core.log n
unfolding resilience_of_list
need_at_covers_whole_need v i n x a h low set =
    let is = counted_at_of_whole_list v i n x a h low in
    let strong : (log_image_at x.core.log n).resilience ≡ (image_of_list (take n a.list)).resilience = ap (λ (g : Image). g.resilience)
    (image_at_of_whole_list v i n x a h (omega arith)) in
    let few : count_of_passing_names (has (counting_names_in a.list n)) ≤ size (counting_names_at x.core.log n) =
    subst (λ m. count_of_passing_names (has m) ≤ size (counting_names_at x.core.log n)) is (names_of_set_le_size (counting_names_at x.core.log n) set) in
    omega arith

-- ---- the number of the last View

plain_number : (a : List Entry) (e : Entry) → is_view e ≡ false → (image_of_list (a ++ e ∷ [])).view_number ≡ (image_of_list a).view_number
plain_number a e f = ap (λ (g : Image). g.view_number) (image_after_pushed_entry a e) ∙ (plain_entry_keeps_image_view (image_of_list a) (1 + length a) e f).number

pub view_number_after_view : (image : Image) (number : ℕ) (e : Entry) → is_view e ≡ true → (after image number e).view_number ≡ number
unfolding after
view_number_after_view image number (View v) t = refl
view_number_after_view image number _ t = absurd (cc)

-- where no View stands from a number on, the last one's number is as before it
number_kept : (image : Image) (number : ℕ) (es : List Entry) → (image_after_entries image number es).view_number < number
    → (image_after_entries image number es).view_number ≡ image.view_number
unfolding image_after_entries
number_kept image number [] h = refl
number_kept image number (e ∷ es) h = split_on_bool (is_view e)
    (λ t. absurd (
    let now = view_number_after_view image number e t in
    let more = view_number_only_grows (after image number e) (number + 1) es (omega arith) in
    omega arith))
    (λ f. number_kept (after image number e) (number + 1) es (omega arith) ∙ (plain_entry_keeps_image_view image number e f).number)

part_number : (list : List Entry) (n : ℕ) → n ≤ length list → (image_of_list list).view_number ≤ n → (image_of_list (take n list)).view_number
    ≡ (image_of_list list).view_number
part_number list n low h =
    let long = length_of_taken_list n list low in
    let all : image_of_list list ≡ image_after_entries (image_of_list (take n list)) (1 + n) (drop n list) =
    ap image_of_list (sym (take-append-drop n list)) ∙ fold_append blank 1 (take n list) (drop n list)
    ∙ ap (λ k. image_after_entries (image_of_list (take n list)) (1 + k) (drop n list)) long in
    let same = ap (λ (g : Image). g.view_number) all in
    sym (same ∙ number_kept (image_of_list (take n list)) (1 + n) (drop n list) (omega arith))

fold_low : (image : Image) (n : ℕ) (es : List Entry) → image.view_number < n → (image_after_entries image n es).view_number < n + length es
unfolding image_after_entries
fold_low image n [] h = omega arith
fold_low image n (e ∷ es) h = split_on_bool (is_view e)
    (λ t. let z = view_number_after_view image n e t in let r = fold_low (after image n e) (n + 1) es (omega arith) in omega arith)
    (λ f. let z = (plain_entry_keeps_image_view image n e f).number in let r = fold_low (after image n e) (n + 1) es (omega arith) in omega arith)

pub view_number_le_length : (list : List Entry) → (image_of_list list).view_number ≤ length list
view_number_le_length list = let r = fold_low blank 1 list (omega arith) in omega arith

-- ---- who counts is concerned

plain_counts : (e : Entry) (before : List ℕ) → is_view e ≡ false → counting_names_of_entry (Some e) before ≡ before
plain_counts (View v) before f = absurd (cc)
plain_counts _ before f = refl

pub take_of_one_more : (list : List Entry) (n : ℕ) (e : Entry) → n < length list → slice_get list n ≡ Some e → take (n + 1) list ≡ take n list ++ e ∷ []
take_of_one_more list n e low at =
    let long : length (take n list) ≡ n = length_of_taken_list n list (omega arith) in
    let all = begins_push_next_entry e (taken_front_begins_list n list) (ap (slice_get list) long ∙ at) in
    let size : length (take n list ++ e ∷ []) ≡ n + 1 = length_of_pushed_list (take n list) e ∙ ap (λ k. k + 1) long in
    ap (λ k. take k list) (sym size) ∙ take_length_of_beginning all

-- a beginning of the list that reaches at least to before the number, and has the last View, where the name is a member
pub record WasMemberNearNumber (list : List Entry) (n name : ℕ) : Type 0 where
  pub upto : List Entry
  pub begins_ : IsBeginningOf upto list
  pub near : n ≤ length upto + 1
  pub from : (image_of_list list).view_number ≤ length upto
  pub member : is_member_at_end upto name ≡ true

no_none : (list : List Entry) (n : ℕ) → n < length list → slice_get list n ≡ None → ⊥
no_none [] n low is = omega arith
no_none (e ∷ list) zero low is = cc
no_none (e ∷ list) (suc n) low is = no_none list n (omega arith) is

stood_view : (list : List Entry) (n name : ℕ) (e : Entry) → IsGoodList list → n < length list → (image_of_list list).view_number ≤ n + 1
    → is_view e ≡ true → slice_get list n ≡ Some e → has (counting_names_of_entry (Some e) (members_of_image (image_of_list (take n list)))) name ≡ true → WasMemberNearNumber list (n + 1) name
stood_view list n name (View v) good low high t is h =
    let part = take_of_one_more list n (View v) low is in
    let long : length (take (n + 1) list) ≡ n + 1 = length_of_taken_list (n + 1) list (omega arith) in
    let good_part : IsGoodList (take n list ++ View v ∷ []) = subst IsGoodList part (beginning_of_good_is_good (taken_front_begins_list (n + 1) list) good) in
    record {
      upto = take (n + 1) list;
      begins_ = taken_front_begins_list (n + 1) list;
      near = omega arith;
      from = omega arith;
      member = subst (λ l. is_member_at_end l name ≡ true) (sym part) (name_in_view_is_member (take n list) v name good_part h);
    }
stood_view list n name _ good low high t is h = absurd (cc)

stood_plain : (list : List Entry) (n name : ℕ) (e : Entry) → n < length list → (image_of_list list).view_number ≤ n + 1
    → is_view e ≡ false → slice_get list n ≡ Some e → has (counting_names_of_entry (Some e) (members_of_image (image_of_list (take n list)))) name ≡ true → WasMemberNearNumber list (n + 1) name
unfolding is_member_at_end
stood_plain list n name e low high f is h =
    let part = take_of_one_more list n e low is in
    let long : length (take n list) ≡ n = length_of_taken_list n list (omega arith) in
    let same = part_number list (n + 1) (omega arith) high in
    let before = ap (λ l. (image_of_list l).view_number) part ∙ plain_number (take n list) e f in
    let short = view_number_le_length (take n list) in
    record {
      upto = take n list;
      begins_ = taken_front_begins_list n list;
      near = omega arith;
      from = omega arith;
      member = ap (λ set. has set name) (sym (plain_counts e (members_of_image (image_of_list (take n list))) f)) ∙ h;
    }

stood_in : (list : List Entry) (n name : ℕ) (o : Option Entry) → IsGoodList list → n < length list → (image_of_list list).view_number ≤ n + 1
    → slice_get list n ≡ o → has (counting_names_of_entry o (members_of_image (image_of_list (take n list)))) name ≡ true → WasMemberNearNumber list (n + 1) name
stood_in list n name None good low high is h = absurd (no_none list n low is)
stood_in list n name (Some e) good low high is h = split_on_bool (is_view e)
    (λ t. stood_view list n name e good low high t is h)
    (λ f. stood_plain list n name e low high f is h)

pub counted_name_was_member_near : (list : List Entry) (n name : ℕ) → IsGoodList list → 0 < n → n ≤ length list → (image_of_list list).view_number ≤ n → has (counting_names_in list n) name ≡ true
    → WasMemberNearNumber list n name
counted_name_was_member_near list n name good low high view_ h =
    let one : n - 1 + 1 ≡ n = omega arith in
    subst (λ k. WasMemberNearNumber list k name) one (stood_in list (n - 1) name (slice_get list (n - 1)) good (omega arith) (omega arith) refl h)

pub counted_name_is_concerned : (list : List Entry) (n name : ℕ) → IsGoodList list → 0 < n → n ≤ length list → (image_of_list list).view_number ≤ n
    → has (counting_names_in list n) name ≡ true → IsConcerned list name
counted_name_is_concerned list n name good low high from_ h =
    let s = counted_name_was_member_near list n name good low high from_ h in
    record { upto = s.upto; begins = s.begins_; from = s.from; member = s.member }
