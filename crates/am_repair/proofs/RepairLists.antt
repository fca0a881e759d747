-- A list that goes on tells what it told, and what it tells after an entry more.
use Rattle.am_repair.proofs.RepairWords.{has_member_is_in_row, ◌≡◌, ℕ, zero, suc, ◌-◌, ◌<◌, ◌≤◌, nat_le, true, false, List, [], ◌∷◌, length, Some, refl, ap, ◌∙◌, arith}
use Rattle.am_repair.proofs.RepairWords.{length-append, nat_tests, slice_get_within, Entry, Data, Join, Image, has, Log, top_of_log, log_entry_at, log_image_at}
use Rattle.am_repair.proofs.RepairWords.{members_of_image, after, fits, log_with_entry, counting_names_of_entry, counting_names_at, slice_get_of_append_front, image_at_below_push, sixteen_rows_after_entry, member_row_after_entry, is_view}
use Rattle.am_repair.proofs.RepairWords.{split_on_bool, present_row_makes_member, data_keeps_each_member, inl, inr, either, ◌&&◌, ◌||◌, ◌==◌, nat_lt, Bool, Row, place_of_name, life_of_name, row_at_place}
use Rattle.am_repair.proofs.RepairWords.{row_of_name, row_of_place, IsPastRow, past_row_after_entry, is_past, mod_sixteen_lt}
use Rattle.am_base.proofs.Rows.{with_row_keeps_property}

-- ---- a list that goes on

pub record LogGrows (a b : Log) : Type 0 where
  pub top : top_of_log a ≤ top_of_log b
  pub start : b.start ≡ a.start
  pub image : (number : ℕ) → number ≤ top_of_log a → log_image_at b number ≡ log_image_at a number
  pub entry : (number : ℕ) → number ≤ top_of_log a → log_entry_at b number ≡ log_entry_at a number

pub log_grows_to_itself : (a : Log) → LogGrows a a
log_grows_to_itself a = record { top = omega arith; start = refl; image = λ number low. refl; entry = λ number low. refl }

pub log_grows_through_both : (a b c : Log) → LogGrows a b → LogGrows b c → LogGrows a c
log_grows_through_both a b c x y =
    record {
      top = omega arith;
      start = y.start ∙ x.start;
      image = λ number low. y.image number (omega arith) ∙ x.image number low;
      entry = λ number low. y.entry number (omega arith) ∙ x.entry number low;
    }

entry_push : (log : Log) (e : Entry) (number : ℕ) → number ≤ top_of_log log → log_entry_at (log_with_entry log e) number ≡ log_entry_at log number
entry_push log e zero low = refl
entry_push log e (suc before) low = split_on_bool (nat_le log.start before)
    (λ t. let high : log.start ≤ before = grind (arith, nat_tests) in rw t (slice_get_of_append_front log.entries (e ∷ []) (before - log.start) (omega arith)))
    (λ f. rw f refl)

pub log_grows_by_push : (log : Log) (e : Entry) → LogGrows log (log_with_entry log e)
log_grows_by_push log e = record {
  top = simp length-append (omega arith);
  start = refl;
  image = λ number low. image_at_below_push log e number low;
  entry = λ number low. entry_push log e number low;
}

-- what stands in a list stands within it
pub entry_at_is_within_log : (log : Log) (number : ℕ) (e : Entry) → log_entry_at log number ≡ Some e → (log.start < number) × (number ≤ top_of_log log)
entry_at_is_within_log log zero e is = absurd (cc)
entry_at_is_within_log log (suc before) e is = split_on_bool (nat_le log.start before)
    (λ t. let high : log.start ≤ before = grind (arith, nat_tests) in
    let within = slice_get_within log.entries (before - log.start) e (rw t at is) in
    (omega arith, omega arith))
    (λ f. absurd (let none = rw f at is in cc))

pub entry_at_in_grown_log : (a b : Log) (number : ℕ) (e : Entry) → LogGrows a b → log_entry_at a number ≡ Some e → log_entry_at b number ≡ Some e
entry_at_in_grown_log a b number e grows is = grows.entry number (entry_at_is_within_log a number e is).1 ∙ is

-- whose storage counts
pub counted_at_in_grown_log : (a b : Log) (number : ℕ) → LogGrows a b → number ≤ top_of_log a → counting_names_at b number ≡ counting_names_at a number
counted_at_in_grown_log a b number grows low =
    ap (λ e. counting_names_of_entry e (members_of_image (log_image_at b (number - 1)))) (grows.entry number low)
    ∙ ap (λ (i : Image). counting_names_of_entry (log_entry_at a number) (members_of_image i)) (grows.image (number - 1) (omega arith))

-- ---- an entry more

-- a Data tells the same whatever its body
pub after_data_of_any_body : (image : Image) (number from req : ℕ) (body other : List ℕ)
    → after image number (Data from req body) ≡ after image number (Data from req other)
unfolding after
after_data_of_any_body image number from req body other = refl

-- what a sequencer numbers while nobody leaves: a Data, or a Join that fits
pub data IsJoinOrData (image : Image) : Entry → Type 0 where
  is_data : (from req : ℕ) (body : List ℕ) → IsJoinOrData image (Data from req body)
  is_join : (name : ℕ) → fits image (Join name) ≡ true → IsJoinOrData image (Join name)

pub join_or_data_not_view : (image : Image) (e : Entry) → IsJoinOrData image e → is_view e ≡ false
join_or_data_not_view image e (is_data from req body) = refl
join_or_data_not_view image e (is_join name fit) = refl

-- members stay
pub member_stays_without_view : (image : Image) (number : ℕ) (e : Entry) (name : ℕ) → length image.rows ≡ 16 → IsJoinOrData image e → has (members_of_image image) name ≡ true
    → has (members_of_image (after image number e)) name ≡ true
member_stays_without_view image number e name long (is_data from req body) member = data_keeps_each_member image number from req body name long
    (sixteen_rows_after_entry image number e long) member
member_stays_without_view image number e name long (is_join joiner fit) member =
    present_row_makes_member (after image number e) name (sixteen_rows_after_entry image number e long) (member_row_after_entry image number e name long fit tt (has_member_is_in_row image name long member))

-- ---- whose membership has ended

abbrev ended : Row → ℕ → Bool
ended r life = nat_lt 0 r.joined && (nat_lt life r.life || ((r.life == life) && nat_lt 0 r.left))

row_past : (r : Row) (life : ℕ) → ended r life ≡ true → IsPastRow r life
row_past r life h = record {
  joined = grind (arith, nat_tests);
  gone = split_on_bool (nat_lt life r.life)
      (λ t. inl (grind (arith, nat_tests)))
      (λ f. inr (grind (arith, nat_tests), grind (arith, nat_tests)));
}

past_row : (r : Row) (life : ℕ) → IsPastRow r life → ended r life ≡ true
past_row r life h = let joined = h.joined in either h.gone
    (λ x. grind (arith, nat_tests))
    (λ x. let same = x.0 in let left = x.1 in grind (arith, nat_tests))

past_is : (image : Image) (name : ℕ) → is_past image name ≡ true → IsPastRow (row_of_place image (place_of_name name)) (life_of_name name)
past_is image name h = row_past (row_of_place image (place_of_name name)) (life_of_name name) h

pub past_row_is_past : (image : Image) (name : ℕ) → IsPastRow (row_of_place image (place_of_name name)) (life_of_name name) → is_past image name ≡ true
past_row_is_past image name h = past_row (row_of_place image (place_of_name name)) (life_of_name name) h

data_past : (image : Image) (number from req : ℕ) (body : List ℕ) (name : ℕ) → length image.rows ≡ 16 → IsPastRow (row_of_place image (place_of_name name)) (life_of_name name)
    → IsPastRow (row_of_place (after image number (Data from req body)) (place_of_name name)) (life_of_name name)
unfolding after
data_past image number from req body name long h = split_on_bool ((row_at_place image from).life == life_of_name from)
    (λ t. rw t (with_row_keeps_property (λ r. IsPastRow r (life_of_name name)) image from (place_of_name name) (record (row_at_place image from) { last = req }) long
    (λ is x. record { joined = x.joined; gone = x.gone }) h))
    (λ f. rw f h)

-- it stays so
pub past_name_stays_past : (image : Image) (number : ℕ) (e : Entry) (name : ℕ) → length image.rows ≡ 16 → 0 < number → IsJoinOrData image e → is_past image name ≡ true
    → is_past (after image number e) name ≡ true
past_name_stays_past image number e name long up (is_data from req body) h =
    past_row_is_past (after image number e) name (data_past image number from req body name long (past_is image name h))
past_name_stays_past image number e name long up (is_join joiner fit) h =
    past_row_is_past (after image number e) name (past_row_after_entry image number e (place_of_name name) (life_of_name name) long (mod_sixteen_lt name) up fit (past_is image name h))

-- its own Leave isn't asked for
pub past_name_has_left : (image : Image) (name : ℕ) → is_past image name ≡ true → ((row_of_name image name).joined == 0) ≡ false
    → ((row_of_name image name).left == 0) ≡ true → ⊥
past_name_has_left image name h known stays = split_on_bool ((row_at_place image name).life == life_of_name name)
    (λ t. let j = rw t at known in let l = rw t at stays in let z : ⊥ = grind (arith, nat_tests) in z)
    (λ f. let j : (0 == 0) ≡ false = rw f at known in cc)
