-- Each field: what was read stands there, and what stands there is read.
use Rattle.std.proofs.Common.{◌≡◌, ℕ, ◌+◌, ◌^◌, ◌<◌, ◌≤◌, Bool, true, false, cond, eqb, List, [], ◌∷◌, ◌++◌, length, get_or, drop, slice_index, Ok, Err, ◌⊎◌}
use Rattle.std.proofs.Common.{inl, inr, refl, sym, ap, subst, ◌∙◌, append_assoc, arith}
use Rattle.std.specs.Prelude.{nat_le}
use Rattle.std.proofs.lemmas.Bool.{leb-true, le-leb, eqb-true}
use Rattle.std.proofs.lemmas.List.{drop-drop, drop_more, drop_all, get_or-drop, append-nil}
use Rattle.am_base.specs.Most.{greatest_number}
use Rattle.byteorder.specs.Endian.{big_bytes, big_number}
use Rattle.byteorder.specs.Numbers.{big_number-reads_back}
use Rattle.am_base.specs.declared.name.Stamp.{Stamp}
use Rattle.am_base.specs.declared.image.Report.{Report}
use Rattle.am_base.specs.Names.{IsSetOfNames, mask_of_names, lives_of_names, names_of_mask_and_lives, are_mask_and_lives}
use Rattle.am_base.proofs.Masks.{places_of_is_set, places_of_mask_and_lives, mask_and_lives_are_masked, mask-places_of, lives-places_of, mask_of-lt, lives_of-lt}
use Rattle.am_packet.specs.declared.refusal.PacketRefusal.{PacketRefusal}
use Rattle.am_packet.specs.declared.refusal.PacketRefusal.TheVariants.{BadField}
use Rattle.am_base.specs.Limits.{NumberIsInRange, ReportIsInRange}
use Rattle.am_packet.specs.Spelling.{report_bytes, stamp_bytes, set_bytes, flag_byte}
use Rattle.am_packet.specs.Reading.{Read, ◌>>=◌, number_at, report_at, stamp_at, read_set_at, resilience_at, flag_at}
use Rattle.am_packet.specs.Laws.{IsBytes}
use Rattle.am_packet.proofs.Numbers.{dropped_bytes_are_big_bytes, big_number-lt, dropped_bytes_are_bytes}

-- the value of a step that didn't fail
pub bound_read_is_ok : {A B : Type 0} (r : Read A) (f : A → Read B) (y : B) → (r >>= f) ≡ Ok y → (x : A) × (r ≡ Ok x) × (f x ≡ Ok y)
bound_read_is_ok (Ok x) f y e = (x, refl, e)
bound_read_is_ok (Err d) f y e = absurd cc

abbrev pub read_that_is_done : {A : Type 0} → A → Read A
read_that_is_done x = Ok x

pub done_read_is_injective : {A : Type 0} (x y : A) → read_that_is_done x ≡ read_that_is_done y → x ≡ y
done_read_is_injective x y e = cc

-- a test that passed
pub passed_test_of_read : {A : Type 0} (b : Bool) (r : Read A) (d : PacketRefusal) (y : A) → cond b r (Err d) ≡ Ok y → (b ≡ true) × (r ≡ Ok y)
passed_test_of_read true r d y e = (refl, e)
passed_test_of_read false r d y e = absurd cc

pub chosen_branch_of_read : {A : Type 0} (b : Bool) (r s : Read A) (y : A) → cond b r s ≡ Ok y → ((b ≡ true) × (r ≡ Ok y)) ⊎ ((b ≡ false) × (s ≡ Ok y))
chosen_branch_of_read true r s y e = inl (refl, e)
chosen_branch_of_read false r s y e = inr (refl, e)

pub number_read_is_big_number : (bytes : List ℕ) (at n : ℕ) → number_at bytes at ≡ Ok n → big_number 4 (drop at bytes) ≡ n
unfolding number_at
number_read_is_big_number bytes at n read = done_read_is_injective _ n (passed_test_of_read _ (Ok (big_number 4 (drop at bytes))) (BadField at) n read).1

pub resilience_read_is_byte : (bytes : List ℕ) (at n : ℕ) → resilience_at bytes at ≡ Ok n → slice_index bytes at ≡ n
unfolding resilience_at
resilience_read_is_byte bytes at n read = done_read_is_injective _ n (passed_test_of_read _ (Ok (slice_index bytes at)) (BadField at) n read).1

-- ---- what was read stands there

-- from one place to the next these bytes stand
pub record BytesTakePiece (bytes : List ℕ) (at : ℕ) (piece : List ℕ) (next : ℕ) : Type 0 where
  pub here : drop at bytes ≡ piece ++ drop next bytes

pub pieces_taken_follow : (bytes : List ℕ) (at middle next : ℕ) (a b : List ℕ) → BytesTakePiece bytes at a middle → BytesTakePiece bytes middle b next → BytesTakePiece bytes at (a ++ b) next
pieces_taken_follow bytes at middle next a b first second = record { here = first.here ∙ ap (λ xs. a ++ xs) second.here ∙ sym (append_assoc a b (drop next bytes)) }

-- nothing stands at the end
pub piece_taken_up_to_end : (bytes : List ℕ) (at next : ℕ) (piece : List ℕ) → BytesTakePiece bytes at piece next → length bytes ≤ next → drop at bytes ≡ piece
piece_taken_up_to_end bytes at next piece taken short = taken.here ∙ ap (λ xs. piece ++ xs) (drop_all next bytes short) ∙ append-nil piece

pub byte_is_taken_by_read : (bytes : List ℕ) (at next : ℕ) → next ≡ at + 1 → at < length bytes → BytesTakePiece bytes at (slice_index bytes at ∷ []) next
byte_is_taken_by_read bytes at next e lt = record { here = rw e (drop_more bytes at 0 lt) }

pub number_is_taken_by_read : (bytes : List ℕ) (at next n : ℕ) → next ≡ at + 4 → IsBytes bytes → next ≤ length bytes → number_at bytes at ≡ Ok n
    → BytesTakePiece bytes at (big_bytes 4 n) next × NumberIsInRange n
unfolding number_at
number_is_taken_by_read bytes at next n e fits long read =
    let test = passed_test_of_read (nat_le (big_number 4 (drop at bytes)) greatest_number) (Ok (big_number 4 (drop at bytes))) (BadField at) n read in
    let is : big_number 4 (drop at bytes) ≡ n = done_read_is_injective (big_number 4 (drop at bytes)) n test.1 in
    let here : drop at bytes ≡ big_bytes 4 (big_number 4 (drop at bytes)) ++ drop next bytes = rw e (dropped_bytes_are_big_bytes 4 at bytes (omega arith) fits) in
    (record { here = here ∙ ap (λ v. big_bytes 4 v ++ drop next bytes) is }, rw (← is) (leb-true (big_number 4 (drop at bytes)) greatest_number test.0))

pub report_is_taken_by_read : (bytes : List ℕ) (at next : ℕ) (report : Report) → next ≡ at + 8 → IsBytes bytes → next ≤ length bytes → report_at bytes at ≡ Ok report
    → BytesTakePiece bytes at (report_bytes report) next × ReportIsInRange report
unfolding report_at
report_is_taken_by_read bytes at next report e fits long read =
    let a = bound_read_is_ok (number_at bytes at) (λ stored. number_at bytes (at + 4) >>= λ taken. Ok (record { stored = stored; taken = taken })) report read in
    let b = bound_read_is_ok (number_at bytes (at + 4)) (λ taken. Ok (record { stored = a.0; taken = taken })) report a.2 in
    let ta = number_is_taken_by_read bytes at (at + 4) a.0 refl fits (omega arith) a.1 in
    let tb = number_is_taken_by_read bytes (at + 4) next b.0 (omega arith) fits long b.1 in
    let made : Report = record { stored = a.0; taken = b.0 } in
    subst (λ (r : Report). BytesTakePiece bytes at (report_bytes r) next
    × ReportIsInRange r) (done_read_is_injective made report b.2) (
      pieces_taken_follow bytes at (at + 4) next (big_bytes 4 a.0) (big_bytes 4 b.0) ta.0 tb.0,
      record { stored = ta.1; taken = tb.1 },
    )

pub stamp_is_taken_by_read : (bytes : List ℕ) (at next : ℕ) (stamp : Stamp) → next ≡ at + 5 → IsBytes bytes → next ≤ length bytes → stamp_at bytes at ≡ Ok stamp
    → BytesTakePiece bytes at (stamp_bytes stamp) next × NumberIsInRange stamp.round
unfolding stamp_at
stamp_is_taken_by_read bytes at next stamp e fits long read =
    let a = bound_read_is_ok (number_at bytes at) (λ round. Ok (record { round = round; by = slice_index bytes (at + 4) })) stamp read in
    let ta = number_is_taken_by_read bytes at (at + 4) a.0 refl fits (omega arith) a.1 in
    let tb = byte_is_taken_by_read bytes (at + 4) next (omega arith) (omega arith) in
    let made : Stamp = record { round = a.0; by = slice_index bytes (at + 4) } in
    subst (λ (s : Stamp). BytesTakePiece bytes at (stamp_bytes s) next
    × NumberIsInRange s.round) (done_read_is_injective made stamp a.2) (pieces_taken_follow bytes at (at + 4) next (big_bytes 4 a.0) (slice_index bytes (at + 4) ∷ []) ta.0 tb, ta.1)

pub set_is_taken_by_read : (bytes : List ℕ) (at next : ℕ) (set : List ℕ) → next ≡ at + 10 → IsBytes bytes → next ≤ length bytes → read_set_at bytes at ≡ Ok set
    → BytesTakePiece bytes at (set_bytes set) next × IsSetOfNames set
unfolding read_set_at
set_is_taken_by_read bytes at next set e fits long read =
    let mask = big_number 2 (drop at bytes) in
    let lives = big_number 8 (drop (at + 2) bytes) in
    let test = passed_test_of_read (are_mask_and_lives mask lives) (Ok (names_of_mask_and_lives mask lives)) (BadField (at + 2)) set read in
    let is : names_of_mask_and_lives mask lives ≡ set = done_read_is_injective (names_of_mask_and_lives mask lives) set test.1 in
    let first : drop at bytes ≡ big_bytes 2 mask ++ drop (at + 2) bytes = dropped_bytes_are_big_bytes 2 at bytes (omega arith) fits in
    let second : drop (at + 2) bytes ≡ big_bytes 8 lives ++ drop next bytes = dropped_bytes_are_big_bytes 8 (at + 2) bytes (omega arith) fits
    ∙ ap (λ k. big_bytes 8 lives ++ drop k bytes) (let k : at + 2 + 8 ≡ next = omega arith in k) in
    let mask-is : mask_of_names (names_of_mask_and_lives mask lives) ≡ mask = mask-places_of 16 mask lives (big_number-lt 2 (drop at bytes) (dropped_bytes_are_bytes at bytes fits)) in
    let lives-is : lives_of_names (names_of_mask_and_lives mask lives) ≡ lives = lives-places_of 16 mask lives
    (big_number-lt 8 (drop (at + 2) bytes) (dropped_bytes_are_bytes (at + 2) bytes fits)) test.0 in
    let both = pieces_taken_follow bytes at (at + 2) next (big_bytes 2 mask) (big_bytes 8 lives) (record { here = first }) (record { here = second }) in
    let spelled : BytesTakePiece bytes at (set_bytes (names_of_mask_and_lives mask lives)) next = rw (mask-is, lives-is) both in
    subst (λ (s : List ℕ). BytesTakePiece bytes at (set_bytes s) next × IsSetOfNames s) is (spelled, places_of_is_set mask lives)

pub resilience_is_taken_by_read : (bytes : List ℕ) (at next n : ℕ) → next ≡ at + 1 → next ≤ length bytes → resilience_at bytes at ≡ Ok n → BytesTakePiece bytes at (n ∷ []) next
    × (n ≤ 15)
unfolding resilience_at
resilience_is_taken_by_read bytes at next n e long read =
    let test = passed_test_of_read (nat_le (slice_index bytes at) 15) (Ok (slice_index bytes at)) (BadField at) n read in
    let is : slice_index bytes at ≡ n = done_read_is_injective (slice_index bytes at) n test.1 in
    subst (λ (v : ℕ). BytesTakePiece bytes at (v ∷ []) next × (v ≤ 15)) is (byte_is_taken_by_read bytes at next e (omega arith), leb-true (slice_index bytes at) 15 test.0)

pub flag_is_taken_by_read : (bytes : List ℕ) (at next : ℕ) (flag : Bool) → next ≡ at + 1 → next ≤ length bytes → flag_at bytes at ≡ Ok flag
    → BytesTakePiece bytes at (flag_byte flag ∷ []) next
unfolding flag_at
flag_is_taken_by_read bytes at next flag e long read =
    let here = byte_is_taken_by_read bytes at next e (omega arith) in
    elim (chosen_branch_of_read (eqb (slice_index bytes at) 0) (Ok false) (cond (eqb (slice_index bytes at) 1) (Ok true) (Err (BadField at))) flag read) [
      | inl (zero-is, r) ↦ subst (λ (f : Bool). BytesTakePiece bytes at (flag_byte f ∷ []) next) (done_read_is_injective false flag r)
          (subst (λ (v : ℕ). BytesTakePiece bytes at (v ∷ []) next) (eqb-true _ _ zero-is) here)
      | inr (not-zero, r) ↦
          let test = passed_test_of_read (eqb (slice_index bytes at) 1) (Ok true) (BadField at) flag r in
          subst (λ (f : Bool). BytesTakePiece bytes at (flag_byte f ∷ []) next) (done_read_is_injective true flag test.1)
          (subst (λ (v : ℕ). BytesTakePiece bytes at (v ∷ []) next) (eqb-true _ _ test.0) here)
    ]

-- ---- what stands there is read

-- the bytes from a later place on
pub bytes_dropped_are_fields_dropped : (bytes fields : List ℕ) (at k : ℕ) → drop at bytes ≡ fields → drop (at + k) bytes ≡ drop k fields
bytes_dropped_are_fields_dropped bytes fields at k h = sym (drop-drop k at bytes) ∙ ap (λ xs. drop k xs) h

-- one byte of them
pub byte_is_field_byte : (bytes fields : List ℕ) (at k : ℕ) → drop at bytes ≡ fields → slice_index bytes (at + k) ≡ slice_index fields k
byte_is_field_byte bytes fields at k h = sym (get_or-drop at bytes k 0) ∙ ap (λ xs. get_or xs k 0) h

pub first_byte_is_field_byte : (bytes fields : List ℕ) (at : ℕ) → drop at bytes ≡ fields → slice_index bytes at ≡ slice_index fields 0
first_byte_is_field_byte bytes fields at h = let same : at + 0 ≡ at = omega arith in ap (λ k. slice_index bytes k) (sym same) ∙ byte_is_field_byte bytes fields at 0 h

-- the number that these bytes spell
value : (k n : ℕ) (bytes rest : List ℕ) (at : ℕ) → drop at bytes ≡ big_bytes k n ++ rest → n < 256 ^ k → big_number k (drop at bytes) ≡ n
value k n bytes rest at h lt = ap (λ xs. big_number k xs) h ∙ big_number-reads_back k n rest lt

pub number_at_big_bytes : (bytes rest : List ℕ) (at n : ℕ) → drop at bytes ≡ big_bytes 4 n ++ rest → NumberIsInRange n → number_at bytes at ≡ Ok n
unfolding number_at
number_at_big_bytes bytes rest at n h within = rw (value 4 n bytes rest at h (omega arith), le-leb n greatest_number within) refl

pub report_at_report_bytes : (bytes rest : List ℕ) (at : ℕ) (report : Report) → drop at bytes ≡ report_bytes report ++ rest → ReportIsInRange report
    → report_at bytes at ≡ Ok report
unfolding report_at
report_at_report_bytes bytes rest at report h within =
    rw (number_at_big_bytes bytes _ at report.stored h within.stored, number_at_big_bytes bytes _ (at + 4) report.taken (bytes_dropped_are_fields_dropped bytes _ at 4 h) within.taken) refl

pub stamp_at_stamp_bytes : (bytes rest : List ℕ) (at : ℕ) (stamp : Stamp) → drop at bytes ≡ stamp_bytes stamp ++ rest → NumberIsInRange stamp.round
    → stamp_at bytes at ≡ Ok stamp
unfolding stamp_at
stamp_at_stamp_bytes bytes rest at stamp h within =
    rw (number_at_big_bytes bytes _ at stamp.round h within, byte_is_field_byte bytes _ at 4 h) refl

pub set_at_set_bytes : (bytes rest : List ℕ) (at : ℕ) (set : List ℕ) → drop at bytes ≡ set_bytes set ++ rest → IsSetOfNames set → read_set_at bytes at ≡ Ok set
unfolding read_set_at
set_at_set_bytes bytes rest at set h is =
    let mask-fits : mask_of_names set < 256 ^ 2 = let lt = mask_of-lt set in let lt2 : mask_of_names set < 2 ^ 16 = subst (λ (k : ℕ). mask_of_names set < 2 ^ k) is.places lt in
    lt2 in
    let lives-fits : lives_of_names set < 256 ^ 8 = let lt = lives_of-lt set is in
    let lt2 : lives_of_names set < 16 ^ 16 = subst (λ (k : ℕ). lives_of_names set < 16 ^ k) is.places lt in lt2 in
    let mask-is : big_number 2 (drop at bytes) ≡ mask_of_names set = value 2 (mask_of_names set) bytes _ at h mask-fits in
    let lives-is : big_number 8 (drop (at + 2) bytes) ≡ lives_of_names set = value 8 (lives_of_names set) bytes _ (at + 2) (bytes_dropped_are_fields_dropped bytes _ at 2 h) lives-fits in
    rw (mask-is, lives-is, mask_and_lives_are_masked set is, places_of_mask_and_lives set is) refl

pub resilience_at_byte : (bytes : List ℕ) (at n : ℕ) → slice_index bytes at ≡ n → n ≤ 15 → resilience_at bytes at ≡ Ok n
unfolding resilience_at
resilience_at_byte bytes at n h within = rw (h, le-leb n 15 within) refl

pub flag_at_flag_byte : (bytes : List ℕ) (at : ℕ) (flag : Bool) → slice_index bytes at ≡ flag_byte flag → flag_at bytes at ≡ Ok flag
unfolding flag_at
flag_at_flag_byte bytes at true h = rw h refl
flag_at_flag_byte bytes at false h = rw h refl
