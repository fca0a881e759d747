-- Rows, images, votes and entries: what was read stands there, and what stands there is read.
use Rattle.std.proofs.Common.{◌≡◌, ℕ, zero, suc, ◌+◌, ◌*◌, ◌<◌, ◌≤◌, Bool, true, false, cond, eqb, leb, List, [], ◌∷◌, ◌++◌, length, drop, slice_index, Ok, Err}
use Rattle.std.proofs.Common.{inl, inr, refl, sym, ap, subst, ◌∙◌, append_assoc, arith}
use Rattle.std.specs.List.{AllByRecursion}
use Rattle.std.proofs.lemmas.Bool.{cases_Bool, and_parts, leb-true, le-leb, eqb-true, eq-eqb}
use Rattle.std.proofs.lemmas.List.Elements.{All-from_recursion, recursion_from_All, All-from_get_or}
use Rattle.std.proofs.lemmas.List.{length-drop, append-nil}
use Rattle.byteorder.specs.Endian.{big_bytes}
use Rattle.am_base.specs.declared.image.Row.{Row}
use Rattle.am_base.specs.declared.image.Vote.{Vote}
use Rattle.am_base.specs.declared.image.Image.{Image}
use Rattle.am_base.specs.declared.entry.Entry.{Entry}
use Rattle.am_base.specs.declared.entry.Entry.TheVariants.{Data, Join, Leave, View}
use Rattle.am_base.specs.Names.{IsSetOfNames}
use Rattle.am_packet.specs.declared.refusal.PacketRefusal.{PacketRefusal}
use Rattle.am_packet.specs.declared.refusal.PacketRefusal.TheVariants.{BadField}
use Rattle.am_base.specs.Limits.{RowIsInRange, ImageIsInRange, VoteIsInRange, EntryIsInRange}
use Rattle.am_base.specs.Lists.{blank_row}
use Rattle.am_packet.specs.Limits.{HasEntryParts}
use Rattle.am_packet.specs.Kinds.{most_entry}
use Rattle.am_packet.specs.Spelling.{stamp_bytes, set_bytes, row_bytes, rows_bytes, image_bytes, vote_bytes, entry_bytes}
use Rattle.am_packet.specs.Reading.{◌>>=◌, number_at, stamp_at, read_set_at, resilience_at, life_at, read_row_at, rows_at, read_image_at, vote_at, data_at, join_at, leave_at}
use Rattle.am_packet.specs.Reading.{viewed, view_at, view_fields_at, read_entry_at}
use Rattle.am_packet.specs.Laws.{IsBytes}
use Rattle.am_packet.proofs.Fields.{bound_read_is_ok, done_read_is_injective, passed_test_of_read, chosen_branch_of_read, BytesTakePiece, pieces_taken_follow, piece_taken_up_to_end, byte_is_taken_by_read, number_is_taken_by_read, stamp_is_taken_by_read, set_is_taken_by_read, resilience_is_taken_by_read}
use Rattle.am_packet.proofs.Fields.{bytes_dropped_are_fields_dropped, byte_is_field_byte, first_byte_is_field_byte, number_at_big_bytes, stamp_at_stamp_bytes, set_at_set_bytes, resilience_at_byte}

-- ---- what was read stands there

both_or_none : (a b : Bool) (life n : ℕ) (d : PacketRefusal) → cond a (cond b (Ok life) (Err d)) (cond b (Err d) (Ok life)) ≡ Ok n → (life ≡ n) × (a ≡ b)
both_or_none true true life n d e = (done_read_is_injective life n e, refl)
both_or_none true false life n d e = absurd cc
both_or_none false true life n d e = absurd cc
both_or_none false false life n d e = (done_read_is_injective life n e, refl)

pub life_read_is_byte : (bytes : List ℕ) (at joined n : ℕ) → life_at bytes at joined ≡ Ok n → (slice_index bytes at ≡ n) × (n ≤ 16) × (eqb n 0 ≡ eqb joined 0)
unfolding life_at
life_read_is_byte bytes at joined n read =
    let life = slice_index bytes at in
    let test = passed_test_of_read (leb life 16) (cond (eqb life 0) (cond (eqb joined 0) (Ok life) (Err (BadField at))) (cond (eqb joined 0) (Err (BadField at)) (Ok life)))
    (BadField at) n read in
    let same = both_or_none (eqb life 0) (eqb joined 0) life n (BadField at) test.1 in
    (same.0, rw (← same.0) (leb-true life 16 test.0), rw (← same.0) same.1)

unused_of : (life joined : ℕ) → eqb life 0 ≡ eqb joined 0 → joined ≡ 0 → life ≡ 0
unused_of life joined same none = eqb-true life 0 (same ∙ eq-eqb joined 0 none)

row_takes : (bytes : List ℕ) (at next : ℕ) (row : Row) → next ≡ at + 13 → IsBytes bytes → next ≤ length bytes → read_row_at bytes at ≡ Ok row
    → BytesTakePiece bytes at (row_bytes row) next × RowIsInRange row
unfolding read_row_at
row_takes bytes at next row e fits long read =
    let a = bound_read_is_ok (number_at bytes (at + 1)) (λ joined. life_at bytes at joined >>= λ life. number_at bytes (at + 5) >>= λ left. number_at bytes (at + 9) >>=
    λ last. Ok (record { life = life; joined = joined; left = left; last = last })) row read in
    let b = bound_read_is_ok (life_at bytes at a.0) (λ life. number_at bytes (at + 5) >>= λ left. number_at bytes (at + 9) >>= λ last. Ok
    (record { life = life; joined = a.0; left = left; last = last })) row a.2 in
    let c = bound_read_is_ok (number_at bytes (at + 5)) (λ left. number_at bytes (at + 9) >>= λ last. Ok (record { life = b.0; joined = a.0; left = left; last = last }))
    row b.2 in
    let d = bound_read_is_ok (number_at bytes (at + 9)) (λ last. Ok (record { life = b.0; joined = a.0; left = c.0; last = last })) row c.2 in
    let life = life_read_is_byte bytes at a.0 b.0 b.1 in
    let t0 : BytesTakePiece bytes at (b.0 ∷ []) (at + 1) = subst (λ (v : ℕ). BytesTakePiece bytes at (v ∷ []) (at + 1)) life.0
    (byte_is_taken_by_read bytes at (at + 1) refl (omega arith)) in
    let t1 = number_is_taken_by_read bytes (at + 1) (at + 5) a.0 (omega arith) fits (omega arith) a.1 in
    let t2 = number_is_taken_by_read bytes (at + 5) (at + 9) c.0 (omega arith) fits (omega arith) c.1 in
    let t3 = number_is_taken_by_read bytes (at + 9) next d.0 (omega arith) fits long d.1 in
    let t01 = pieces_taken_follow bytes at (at + 1) (at + 5) (b.0 ∷ []) (big_bytes 4 a.0) t0 t1.0 in
    let t02 = pieces_taken_follow bytes at (at + 5) (at + 9) (b.0 ∷ [] ++ big_bytes 4 a.0) (big_bytes 4 c.0) t01 t2.0 in
    let t03 = pieces_taken_follow bytes at (at + 9) next (b.0 ∷ [] ++ big_bytes 4 a.0 ++ big_bytes 4 c.0) (big_bytes 4 d.0) t02 t3.0 in
    let made : Row = record { life = b.0; joined = a.0; left = c.0; last = d.0 } in
    subst (λ (r : Row). BytesTakePiece bytes at (row_bytes r) next × RowIsInRange r) (done_read_is_injective made row d.2) (
      t03,
      record { life = life.1; unused = unused_of b.0 a.0 life.2; used = unused_of a.0 b.0 (sym life.2); joined = t1.1; left = t2.1; last = t3.1 },
    )

record TakesRows (bytes : List ℕ) (at next n : ℕ) (rows : List Row) : Type 0 where
  pub takes : BytesTakePiece bytes at (rows_bytes rows) next
  pub each : AllByRecursion RowIsInRange rows
  pub count : length rows ≡ n

rows_take : (n : ℕ) (bytes : List ℕ) (at next : ℕ) (rows : List Row) → next ≡ at + 13 * n → IsBytes bytes → next ≤ length bytes → rows_at n bytes at ≡ Ok rows
    → TakesRows bytes at next n rows
unfolding rows_at rows_bytes
rows_take zero bytes at next rows e fits long read =
    let same : next ≡ at = omega arith in
    let none : List Row = [] in
    subst (λ (rs : List Row). TakesRows bytes at next 0 rs) (done_read_is_injective none rows read) (record { takes = record { here = rw same refl }; each = tt; count = refl })
rows_take (suc n) bytes at next rows e fits long read =
    let a = bound_read_is_ok (read_row_at bytes at) (λ row. rows_at n bytes (at + 13) >>= λ others. Ok (row ∷ others)) rows read in
    let b = bound_read_is_ok (rows_at n bytes (at + 13)) (λ others. Ok (a.0 ∷ others)) rows a.2 in
    let first = row_takes bytes at (at + 13) a.0 refl fits (omega arith) a.1 in
    let others = rows_take n bytes (at + 13) next b.0 (omega arith) fits long b.1 in
    let both = pieces_taken_follow bytes at (at + 13) next (row_bytes a.0) (rows_bytes b.0) first.0 others.takes in
    subst (λ (rs : List Row). TakesRows bytes at next (suc n) rs) (done_read_is_injective (a.0 ∷ b.0) rows b.2)
    (record { takes = both; each = (first.1, others.each); count = ap suc others.count })

pub record BytesTakeImage (bytes : List ℕ) (at next : ℕ) (image : Image) : Type 0 where
  pub takes : BytesTakePiece bytes at (image_bytes image) next
  pub within : ImageIsInRange image

pub image_is_taken_by_read : (bytes : List ℕ) (at next : ℕ) (image : Image) → next ≡ at + 218 → IsBytes bytes → next ≤ length bytes → read_image_at bytes at ≡ Ok image
    → BytesTakeImage bytes at next image
unfolding read_image_at
image_is_taken_by_read bytes at next image e fits long read =
    let a = bound_read_is_ok (stamp_at bytes at) (λ view. number_at bytes (at + 5) >>= λ view_number. resilience_at bytes (at + 9) >>= λ resilience. rows_at 16 bytes
    (at + 10) >>= λ rows. Ok (record { view = view; view_number = view_number; resilience = resilience; rows = rows })) image read in
    let b = bound_read_is_ok (number_at bytes (at + 5)) (λ view_number. resilience_at bytes (at + 9) >>= λ resilience. rows_at 16 bytes (at + 10) >>= λ rows. Ok
    (record { view = a.0; view_number = view_number; resilience = resilience; rows = rows })) image a.2 in
    let c = bound_read_is_ok (resilience_at bytes (at + 9)) (λ resilience. rows_at 16 bytes (at + 10) >>= λ rows. Ok
    (record { view = a.0; view_number = b.0; resilience = resilience; rows = rows })) image b.2 in
    let d = bound_read_is_ok (rows_at 16 bytes (at + 10)) (λ rows. Ok (record { view = a.0; view_number = b.0; resilience = c.0; rows = rows })) image c.2 in
    let t0 = stamp_is_taken_by_read bytes at (at + 5) a.0 refl fits (omega arith) a.1 in
    let t1 = number_is_taken_by_read bytes (at + 5) (at + 9) b.0 (omega arith) fits (omega arith) b.1 in
    let t2 = resilience_is_taken_by_read bytes (at + 9) (at + 10) c.0 (omega arith) (omega arith) c.1 in
    let t3 = rows_take 16 bytes (at + 10) next d.0 (omega arith) fits long d.1 in
    let t01 = pieces_taken_follow bytes at (at + 5) (at + 9) (stamp_bytes a.0) (big_bytes 4 b.0) t0.0 t1.0 in
    let t02 = pieces_taken_follow bytes at (at + 9) (at + 10) (stamp_bytes a.0 ++ big_bytes 4 b.0) (c.0 ∷ []) t01 t2.0 in
    let t03 = pieces_taken_follow bytes at (at + 10) next (stamp_bytes a.0 ++ big_bytes 4 b.0 ++ c.0 ∷ []) (rows_bytes d.0) t02 t3.takes in
    let made : Image = record { view = a.0; view_number = b.0; resilience = c.0; rows = d.0 } in
    subst (λ (i : Image). BytesTakeImage bytes at next i) (done_read_is_injective made image d.2)
    (record {
      takes = t03;
      within = record {
        places = t3.count;
        rows =
            λ place h. All-from_recursion RowIsInRange d.0 t3.each place blank_row (let count = t3.count in omega arith);
        view = t0.1;
        view_number = t1.1;
        resilience =
            t2.1;
      };
    })

pub record BytesTakeVote (bytes : List ℕ) (at next : ℕ) (vote : Vote) : Type 0 where
  pub takes : BytesTakePiece bytes at (vote_bytes vote) next
  pub within : VoteIsInRange vote
  pub set : IsSetOfNames vote.members

pub vote_is_taken_by_read : (bytes : List ℕ) (at next : ℕ) (vote : Vote) → next ≡ at + 23 → IsBytes bytes → next ≤ length bytes → vote_at bytes at ≡ Ok vote
    → BytesTakeVote bytes at next vote
unfolding vote_at
vote_is_taken_by_read bytes at next vote e fits long read =
    let a = bound_read_is_ok (stamp_at bytes at) (λ view. number_at bytes (at + 5) >>= λ top. number_at bytes (at + 9) >>= λ taken. read_set_at bytes (at + 13) >>=
    λ members. Ok (record { view = view; top = top; taken = taken; members = members })) vote read in
    let b = bound_read_is_ok (number_at bytes (at + 5)) (λ top. number_at bytes (at + 9) >>= λ taken. read_set_at bytes (at + 13) >>= λ members. Ok
    (record { view = a.0; top = top; taken = taken; members = members })) vote a.2 in
    let c = bound_read_is_ok (number_at bytes (at + 9)) (λ taken. read_set_at bytes (at + 13) >>= λ members. Ok
    (record { view = a.0; top = b.0; taken = taken; members = members })) vote b.2 in
    let d = bound_read_is_ok (read_set_at bytes (at + 13)) (λ members. Ok (record { view = a.0; top = b.0; taken = c.0; members = members })) vote c.2 in
    let t0 = stamp_is_taken_by_read bytes at (at + 5) a.0 refl fits (omega arith) a.1 in
    let t1 = number_is_taken_by_read bytes (at + 5) (at + 9) b.0 (omega arith) fits (omega arith) b.1 in
    let t2 = number_is_taken_by_read bytes (at + 9) (at + 13) c.0 (omega arith) fits (omega arith) c.1 in
    let t3 = set_is_taken_by_read bytes (at + 13) next d.0 (omega arith) fits long d.1 in
    let t01 = pieces_taken_follow bytes at (at + 5) (at + 9) (stamp_bytes a.0) (big_bytes 4 b.0) t0.0 t1.0 in
    let t02 = pieces_taken_follow bytes at (at + 9) (at + 13) (stamp_bytes a.0 ++ big_bytes 4 b.0) (big_bytes 4 c.0) t01 t2.0 in
    let t03 = pieces_taken_follow bytes at (at + 13) next (stamp_bytes a.0 ++ big_bytes 4 b.0 ++ big_bytes 4 c.0) (set_bytes d.0) t02 t3.0 in
    let made : Vote = record { view = a.0; top = b.0; taken = c.0; members = d.0 } in
    subst (λ (v : Vote). BytesTakeVote bytes at next v) (done_read_is_injective made vote d.2)
    (record { takes = t03; within = record { view = t0.1; top = t1.1; taken = t2.1 }; set = t3.1 })

-- an entry takes all that is left
pub record BytesEndWithEntry (bytes : List ℕ) (at : ℕ) (entry : Entry) : Type 0 where
  pub here : drop at bytes ≡ entry_bytes entry
  pub within : EntryIsInRange entry
  pub parts : HasEntryParts entry

tagged : (bytes : List ℕ) (at tag : ℕ) → at < length bytes → eqb (slice_index bytes at) tag ≡ true → BytesTakePiece bytes at (tag ∷ []) (at + 1)
tagged bytes at tag lt is = subst (λ (v : ℕ). BytesTakePiece bytes at (v ∷ []) (at + 1)) (eqb-true _ _ is) (byte_is_taken_by_read bytes at (at + 1) refl lt)

data_ends : (bytes : List ℕ) (at : ℕ) (entry : Entry) → IsBytes bytes → BytesTakePiece bytes at (1 ∷ []) (at + 1) → data_at bytes at ≡ Ok entry → BytesEndWithEntry bytes at entry
unfolding data_at entry_bytes
data_ends bytes at entry fits tag read =
    let g = passed_test_of_read _ (number_at bytes (at + 2) >>= λ req. Ok (Data (slice_index bytes (at + 1)) req (drop (at + 6) bytes))) (BadField 10) entry read in
    let h = and_parts (leb (at + 6) (length bytes)) (leb (length bytes) (at + most_entry)) g.0 in
    let low : at + 6 ≤ length bytes = leb-true _ _ h.0 in
    let high : length bytes ≤ at + most_entry = leb-true _ _ h.1 in
    let a = bound_read_is_ok (number_at bytes (at + 2)) (λ req. Ok (Data (slice_index bytes (at + 1)) req (drop (at + 6) bytes))) entry g.1 in
    let from = byte_is_taken_by_read bytes (at + 1) (at + 2) (omega arith) (omega arith) in
    let req = number_is_taken_by_read bytes (at + 2) (at + 6) a.0 (omega arith) fits low a.1 in
    let t01 = pieces_taken_follow bytes at (at + 1) (at + 2) (1 ∷ []) (slice_index bytes (at + 1) ∷ []) tag from in
    let t02 = pieces_taken_follow bytes at (at + 2) (at + 6) (1 ∷ slice_index bytes (at + 1) ∷ []) (big_bytes 4 a.0) t01 req.0 in
    subst (λ (e : Entry). BytesEndWithEntry bytes at e) (done_read_is_injective (Data (slice_index bytes (at + 1)) a.0 (drop (at + 6) bytes)) entry a.2)
    (record { here = t02.here; within = req.1; parts = omega (arith, length-drop (at + 6) bytes) })

-- a tag and a name
named_ends : (bytes : List ℕ) (at tag : ℕ) (make : ℕ → Entry) (entry : Entry)
    → ((name : ℕ) → (entry_bytes (make name) ≡ tag ∷ name ∷ []) × EntryIsInRange (make name) × HasEntryParts (make name))
    → BytesTakePiece bytes at (tag ∷ []) (at + 1)
    → cond (eqb (length bytes) (at + 2)) (Ok (make (slice_index bytes (at + 1)))) (Err (BadField 10)) ≡ Ok entry → BytesEndWithEntry bytes at entry
named_ends bytes at tag make entry made taken read =
    let name = slice_index bytes (at + 1) in
    let g = passed_test_of_read _ (Ok (make name)) (BadField 10) entry read in
    let long : length bytes ≡ at + 2 = eqb-true _ _ g.0 in
    let t01 = pieces_taken_follow bytes at (at + 1) (at + 2) (tag ∷ []) (name ∷ []) taken (byte_is_taken_by_read bytes (at + 1) (at + 2) (omega arith) (omega arith)) in
    subst (λ (e : Entry). BytesEndWithEntry bytes at e) (done_read_is_injective (make name) entry g.1)
    (record { here = piece_taken_up_to_end bytes at (at + 2) _ t01 (omega arith) ∙ sym (made name).0; within = (made name).1; parts = (made name).2 })

join_ends : (bytes : List ℕ) (at : ℕ) (entry : Entry) → BytesTakePiece bytes at (2 ∷ []) (at + 1) → join_at bytes at ≡ Ok entry → BytesEndWithEntry bytes at entry
unfolding join_at entry_bytes
join_ends bytes at entry tag read = named_ends bytes at 2 (λ name. Join name) entry (λ name. (refl, tt, tt)) tag read

leave_ends : (bytes : List ℕ) (at : ℕ) (entry : Entry) → BytesTakePiece bytes at (3 ∷ []) (at + 1) → leave_at bytes at ≡ Ok entry → BytesEndWithEntry bytes at entry
unfolding leave_at entry_bytes
leave_ends bytes at entry tag read = named_ends bytes at 3 (λ name. Leave name) entry (λ name. (refl, tt, tt)) tag read

view_ends : (bytes : List ℕ) (at : ℕ) (entry : Entry) → IsBytes bytes → BytesTakePiece bytes at (4 ∷ []) (at + 1) → view_at bytes at ≡ Ok entry → BytesEndWithEntry bytes at entry
unfolding view_at view_fields_at entry_bytes
view_ends bytes at entry fits tag read =
    let g = passed_test_of_read _ (view_fields_at bytes at) (BadField 10) entry read in
    let long : length bytes ≡ at + 17 = eqb-true _ _ g.0 in
    let a = bound_read_is_ok (stamp_at bytes (at + 1)) (λ stamp. read_set_at bytes (at + 6) >>= λ members. resilience_at bytes (at + 16) >>= λ resilience. Ok
    (View (viewed stamp members resilience))) entry g.1 in
    let b = bound_read_is_ok (read_set_at bytes (at + 6)) (λ members. resilience_at bytes (at + 16) >>= λ resilience. Ok (View (viewed a.0 members resilience))) entry a.2 in
    let c = bound_read_is_ok (resilience_at bytes (at + 16)) (λ resilience. Ok (View (viewed a.0 b.0 resilience))) entry b.2 in
    let t1 = stamp_is_taken_by_read bytes (at + 1) (at + 6) a.0 (omega arith) fits (omega arith) a.1 in
    let t2 = set_is_taken_by_read bytes (at + 6) (at + 16) b.0 (omega arith) fits (omega arith) b.1 in
    let t3 = resilience_is_taken_by_read bytes (at + 16) (at + 17) c.0 (omega arith) (omega arith) c.1 in
    let t01 = pieces_taken_follow bytes at (at + 1) (at + 6) (4 ∷ []) (stamp_bytes a.0) tag t1.0 in
    let t02 = pieces_taken_follow bytes at (at + 6) (at + 16) (4 ∷ [] ++ stamp_bytes a.0) (set_bytes b.0) t01 t2.0 in
    let t03 = pieces_taken_follow bytes at (at + 16) (at + 17) (4 ∷ [] ++ stamp_bytes a.0 ++ set_bytes b.0) (c.0 ∷ []) t02 t3.0 in
    subst (λ (e : Entry). BytesEndWithEntry bytes at e) (done_read_is_injective (View (viewed a.0 b.0 c.0)) entry c.2)
    (record { here = piece_taken_up_to_end bytes at (at + 17) _ t03 (omega arith); within = (t1.1, t3.1); parts = t2.1 })

pub entry_read_ends_bytes : (bytes : List ℕ) (at : ℕ) (entry : Entry) → IsBytes bytes → at < length bytes → read_entry_at bytes at ≡ Ok entry → BytesEndWithEntry bytes at entry
unfolding read_entry_at
entry_read_ends_bytes bytes at entry fits lt read =
    let tag = slice_index bytes at in
    elim (chosen_branch_of_read (eqb tag 1) (data_at bytes at) (cond (eqb tag 2) (join_at bytes at)
    (cond (eqb tag 3) (leave_at bytes at) (cond (eqb tag 4) (view_at bytes at) (Err (BadField at))))) entry read) [
      | inl (is, r) ↦ data_ends bytes at entry fits (tagged bytes at 1 lt is) r
      | inr (isnt, r) ↦ elim (chosen_branch_of_read (eqb tag 2) (join_at bytes at)
          (cond (eqb tag 3) (leave_at bytes at) (cond (eqb tag 4) (view_at bytes at) (Err (BadField at)))) entry r) [
            | inl (is, r2) ↦ join_ends bytes at entry (tagged bytes at 2 lt is) r2
            | inr (isnt2, r2) ↦ elim (chosen_branch_of_read (eqb tag 3) (leave_at bytes at) (cond (eqb tag 4) (view_at bytes at) (Err (BadField at))) entry r2) [
              | inl (is, r3) ↦ leave_ends bytes at entry (tagged bytes at 3 lt is) r3
              | inr (isnt3, r3) ↦ let g = passed_test_of_read (eqb tag 4) (view_at bytes at) (BadField at) entry r3 in
                  view_ends bytes at entry fits (tagged bytes at 4 lt g.0) g.1
            ]
          ]
    ]

-- ---- what stands there is read

one_of : (life : ℕ) (d : PacketRefusal) (a b : Bool) → a ≡ b → cond a (cond b (Ok life) (Err d)) (cond b (Err d) (Ok life)) ≡ Ok life
one_of life d true true e = refl
one_of life d false false e = refl
one_of life d true false e = absurd cc
one_of life d false true e = absurd cc

both_of : (life joined : ℕ) → (joined ≡ 0 → life ≡ 0) → (life ≡ 0 → joined ≡ 0) → eqb life 0 ≡ eqb joined 0
both_of life joined unused used =
    elim (cases_Bool (eqb life 0)) [
      | inl none ↦ none ∙ sym (eq-eqb joined 0 (used (eqb-true life 0 none)))
      | inr some ↦ elim (cases_Bool (eqb joined 0)) [
        | inl none ↦ eq-eqb life 0 (unused (eqb-true joined 0 none)) ∙ sym none
        | inr other ↦ some ∙ sym other
      ]
    ]

life_again : (bytes : List ℕ) (at : ℕ) (row : Row) → slice_index bytes at ≡ row.life → RowIsInRange row → life_at bytes at row.joined ≡ Ok row.life
unfolding life_at
life_again bytes at row h within =
    rw (h, le-leb row.life 16 within.life) (one_of row.life (BadField at) (eqb row.life 0) (eqb row.joined 0)
    (both_of row.life row.joined within.unused within.used))

row_again : (bytes rest : List ℕ) (at : ℕ) (row : Row) → drop at bytes ≡ row_bytes row ++ rest → RowIsInRange row → read_row_at bytes at ≡ Ok row
unfolding read_row_at
row_again bytes rest at row h within =
    rw (
      number_at_big_bytes bytes _ (at + 1) row.joined (bytes_dropped_are_fields_dropped bytes _ at 1 h) within.joined,
      life_again bytes at row (first_byte_is_field_byte bytes _ at h) within,
      number_at_big_bytes bytes _ (at + 5) row.left (bytes_dropped_are_fields_dropped bytes _ at 5 h) within.left,
      number_at_big_bytes bytes _ (at + 9) row.last (bytes_dropped_are_fields_dropped bytes _ at 9 h) within.last,
    ) refl

rows_again : (rows : List Row) (bytes rest : List ℕ) (at : ℕ) → drop at bytes ≡ rows_bytes rows ++ rest → AllByRecursion RowIsInRange rows
    → rows_at (length rows) bytes at ≡ Ok rows
unfolding rows_at rows_bytes
rows_again [] bytes rest at h within = refl
rows_again (row ∷ rows) bytes rest at h within =
    let regrouped : drop at bytes ≡ row_bytes row ++ (rows_bytes rows ++ rest) = h ∙ append_assoc (row_bytes row) (rows_bytes rows) rest in
    rw (row_again bytes (rows_bytes rows ++ rest) at row regrouped within.0, rows_again rows bytes rest (at + 13) (bytes_dropped_are_fields_dropped bytes _ at 13 regrouped) within.1) refl

pub image_at_image_bytes : (bytes : List ℕ) (at : ℕ) (image : Image) → drop at bytes ≡ image_bytes image → ImageIsInRange image → read_image_at bytes at ≡ Ok image
unfolding read_image_at
image_at_image_bytes bytes at image h within =
    let count = within.places in
    let each = recursion_from_All RowIsInRange image.rows (All-from_get_or RowIsInRange image.rows blank_row (λ i lt. within.rows i (omega arith))) in
    let rows : rows_at 16 bytes (at + 10) ≡ Ok image.rows = rw (← count)
    (rows_again image.rows bytes [] (at + 10) (bytes_dropped_are_fields_dropped bytes _ at 10 h ∙ sym (append-nil (rows_bytes image.rows))) each) in
    rw (
      stamp_at_stamp_bytes bytes _ at image.view h within.view,
      number_at_big_bytes bytes _ (at + 5) image.view_number (bytes_dropped_are_fields_dropped bytes _ at 5 h) within.view_number,
      resilience_at_byte bytes (at + 9) image.resilience (byte_is_field_byte bytes _ at 9 h) within.resilience,
      rows,
    ) refl

pub vote_at_vote_bytes : (bytes : List ℕ) (at : ℕ) (vote : Vote) → drop at bytes ≡ vote_bytes vote → VoteIsInRange vote → IsSetOfNames vote.members → vote_at bytes at ≡ Ok vote
unfolding vote_at
vote_at_vote_bytes bytes at vote h within set =
    rw (
      stamp_at_stamp_bytes bytes _ at vote.view h within.view,
      number_at_big_bytes bytes _ (at + 5) vote.top (bytes_dropped_are_fields_dropped bytes _ at 5 h) within.top,
      number_at_big_bytes bytes _ (at + 9) vote.taken (bytes_dropped_are_fields_dropped bytes _ at 9 h) within.taken,
      set_at_set_bytes bytes [] (at + 13) vote.members (bytes_dropped_are_fields_dropped bytes _ at 13 h) set,
    ) refl

pub entry_at_entry_bytes : (bytes : List ℕ) (at : ℕ) (entry : Entry) → drop at bytes ≡ entry_bytes entry → length bytes ≡ at + length (entry_bytes entry) → EntryIsInRange entry
    → HasEntryParts entry → read_entry_at bytes at ≡ Ok entry
unfolding read_entry_at data_at join_at leave_at view_at view_fields_at entry_bytes
entry_at_entry_bytes bytes at (Data from req body) h long within parts =
    rw (
      first_byte_is_field_byte bytes _ at h,
      le-leb (at + 6) (length bytes) (omega arith),
      le-leb (length bytes) (at + most_entry) (omega arith),
      number_at_big_bytes bytes _ (at + 2) req (bytes_dropped_are_fields_dropped bytes _ at 2 h) within,
      byte_is_field_byte bytes _ at 1 h,
      bytes_dropped_are_fields_dropped bytes _ at 6 h,
    ) refl
entry_at_entry_bytes bytes at (Join name) h long within parts =
    rw (first_byte_is_field_byte bytes _ at h, eq-eqb (length bytes) (at + 2) (omega arith), byte_is_field_byte bytes _ at 1 h) refl
entry_at_entry_bytes bytes at (Leave name) h long within parts =
    rw (first_byte_is_field_byte bytes _ at h, eq-eqb (length bytes) (at + 2) (omega arith), byte_is_field_byte bytes _ at 1 h) refl
entry_at_entry_bytes bytes at (View v) h long within parts =
    rw (
      first_byte_is_field_byte bytes _ at h,
      eq-eqb (length bytes) (at + 17) (omega arith),
      stamp_at_stamp_bytes bytes _ (at + 1) v.stamp (bytes_dropped_are_fields_dropped bytes _ at 1 h) within.0,
      set_at_set_bytes bytes _ (at + 6) v.members (bytes_dropped_are_fields_dropped bytes _ at 6 h) parts,
      resilience_at_byte bytes (at + 16) v.resilience (byte_is_field_byte bytes _ at 16 h) within.1,
    ) refl
