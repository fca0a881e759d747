-- A field is refused exactly where it is the first wrong one.
use Rattle.std.proofs.Common.{◌≡◌, ℕ, zero, suc, ◌+◌, ◌&&◌, ◌||◌, not, Bool, true, false, cond, eqb, leb, List, [], ◌∷◌, ◌++◌, length, drop, slice_index, Some}
use Rattle.std.proofs.Common.{None, Ok, Err, refl, ◌∙◌}
use Rattle.byteorder.specs.Endian.{big_number}
use Rattle.am_base.specs.declared.name.Stamp.{Stamp}
use Rattle.am_base.specs.declared.entry.Entry.TheVariants.{Data, View}
use Rattle.am_packet.specs.declared.packet.Packet.{Packet}
use Rattle.am_packet.specs.declared.packet.Packet.TheVariants as packets
use Rattle.am_packet.specs.declared.refusal.PacketRefusal.TheVariants.{BadField}
use Rattle.am_packet.specs.declared.kind.PacketKind.{PacketKind}
use Rattle.am_packet.specs.declared.kind.PacketKind.TheVariants as kinds
use Rattle.am_packet.specs.Kinds.{is_total}
use Rattle.am_packet.specs.Reading.{Read, ◌>>=◌, number_at, report_at, stamp_at, read_set_at, resilience_at, flag_at, life_at, read_row_at, rows_at, read_image_at, vote_at}
use Rattle.am_packet.specs.Reading.{viewed, read_entry_at, data_at, join_at, leave_at, view_at, view_fields_at, packet_at, fields_at}
use Rattle.am_packet.specs.Faults.{Field, field, first_wrong, number_field, report_fields, set_field, resilience_field, flag_field, is_life, life_field}
use Rattle.am_packet.specs.Faults.{row_fields, rows_fields, image_fields, vote_fields, entry_fields, kind_fields, packet_fields}
use Rattle.am_packet.proofs.Fields.{number_read_is_big_number}

-- reading fails exactly as its fields do
abbrev pub ReadFailsAtFirstField : {A : Type 0} → Read A → List Field → Type 0
ReadFailsAtFirstField (Ok x) fs = first_wrong fs ≡ None
ReadFailsAtFirstField (Err e) fs = (at : ℕ) × (e ≡ BadField at) × (first_wrong fs ≡ Some at)

-- the first wrong field of two lists
none_after : (right : Bool) (at : ℕ) (fs gs : List Field) → cond right (first_wrong fs) (Some at) ≡ None
    → (first_wrong fs ≡ None → first_wrong (fs ++ gs) ≡ first_wrong gs) → cond right (first_wrong (fs ++ gs)) (Some at) ≡ first_wrong gs
none_after true at fs gs e h = h e
none_after false at fs gs e h = absurd cc

some_after : (right : Bool) (first at : ℕ) (fs gs : List Field) → cond right (first_wrong fs) (Some first) ≡ Some at
    → (first_wrong fs ≡ Some at → first_wrong (fs ++ gs) ≡ Some at) → cond right (first_wrong (fs ++ gs)) (Some first) ≡ Some at
some_after true first at fs gs e h = h e
some_after false first at fs gs e h = e

none_then : (fs gs : List Field) → first_wrong fs ≡ None → first_wrong (fs ++ gs) ≡ first_wrong gs
none_then [] gs e = refl
none_then (f ∷ fs) gs e = none_after f.right f.at fs gs e (none_then fs gs)

some_then : (fs gs : List Field) (at : ℕ) → first_wrong fs ≡ Some at → first_wrong (fs ++ gs) ≡ Some at
some_then [] gs at e = absurd cc
some_then (f ∷ fs) gs at e = some_after f.right f.at at fs gs e (some_then fs gs at)

after_none : {A : Type 0} (r : Read A) (fs gs : List Field) → first_wrong fs ≡ None → ReadFailsAtFirstField r gs → ReadFailsAtFirstField r (fs ++ gs)
after_none (Ok x) fs gs first second = none_then fs gs first ∙ second
after_none (Err e) fs gs first second = (second.0, second.1, none_then fs gs first ∙ second.2)

in_turn : {A B : Type 0} (r : Read A) (f : A → Read B) (fs gs : List Field) → ReadFailsAtFirstField r fs → ((x : A) → r ≡ Ok x → ReadFailsAtFirstField (f x) gs)
    → ReadFailsAtFirstField (r >>= f) (fs ++ gs)
in_turn (Ok x) f fs gs first second = after_none (f x) fs gs first (second x refl)
in_turn (Err e) f fs gs first second = (first.0, first.1, some_then fs gs first.0 first.2)

-- the last step
last : {A B : Type 0} (r : Read A) (f : A → B) (fs : List Field) → ReadFailsAtFirstField r fs → ReadFailsAtFirstField (r >>= λ x. Ok (f x)) fs
last (Ok x) f fs h = h
last (Err e) f fs h = h

one : {A : Type 0} (right : Bool) (at : ℕ) (x : A) → ReadFailsAtFirstField (cond right (Ok x) (Err (BadField at))) (field at right ∷ [])
one true at x = refl
one false at x = (at, refl, refl)

-- a test before the rest
guarded : {A : Type 0} (right : Bool) (at : ℕ) (r : Read A) (fs : List Field) → ReadFailsAtFirstField r fs → ReadFailsAtFirstField (cond right r (Err (BadField at))) (field at right ∷ fs)
guarded true at (Ok x) fs h = h
guarded true at (Err e) fs h = h
guarded false at r fs h = (at, refl, refl)

either : {A : Type 0} (b : Bool) (r s : Read A) (fs gs : List Field) → ReadFailsAtFirstField r fs → ReadFailsAtFirstField s gs → ReadFailsAtFirstField (cond b r s) (cond b fs gs)
either true r s fs gs first second = first
either false r s fs gs first second = second

number_fails : (bytes : List ℕ) (at : ℕ) → ReadFailsAtFirstField (number_at bytes at) (number_field bytes at ∷ [])
unfolding number_at
number_fails bytes at = one _ at (big_number 4 (drop at bytes))

report_fails : (bytes : List ℕ) (at : ℕ) → ReadFailsAtFirstField (report_at bytes at) (report_fields bytes at)
unfolding report_at
report_fails bytes at =
    in_turn (number_at bytes at) (λ stored. number_at bytes (at + 4) >>= λ taken. Ok (record { stored = stored; taken = taken })) (number_field bytes at ∷ []) _
    (number_fails bytes at) (λ stored stored-is.
    last (number_at bytes (at + 4)) (λ taken. record { stored = stored; taken = taken }) (number_field bytes (at + 4) ∷ []) (number_fails bytes (at + 4)))

stamp_fails : (bytes : List ℕ) (at : ℕ) → ReadFailsAtFirstField (stamp_at bytes at) (number_field bytes at ∷ [])
unfolding stamp_at
stamp_fails bytes at =
    last (number_at bytes at) (λ round. record { round = round; by = slice_index bytes (at + 4) }) (number_field bytes at ∷ []) (number_fails bytes at)

set_fails : (bytes : List ℕ) (at : ℕ) → ReadFailsAtFirstField (read_set_at bytes at) (set_field bytes at ∷ [])
unfolding read_set_at
set_fails bytes at = one _ (at + 2) _

resilience_fails : (bytes : List ℕ) (at : ℕ) → ReadFailsAtFirstField (resilience_at bytes at) (resilience_field bytes at ∷ [])
unfolding resilience_at
resilience_fails bytes at = one _ at (slice_index bytes at)

a_flag : (a b : Bool) (at : ℕ) → ReadFailsAtFirstField (cond a (Ok false) (cond b (Ok true) (Err (BadField at)))) (field at (a || b) ∷ [])
a_flag true b at = refl
a_flag false true at = refl
a_flag false false at = (at, refl, refl)

flag_fails : (bytes : List ℕ) (at : ℕ) → ReadFailsAtFirstField (flag_at bytes at) (flag_field bytes at ∷ [])
unfolding flag_at
flag_fails bytes at = a_flag (eqb (slice_index bytes at) 0) (eqb (slice_index bytes at) 1) at

a_life : (within a b : Bool) (at life : ℕ) → ReadFailsAtFirstField (cond within (cond a (cond b (Ok life) (Err (BadField at))) (cond b (Err (BadField at)) (Ok life)))
    (Err (BadField at))) (field at (within && cond a b (not b)) ∷ [])
a_life true true true at life = refl
a_life true true false at life = (at, refl, refl)
a_life true false true at life = (at, refl, refl)
a_life true false false at life = refl
a_life false a b at life = (at, refl, refl)

life_fails : (bytes : List ℕ) (at joined : ℕ) → ReadFailsAtFirstField (life_at bytes at joined) (field at (is_life (slice_index bytes at) joined) ∷ [])
unfolding life_at
life_fails bytes at joined = a_life (leb (slice_index bytes at) 16) (eqb (slice_index bytes at) 0) (eqb joined 0) at (slice_index bytes at)

life_fails_there : (bytes : List ℕ) (at joined : ℕ) → number_at bytes (at + 1) ≡ Ok joined → ReadFailsAtFirstField (life_at bytes at joined) (life_field bytes at ∷ [])
life_fails_there bytes at joined read = rw (number_read_is_big_number bytes (at + 1) joined read) (life_fails bytes at joined)

row_fails : (bytes : List ℕ) (at : ℕ) → ReadFailsAtFirstField (read_row_at bytes at) (row_fields bytes at)
unfolding read_row_at
row_fails bytes at =
    in_turn (number_at bytes (at + 1)) (λ joined. life_at bytes at joined >>= λ life. number_at bytes (at + 5) >>= λ left. number_at bytes (at + 9) >>=
    λ last-one. Ok (record { life = life; joined = joined; left = left; last = last-one })) (number_field bytes (at + 1) ∷ []) _
    (number_fails bytes (at + 1)) (λ joined joined-is.
    in_turn (life_at bytes at joined) (λ life. number_at bytes (at + 5) >>= λ left. number_at bytes (at + 9) >>= λ last-one. Ok
    (record { life = life; joined = joined; left = left; last = last-one })) (life_field bytes at ∷ []) _ (life_fails_there bytes at joined joined-is)
    (λ life life-is.
    in_turn (number_at bytes (at + 5)) (λ left. number_at bytes (at + 9) >>= λ last-one. Ok
    (record { life = life; joined = joined; left = left; last = last-one })) (number_field bytes (at + 5) ∷ []) _ (number_fails bytes (at + 5))
    (λ left left-is.
    last (number_at bytes (at + 9)) (λ last-one. record { life = life; joined = joined; left = left; last = last-one }) (number_field bytes (at + 9) ∷ [])
    (number_fails bytes (at + 9)))))

rows_fail : (more : ℕ) (bytes : List ℕ) (at : ℕ) → ReadFailsAtFirstField (rows_at more bytes at) (rows_fields more bytes at)
unfolding rows_at rows_fields
rows_fail zero bytes at = refl
rows_fail (suc more) bytes at =
    in_turn (read_row_at bytes at) (λ row. rows_at more bytes (at + 13) >>= λ rows. Ok (row ∷ rows)) (row_fields bytes at) (rows_fields more bytes (at + 13))
    (row_fails bytes at) (λ row row-is.
    last (rows_at more bytes (at + 13)) (λ rows. row ∷ rows) (rows_fields more bytes (at + 13)) (rows_fail more bytes (at + 13)))

image_fails : (bytes : List ℕ) (at : ℕ) → ReadFailsAtFirstField (read_image_at bytes at) (image_fields bytes at)
unfolding read_image_at
image_fails bytes at =
    in_turn (stamp_at bytes at) (λ view. number_at bytes (at + 5) >>= λ view_number. resilience_at bytes (at + 9) >>= λ resilience. rows_at 16 bytes
    (at + 10) >>= λ rows. Ok (record { view = view; view_number = view_number; resilience = resilience; rows = rows })) (number_field bytes at ∷ []) _
    (stamp_fails bytes at) (λ view view-is.
    in_turn (number_at bytes (at + 5)) (λ view_number. resilience_at bytes (at + 9) >>= λ resilience. rows_at 16 bytes (at + 10) >>= λ rows. Ok
    (record { view = view; view_number = view_number; resilience = resilience; rows = rows })) (number_field bytes (at + 5) ∷ []) _
    (number_fails bytes (at + 5)) (λ view_number view_number-is.
    in_turn (resilience_at bytes (at + 9)) (λ resilience. rows_at 16 bytes (at + 10) >>= λ rows. Ok
    (record { view = view; view_number = view_number; resilience = resilience; rows = rows })) (resilience_field bytes (at + 9) ∷ []) _
    (resilience_fails bytes (at + 9)) (λ resilience resilience-is.
    last (rows_at 16 bytes (at + 10)) (λ rows. record { view = view; view_number = view_number; resilience = resilience; rows = rows })
    (rows_fields 16 bytes (at + 10)) (rows_fail 16 bytes (at + 10)))))

vote_fails : (bytes : List ℕ) (at : ℕ) → ReadFailsAtFirstField (vote_at bytes at) (vote_fields bytes at)
unfolding vote_at
vote_fails bytes at =
    in_turn (stamp_at bytes at) (λ view. number_at bytes (at + 5) >>= λ top. number_at bytes (at + 9) >>= λ taken. read_set_at bytes (at + 13) >>= λ members. Ok
    (record { view = view; top = top; taken = taken; members = members })) (number_field bytes at ∷ []) _ (stamp_fails bytes at) (λ view view-is.
    in_turn (number_at bytes (at + 5)) (λ top. number_at bytes (at + 9) >>= λ taken. read_set_at bytes (at + 13) >>= λ members. Ok
    (record { view = view; top = top; taken = taken; members = members })) (number_field bytes (at + 5) ∷ []) _ (number_fails bytes (at + 5)) (λ top top-is.
    in_turn (number_at bytes (at + 9)) (λ taken. read_set_at bytes (at + 13) >>= λ members. Ok (record { view = view; top = top; taken = taken; members = members }))
    (number_field bytes (at + 9) ∷ []) _ (number_fails bytes (at + 9)) (λ taken taken-is.
    last (read_set_at bytes (at + 13)) (λ members. record { view = view; top = top; taken = taken; members = members }) (set_field bytes (at + 13) ∷ [])
    (set_fails bytes (at + 13)))))

entry_fails : (bytes : List ℕ) (at : ℕ) → ReadFailsAtFirstField (read_entry_at bytes at) (entry_fields bytes at)
unfolding read_entry_at data_at join_at leave_at view_at view_fields_at
entry_fails bytes at =
    either (eqb (slice_index bytes at) 1) _ _ _ _ (guarded _ 10 _ _
    (last (number_at bytes (at + 2)) (λ req. Data (slice_index bytes (at + 1)) req (drop (at + 6) bytes)) (number_field bytes (at + 2) ∷ [])
    (number_fails bytes (at + 2))))
    (either (eqb (slice_index bytes at) 2) _ _ _ _ (one _ 10 _)
    (either (eqb (slice_index bytes at) 3) _ _ _ _ (one _ 10 _)
    (either (eqb (slice_index bytes at) 4) _ _ _ _ (guarded _ 10 _ _
    (in_turn (stamp_at bytes (at + 1)) (λ stamp. read_set_at bytes (at + 6) >>= λ members. resilience_at bytes (at + 16) >>= λ resilience. Ok
    (View (viewed stamp members resilience))) (number_field bytes (at + 1) ∷ []) _ (stamp_fails bytes (at + 1)) (λ stamp stamp-is.
    in_turn (read_set_at bytes (at + 6)) (λ members. resilience_at bytes (at + 16) >>= λ resilience. Ok (View (viewed stamp members resilience)))
    (set_field bytes (at + 6) ∷ []) _ (set_fails bytes (at + 6)) (λ members members-is.
    last (resilience_at bytes (at + 16)) (λ resilience. View (viewed stamp members resilience)) (resilience_field bytes (at + 16) ∷ [])
    (resilience_fails bytes (at + 16))))))
    (at, refl, refl))))

-- two numbers, and three, before the rest
two_fail : (bytes : List ℕ) (rest : ℕ → ℕ → Read Packet) (fields : List Field) → ((a b : ℕ) → ReadFailsAtFirstField (rest a b) fields)
    → ReadFailsAtFirstField (number_at bytes 12 >>= λ a. number_at bytes 16 >>= λ b. rest a b) (number_field bytes 12 ∷ number_field bytes 16 ∷ fields)
two_fail bytes rest fields then_ =
    in_turn (number_at bytes 12) (λ a. number_at bytes 16 >>= λ b. rest a b) (number_field bytes 12 ∷ []) (number_field bytes 16 ∷ fields)
    (number_fails bytes 12) (λ a is-a.
    in_turn (number_at bytes 16) (λ b. rest a b) (number_field bytes 16 ∷ []) fields (number_fails bytes 16) (λ b is-b. then_ a b))

three_fail : (bytes : List ℕ) (rest : ℕ → ℕ → ℕ → Read Packet) (fields : List Field) → ((a b c : ℕ) → ReadFailsAtFirstField (rest a b c) fields)
    → ReadFailsAtFirstField (number_at bytes 12 >>= λ a. number_at bytes 16 >>= λ b. number_at bytes 20 >>= λ c. rest a b c)
    (number_field bytes 12 ∷ number_field bytes 16 ∷ number_field bytes 20 ∷ fields)
three_fail bytes rest fields then_ =
    two_fail bytes (λ a b. number_at bytes 20 >>= λ c. rest a b c) (number_field bytes 20 ∷ fields) (λ a b.
    in_turn (number_at bytes 20) (λ c. rest a b c) (number_field bytes 20 ∷ []) fields (number_fails bytes 20) (λ c is-c. then_ a b c))

kind_fails : (kind : PacketKind) (sender : ℕ) (stamp : Stamp) (bytes : List ℕ) → ReadFailsAtFirstField (packet_at kind sender stamp bytes) (kind_fields kind bytes)
unfolding packet_at kind_fields
kind_fails kinds.Request sender stamp bytes =
    in_turn (report_at bytes 12) (λ report. number_at bytes 20 >>= λ req. Ok (packets.Request sender stamp report req (drop 24 bytes)))
    (report_fields bytes 12) _ (report_fails bytes 12) (λ report report-is.
    last (number_at bytes 20) (λ req. packets.Request sender stamp report req (drop 24 bytes)) (number_field bytes 20 ∷ []) (number_fails bytes 20))
kind_fails kinds.Spread sender stamp bytes =
    in_turn (report_at bytes 12) (λ report. number_at bytes 20 >>= λ req. Ok (packets.Spread sender stamp report req (drop 24 bytes)))
    (report_fields bytes 12) _ (report_fails bytes 12) (λ report report-is.
    last (number_at bytes 20) (λ req. packets.Spread sender stamp report req (drop 24 bytes)) (number_field bytes 20 ∷ []) (number_fails bytes 20))
kind_fails kinds.Bcast sender stamp bytes =
    three_fail bytes (λ base acc number. read_entry_at bytes 24 >>= λ entry. Ok (packets.Bcast sender stamp base acc number entry)) _ (λ base acc number.
    last (read_entry_at bytes 24) (λ entry. packets.Bcast sender stamp base acc number entry) (entry_fields bytes 24) (entry_fails bytes 24))
kind_fails kinds.Order sender stamp bytes =
    three_fail bytes (λ base acc number. number_at bytes 25 >>= λ req. Ok (packets.Order sender stamp base acc number (slice_index bytes 24) req)) _
    (λ base acc number. last (number_at bytes 25) (λ req. packets.Order sender stamp base acc number (slice_index bytes 24) req)
    (number_field bytes 25 ∷ []) (number_fails bytes 25))
kind_fails kinds.Accept sender stamp bytes =
    three_fail bytes (λ base acc top. flag_at bytes 24 >>= λ poll. Ok (packets.Accept sender stamp base acc top poll)) _ (λ base acc top.
    last (flag_at bytes 24) (λ poll. packets.Accept sender stamp base acc top poll) (flag_field bytes 24 ∷ []) (flag_fails bytes 24))
kind_fails kinds.Ack sender stamp bytes =
    last (report_at bytes 12) (λ report. packets.Ack sender stamp report) (report_fields bytes 12) (report_fails bytes 12)
kind_fails kinds.Nack sender stamp bytes =
    last (report_at bytes 12) (λ report. packets.Nack sender stamp report) (report_fields bytes 12) (report_fails bytes 12)
kind_fails kinds.Hold sender stamp bytes =
    three_fail bytes (λ base top req. Ok (packets.Hold sender stamp base top req)) [] (λ base top req. refl)
kind_fails kinds.Welcome sender stamp bytes =
    two_fail bytes (λ base join. read_image_at bytes 20 >>= λ image. Ok (packets.Welcome sender stamp base join image)) _ (λ base join.
    last (read_image_at bytes 20) (λ image. packets.Welcome sender stamp base join image) (image_fields bytes 20) (image_fails bytes 20))
kind_fails kinds.LeaveAsk sender stamp bytes =
    last (report_at bytes 12) (λ report. packets.LeaveAsk sender stamp report) (report_fields bytes 12) (report_fails bytes 12)
kind_fails kinds.Gone sender stamp bytes =
    last (number_at bytes 12) (λ number. packets.Gone sender stamp number) (number_field bytes 12 ∷ []) (number_fails bytes 12)
kind_fails kinds.Vote sender stamp bytes =
    last (vote_at bytes 12) (λ vote. packets.Vote sender stamp vote) (vote_fields bytes 12) (vote_fails bytes 12)
kind_fails kinds.Fetch sender stamp bytes =
    last (number_at bytes 12) (λ stored. packets.Fetch sender stamp stored) (number_field bytes 12 ∷ []) (number_fails bytes 12)
kind_fails kinds.Piece sender stamp bytes =
    two_fail bytes (λ base number. read_entry_at bytes 20 >>= λ entry. Ok (packets.Piece sender stamp base number entry)) _ (λ base number.
    last (read_entry_at bytes 20) (λ entry. packets.Piece sender stamp base number entry) (entry_fields bytes 20) (entry_fails bytes 20))
kind_fails kinds.Result sender stamp bytes =
    two_fail bytes (λ base number. read_set_at bytes 20 >>= λ members. resilience_at bytes 30 >>= λ resilience. Ok
    (packets.Result sender base number (viewed stamp members resilience))) _ (λ base number.
    in_turn (read_set_at bytes 20) (λ members. resilience_at bytes 30 >>= λ resilience. Ok (packets.Result sender base number (viewed stamp members resilience)))
    (set_field bytes 20 ∷ []) _ (set_fails bytes 20) (λ members members-is.
    last (resilience_at bytes 30) (λ resilience. packets.Result sender base number (viewed stamp members resilience)) (resilience_field bytes 30 ∷ [])
    (resilience_fails bytes 30)))
kind_fails _ sender stamp bytes = refl

pub packet_read_fails_at_first : (kind : PacketKind) (bytes : List ℕ) → ReadFailsAtFirstField (fields_at kind bytes) (packet_fields kind bytes)
unfolding fields_at
packet_read_fails_at_first kind bytes =
    in_turn (stamp_at bytes 5) (λ stamp. cond (is_total kind (length bytes)) (packet_at kind (slice_index bytes 4) stamp bytes) (Err (BadField 10)))
    (number_field bytes 5 ∷ []) _ (stamp_fails bytes 5) (λ stamp stamp-is.
    guarded (is_total kind (length bytes)) 10 (packet_at kind (slice_index bytes 4) stamp bytes) (kind_fields kind bytes)
    (kind_fails kind (slice_index bytes 4) stamp bytes))
