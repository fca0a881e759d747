-- Each refusal is the first cause.
use Rattle.std.proofs.Common.{◌≡◌, ◌≢◌, ℕ, ◌<◌, ◌≤◌, not, false, cond, eqb, ltb, List, length, Option, Some, None, Ok, Err, refl, sym, ap, subst, ◌∙◌}
use Rattle.std.proofs.lemmas.Bool.{cond_both, ltb-true, ltb-false, lt-ltb, le-ltb, eqb-true, eqb-false, eq-eqb, ne_eqb, not-true, not-false}
use Rattle.am_packet.specs.declared.packet.Packet.{Packet}
use Rattle.am_packet.specs.declared.refusal.PacketRefusal.TheVariants.{Short, BadMark, BadVersion, BadKind, BadLength, BadField}
use Rattle.am_packet.specs.declared.kind.PacketKind.{PacketKind}
use Rattle.am_packet.specs.Kinds.{kind_at}
use Rattle.am_packet.specs.Reading.{Read, has_mark, version_in, kind_in, total_in, found_in, fields_at, of_kind_at, reading}
use Rattle.am_packet.specs.Faults.{Field, first_wrong, packet_fields, wrong_in}
use Rattle.am_packet.specs.Causes.{HasMark, HasVersion, HasKind, HasTotal}
use Rattle.am_packet.proofs.Faults.{ReadFailsAtFirstField, packet_read_fails_at_first}

-- what each answer tells of the bytes
abbrev pub ReadingTellsFirstCause : Read Packet → List ℕ → Type 0
ReadingTellsFirstCause (Err Short) bytes = length bytes < 12
ReadingTellsFirstCause (Err BadMark) bytes = (12 ≤ length bytes) × (has_mark bytes ≡ false)
ReadingTellsFirstCause (Err (BadVersion version)) bytes = HasMark bytes × (version_in bytes ≡ version) × (version ≢ 3)
ReadingTellsFirstCause (Err (BadKind kind)) bytes = HasVersion bytes × (kind_in bytes ≡ kind) × (kind_at kind ≡ None)
ReadingTellsFirstCause (Err (BadLength said found)) bytes = HasKind bytes × (total_in bytes ≡ said) × (found_in bytes ≡ found) × (said ≢ length bytes)
ReadingTellsFirstCause (Err (BadField at)) bytes = HasTotal bytes × (wrong_in (kind_at (kind_in bytes)) bytes ≡ Some at)
ReadingTellsFirstCause (Ok packet) bytes = HasTotal bytes

fields_tell : (r : Read Packet) (kind : PacketKind) (bytes : List ℕ) → HasTotal bytes → kind_at (kind_in bytes) ≡ Some kind → ReadFailsAtFirstField r (packet_fields kind bytes)
    → ReadingTellsFirstCause r bytes
fields_tell (Ok packet) kind bytes has is fails = has
fields_tell (Err e) kind bytes has is fails =
    let wrong : wrong_in (kind_at (kind_in bytes)) bytes ≡ Some fails.0 = rw is fails.2 in
    subst (λ d. ReadingTellsFirstCause (Err d) bytes) (sym fails.1) (has, wrong)

kind_tells : (o : Option PacketKind) (bytes : List ℕ) → kind_at (kind_in bytes) ≡ o → HasVersion bytes → ReadingTellsFirstCause (of_kind_at o bytes) bytes
unfolding of_kind_at
kind_tells None bytes is has = (has, refl, is)
kind_tells (Some kind) bytes is has =
    let some : kind_at (kind_in bytes) ≢ None = λ none. let both : Some kind ≡ None = sym is ∙ none in cc in
    cond_both (eqb (total_in bytes) (length bytes)) (fields_at kind bytes) (Err (BadLength (total_in bytes) (found_in bytes))) (λ r. ReadingTellsFirstCause r bytes)
    (λ same. fields_tell (fields_at kind bytes) kind bytes ((has, some), eqb-true _ _ same) is (packet_read_fails_at_first kind bytes))
    (λ other. ((has, some), refl, refl, eqb-false _ _ other))

version_tells : (bytes : List ℕ) → HasMark bytes → ReadingTellsFirstCause (cond (not (eqb (version_in bytes) 3)) (Err (BadVersion (version_in bytes)))
    (of_kind_at (kind_at (kind_in bytes)) bytes)) bytes
version_tells bytes has =
    cond_both (not (eqb (version_in bytes) 3)) (Err (BadVersion (version_in bytes))) (of_kind_at (kind_at (kind_in bytes)) bytes) (λ r. ReadingTellsFirstCause r bytes)
    (λ other. (has, refl, eqb-false _ _ (not-true (eqb (version_in bytes) 3) other)))
    (λ same. kind_tells (kind_at (kind_in bytes)) bytes refl (has, eqb-true _ _ (not-false (eqb (version_in bytes) 3) same)))

mark_tells : (bytes : List ℕ) → 12 ≤ length bytes
    → ReadingTellsFirstCause (cond (not (has_mark bytes)) (Err BadMark) (cond (not (eqb (version_in bytes) 3)) (Err (BadVersion (version_in bytes)))
    (of_kind_at (kind_at (kind_in bytes)) bytes))) bytes
mark_tells bytes long =
    cond_both (not (has_mark bytes)) (Err BadMark) (cond (not (eqb (version_in bytes) 3)) (Err (BadVersion (version_in bytes)))
    (of_kind_at (kind_at (kind_in bytes)) bytes)) (λ r. ReadingTellsFirstCause r bytes)
    (λ none. (long, not-true (has_mark bytes) none))
    (λ some. version_tells bytes (long, not-false (has_mark bytes) some))

pub reading_tells_first_cause : (bytes : List ℕ) → ReadingTellsFirstCause (reading bytes) bytes
unfolding reading
reading_tells_first_cause bytes =
    cond_both (ltb (length bytes) 12) (Err Short) (cond (not (has_mark bytes)) (Err BadMark)
    (cond (not (eqb (version_in bytes) 3)) (Err (BadVersion (version_in bytes))) (of_kind_at (kind_at (kind_in bytes)) bytes))) (λ r. ReadingTellsFirstCause r bytes)
    (λ short. ltb-true _ _ short)
    (λ long. mark_tells bytes (ltb-false _ _ long))

-- ---- and so it is refused

pub reading_of_short_bytes : (bytes : List ℕ) → length bytes < 12 → reading bytes ≡ Err Short
unfolding reading
reading_of_short_bytes bytes h = rw (lt-ltb _ _ h) refl

pub reading_without_mark : (bytes : List ℕ) → 12 ≤ length bytes → has_mark bytes ≡ false → reading bytes ≡ Err BadMark
unfolding reading
reading_without_mark bytes long none = rw (le-ltb _ _ long, none) refl

-- what is read after the mark and the version
marked : (bytes : List ℕ) → HasVersion bytes → reading bytes ≡ of_kind_at (kind_at (kind_in bytes)) bytes
unfolding reading
marked bytes has = rw (le-ltb _ _ has.0.0, has.0.1, has.1) refl

pub reading_of_other_version : (bytes : List ℕ) (version : ℕ) → HasMark bytes → version_in bytes ≡ version → version ≢ 3 → reading bytes ≡ Err (BadVersion version)
unfolding reading
reading_of_other_version bytes version has is other = rw (le-ltb _ _ has.0, has.1, is, ne_eqb version 3 other) refl

pub reading_of_no_kind : (bytes : List ℕ) (kind : ℕ) → HasVersion bytes → kind_in bytes ≡ kind → kind_at kind ≡ None → reading bytes ≡ Err (BadKind kind)
unfolding of_kind_at
reading_of_no_kind bytes kind has is none =
    let no_kind : kind_at (kind_in bytes) ≡ None = rw is none in
    marked bytes has ∙ ap (λ o. of_kind_at o bytes) no_kind ∙ ap (λ k. Err (BadKind k)) is

pub kind_not_none_is_some : (o : Option PacketKind) → o ≢ None → (kind : PacketKind) × (o ≡ Some kind)
kind_not_none_is_some None h = absurd (h refl)
kind_not_none_is_some (Some kind) h = (kind, refl)

pub reading_of_other_length : (bytes : List ℕ) (said found : ℕ) → HasKind bytes → total_in bytes ≡ said → found_in bytes ≡ found → said ≢ length bytes
    → reading bytes ≡ Err (BadLength said found)
unfolding of_kind_at
reading_of_other_length bytes said found has is count other =
    let kind = kind_not_none_is_some (kind_at (kind_in bytes)) has.1 in
    marked bytes has.0 ∙ rw (kind.1, is, count, ne_eqb said (length bytes) other) refl

wrong_is : (r : Read Packet) (fs : List Field) (at : ℕ) → ReadFailsAtFirstField r fs → first_wrong fs ≡ Some at → r ≡ Err (BadField at)
wrong_is (Ok packet) fs at fails wrong = absurd (let both : None ≡ Some at = sym fails ∙ wrong in cc)
wrong_is (Err e) fs at fails wrong =
    let same : Some fails.0 ≡ Some at = sym fails.2 ∙ wrong in
    let at-is : fails.0 ≡ at = cc in
    rw (fails.1, at-is) refl

-- what is read after the header
pub reading_after_header : (bytes : List ℕ) (kind : PacketKind) → HasTotal bytes → kind_at (kind_in bytes) ≡ Some kind → reading bytes ≡ fields_at kind bytes
unfolding of_kind_at
reading_after_header bytes kind has is = marked bytes has.0.0 ∙ rw (is, eq-eqb _ _ has.1) refl

pub reading_of_wrong_field : (bytes : List ℕ) (at : ℕ) → HasTotal bytes → wrong_in (kind_at (kind_in bytes)) bytes ≡ Some at → reading bytes ≡ Err (BadField at)
reading_of_wrong_field bytes at has wrong =
    let kind = kind_not_none_is_some (kind_at (kind_in bytes)) has.0.1 in
    reading_after_header bytes kind.0 has kind.1 ∙ wrong_is (fields_at kind.0 bytes) (packet_fields kind.0 bytes) at (packet_read_fails_at_first kind.0 bytes)
    (subst (λ o. wrong_in o bytes ≡ Some at) kind.1 wrong)
