-- Parts of messages, written and read.
use Rattle.std.proofs.Common.{◌≡◌, ℕ, ◌+◌, ◌-◌, ◌*◌, ◌/◌, ◌<◌, ◌≤◌, min, max, ◌==◌, ◌&&◌, nat_lt, nat_le, true, List, [], ◌∷◌, ◌++◌, length, take, drop, cond}
use Rattle.std.proofs.Common.{slice_index, Some, None, refl, sym, ap, ◌∙◌, subst, arith, ⊎_elim}
use Rattle.std.proofs.lemmas.Bool.{ltb-true, leb-true, eqb-true, lt-ltb, le-ltb, le-leb, eq-eqb, and_parts, and_from, cond-true, cond-false, cases_lt, ne_eqb}
use Rattle.std.proofs.Common.{replicate, length-append, append-nil}
use Rattle.std.proofs.lemmas.List.{take_all, take_at, drop_at, length-replicate}
use Rattle.std.proofs.lemmas.List.{length-take}
use Rattle.std.proofs.lemmas.Option.{cond_some}
use Rattle.std.proofs.Common.{length-drop}
use Rattle.byteorder.specs.Endian.{big_from}
use Rattle.am_service_defs.specs.Parts.{Part, part_count, payload_of, part_bytes, part_of, part_fields_of, ends_message, fits_message, part_in, IsPart, PartsAreRead}

-- what holds of a part that some message has
pub record PartFitsMessage (p : Part) : Type 0 where
  pub within : p.index < p.count
  pub few : p.count ≤ 65
  pub full : p.index + 1 < p.count → length p.payload ≡ 1019
  pub short : p.count ≤ p.index + 1 → 1019 * p.index + length p.payload ≤ 65535
  pub ends : p.count ≤ p.index + 1 → part_count (1019 * p.index + length p.payload) ≡ p.count

ends_parts : (size count : ℕ) → ends_message size count ≡ true → (size ≤ 65535) × (part_count size ≡ count)
ends_parts size count h =
    let both = and_parts (nat_le size 65535) (part_count size == count) h in
    (leb-true size 65535 both.0, eqb-true (part_count size) count both.1)

fit_parts : (p : Part) → fits_message p ≡ true → PartFitsMessage p
fit_parts p h =
    let both = and_parts (nat_lt p.index p.count && nat_le p.count 65) _ h in
    let bounds = and_parts (nat_lt p.index p.count) (nat_le p.count 65) both.0 in
    let more = nat_lt (p.index + 1) p.count in
    let is_full = length p.payload == 1019 in
    let ending = ends_message (1019 * p.index + length p.payload) p.count in
    let last : p.count ≤ p.index + 1 → ending ≡ true = λ above. sym (cond-false more is_full ending (le-ltb (p.index + 1) p.count above)) ∙ both.1 in
    record {
      within = ltb-true p.index p.count bounds.0;
      few = leb-true p.count 65 bounds.1;
      full = λ below. eqb-true (length p.payload) 1019 (sym (cond-true more is_full ending (lt-ltb (p.index + 1) p.count below)) ∙ both.1);
      short = λ above. (ends_parts _ _ (last above)).0;
      ends = λ above. (ends_parts _ _ (last above)).1;
    }

fit_from : (p : Part) → PartFitsMessage p → fits_message p ≡ true
fit_from p fit =
    let more = nat_lt (p.index + 1) p.count in
    let is_full = length p.payload == 1019 in
    let ending = ends_message (1019 * p.index + length p.payload) p.count in
    let rest : cond more is_full ending ≡ true = ⊎_elim
    (λ (below : p.index + 1 < p.count). cond-true more is_full ending (lt-ltb (p.index + 1) p.count below) ∙ eq-eqb (length p.payload) 1019 (fit.full below))
    (λ (above : p.count ≤ p.index + 1). cond-false more is_full ending (le-ltb (p.index + 1) p.count above)
    ∙ and_from _ _ (le-leb _ 65535 (fit.short above)) (eq-eqb _ p.count (fit.ends above)))
    (cases_lt (p.index + 1) p.count) in
    and_from _ _ (and_from _ _ (lt-ltb p.index p.count fit.within) (le-leb p.count 65 fit.few)) rest

length-payload_of : (message : List ℕ) (index : ℕ) → length (payload_of message index) ≡ min 1019 (length message - 1019 * index)
length-payload_of message index = rw (length-take, length-drop) refl

-- the counts of parts of two kinds of messages
count_of_nothing : (n : ℕ) → n ≡ 0 → part_count n ≡ 1
count_of_nothing n none = cond-true (n == 0) 1 ((n + 1018) / 1019) (eq-eqb n 0 none)

count_of_some : (n : ℕ) → 0 < n → part_count n ≡ (n + 1018) / 1019
count_of_some n some = let other : n ≡ 0 → ⊥ = λ e. omega arith in cond-false (n == 0) 1 ((n + 1018) / 1019) (ne_eqb n 0 other)

-- how many bytes a message of so many parts has
pub record PartCountFitsSize (size count : ℕ) : Type 0 where
  pub some : 0 < count
  pub most : size ≤ 1019 * count
  pub least : 1019 * count ≤ 1018 + max 1 size

pub part_count_fits_size : (size : ℕ) → PartCountFitsSize size (part_count size)
part_count_fits_size size = ⊎_elim
    (λ (some : 0 < size). rw (count_of_some size some) (record { some = omega arith; most = omega arith; least = omega arith }))
    (λ (none : size ≤ 0). let zero : size ≡ 0 = omega arith in
    rw (count_of_nothing size zero) (record { some = omega arith; most = omega arith; least = omega arith }))
    (cases_lt 0 size)

sized_only : (size count : ℕ) → PartCountFitsSize size count → part_count size ≡ count
sized_only size count h = let own = part_count_fits_size size in ⊎_elim
    (λ (some : 0 < size). rw (count_of_some size some) (omega (arith, h.some, h.most, h.least)))
    (λ (none : size ≤ 0). let zero : size ≡ 0 = omega arith in rw (count_of_nothing size zero) (omega (arith, h.some, h.most, h.least)))
    (cases_lt 0 size)

-- a part of a message fits it
part_fits : (message : List ℕ) (index : ℕ) → length message ≤ 65535 → index < part_count (length message)
    → PartFitsMessage (record { index = index; count = part_count (length message); payload = payload_of message index })
part_fits message index few within =
    let size = part_count_fits_size (length message) in
    let long = length-payload_of message index in
    record {
      within = within;
      few = omega (arith, size.some, size.most, size.least);
      full = λ below. omega (arith, size.some, size.most, size.least, long);
      short = λ above. omega (arith, size.some, size.most, size.least, long);
      ends = λ above. sized_only _ _ (record {
        some = size.some;
        most = omega (arith, size.most, size.least, long);
        least = omega (arith, size.most, size.least, long);
      });
    }

fields_written : (index count : ℕ) (payload : List ℕ) → index < 65536 → count < 65536
    → part_fields_of (part_bytes index count payload) ≡ record { index = index; count = count; payload = payload }
fields_written index count payload low few =
    let i : big_from 1 2 (part_bytes index count payload) ≡ index = omega arith in
    let c : big_from 3 2 (part_bytes index count payload) ≡ count = omega arith in
    rw (i, c) refl

pub part_in_of_written_part : (message : List ℕ) (index : ℕ) → length message ≤ 65535 → index < part_count (length message)
    → part_in (part_of message index) ≡ Some (record { index = index; count = part_count (length message); payload = payload_of message index })
unfolding part_in part_of
part_in_of_written_part message index few within =
    let count = part_count (length message) in
    let payload = payload_of message index in
    let fit = part_fits message index few within in
    let fields = fields_written index count payload (omega (arith, fit.within, fit.few)) (omega (arith, fit.few)) in
    let fits : fits_message (part_fields_of (part_bytes index count payload)) ≡ true = subst (λ p. fits_message p ≡ true) (sym fields) (fit_from _ fit) in
    let long : nat_le 5 (length (part_bytes index count payload)) ≡ true = le-leb 5 (length (part_bytes index count payload)) (omega arith) in
    cond-true _ (Some (part_fields_of (part_bytes index count payload))) None (and_from _ _ (and_from _ _ long refl) fits) ∙ ap (λ p. Some p) fields

-- ---- a body that is read

record Opened (body : List ℕ) (p : Part) : Type 0 where
  long : 5 ≤ length body
  mark : slice_index body 0 ≡ 83
  fit : fits_message (part_fields_of body) ≡ true
  is : part_fields_of body ≡ p

opened : (body : List ℕ) (p : Part) → part_in body ≡ Some p → Opened body p
unfolding part_in
opened body p h =
    let found = cond_some _ (part_fields_of body) p h in
    let both = and_parts (nat_le 5 (length body) && (slice_index body 0 == 83)) (fits_message (part_fields_of body)) found.0 in
    let head = and_parts (nat_le 5 (length body)) (slice_index body 0 == 83) both.0 in
    record { long = leb-true 5 (length body) head.0; mark = eqb-true (slice_index body 0) 83 head.1; fit = both.1; is = found.1 }

same_five : (a b c d e a' b' c' d' e' : ℕ) (rest : List ℕ) → a ≡ a' → b ≡ b' → c ≡ c' → d ≡ d' → e ≡ e'
    → a ∷ (b ∷ (c ∷ (d ∷ (e ∷ rest)))) ≡ a' ∷ (b' ∷ (c' ∷ (d' ∷ (e' ∷ rest))))
same_five a b c d e a' b' c' d' e' rest h i j k l = cc

fields_read : (body : List ℕ) → 5 ≤ length body → slice_index body 0 ≡ 83 → (part_fields_of body).index < 65 → (part_fields_of body).count ≤ 65
    → body ≡ part_bytes (part_fields_of body).index (part_fields_of body).count (part_fields_of body).payload
fields_read [] long mark low few = absurd (omega arith)
fields_read (a ∷ []) long mark low few = absurd (omega arith)
fields_read (a ∷ (b ∷ [])) long mark low few = absurd (omega arith)
fields_read (a ∷ (b ∷ (c ∷ []))) long mark low few = absurd (omega arith)
fields_read (a ∷ (b ∷ (c ∷ (d ∷ [])))) long mark low few = absurd (omega arith)
fields_read (a ∷ (b ∷ (c ∷ (d ∷ (e ∷ rest))))) long mark low few =
    same_five a b c d e _ _ _ _ _ rest mark (omega (arith, low)) (omega (arith, low)) (omega (arith, few)) (omega (arith, few))

-- a body that is read as a part fits a message, and is written as that part
pub part_read_fits_message : (body : List ℕ) (p : Part) → part_in body ≡ Some p → PartFitsMessage p
part_read_fits_message body p h = let o = opened body p h in subst (λ q. PartFitsMessage q) o.is (fit_parts (part_fields_of body) o.fit)

pub part_read_from_its_bytes : (body : List ℕ) (p : Part) → part_in body ≡ Some p → body ≡ part_bytes p.index p.count p.payload
part_read_from_its_bytes body p h =
    let o = opened body p h in
    let fit = fit_parts (part_fields_of body) o.fit in
    subst (λ (q : Part). body ≡ part_bytes q.index q.count q.payload) o.is
    (fields_read body o.long o.mark (omega (arith, fit.within, fit.few)) (omega (arith, fit.few)))

-- ---- the same as one claim

same_part : (index count other : ℕ) (payload given : List ℕ) → other ≡ count → given ≡ payload
    → ◌≡◌ {A = Part} (record { index = index; count = count; payload = payload }) (record { index = index; count = other; payload = given })
same_part index count other payload given c p = cc

-- a message with a part at its place, and so many bytes after it
around : Part → ℕ → List ℕ
around p behind = replicate (1019 * p.index) 0 ++ (p.payload ++ replicate behind 0)

length-around : (p : Part) (behind : ℕ) → length (around p behind) ≡ 1019 * p.index + (length p.payload + behind)
unfolding around
length-around p behind = simp (length-append, length-replicate) refl

payload_around : (p : Part) (behind : ℕ) → take 1019 (p.payload ++ replicate behind 0) ≡ p.payload → payload_of (around p behind) p.index ≡ p.payload
unfolding around
payload_around p behind h =
    let zeros = replicate (1019 * p.index) 0 in
    let rest : drop (1019 * p.index) (zeros ++ (p.payload ++ replicate behind 0)) ≡ p.payload ++ replicate behind 0 =
    drop_at zeros (p.payload ++ replicate behind 0) (1019 * p.index) (length-replicate (1019 * p.index) 0) in
    ap (λ xs. take 1019 xs) rest ∙ h

part_stands : (body : List ℕ) (p : Part) (behind : ℕ) → p.index < p.count → body ≡ part_bytes p.index p.count p.payload
    → 1019 * p.index + (length p.payload + behind) ≤ 65535 → PartCountFitsSize (1019 * p.index + (length p.payload + behind)) p.count
    → take 1019 (p.payload ++ replicate behind 0) ≡ p.payload → IsPart body p
unfolding part_of
part_stands body p behind within written few size front =
    let long = length-around p behind in
    let count : part_count (length (around p behind)) ≡ p.count = ap part_count long ∙ sized_only _ p.count size in
    let payload = payload_around p behind front in
    record {
      message = around p behind;
      few = omega (arith, long);
      within = rw count within;
      same = rw (count, payload) written;
      count = sym count;
      payload = sym payload;
    }

part_of_some : (body : List ℕ) (p : Part) → part_in body ≡ Some p → IsPart body p
part_of_some body p h =
    let fit = part_read_fits_message body p h in
    let written = part_read_from_its_bytes body p h in
    ⊎_elim
    (λ (below : p.index + 1 < p.count).
    let behind = 1019 * (p.count - (p.index + 2)) + 1 in
    let full = fit.full below in
    part_stands body p behind fit.within written (omega (arith, full, fit.few))
    (record { some = omega arith; most = omega (arith, full); least = omega (arith, full) })
    (take_at p.payload (replicate behind 0) 1019 full))
    (λ (above : p.count ≤ p.index + 1).
    let size = part_count_fits_size (1019 * p.index + length p.payload) in
    let ends = fit.ends above in
    let most : 1019 * p.index + length p.payload ≤ 1019 * p.count = rw ends at size.most in
    part_stands body p 0 fit.within written (omega (arith, fit.short above))
    (let same : 1019 * p.index + (length p.payload + 0) ≡ 1019 * p.index + length p.payload = omega arith in rw same (rw ends at size))
    (rw append-nil (take_all 1019 p.payload (omega (arith, most, fit.within)))))
    (cases_lt (p.index + 1) p.count)

pub parts_are_read_back : PartsAreRead
parts_are_read_back body p = (
  part_of_some body p,
  λ is. rw is.same (part_in_of_written_part is.message p.index is.few is.within ∙ ap (λ q. Some q) (same_part p.index _ p.count _ p.payload is.count is.payload)),
)

pub part_count_in_written_part : (message : List ℕ) (index : ℕ) → length message ≤ 65535 → big_from 3 2 (part_of message index) ≡ part_count (length message)
unfolding part_of
part_count_in_written_part message index few = let size = part_count_fits_size (length message) in omega (arith, size.least, few)
