-- Numbers as bytes, the most significant first: a number has one list of bytes of each length.
use Rattle.std.proofs.Common.{◌≡◌, ℕ, zero, suc, ◌+◌, ◌*◌, ◌/◌, ◌%◌, ◌^◌, ◌<◌, ◌≤◌, List, [], ◌∷◌, ◌++◌, length, take, drop, refl, sym, ap, ◌∙◌, inl, inr}
use Rattle.std.proofs.Common.{arith}
use Rattle.std.specs.Int.{byte_at}
use Rattle.std.proofs.Math.Nat.{mod-lt}
use Rattle.std.proofs.lemmas.Bool.{cases_lt}
use Rattle.std.proofs.lemmas.Nat.{mod-mul-add, div-mul-add}
use Rattle.std.proofs.lemmas.List.{append-nil, drop-drop, get_or-drop, get_or-take, get_or_past, length-drop, length-take, length-take-le, take-append-drop}
use Rattle.byteorder.specs.Endian.{big_bytes, big_number}
use Rattle.byteorder.specs.Numbers.{big_from-cons, big_from-lt, big_from-take, big_number-reads_back, length-bytes_high_first}
use Rattle.am_packet.specs.Laws.{IsBytes}

pub dropped_bytes_are_bytes : (n : ℕ) (bytes : List ℕ) → IsBytes bytes → IsBytes (drop n bytes)
dropped_bytes_are_bytes n bytes fits i = rw get_or-drop (fits (n + i))

IsBytes-take : (n : ℕ) (bytes : List ℕ) → IsBytes bytes → IsBytes (take n bytes)
IsBytes-take n bytes fits i =
    elim (cases_lt i n) [
      | inl lt ↦ rw (get_or-take n bytes i 0 lt) (fits i)
      | inr le ↦ rw (get_or_past (take n bytes) i 0 (omega (arith, length-take n bytes))) (omega arith)
    ]

IsBytes-rest : (b : ℕ) (bytes : List ℕ) → IsBytes (b ∷ bytes) → IsBytes bytes
IsBytes-rest b bytes fits i = fits (suc i)

byte_at-lt : (k x : ℕ) → byte_at k x < 256
byte_at-lt zero x = mod-lt x (omega arith)
byte_at-lt (suc k) x = mod-lt (x / 256 ^ suc k) (omega arith)

IsBytes-big_bytes : (n x : ℕ) → IsBytes (big_bytes n x)
IsBytes-big_bytes zero x i = omega arith
IsBytes-big_bytes (suc n) x zero = byte_at-lt n x
IsBytes-big_bytes (suc n) x (suc i) = IsBytes-big_bytes n x i

-- two numbers with the same high and low part, to a base
same_digit : (a b w r s : ℕ) → r < w → s < w → a * w + r ≡ b * w + s → a ≡ b
same_digit a b w r s hr hs e = sym (div-mul-add a w r hr) ∙ ap (λ n. n / w) e ∙ div-mul-add b w s hs

same_rest : (a b w r s : ℕ) → r < w → s < w → a * w + r ≡ b * w + s → r ≡ s
same_rest a b w r s hr hs e = sym (mod-mul-add a w r hr) ∙ ap (λ n. n % w) e ∙ mod-mul-add b w s hs

-- equal numbers have equal bytes
pub same_big_number_same_bytes : (n : ℕ) (xs ys : List ℕ) → length xs ≡ n → length ys ≡ n → IsBytes xs → IsBytes ys → big_number n xs ≡ big_number n ys → xs ≡ ys
same_big_number_same_bytes zero [] [] lx ly fx fy e = refl
same_big_number_same_bytes zero [] (y ∷ ys) lx ly fx fy e = absurd (omega (arith, ly))
same_big_number_same_bytes zero (x ∷ xs) ys lx ly fx fy e = absurd (omega (arith, lx))
same_big_number_same_bytes (suc n) [] ys lx ly fx fy e = absurd (omega (arith, lx))
same_big_number_same_bytes (suc n) (x ∷ xs) [] lx ly fx fy e = absurd (omega (arith, ly))
same_big_number_same_bytes (suc n) (x ∷ xs) (y ∷ ys) lx ly fx fy e =
    let moved : x * 256 ^ n + big_number n xs ≡ y * 256 ^ n + big_number n ys = ap (λ r. x * 256 ^ n + r) (sym (big_from-cons 0 n x xs)) ∙ e
    ∙ ap (λ r. y * 256 ^ n + r) (big_from-cons 0 n y ys) in
    let fits-x = big_from-lt 0 n xs (IsBytes-rest x xs fx) in
    let fits-y = big_from-lt 0 n ys (IsBytes-rest y ys fy) in
    let head : x ≡ y = same_digit x y (256 ^ n) _ _ fits-x fits-y moved in
    let tail : xs ≡ ys = same_big_number_same_bytes n xs ys (omega (arith, lx)) (omega (arith, ly)) (IsBytes-rest x xs fx) (IsBytes-rest y ys fy)
    (same_rest x y (256 ^ n) _ _ fits-x fits-y moved) in
    cc

pub big_number-lt : (n : ℕ) (xs : List ℕ) → IsBytes xs → big_number n xs < 256 ^ n
big_number-lt n xs fits = big_from-lt 0 n xs fits

-- the bytes of the number that so many bytes are
back : (n : ℕ) (xs : List ℕ) → length xs ≡ n → IsBytes xs → big_bytes n (big_number n xs) ≡ xs
back n xs long fits =
    let again : big_number n (big_bytes n (big_number n xs)) ≡ big_number n xs = ap (λ ys. big_number n ys) (sym (append-nil (big_bytes n (big_number n xs))))
    ∙ big_number-reads_back n (big_number n xs) [] (big_number-lt n xs fits) in
    same_big_number_same_bytes n (big_bytes n (big_number n xs)) xs (length-bytes_high_first n (big_number n xs)) long (IsBytes-big_bytes n (big_number n xs)) fits again

-- the number at the front of a list, and the rest
pub bytes_front_is_big_bytes : (n : ℕ) (xs : List ℕ) → n ≤ length xs → IsBytes xs → xs ≡ big_bytes n (big_number n xs) ++ drop n xs
bytes_front_is_big_bytes n xs long fits =
    let same : big_number n (take n xs) ≡ big_number n xs = big_from-take 0 n n xs (omega arith) in
    let bytes : big_bytes n (big_number n xs) ≡ take n xs = ap (λ v. big_bytes n v) (sym same)
    ∙ back n (take n xs) (length-take-le n xs long) (IsBytes-take n xs fits) in
    sym (take-append-drop n xs) ∙ ap (λ ys. ys ++ drop n xs) (sym bytes)

-- the same from a place on
pub dropped_bytes_are_big_bytes : (n at : ℕ) (bytes : List ℕ) → at + n ≤ length bytes → IsBytes bytes
    → drop at bytes ≡ big_bytes n (big_number n (drop at bytes)) ++ drop (at + n) bytes
dropped_bytes_are_big_bytes n at bytes long fits =
    bytes_front_is_big_bytes n (drop at bytes) (omega (arith, length-drop at bytes)) (dropped_bytes_are_bytes at bytes fits)
    ∙ ap (λ ys. big_bytes n (big_number n (drop at bytes)) ++ ys) (drop-drop n at bytes)
