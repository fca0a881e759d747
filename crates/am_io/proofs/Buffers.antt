-- Writes to a sink behind a room, one after the other.
use Rattle.std.proofs.Common.{◌≡◌, ℕ, List, [], ◌∷◌, ◌++◌, Option, Bool, true, false, if◌then◌else◌, refl, sym, ap, ◌∙◌, subst, append_assoc, append-nil, length, take, drop}
use Rattle.std.specs.Io.KnownBytes.{Appends}
use Rattle.std.specs.Fmt.{WritesInCalls}
use Rattle.std.specs.List.{FoldsTo, concat}
use Rattle.std.proofs.lemmas.List.{take-append-drop}
use Rattle.std.proofs.Math.Seq.{take-append_seam}
use Rattle.am_io.specs.Outside.{next}
use Rattle.am_io.specs.declared.buffered.Buffered.{Buffered}
use Rattle.am_io.specs.Buffers.{IsEmpty, Moves, Goes}
use Rattle.am_io.proofs.Bytes.{sink_appended_both_parts, sink_appended_nothing}

module _ {K : Type 0} (contents : K → Option (List ℕ)) (count : K → ℕ) where
  abbrev counted_by : ℕ → Bool → ℕ
  counted_by before failed = if failed then next before else before

  -- nothing was written
  pub buffer_wrote_nothing : (out : Buffered K) → Goes contents count out [] out
  buffer_wrote_nothing out = record {
    named = refl;
    moves = λ sound. record {
      taken = [];
      rest = out.room.items;
      appended = sink_appended_nothing (contents out.sink.now);
      whole = sym (append-nil out.room.items);
      held = λ _sound. refl;
      counted = sym (ap (counted_by (count out.sink.now)) sound);
    };
    rests = λ failed. record { failed = failed; same = refl };
  }

  moves_on : (p q r : Buffered K) (xs ys : List ℕ) (was : Bool) → q.failed ≡ was → Moves contents count p xs q → Goes contents count q ys r
      → Moves contents count p (xs ++ ys) r
  moves_on p q r xs ys false sound one two =
      let more = two.moves sound in
      record {
        taken = one.taken ++ more.taken;
        rest = more.rest;
        appended = sink_appended_both_parts _ _ _ _ _ one.appended more.appended;
        whole = append_assoc one.taken more.taken more.rest
            ∙ ap (λ (l : List ℕ). one.taken ++ l) (more.whole ∙ ap (λ (l : List ℕ). l ++ ys) (one.held sound))
            ∙ sym (append_assoc one.taken one.rest ys)
            ∙ ap (λ (l : List ℕ). l ++ ys) one.whole
            ∙ append_assoc p.room.items xs ys;
        held = more.held;
        counted = more.counted ∙ ap (λ n. counted_by n r.failed) (one.counted ∙ ap (counted_by (count p.sink.now)) sound);
      }
  moves_on p q r xs ys true failed one two =
      let more = two.rests failed in
      record {
        taken = one.taken;
        rest = one.rest ++ ys;
        appended = subst (λ s. Appends (contents p.sink.now) (contents s) one.taken) (sym more.same) one.appended;
        whole = sym (append_assoc one.taken one.rest ys) ∙ ap (λ (l : List ℕ). l ++ ys) one.whole ∙ append_assoc p.room.items xs ys;
        held = λ sound. absurd (cc (sound, more.failed));
        counted = ap count more.same ∙ one.counted ∙ ap (counted_by (count p.sink.now)) (failed ∙ sym more.failed);
      }

  -- some bytes were written, and then others
  pub buffer_wrote_both_texts : (p q r : Buffered K) (xs ys : List ℕ) → Goes contents count p xs q → Goes contents count q ys r → Goes contents count p (xs ++ ys) r
  buffer_wrote_both_texts p q r xs ys one two = record {
    named = two.named ∙ one.named;
    moves = λ sound. moves_on p q r xs ys q.failed refl (one.moves sound) two;
    rests = λ failed.
        let was = one.rests failed in
        let is = two.rests was.failed in
        record { failed = is.failed; same = is.same ∙ was.same };
  }

  goes_by : (p q : Buffered K) (parts : List (List ℕ)) → FoldsTo (Goes contents count) p parts q → Goes contents count p (concat parts) q
  goes_by p q [] is = subst (λ (r : Buffered K). Goes contents count p [] r) is (buffer_wrote_nothing p)
  goes_by p q (part ∷ parts) calls = buffer_wrote_both_texts p calls.0 q part (concat parts) calls.1 (goes_by calls.0 q parts calls.2)

  -- all that several calls wrote
  pub buffer_wrote_in_calls : (p q : Buffered K) (text : List ℕ) → WritesInCalls (Goes contents count) p text q → Goes contents count p text q
  buffer_wrote_in_calls p q text calls = subst (λ (l : List ℕ). Goes contents count p l q) calls.whole (goes_by p q calls.parts calls.calls)

  -- a write that failed after the first so many bytes of what was to go
  pub buffer_failed_at_write : (p q : Buffered K) (bytes sent : List ℕ) (written : ℕ) → p.failed ≡ false → q.failed ≡ true → p.room.items ++ bytes ≡ sent
      → q.sink.ghost_name ≡ p.sink.ghost_name → Appends (contents p.sink.now) (contents q.sink.now) (take written sent)
      → count q.sink.now ≡ next (count p.sink.now) → Goes contents count p bytes q
  buffer_failed_at_write p q bytes sent written sound failed all named part counted = record {
    named = named;
    moves = λ _sound. record {
      taken = take written sent;
      rest = drop written sent;
      appended = part;
      whole = take-append-drop written sent ∙ sym all;
      held = λ unfailed. absurd (cc (unfailed, failed));
      counted = counted ∙ sym (ap (counted_by (count p.sink.now)) failed);
    };
    rests = λ f. absurd (cc (sound, f));
  }

  -- what was written, and then all was to go to the sink
  pub buffer_wrote_and_flushed : (p q r : Buffered K) (text : List ℕ) → Goes contents count p text q → Goes contents count q [] r → Goes contents count p text r
  buffer_wrote_and_flushed p q r text written done = subst (λ (l : List ℕ). Goes contents count p l r) (append-nil text) (buffer_wrote_both_texts p q r text [] written done)

  -- where all went to the sink, it is all that was written to an empty room
  pub sink_has_whole_text : (p q : Buffered K) (text : List ℕ) → IsEmpty p → Goes contents count p text q → IsEmpty q
      → Appends (contents p.sink.now) (contents q.sink.now) text
  sink_has_whole_text p q text empty goes done =
      let m = goes.moves empty.0 in
      let none : m.rest ≡ [] = sym (m.held done.0) ∙ done.1 in
      let all : m.taken ≡ text = sym (append-nil m.taken) ∙ ap (λ (l : List ℕ). m.taken ++ l) (sym none) ∙ m.whole ∙ ap (λ (l : List ℕ). l ++ text) empty.1 in
      subst (λ (l : List ℕ). Appends (contents p.sink.now) (contents q.sink.now) l) all m.appended

  pub sink_count_stays_without_failure : (p q : Buffered K) (text : List ℕ) → IsEmpty p → Goes contents count p text q → IsEmpty q
      → count q.sink.now ≡ count p.sink.now
  sink_count_stays_without_failure p q text empty goes done = (goes.moves empty.0).counted ∙ ap (counted_by (count p.sink.now)) done.0

  -- where a write failed, a beginning of it went there
  pub sink_has_part_of_text : (p q : Buffered K) (text : List ℕ) → IsEmpty p → Goes contents count p text q
      → (n : ℕ) × Appends (contents p.sink.now) (contents q.sink.now) (take n text)
  sink_has_part_of_text p q text empty goes =
      let m = goes.moves empty.0 in
      let all : m.taken ++ m.rest ≡ text = m.whole ∙ ap (λ (l : List ℕ). l ++ text) empty.1 in
      let front : m.taken ≡ take (length m.taken) text = sym (take-append_seam m.taken m.rest) ∙ ap (take (length m.taken)) all in
      (length m.taken, subst (λ (l : List ℕ). Appends (contents p.sink.now) (contents q.sink.now) l) front m.appended)

  pub sink_count_grows_by_failure : (p q : Buffered K) (text : List ℕ) → IsEmpty p → Goes contents count p text q → q.failed ≡ true
      → count q.sink.now ≡ next (count p.sink.now)
  sink_count_grows_by_failure p q text empty goes failed = (goes.moves empty.0).counted ∙ ap (counted_by (count p.sink.now)) failed
