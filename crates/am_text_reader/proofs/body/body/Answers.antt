use Rattle.std.proofs.Common.{◌≡◌, ℕ, List, ap₂, refl, ◌+◌, ◌*◌, ◌++◌, ◌∷◌, drop, false, true, ap, sym, ◌∙◌, arith, append-nil, append_assoc, codes}
use Rattle.am_text_defs.specs.Fields.{same, are_pairs, bytes_in}
use Rattle.am_text_defs.proofs.Bytes.{bytes_in_with_next_pair, bytes_in_past_last_pair, bytes_of_is_bytes_in, pairs_have_even_length}
use Rattle.am_text_reader.proofs.body.body.Goals as goal

pub loop-at-preserved : goal.loop-at-preserved
loop-at-preserved c =
    let pairs : are_pairs c.args.word.now ≡ true = grind arith in
    let even = pairs_have_even_length c.args.word.now pairs in
    let more = bytes_in_with_next_pair c.args.word.now c.loop-at.at (omega (arith, even)) in
    record {
      so_far = ap (λ (bs : List ℕ). bs ++ bytes_in (drop (2 * (c.loop-at.at + 1)) c.args.word.now)) c.push_reserved.ensures.items
          ∙ append_assoc c.loop-at.into.items _ _
          ∙ ap₂ (λ (high low : ℕ). c.loop-at.into.items ++ ((16 * high + low) ∷ bytes_in (drop (2 * (c.loop-at.at + 1)) c.args.word.now)))
          c.digit_value.ensures.value c.digit_value-in-loop-at.ensures.value
          ∙ ap (λ (bs : List ℕ). c.loop-at.into.items ++ bs) (sym more) ∙ c.loop-at.invariant.so_far;
      many = omega (arith, c.push_reserved.ensures.len, c.loop-at.invariant.many);
      room = c.push_reserved.ensures.capacity ∙ c.loop-at.invariant.room;
    }

pub returns-clause-value : goal.returns-clause-value
returns-clause-value c =
    let pairs : are_pairs c.args.word.now ≡ true = grind arith in
    let even = pairs_have_even_length c.args.word.now pairs in
    let other : same c.args.word.now (codes "-") ≡ false = sym (ap (same c.args.word.now) c.as_slice.ensures) ∙ sym c.eq.ensures ∙ c.if-eq.false in
    let read = bytes_of_is_bytes_in c.args.most c.args.word.now other pairs (omega arith) in
    let all : c.loop-at.into.items ≡ bytes_in c.args.word.now = sym (append-nil c.loop-at.into.items)
    ∙ ap (λ (bs : List ℕ). c.loop-at.into.items ++ bs) (sym (bytes_in_past_last_pair c.args.word.now c.loop-at.at (omega (arith, even)))) ∙ c.loop-at.invariant.so_far in
    rw read (refl, all)
