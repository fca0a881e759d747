-- What was looked through for a place needn't be looked through again.
use Rattle.am_shared_journal.proofs.Words.{◌≡◌, ℕ, ◌<◌, ◌≤◌, List, [], ◌∷◌, ◌++◌, length, None, replicate, slice_index_or, slice_set, sym, ◌∙◌, subst, arith, All}
use Rattle.am_shared_journal.proofs.Words.{length-set, length-replicate, All-set, All-weaker, All-replicate, Letter, Record, next_for, IsSeen, letters_of_records}
use Rattle.am_shared_journal.proofs.Words.{letters_of_pushed_record, LetterLook, IsLook, AreLooks}
use Rattle.am_group.proofs.Seen.{next_for_from_seen, letters_seen_of_append, letters_seen_up_to_number, letters_seen_without_next}

-- before the first letter
pub looks_without_letter_are_looks : (letters : List Letter) (look : LetterLook) → look.after ≡ 0 → look.seen ≡ 0 → AreLooks letters (replicate 16 look)
looks_without_letter_are_looks letters look after seen = record {
  count = length-replicate 16 look;
  each = All-replicate (IsLook letters) 16 look (let from : IsSeen letters look.name 0 0 = letters_seen_up_to_number letters look.name 0 (omega arith) in rw (after, seen) from);
}

-- where letters come
pub looks_after_one_record_more : (before : List Record) (item : Record) (looks : List LetterLook) → AreLooks (letters_of_records before) looks → AreLooks (letters_of_records (before ++ item ∷ [])) looks
looks_after_one_record_more before item looks are = record {
  count = are.count;
  each = subst (λ letters. All (IsLook letters) looks) (sym (letters_of_pushed_record before item))
      (All-weaker (IsLook (letters_of_records before)) (IsLook (letters_of_records before ++ item.packets))
      (λ look is. letters_seen_of_append (letters_of_records before) item.packets look.name look.after look.seen is) looks are.each);
}

-- a letter for a name is found after what was looked through for it
pub next_for_from_last_look : (letters : List Letter) (looks : List LetterLook) (place name after : ℕ) (d : LetterLook) → AreLooks letters looks → place < 16
    → (slice_index_or looks place d).name ≡ name → (slice_index_or looks place d).after ≡ after
    → next_for letters name (slice_index_or looks place d).seen ≡ next_for letters name after
next_for_from_last_look letters looks place name after d are low same from =
    let look = slice_index_or looks place d in
    let count = are.count in
    let is : IsSeen letters look.name look.after look.seen = are.each place d (omega arith) in
    sym (rw (sym same, sym from) (next_for_from_seen letters look.name look.after look.seen is))

-- a look that found none
pub looks_after_one_look_more : (letters : List Letter) (looks : List LetterLook) (place : ℕ) (look : LetterLook) → AreLooks letters looks → look.seen ≡ length letters
    → look.after ≤ look.seen → next_for letters look.name look.after ≡ None → AreLooks letters (slice_set looks place look)
looks_after_one_look_more letters looks place look are all low none = record {
  count = length-set looks place look ∙ are.count;
  each = All-set (IsLook letters) looks place look
      (subst (IsSeen letters look.name look.after) (sym all) (letters_seen_without_next letters look.name look.after (omega arith) none)) are.each;
}
