-- The end of a list tells the same as all of it.
use Rattle.am_node_defs.proofs.Words.{◌≡◌, ℕ, zero, suc, ◌+◌, ◌-◌, ◌<◌, ◌≤◌, List, [], ◌∷◌, ◌++◌, length, take, drop, refl, sym, ◌∙◌, ap, subst, arith}
use Rattle.am_node_defs.proofs.Words.{length-append, length-drop, slice_get, Some, true, nat_le, add-one, take-append-le, drop-append-le, length-take-le}
use Rattle.am_node_defs.proofs.Words.{take-append-drop, drop-drop, take_more, All-push, All-drop, slice_get_within, get_or_from_slice_get, nat_tests, take-add}
use Rattle.am_node_defs.proofs.Words.{take-length, sub_self, greatest_number, Entry, image_after_entries, after, fits, AllEntriesFit, Log, top_of_log, log_image_at, log_entry_at, image_of_log, log_with_entry}
use Rattle.am_node_defs.proofs.Words.{ImageIsInRange, EntryIsInRange, IsEndOfLog, IsKept, log_above, EndsTellTheSame, EndsStay}
use Rattle.am_base.proofs.Folds.{fold_append}
use Rattle.am_node_defs.proofs.Folds.{fold_of_pushed_entry, all_fit_after_push, all_fit_after_drop, slice_get-drop}

-- how many entries all of it has more
abbrev gone : Log → Log → ℕ
gone all kept = kept.start - all.start

pub top_of_end_is_top : (all kept : Log) → IsEndOfLog all kept → top_of_log kept ≡ top_of_log all
top_of_end_is_top all kept is =
    let l = ap length is.entries ∙ length-drop (gone all kept) all.entries in
    let a = is.low in let b = is.high in
    omega arith

-- from the kept image on, any entries of the kept list
end-fold : (all kept : Log) (xs : List Entry) → IsEndOfLog all kept
    → image_after_entries kept.image (kept.start + 1) xs ≡ image_after_entries all.image (all.start + 1) (take (gone all kept) all.entries ++ xs)
end-fold all kept xs is =
    let a = is.low in
    let b = is.high in
    let l = length-take-le (gone all kept) all.entries (omega arith) in
    let at : all.start + 1 + length (take (gone all kept) all.entries) ≡ kept.start + 1 = omega arith in
    ap (λ i. image_after_entries i (kept.start + 1) xs) is.image ∙ ap (λ k. image_after_entries (log_image_at all kept.start) k xs) (sym at)
    ∙ sym (fold_append all.image (all.start + 1) (take (gone all kept) all.entries) xs)

pub end_has_image_of_whole_log : (all kept : Log) → IsEndOfLog all kept → image_of_log kept ≡ image_of_log all
end_has_image_of_whole_log all kept is =
    end-fold all kept kept.entries is
    ∙ ap (λ xs. image_after_entries all.image (all.start + 1) (take (gone all kept) all.entries ++ xs)) is.entries
    ∙ ap (image_after_entries all.image (all.start + 1)) (take-append-drop (gone all kept) all.entries)

pub image_at_end_is_image : (all kept : Log) (number : ℕ) → IsEndOfLog all kept → kept.start ≤ number → log_image_at kept number ≡ log_image_at all number
image_at_end_is_image all kept number is h =
    let a = is.low in
    let m = number - kept.start in
    let at : gone all kept + m ≡ number - all.start = omega arith in
    end-fold all kept (take m kept.entries) is
    ∙ ap (λ xs. image_after_entries all.image (all.start + 1) (take (gone all kept) all.entries ++ take m xs)) is.entries
    ∙ ap (image_after_entries all.image (all.start + 1)) (sym (take-add (gone all kept) m all.entries) ∙ ap (λ k. take k all.entries) at)

pub entry_at_end_is_entry : (all kept : Log) (number : ℕ) → IsEndOfLog all kept → kept.start < number → log_entry_at kept number ≡ log_entry_at all number
entry_at_end_is_entry all kept zero is h = absurd (omega arith)
entry_at_end_is_entry all kept (suc before) is h =
    let a = is.low in
    let at : gone all kept + (before - kept.start) ≡ before - all.start = omega arith in
    let e = ap (λ xs. slice_get xs (before - kept.start)) is.entries ∙ slice_get-drop (gone all kept) (before - kept.start) all.entries
    ∙ ap (slice_get all.entries) at in
    rw e (grind (arith, nat_tests))

pub ends_tell_the_same_list : EndsTellTheSame
ends_tell_the_same_list all kept is = record {
  top = top_of_end_is_top all kept is;
  told = end_has_image_of_whole_log all kept is;
  image = λ number h. image_at_end_is_image all kept number is h;
  entry = λ number h. entry_at_end_is_entry all kept number is h;
}

pub end_stays_by_push : (all kept : Log) (e : Entry) → IsEndOfLog all kept → IsEndOfLog (log_with_entry all e) (log_with_entry kept e)
end_stays_by_push all kept e is =
    let a = is.low in
    let b = is.high in
    let fits : gone all kept ≤ length all.entries = omega arith in
    record {
      low = is.low;
      high = let l = length-append all.entries (e ∷ []) in omega arith;
      image = is.image ∙ ap (image_after_entries all.image (all.start + 1)) (sym (take-append-le (gone all kept) all.entries (e ∷ []) fits));
      entries = ap (λ xs. xs ++ e ∷ []) is.entries ∙ sym (drop-append-le (gone all kept) all.entries (e ∷ []) fits);
    }

pub end_stays_by_trim : (all kept : Log) (to : ℕ) → IsEndOfLog all kept → kept.start ≤ to → to ≤ top_of_log kept → IsEndOfLog all (log_above kept to)
end_stays_by_trim all kept to is low high =
    let a = is.low in
    let t = top_of_end_is_top all kept is in
    let at : gone all kept + (to - kept.start) ≡ to - all.start = omega arith in
    record {
      low = omega arith;
      high = omega arith;
      image = image_at_end_is_image all kept to is low;
      entries = ap (drop (to - kept.start)) is.entries ∙ drop-drop (to - kept.start) (gone all kept) all.entries ∙ ap (λ k. drop k all.entries) at;
    }

pub end_of_log_stays : EndsStay
end_of_log_stays all kept is = record {
  push = λ e. end_stays_by_push all kept e is;
  trim = λ to low high. end_stays_by_trim all kept to is low high;
}

pub log_is_own_end : (log : Log) → IsEndOfLog log log
unfolding image_after_entries
log_is_own_end log = record {
  low = omega arith;
  high = omega arith;
  image = rw (sub_self log.start) refl;
  entries = rw (sub_self log.start) refl;
}

-- what is told with one entry more, and up to each number
pub told_by_pushed_entry : (log : Log) (e : Entry) → image_of_log (log_with_entry log e) ≡ after (image_of_log log) (top_of_log log + 1) e
told_by_pushed_entry log e = fold_of_pushed_entry log.image (log.start + 1) log.entries e ∙ ap (λ k. after (image_of_log log) k e) (omega arith)

pub image_at_below_push : (log : Log) (e : Entry) (number : ℕ) → number ≤ top_of_log log → log_image_at (log_with_entry log e) number ≡ log_image_at log number
image_at_below_push log e number h = ap (image_after_entries log.image (log.start + 1)) (take-append-le (number - log.start) log.entries (e ∷ []) (omega arith))

pub image_at_top_is_told : (log : Log) → log_image_at log (top_of_log log) ≡ image_of_log log
image_at_top_is_told log = let at : top_of_log log - log.start ≡ length log.entries = omega arith in
    ap (image_after_entries log.image (log.start + 1)) (ap (λ k. take k log.entries) at ∙ take-length log.entries)

pub image_at_start_is_first : (log : Log) → log_image_at log log.start ≡ log.image
unfolding image_after_entries
image_at_start_is_first log = rw (sub_self log.start) refl

pub entry_at_is_slice_get : (log : Log) (number : ℕ) (e : Entry) → log.start ≤ number → log_entry_at log (number + 1) ≡ Some e
    → slice_get log.entries (number - log.start) ≡ Some e
entry_at_is_slice_get log number e h is =
    let at : log_entry_at log (suc number) ≡ Some e = rw add-one at is in
    let low : nat_le log.start number ≡ true = grind (arith, nat_tests) in
    rw low at at

pub image_at_next_number : (log : Log) (number : ℕ) (e : Entry) → log.start ≤ number → log_entry_at log (number + 1) ≡ Some e
    → log_image_at log (number + 1) ≡ after (log_image_at log number) (number + 1) e
image_at_next_number log number e h is =
    let i = number - log.start in
    let get = entry_at_is_slice_get log number e h is in
    let within = slice_get_within log.entries i e get in
    let long = length-take-le i log.entries (omega arith) in
    let at : i + 1 ≡ number + 1 - log.start = omega arith in
    let to : log.start + 1 + length (take i log.entries) ≡ number + 1 = omega arith in
    ap (λ k. image_after_entries log.image (log.start + 1) (take k log.entries)) (sym at)
    ∙ ap (image_after_entries log.image (log.start + 1)) (take_more log.entries i e within
    ∙ ap (λ x. take i log.entries ++ x ∷ []) (get_or_from_slice_get log.entries i e e get))
    ∙ fold_of_pushed_entry log.image (log.start + 1) (take i log.entries) e
    ∙ ap (λ k. after (log_image_at log number) k e) to

-- nothing is let go, or in two steps
pub above_start_is_log : (log : Log) → log_above log log.start ≡ log
above_start_is_log log =
    let i = image_at_start_is_first log in
    let es = ap (λ k. drop k log.entries) (sub_self log.start) in
    λ k. record { start = log.start; image = i k; entries = es k }

pub above_twice_is_above : (log : Log) (a b : ℕ) → log.start ≤ a → a ≤ b → b ≤ top_of_log log → log_above (log_above log a) b ≡ log_above log b
above_twice_is_above log a b low le high =
    let is = end_stays_by_trim log log a (log_is_own_end log) low (omega arith) in
    let at : (a - log.start) + (b - a) ≡ b - log.start = omega arith in
    let i = image_at_end_is_image log (log_above log a) b is le in
    let es = drop-drop (b - a) (a - log.start) log.entries ∙ ap (λ k. drop k log.entries) at in
    λ k. record { start = b; image = i k; entries = es k }

-- what a history keeps, with an entry more and with some let go
pub kept_log_by_push : (log : Log) (capacity : ℕ) (e : Entry) → IsKept log capacity → fits (image_of_log log) e ≡ true → length log.entries < capacity → EntryIsInRange e
    → top_of_log log < greatest_number → IsKept (log_with_entry log e) capacity
kept_log_by_push log capacity e is fit room within numbers =
    let more = length-append log.entries (e ∷ []) in
    record {
      image = is.image;
      fit = all_fit_after_push log.image (log.start + 1) log.entries e is.fit fit;
      room = omega arith;
      entries = All-push EntryIsInRange log.entries e is.entries within;
      numbers = omega arith;
    }

pub kept_log_by_trim : (log : Log) (capacity to : ℕ) → IsKept log capacity → log.start ≤ to → to ≤ top_of_log log → ImageIsInRange (log_image_at log to)
    → IsKept (log_above log to) capacity
kept_log_by_trim log capacity to is low high rows =
    let k = to - log.start in
    let less = length-drop k log.entries in
    let at : log.start + 1 + k ≡ to + 1 = omega arith in
    let P : ℕ → Type 0 = λ n. AllEntriesFit (log_image_at log to) n (drop k log.entries) in
    record {
      image = rows;
      fit = subst P at (all_fit_after_drop log.image (log.start + 1) k log.entries (omega arith) is.fit);
      room = let r = is.room in omega arith;
      entries = All-drop EntryIsInRange k log.entries is.entries;
      numbers = let n = is.numbers in omega arith;
    }

pub ruleset log_end_rules = (ends_tell_the_same_list, end_of_log_stays)

pub ruleset image_top_rules = (image_at_top_is_told)
