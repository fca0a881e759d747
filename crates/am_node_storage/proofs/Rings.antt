-- The ring of a history.
use Rattle.std.proofs.Common.{◌≡◌, ℕ, zero, suc, ◌+◌, ◌-◌, ◌<◌, ◌≤◌, List, [], ◌∷◌, ◌++◌, length, drop, refl, ⊎_elim, sym, ◌∙◌, ap, subst, true, Some, None}
use Rattle.std.proofs.Common.{slice_get, option_map, nat_le, arith}
use Rattle.std.proofs.lemmas.List.{length-map, map-append, drop-map, length-append}
use Rattle.std.proofs.lemmas.List.Elements.{All-nil}
use Rattle.std.proofs.lemmas.Option.{slice_get-map, slice_get_within, get_or_from_slice_get}
use Rattle.std.proofs.lemmas.Bool.Decides.{nat_tests}
use Rattle.std.proofs.Math.Nat.{eq-or-lt_of_le}
use Rattle.am_base.specs.Most.{greatest_number}
use Rattle.circular_buffer.proofs.Places.{slice_get-append_left, slice_get-append_right}
use Rattle.am_base.specs.declared.entry.Entry.{Entry}
use Rattle.am_base.specs.declared.image.Image.{Image}
use Rattle.am_base.specs.Lists.{Log, image_after_entries, after, fits, AllEntriesFit, members_of_image, log_members_at, log_image_at, log_entry_at, image_of_log, top_of_log, log_with_entry}
use Rattle.am_base.specs.Limits.{ImageIsInRange, EntryIsInRange}
use Rattle.am_node_defs.specs.Kept.{IsKept, log_above}
use Rattle.am_node_defs.proofs.Folds.{slice_get-drop}
use Rattle.am_node_defs.proofs.Ends.{kept_log_by_push, kept_log_by_trim, log_is_own_end, end_stays_by_trim, end_has_image_of_whole_log, image_at_end_is_image, told_by_pushed_entry, image_at_below_push, image_at_top_is_told, image_at_start_is_first, image_at_next_number}
use Rattle.am_node_defs.proofs.Ends.{above_twice_is_above}
use Rattle.am_node_storage.specs.declared.history.Slot.{Slot}
use Rattle.am_node_storage.specs.Histories.{slot_entries, log_of_slots, SlotsHaveMembers, IsRing}

-- a history without entries
pub ring_without_slots : (base capacity : ℕ) (below up : Image) (slots : List Slot) → length slots ≡ 0 → up ≡ below → base ≤ greatest_number → ImageIsInRange below
    → IsRing base below up slots capacity
unfolding image_after_entries AllEntriesFit
ring_without_slots base capacity below up [] l e h is = record {
  told = e;
  members = record { after = λ place slot e. absurd (cc) };
  kept = record { image = is; fit = tt; room = omega arith; entries = All-nil EntryIsInRange; numbers = omega arith };
}
ring_without_slots base capacity below up (s ∷ ss) l e h is = absurd (omega arith)

-- each entry that is kept is within the limits
pub entry_in_ring_is_entry : (base capacity : ℕ) (below up : Image) (slots : List Slot) (k : ℕ) (s : Slot) → IsRing base below up slots capacity
    → slice_get slots k ≡ Some s → EntryIsInRange s.entry
entry_in_ring_is_entry base capacity below up slots k s is get =
    let there : slice_get (slot_entries slots) k ≡ Some s.entry = slice_get-map (λ (s : Slot). s.entry) slots k ∙ ap (option_map (λ (s : Slot). s.entry)) get in
    let P : Entry → Type 0 = EntryIsInRange in
    subst P (get_or_from_slice_get (slot_entries slots) k s.entry s.entry there) (is.kept.entries k s.entry (slice_get_within (slot_entries slots) k s.entry there))

pub entries_of_no_slots : (slots : List Slot) → length slots ≡ 0 → slot_entries slots ≡ []
entries_of_no_slots [] l = refl
entries_of_no_slots (s ∷ ss) l = absurd (omega arith)

-- a slot by the number of its entry
pub entry_at_of_ring_slot : (base : ℕ) (image : Image) (slots : List Slot) (number : ℕ) (s : Slot) → base < number → slice_get slots (number - base - 1) ≡ Some s
    → log_entry_at (log_of_slots base image slots) number ≡ Some s.entry
entry_at_of_ring_slot base image slots zero s h e = absurd (omega arith)
entry_at_of_ring_slot base image slots (suc before) s h e =
    let at : suc before - base - 1 ≡ before - base = omega arith in
    let get : slice_get (slot_entries slots) (before - base) ≡ Some s.entry = slice_get-map (λ (s : Slot). s.entry) slots (before - base)
    ∙ ap (option_map (λ (s : Slot). s.entry)) (ap (slice_get slots) (sym at) ∙ e) in
    let low : nat_le base before ≡ true = grind (arith, nat_tests) in
    rw (low, get) refl

pub entry_at_beside_ring : (base : ℕ) (image : Image) (slots : List Slot) (number : ℕ) → base < number → slice_get slots (number - base - 1) ≡ None
    → log_entry_at (log_of_slots base image slots) number ≡ None
entry_at_beside_ring base image slots zero h e = absurd (omega arith)
entry_at_beside_ring base image slots (suc before) h e =
    let at : suc before - base - 1 ≡ before - base = omega arith in
    let get : slice_get (slot_entries slots) (before - base) ≡ None = slice_get-map (λ (s : Slot). s.entry) slots (before - base)
    ∙ ap (option_map (λ (s : Slot). s.entry)) (ap (slice_get slots) (sym at) ∙ e) in
    let low : nat_le base before ≡ true = grind (arith, nat_tests) in
    rw (low, get) refl

-- the members by a slot, and at the base
pub members_at_of_ring_slot : (list : Log) (slots : List Slot) (number : ℕ) (s : Slot) → SlotsHaveMembers list slots → list.start < number
    → slice_get slots (number - list.start - 1) ≡ Some s → s.members ≡ log_members_at list number
members_at_of_ring_slot list slots number s have h e =
    let at : list.start + ((number - list.start - 1) + 1) ≡ number = omega arith in
    have.after (number - list.start - 1) s e ∙ ap (log_members_at list) at

pub members_at_start_of_ring : (list : Log) (number : ℕ) → number ≡ list.start → log_members_at list number ≡ members_of_image list.image
members_at_start_of_ring list number e = ap (log_members_at list) e ∙ ap members_of_image (image_at_start_is_first list)

pub no_slot_missing_below_length : (slots : List Slot) (place : ℕ) → slice_get slots place ≡ None → place < length slots → ⊥
no_slot_missing_below_length [] place e h = omega arith
no_slot_missing_below_length (s ∷ ss) zero e h = cc
no_slot_missing_below_length (s ∷ ss) (suc place) e h = no_slot_missing_below_length ss place e (omega arith)

list_push : (base : ℕ) (image : Image) (slots : List Slot) (s : Slot) → log_of_slots base image (slots ++ s ∷ []) ≡ log_with_entry (log_of_slots base image slots) s.entry
list_push base image slots s = ap (λ es. let l : Log = record { start = base; image = image; entries = es } in
    l) (map-append (λ (s : Slot). s.entry) slots (s ∷ []))

pushed_members : (list : Log) (slots : List Slot) (s : Slot) → SlotsHaveMembers list slots → length list.entries ≡ length slots
    → s.members ≡ members_of_image (image_of_log (log_with_entry list s.entry)) → (place : ℕ) (slot : Slot) → slice_get (slots ++ s ∷ []) place ≡ Some slot
    → slot.members ≡ log_members_at (log_with_entry list s.entry) (list.start + (place + 1))
pushed_members list slots s have long members place slot get =
    let within = slice_get_within (slots ++ s ∷ []) place slot get in
    let more = length-append slots (s ∷ []) in
    let now = log_with_entry list s.entry in
    let high = length-append list.entries (s.entry ∷ []) in
    let low : place ≤ length slots = omega arith in
    ⊎_elim
    (λ (e : place ≡ length slots).
    let same : Some slot ≡ Some s = sym get ∙ slice_get-append_right slots (s ∷ []) place 0 (omega arith) in
    let is : slot ≡ s = cc in
    let at : top_of_log now ≡ list.start + (place + 1) = omega arith in
    ap (λ (x : Slot). x.members) is ∙ members ∙ ap members_of_image (sym (image_at_top_is_told now)) ∙ ap (log_members_at now) at)
    (λ (h : place < length slots).
    let before = sym (slice_get-append_left slots (s ∷ []) place h) ∙ get in
    have.after place slot before ∙ ap members_of_image (sym (image_at_below_push list s.entry (list.start + (place + 1)) (omega arith))))
    (eq-or-lt_of_le low)

-- one slot more
pub ring_with_slot_pushed : (base capacity : ℕ) (below up now : Image) (slots : List Slot) (s : Slot) → IsRing base below up slots capacity
    → now ≡ after up (base + length slots + 1) s.entry → s.members ≡ members_of_image now → fits up s.entry ≡ true → EntryIsInRange s.entry → length slots < capacity
    → base + length slots < greatest_number → IsRing base below now (slots ++ s ∷ []) capacity
ring_with_slot_pushed base capacity below up now slots s is next members fit within room numbers =
    let list = log_of_slots base below slots in
    let e = list_push base below slots s in
    let long = length-map slots (λ (s : Slot). s.entry) in
    let at : base + length slots + 1 ≡ top_of_log list + 1 = omega arith in
    let told : now ≡ image_of_log (log_with_entry list s.entry) = next ∙ ap (λ i. after i (base + length slots + 1) s.entry) is.told
    ∙ ap (λ k. after (image_of_log list) k s.entry) at ∙ sym (told_by_pushed_entry list s.entry) in
    let fit_now : fits (image_of_log list) s.entry ≡ true = ap (λ i. fits i s.entry) (sym is.told) ∙ fit in
    let P : Log → Type 0 = λ l. SlotsHaveMembers l (slots ++ s ∷ []) in
    let Q : Log → Type 0 = λ l. IsKept l capacity in
    record {
      told = told ∙ ap image_of_log (sym e);
      members = subst P (sym e) (record { after = pushed_members list slots s is.members long (members ∙ ap members_of_image told) });
      kept = subst Q (sym e) (kept_log_by_push list capacity s.entry is.kept fit_now (omega arith) within (omega arith));
    }

-- one slot less
pub list_of_ring_without_first : (base : ℕ) (below now : Image) (slots : List Slot) (s : Slot) → slice_get slots 0 ≡ Some s → now ≡ after below (base + 1) s.entry
    → log_of_slots (base + 1) now (drop 1 slots) ≡ log_above (log_of_slots base below slots) (base + 1)
list_of_ring_without_first base below now slots s get next =
    let list = log_of_slots base below slots in
    let at : base + 1 - base - 1 ≡ 0 = omega arith in
    let one : base + 1 - base ≡ 1 = omega arith in
    let found = entry_at_of_ring_slot base below slots (base + 1) s (omega arith) (ap (slice_get slots) at ∙ get) in
    let told : now ≡ log_image_at list (base + 1) = next ∙ ap (λ i. after i (base + 1) s.entry) (sym (image_at_start_is_first list))
    ∙ sym (image_at_next_number list base s.entry (omega arith) found) in
    let rest : slot_entries (drop 1 slots) ≡ drop (base + 1 - base) (slot_entries slots) = sym (drop-map (λ (s : Slot). s.entry) 1 slots)
    ∙ ap (λ k. drop k (slot_entries slots)) (sym one) in
    λ k. record { start = base + 1; image = told k; entries = rest k }

popped_members : (list : Log) (slots : List Slot) → SlotsHaveMembers list slots → list.start + 1 ≤ top_of_log list
    → SlotsHaveMembers (log_above list (list.start + 1)) (drop 1 slots)
popped_members list slots have high = record {
  after = λ place slot get.
      let is = end_stays_by_trim list list (list.start + 1) (log_is_own_end list) (omega arith) high in
      let before : slice_get slots (1 + place) ≡ Some slot = sym (slice_get-drop 1 place slots) ∙ get in
      let at : list.start + (1 + place + 1) ≡ list.start + 1 + (place + 1) = omega arith in
      have.after (1 + place) slot before ∙ ap (log_members_at list) at
      ∙ ap members_of_image (sym (image_at_end_is_image list (log_above list (list.start + 1)) (list.start + 1 + (place + 1)) is (omega arith)));
}

pub ring_without_first_slot : (base capacity : ℕ) (below up now : Image) (slots : List Slot) (s : Slot) → IsRing base below up slots capacity → slice_get slots 0 ≡ Some s
    → now ≡ after below (base + 1) s.entry → ImageIsInRange now → IsRing (base + 1) now up (drop 1 slots) capacity
ring_without_first_slot base capacity below up now slots s is get next rows =
    let list = log_of_slots base below slots in
    let e = list_of_ring_without_first base below now slots s get next in
    let long = length-map slots (λ (s : Slot). s.entry) in
    let within = slice_get_within slots 0 s get in
    let high : base + 1 ≤ top_of_log list = omega arith in
    let end = end_stays_by_trim list list (base + 1) (log_is_own_end list) (omega arith) high in
    let P : Log → Type 0 = λ l. SlotsHaveMembers l (drop 1 slots) in
    let Q : Log → Type 0 = λ l. IsKept l capacity in
    let R : Image → Type 0 = ImageIsInRange in
    let image : now ≡ log_image_at list (base + 1) = ap (λ (l : Log). l.image) e in
    record {
      told = is.told ∙ sym (end_has_image_of_whole_log list (log_above list (base + 1)) end) ∙ ap image_of_log (sym e);
      members = subst P (sym e) (popped_members list slots is.members high);
      kept = subst Q (sym e) (kept_log_by_trim list capacity (base + 1) is.kept (omega arith) high (subst R image rows));
    }

-- a step of a trim
pub trim_above_one_more : (list now next : Log) (place : ℕ) → now ≡ log_above list place → next ≡ log_above now (now.start + 1) → list.start ≤ place → place < top_of_log list
    → next ≡ log_above list (place + 1)
trim_above_one_more list now next place e f low high =
    let s : now.start ≡ place = ap (λ (l : Log). l.start) e in
    f ∙ ap (log_above now) (ap (λ k. k + 1) s) ∙ ap (λ l. log_above l (place + 1)) e ∙ above_twice_is_above list place (place + 1) low (omega arith) (omega arith)

-- nothing is given up where all fits
pub drop_nothing_of_few_slots : (n : ℕ) (slots : List Slot) → length slots ≤ n → drop (length slots - n) slots ≡ slots
drop_nothing_of_few_slots n slots h = let none : length slots - n ≡ 0 = omega arith in ap (λ k. drop k slots) none

pub ruleset ring_of_history_rules = (ring_without_slots, ring_with_slot_pushed, ring_without_first_slot, entry_in_ring_is_entry, entries_of_no_slots)
