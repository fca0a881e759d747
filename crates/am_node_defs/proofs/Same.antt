-- The end of a list has the accept front of all of it.
use Rattle.am_node_defs.proofs.Words.{◌≡◌, ⊎_elim, ℕ, zero, suc, ◌+◌, ◌-◌, ◌<◌, ◌≤◌, min, refl, sym, ◌∙◌, ap, Bool, ◌&&◌, nat_le, List, count_by, arith, cases_lt}
use Rattle.am_node_defs.proofs.Words.{Report, Image, size, names_of, Log, top_of_log, image_of_log, log_image_at, members_of_image, log_members_at, log_entry_at, counting_names_of_entry, counting_names_at}
use Rattle.am_node_defs.proofs.Words.{holder_count_at, is_held, is_satisfied, is_acceptable_front, greatest_passing_number, accept_front, IsEndOfLog}
use Rattle.am_node_defs.proofs.Walks.{is_satisfied_with_view, satisfied_above_view_is_held, satisfied_below_view_needs_view}
use Rattle.am_node_defs.proofs.Ends.{top_of_end_is_top, end_has_image_of_whole_log, image_at_end_is_image, entry_at_end_is_entry}
use Rattle.am_node_defs.proofs.{Ranges.range_passes_same_tests}

greatest_same : (p q : ℕ → Bool) (from more : ℕ) → ((g : ℕ) → from < g → g ≤ from + more → p g ≡ q g) → greatest_passing_number p from more ≡ greatest_passing_number q from more
unfolding greatest_passing_number
greatest_same p q from zero each = refl
greatest_same p q from (suc more) each =
    let e = each (from + suc more) (omega arith) (omega arith) in
    rw (e, greatest_same p q from more (λ g l h. each g l (omega arith))) refl

held_same : (reports : ℕ → Report) (all kept : Log) (number : ℕ) → IsEndOfLog all kept → kept.start < number
    → is_held reports kept number ≡ is_held reports all number
held_same reports all kept number is low =
    let entry = entry_at_end_is_entry all kept number is low in
    let before = ap members_of_image (image_at_end_is_image all kept (number - 1) is (omega arith)) in
    let resilience = ap (λ (i : Image). i.resilience) (image_at_end_is_image all kept number is (omega arith)) in
    let counted : counting_names_at kept number ≡ counting_names_at all number = ap (λ e. counting_names_of_entry e (log_members_at kept (number - 1))) entry
    ∙ ap (counting_names_of_entry (log_entry_at all number)) before in
    ap (λ r. nat_le (min (r + 1) (size (counting_names_at kept number))) (holder_count_at reports kept number)) resilience
    ∙ ap (λ (set : List ℕ). nat_le (min ((log_image_at all number).resilience + 1) (size set))
    (count_by (λ name. nat_le number (reports name).stored) (names_of set))) counted

satisfied_same : (p q : ℕ → Bool) (v w g k : ℕ) → v ≡ w → (v ≤ k → p k ≡ q k) → (k < v → p v ≡ q v) → is_satisfied_with_view p v g k ≡ is_satisfied_with_view q w g k
satisfied_same p q v w g k e high low = ⊎_elim
    (λ (l : k < v). satisfied_below_view_needs_view p v g k l ∙ ap (λ b. nat_le v g && b) (low l) ∙ sym (satisfied_below_view_needs_view q v g k l))
    (λ (u : v ≤ k). satisfied_above_view_is_held p v g k u ∙ high u ∙ sym (satisfied_above_view_is_held q v g k u))
    (cases_lt k v) ∙ ap (λ n. is_satisfied_with_view q n g k) e

pub accept_front_of_end : (reports : ℕ → Report) (all kept : Log) (acc : ℕ) → IsEndOfLog all kept → kept.start ≤ acc
    → accept_front reports kept acc ≡ accept_front reports all acc
accept_front_of_end reports all kept acc is low =
    let view = ap (λ (i : Image). i.view_number) (end_has_image_of_whole_log all kept is) in
    ap (λ t. greatest_passing_number (is_acceptable_front reports kept acc) acc (t - acc)) (top_of_end_is_top all kept is)
    ∙ greatest_same (is_acceptable_front reports kept acc) (is_acceptable_front reports all acc) acc (top_of_log all - acc)
    (λ g l u. range_passes_same_tests (is_satisfied reports kept g) (is_satisfied reports all g) (acc + 1) (g - acc)
    (λ k a b. satisfied_same (is_held reports kept) (is_held reports all) (image_of_log kept).view_number (image_of_log all).view_number g k view
    (λ h. held_same reports all kept k is (omega arith)) (λ h. held_same reports all kept (image_of_log kept).view_number is (omega arith) ∙ refl)))
