-- The last View is told again.
use Rattle.am_node_parts.proofs.Words.{◌≡◌, ℕ, ◌<◌, ◌≤◌, List, true, false, nat_lt, sym, ◌∙◌, ap, arith, nat_tests, Image, Log, Letter, with_letter}
use Rattle.am_node_parts.proofs.Words.{members_of_image, without_name, log_entry_at, CoreKeepsEndOf, Packet, Node, image_of_node, other_members, names_that_pass, node_with_log, refl, split_on_bool_of_log, if◌then◌else◌, Option, Entry}
use Rattle.am_base.specs.Names.{empty_set_of_names}
use Rattle.am_node_defs.proofs.Ends.{entry_at_end_is_entry}
use Rattle.am_model.specs.Emit.{result_packet_of}
use Rattle.am_model.specs.Ticks.{members_of_view_entry}
use Rattle.am_node_parts.specs.Replies.{letters_with_view}
use Rattle.am_node_parts.proofs.Ends.{told_by_standing_log}

pub and_view_without_new_view : (m : Node) (box : List Letter) → (image_of_node m).view_number ≤ m.core.base → box ≡ letters_with_view box m
and_view_without_new_view m box low =
    let test : nat_lt m.core.base (image_of_node m).view_number ≡ false = grind (arith, nat_tests) in
    rw test refl

pub and_view_sends_last_view : (m : Node) (box : List Letter) (number : ℕ) (to members : List ℕ) (resilience : ℕ) (packet : Packet)
    → m.core.base < number → number ≡ (image_of_node m).view_number → to ≡ names_that_pass (λ name. nat_lt (m.reports name).stored number) (other_members m)
    → members ≡ members_of_view_entry (log_entry_at m.core.log number) → resilience ≡ (image_of_node m).resilience → packet ≡ result_packet_of m number members resilience
    → with_letter to packet box ≡ letters_with_view box m
and_view_sends_last_view m box number to members resilience packet high is set named most told_it =
    let test : nat_lt m.core.base (image_of_node m).view_number ≡ true = grind (arith, nat_tests) in
    let to_is : to ≡ names_that_pass (λ name. nat_lt (m.reports name).stored (image_of_node m).view_number) (other_members m) =
    set ∙ ap (λ k. names_that_pass (λ name. nat_lt (m.reports name).stored k) (other_members m)) is in
    let names : members ≡ members_of_view_entry (log_entry_at m.core.log (image_of_node m).view_number) = named ∙ ap (λ k. members_of_view_entry (log_entry_at m.core.log k)) is in
    rw test (λ k. with_letter (to_is k) ((told_it ∙ (λ j. result_packet_of m (is j) (names j) (most j))) k) box)

view_low : (m : Node) (box : List Letter) → nat_lt m.core.base (image_of_node m).view_number ≡ false → letters_with_view box m ≡ box
view_low m box low = rw low refl

-- the same of an end as of all
pub and_view_on_whole_log : (m : Node) (all : Log) (box : List Letter) → CoreKeepsEndOf all m.core → letters_with_view box (node_with_log m all) ≡ letters_with_view box m
and_view_on_whole_log m all box s = split_on_bool_of_log (nat_lt m.core.base (image_of_node m).view_number)
    (λ high.
    let number = (image_of_node m).view_number in
    let base = s.base in
    let above : m.core.log.start < number = grind (arith, nat_tests) in
    let told : Image → Option Entry → List Letter = λ i e. with_letter (if nat_lt m.core.base i.view_number
    then names_that_pass (λ name. nat_lt (m.reports name).stored i.view_number) (without_name (members_of_image i) m.core.who) else empty_set_of_names)
    (result_packet_of m i.view_number (members_of_view_entry e) i.resilience) box in
    (λ k. told (told_by_standing_log m all s k) (log_entry_at all (told_by_standing_log m all s k).view_number))
    ∙ ap (told (image_of_node m)) (sym (entry_at_end_is_entry all m.core.log number s.kept above)))
    (λ low. view_low (node_with_log m all) box (ap (λ (i : Image). nat_lt m.core.base i.view_number) (told_by_standing_log m all s) ∙ low) ∙ sym (view_low m box low))
