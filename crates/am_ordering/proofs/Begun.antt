-- A node whose list begins with a Welcome.
use Rattle.am_ordering.proofs.JoiningWords.{◌≡◌, ◌≢◌, ℕ, Bool, true, false, not, ◌&&◌, ◌||◌, ◌==◌, nat_lt, nat_le, refl, sym, ◌∙◌, arith, nat_tests, Stamp, Image}
use Rattle.am_ordering.proofs.JoiningWords.{stamp_is_less, stamps_are_equal, image_after_entries, row_of_name, CoreFrontsAreInOrder, Status, Asking, has_log_by_status, Node, view, is_asking_status, is_member, set_of_one_name}
use Rattle.am_ordering.proofs.JoiningWords.{number_is_within_bound, plan_without_letters, plan_with_letter, nack_packet_of, fetch_packet_of, node_of_welcomed, ask_for_next_entries, welcome_row, NodeKeeps, is_unfit}
use Rattle.am_base.specs.declared.outcome.Outcome.TheVariants as said

pub asker_status_has_no_log : (s : Status) → is_asking_status s ≡ true → has_log_by_status s ≡ false
asker_status_has_no_log Asking h = refl
asker_status_has_no_log _ h = absurd (cc)

by_same : (a b : Stamp) (who : ℕ) → (stamps_are_equal a b && (b.by == who)) ≡ true → a.by ≡ who
by_same a b who h = grind (arith, nat_tests)

third : (a b c d : Bool) → (a || (b || (c || d))) ≡ false → c ≡ false
third true b c d h = absurd (cc)
third false true c d h = absurd (cc)
third false false true d h = absurd (cc)
third false false false d h = refl

pub begun_list_keeps_node : (m : Node) (v : Stamp) (base join : ℕ) (image : Image) → is_asking_status m.status ≡ true → v.by ≢ m.core.who → is_unfit m v base join image ≡ false
    → CoreFrontsAreInOrder m.core → NodeKeeps m → NodeKeeps (node_of_welcomed m v base join image)
unfolding image_after_entries
begun_list_keeps_node m v base join image asking other fit order keeps =
    let none = asker_status_has_no_log m.status asking in
    record {
      own =
          let own = keeps.own in
          let top = keeps.blank none in
          let given = order.given in
          let accepted = order.accepted in
          omega arith;
      leads = λ is. absurd (other (by_same v image.view m.core.who is));
      promised = third (nat_le join base) (not (number_is_within_bound m base join)) (stamp_is_less v image.view) (nat_lt 0 (row_of_name image m.core.who).joined) fit;
      blank = λ no. absurd (cc);
      ballot = λ b there.
          let own_ballot = keeps.ballot b there in
          let over : b.is_over ≡ false → false ≡ true = λ open_. sym none ∙ own_ballot.logged open_ in
          record {
            stamp = λ open_. absurd (let no = over open_ in cc);
            by = own_ballot.by;
            ahead = λ open_. absurd (let no = over open_ in cc);
            logged = λ open_. refl;
            itself = own_ballot.itself;
            unvoted = own_ballot.unvoted;
            resilience = own_ballot.resilience;
          };
      settled = keeps.settled;
      due =
          let first = keeps.unsent none in
          record { free = λ joined. first; younger = λ life. first; own = λ joined life. omega arith };
      unsent = λ no. absurd (cc);
    }

-- ---- the row

pub welcome_row_of_member : (m : Node) (from : ℕ) (v : Stamp) (base join : ℕ) (image : Image) → is_member m.status ≡ true
    → welcome_row m from v base join image ≡ plan_without_letters m said.Known
unfolding welcome_row
welcome_row_of_member m from v base join image member = rw member refl

pub welcome_row_is_elsewhere : (m : Node) (from : ℕ) (v : Stamp) (base join : ℕ) (image : Image) → is_member m.status ≡ false → stamp_is_less v m.core.promise ≡ true
    → welcome_row m from v base join image ≡ plan_without_letters m said.Elsewhere
unfolding welcome_row
welcome_row_is_elsewhere m from v base join image none below = rw (none, below) refl

pub welcome_row_of_unfit_image : (m : Node) (from : ℕ) (v : Stamp) (base join : ℕ) (image : Image) → is_member m.status ≡ false → stamp_is_less v m.core.promise ≡ false
    → is_unfit m v base join image ≡ true → welcome_row m from v base join image ≡ plan_without_letters m said.Unfit
unfolding welcome_row
welcome_row_of_unfit_image m from v base join image none there unfit = rw (none, there, unfit) refl

pub welcome_row_begins_list : (m : Node) (from : ℕ) (v : Stamp) (base join : ℕ) (image : Image) → is_member m.status ≡ false → stamp_is_less v m.core.promise ≡ false
    → is_unfit m v base join image ≡ false → welcome_row m from v base join image ≡ ask_for_next_entries (node_of_welcomed m v base join image) from v join
unfolding welcome_row
welcome_row_begins_list m from v base join image none there fit = rw (none, there, fit) refl

pub ask_next_in_same_view : (m : Node) (from : ℕ) (v : Stamp) (join : ℕ) → stamps_are_equal (view m) v ≡ true
    → ask_for_next_entries m from v join ≡ plan_with_letter m (said.Welcomed join) (set_of_one_name from) nack_packet_of
ask_next_in_same_view m from v join same = rw same refl

pub ask_next_in_promised_view : (m : Node) (from : ℕ) (v : Stamp) (join : ℕ) → stamps_are_equal (view m) v ≡ false
    → ask_for_next_entries m from v join ≡ plan_with_letter m (said.Welcomed join) (set_of_one_name from) fetch_packet_of
ask_next_in_promised_view m from v join other = rw other refl

pub status_not_member_asks : (s : Status) → (is_member s || is_asking_status s) ≡ true → is_member s ≡ false → is_asking_status s ≡ true
status_not_member_asks Asking h none = refl
status_not_member_asks _ h none = absurd (cc)
