-- A Data is numbered: whose it may be.
use Rattle.am_ordering.proofs.SequencingWords.{◌≡◌, ℕ, ◌+◌, List, true, false, ◌==◌, nat_lt, ◌∙◌, arith, slice_index, nat_tests, get_or-map, Row, Image, Data}
use Rattle.am_ordering.proofs.SequencingWords.{place_of_name, life_of_name, row_at_place, row_of_name, blank_row, member_life_of_row, members_of_image, fits, split_on_bool_of_log}

known_life : (r : Row) (life : ℕ) → (r.life == life) ≡ true → nat_lt 0 r.joined ≡ true → r.left ≡ 0 → member_life_of_row r ≡ life
known_life r life same joined stays = grind (arith, nat_tests)

-- a name that has joined and not left sends what comes next
pub data_of_next_request_fits : (image : Image) (from req : ℕ) (body : List ℕ) → ((row_of_name image from).joined == 0) ≡ false → (row_of_name image from).left ≡ 0
    → req ≡ (row_of_name image from).last + 1 → fits image (Data from req body) ≡ true
unfolding fits
data_of_next_request_fits image from req body = split_on_bool_of_log ((row_at_place image from).life == life_of_name from)
    (λ t. rw t (λ known stays next.
    let joined : nat_lt 0 (row_at_place image from).joined ≡ true = grind (arith, nat_tests) in
    let life = known_life (row_at_place image from) (life_of_name from) t joined stays in
    let there : slice_index (members_of_image image) (place_of_name from) ≡ life_of_name from = get_or-map member_life_of_row image.rows (place_of_name from) blank_row ∙ life in
    grind (arith, nat_tests)))
    (λ f. rw f (λ known stays next. absurd (cc)))
