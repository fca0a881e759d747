-- A Data leaves the members as they were.
use Rattle.am_node_defs.proofs.Words.{◌≡◌, ℕ, ◌+◌, ◌-◌, ◌<◌, List, ◌==◌, Some, refl, sym, ap, ◌∙◌, arith, map-set_same, Image, Data, place_of_name, life_of_name, row_at_place}
use Rattle.am_node_defs.proofs.Words.{blank_row, member_life_of_row, members_of_image, log_members_at, log_image_at, log_entry_at, after, image_of_log, top_of_log, Log, log_with_entry}
use Rattle.am_node_defs.proofs.{Folds.split_on_bool_of_log, Ends.told_by_pushed_entry, Ends.image_at_next_number}

pub members_of_after_data : (image : Image) (number from req : ℕ) (body : List ℕ) → members_of_image (after image number (Data from req body)) ≡ members_of_image image
unfolding after
members_of_after_data image number from req body = split_on_bool_of_log ((row_at_place image from).life == life_of_name from)
    (λ t. rw t (map-set_same member_life_of_row image.rows (place_of_name from) (record (row_at_place image from) { last = req }) blank_row refl))
    (λ f. rw f refl)

pub members_after_pushed_data : (log : Log) (from req : ℕ) (body : List ℕ) → members_of_image (image_of_log (log_with_entry log (Data from req body))) ≡ members_of_image (image_of_log log)
members_after_pushed_data log from req body = ap members_of_image (told_by_pushed_entry log (Data from req body)) ∙ members_of_after_data (image_of_log log) (top_of_log log + 1) from req body

-- the members after a Data of a list are those before it
pub members_at_number_of_data : (log : Log) (number from req : ℕ) (body : List ℕ) → log.start < number → log_entry_at log number ≡ Some (Data from req body)
    → log_members_at log number ≡ log_members_at log (number - 1)
members_at_number_of_data log number from req body low is =
    let at : number - 1 + 1 ≡ number = omega arith in
    ap (log_members_at log) (sym at) ∙ ap members_of_image (image_at_next_number log (number - 1) (Data from req body) (omega arith) (ap (log_entry_at log) at ∙ is))
    ∙ members_of_after_data (log_image_at log (number - 1)) (number - 1 + 1) from req body
