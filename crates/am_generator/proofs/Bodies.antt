-- The first bytes of a list that counts on.
use Rattle.am_generator.proofs.Words.{◌≡◌, ℕ, ◌+◌, ◌%◌, ◌<◌, ◌≤◌, List, length, take, get_or, ◌∙◌, arith, fill_by_all, length-take-le, get_or-take, most_drawn}
use Rattle.am_generator.proofs.Words.{counting}

pub filled_bytes_count_on : (bytes : List ℕ) (number size index : ℕ) → length bytes ≡ most_drawn → size ≤ most_drawn → size ≤ index
    → ((k : ℕ) → k < index → get_or bytes k 0 ≡ (number + k) % 256) → take size bytes ≡ counting number size
filled_bytes_count_on bytes number size index long few done all =
    fill_by_all (λ i. (number + i) % 256) (take size bytes) size 0 (length-take-le size bytes (omega arith))
    (λ k low. get_or-take size bytes k 0 low ∙ all k (omega arith))
