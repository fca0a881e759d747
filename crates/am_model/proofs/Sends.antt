-- The entry that a send becomes.
use Rattle.am_model.proofs.EndWords.{◌≡◌, ℕ, true, List, arith, nat_tests, Entry, Data, Join, Leave, View, is_data_of}

-- an entry that is the Data of a send has its sender and its request, and some body
pub data_of_own_request : (who req : ℕ) (e : Entry) → is_data_of who req e ≡ true → (body : List ℕ) × (e ≡ Data who req body)
data_of_own_request who req (Data from r body) is =
    let a : from ≡ who = grind (arith, nat_tests) in
    let b : r ≡ req = grind (arith, nat_tests) in
    (body, λ k. Data (a k) (b k) body)
data_of_own_request who req _ is = absurd (cc)
