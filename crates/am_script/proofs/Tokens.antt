-- Tokens beside the data of the value that they are of.
use Rattle.std.proofs.Common.{◌≡◌, ◌<◌, List, [], ◌∷◌, length, true, false, sym, subst, arith}
use Rattle.std.specs.List.{list_all}
use Rattle.json.specs.Token.{Token}
use Rattle.am_script.specs.Seen.{is_in_range}

pub first_token_out_of_range : (ts rest : List Token) (t : Token) → ts ≡ t ∷ rest → is_in_range t ≡ false → false ≡ list_all is_in_range ts
first_token_out_of_range ts rest t is out = rw (is, out)

pub first_token_in_range : (ts rest : List Token) (t : Token) → ts ≡ t ∷ rest → is_in_range t ≡ true → list_all is_in_range ts ≡ list_all is_in_range rest
first_token_in_range ts rest t is fits = rw (is, fits)

pub no_token_is_in_range : (ts : List Token) → ts ≡ [] → true ≡ list_all is_in_range ts
no_token_is_in_range ts is = rw is

pub tokens_left_are_fewer : (ts rest : List Token) (t : Token) → ts ≡ t ∷ rest → length rest < length ts
tokens_left_are_fewer ts rest t is = subst (λ (x : List Token). length rest < length x) (sym is) (omega arith)
