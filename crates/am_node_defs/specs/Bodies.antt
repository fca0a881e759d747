-- Bodies that are kept until they are numbered, the oldest first.
use Rattle.std.specs.Prelude.{ℕ, List, [], ◌∷◌, ◌++◌, length, drop, filter, find, Option, option_map, Bool, not, ◌==◌, ◌&&◌, nat_le, if◌then◌else◌}
use Rattle.std.specs.List.{list_any}
use Rattle.am_node_defs.specs.declared.bodies.KeptBody.{KeptBody}

-- the body is that of this name's send with this request
abbrev pub is_body_of_send : ℕ → ℕ → KeptBody → Bool
is_body_of_send from req kept = (kept.from == from) && (kept.req == req)

-- the body of this send, where it is kept
abbrev pub find_body : ℕ → ℕ → List KeptBody → Option (List ℕ)
find_body from req bodies = option_map (λ kept. kept.body) (find (is_body_of_send from req) bodies)

-- the bodies with one more at the end; where there are sixteen, without the oldest
abbrev pub bodies_with_newest : List KeptBody → KeptBody → List KeptBody
bodies_with_newest bodies kept = (if nat_le 16 (length bodies) then drop 1 bodies else bodies) ++ kept ∷ []

-- the bodies after one is to be kept: nothing that is there is replaced
abbrev pub keep_body : ℕ → ℕ → List ℕ → List KeptBody → List KeptBody
keep_body from req body bodies = if list_any (is_body_of_send from req) bodies then bodies else bodies_with_newest bodies (record { from = from; req = req; body = body })

-- the bodies without this name's up to a request
abbrev pub drop_bodies : ℕ → ℕ → List KeptBody → List KeptBody
drop_bodies from req bodies = filter (λ kept. not ((kept.from == from) && nat_le kept.req req)) bodies
