-- What the last record of a run is, and what it gives.
use Rattle.am_world.proofs.Words.{◌≡◌, ℕ, ◌-◌, [], ◌∷◌, ◌++◌, length, Some, slice_get, ap, ◌∙◌, arith, length-append, append-nil, sym, Event, Record}
use Rattle.am_world.proofs.Words.{Play, play_after, replay, record_of}
use Rattle.std.proofs.lemmas.Grind.{flat_map-append}
use Rattle.std.proofs.Common.{unwrap_or}
use Rattle.am_step_laws.proofs.Items.{slice_get_of_pushed}
use Rattle.am_group.specs.Deliveries.{entries_given_to, deliveries}
use Rattle.am_world.specs.Runs.{IsOneMore}

-- an event's record
abbrev its : (p : Play) (e : Event) → IsOneMore p e → Record
its p e more = record_of (replay p) e more.0 more.1.0

last_is : (p : Play) (e : Event) (more : IsOneMore p e)
    → slice_get (replay (play_after p e)).records (length (replay (play_after p e)).records - 1) ≡ Some (its p e more)
last_is p e more =
    let old = (replay p).records in
    let new = (replay (play_after p e)).records in
    let is : new ≡ old ++ its p e more ∷ [] = more.1.1 in
    let long = ap length is ∙ length-append old (its p e more ∷ []) in
    let at : length new - 1 ≡ length old = omega arith in
    ap (slice_get new) at ∙ ap (λ rs. slice_get rs (length old)) is ∙ slice_get_of_pushed old (its p e more)

gives_more : (p : Play) (e : Event) (more : IsOneMore p e) (name : ℕ)
    → deliveries (replay (play_after p e)).records name ≡ deliveries (replay p).records name ++ entries_given_to name (its p e more)
gives_more p e more name =
    let old = (replay p).records in
    ap (λ rs. deliveries rs name) more.1.1 ∙ flat_map-append (entries_given_to name) old (its p e more ∷ [])
    ∙ ap (λ xs. deliveries old name ++ xs) (append-nil (entries_given_to name (its p e more)))

-- so a name was given what a record gives that stands last after an event
pub last_record_gives_its_entry : (p : Play) (e : Event) (more : IsOneMore p e) (q : Play) (name : ℕ) (last : Record) → q ≡ play_after p e
    → Some last ≡ slice_get (replay q).records (length (replay q).records - 1)
    → deliveries (replay q).records name ≡ deliveries (replay p).records name ++ entries_given_to name last
last_record_gives_its_entry p e more q name last is at =
    let last_at = λ (r : Play). slice_get (replay r).records (length (replay r).records - 1) in
    let same : last ≡ its p e more = ap (λ o. unwrap_or o last) (at ∙ ap last_at is ∙ last_is p e more) in
    ap (λ r. deliveries (replay r).records name) is ∙ gives_more p e more name
    ∙ ap (λ r. deliveries (replay p).records name ++ entries_given_to name r) (sym same)
