use Rattle.std.proofs.Common.{refl}
use Rattle.am_race_laws.proofs.laws.places_and_callers_have_keys.Goals as goal

pub returns : goal.returns
returns c = λ records. record { place = λ place. refl; caller = λ caller. refl }
