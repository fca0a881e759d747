-- Wires and seats as contracts see them.
use Rattle.std.specs.Prelude.{◌≡◌, ◌<◌, List, [], ◌∷◌, length, false}
use Rattle.atomic_table.specs.Seated.{TableId}
use Rattle.am_shared_journal_defs.specs.declared.terms.Terms.{Terms}
use Rattle.am_shared_journal_defs.specs.Passes.{Known}
use Rattle.am_shared_journal.specs.declared.rule.SeatView.{SeatView}
use Rattle.am_shared_journal.specs.Seats.{no_terms}

-- a wire: which one it is, and its terms
pub record WireLine : Type 0 where
  pub id : TableId
  pub terms : Terms

-- the pass of the one seat
abbrev pub known_by : TableId → List SeatView → Known
known_by wire [] = record { wire = wire; terms = no_terms; keys = []; seen = [] }
known_by wire (v ∷ vs) = record { wire = wire; terms = v.terms; keys = v.keys; seen = v.seen }

-- there is one seat, between two calls, and it has a key
pub record OneSeatRests (views : List SeatView) : Type 0 where
  pub its : SeatView
  pub one : views ≡ its ∷ []
  pub turn : its.turn ≡ false
  pub older : its.older ≡ []
  pub keyed : 0 < length its.keys
