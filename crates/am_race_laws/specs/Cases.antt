-- Two receives of three turns each, at one node, as their thread may leave them.
use Rattle.std.specs.Prelude.{◌≡◌, ℕ, List, [], ◌∷◌, Bool, true, false}
use Rattle.am_base.specs.declared.entry.Entry.TheVariants.{Join}
use Rattle.am_base.specs.declared.outcome.Outcome.{Outcome}
use Rattle.am_base.specs.declared.outcome.Outcome.TheVariants as said
use Rattle.am_group.specs.declared.event.Act.{Act}
use Rattle.am_group.specs.declared.event.Act.TheVariants as act
use Rattle.am_group.specs.declared.event.Part.{Part}
use Rattle.am_group.specs.declared.event.Part.TheVariants.{Call, Turn}
use Rattle.am_group.specs.declared.event.Record.{Record}
use Rattle.am_race_laws.specs.Callers.{is_callers, are_finished}

abbrev pub done_by : ℕ → Part → Act → Outcome → Record
done_by call part a outcome = record {
  event = record { node = 1; act = a };
  life = 1;
  by = record { caller = 0; call = call; part = part };
  outcome = outcome;
  packets = [];
}

abbrev pub took : Record
took = done_by 0 Call act.Take (said.Took 1 (Join 1))

abbrev pub turn : Record
turn = done_by 1 (Turn 0) act.Tick said.Idle

abbrev pub empty : Record
empty = done_by 1 Call act.Take said.Empty

-- whether records are those of the calls, and of finished calls where the node stopped or didn't
pub record RecordsAreOfCalls (records : List Record) (callers finished stopped : Bool) : Type 0 where
  pub callers_ : is_callers 3 (act.Take ∷ act.Take ∷ []) records ≡ callers
  pub finished_ : are_finished 3 false 0 (act.Take ∷ act.Take ∷ []) records ≡ finished
  pub stopped_ : are_finished 3 true 0 (act.Take ∷ act.Take ∷ []) records ≡ stopped

-- the second comes to its end without an answer: by its turns, before its first, or not at all
pub record ReceivesUseTheirTurns : Type 0 where
  pub used : RecordsAreOfCalls (took ∷ turn ∷ turn ∷ turn ∷ empty ∷ []) true true true
  pub early : RecordsAreOfCalls (took ∷ empty ∷ []) true false false
  pub later : RecordsAreOfCalls (took ∷ turn ∷ empty ∷ []) true false false
  pub unended : RecordsAreOfCalls (took ∷ turn ∷ []) true false true
