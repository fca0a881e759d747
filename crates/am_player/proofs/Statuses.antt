-- What holds of a status where what is claimed of it follows from what is known.
use Rattle.std.proofs.Common.{◌≡◌, ◌≢◌, ℕ, List, Option, refl, ap}
use Rattle.std.specs.Io.KnownBytes.{Appends}
use Rattle.am_io.specs.Outside.{GaveMore, GaveAtMost}
use Rattle.am_script_defs.specs.declared.refusal.ScriptRefusal.{ScriptRefusal}
use Rattle.am_player.specs.declared.status.ExitStatus.{ExitStatus}
use Rattle.am_player.specs.declared.status.ExitStatus.TheVariants.{Done, BadScript, TooLong, ReadFault, WriteFault, Disagrees}
use Rattle.am_player.specs.Statuses.{OnDone, OnWriteFault, IfBadScript, IsOfRead, Writes, WroteTextPart, Took, Wrote, source_reads_after, sink_writes_after}

pub bad_script_by_implied_claim : (status : ExitStatus) {P Q : ScriptRefusal → Type 0} → ((cause : ScriptRefusal) → P cause → Q cause)
    → IfBadScript status P → IfBadScript status Q
bad_script_by_implied_claim (BadScript cause) more is = more cause is
bad_script_by_implied_claim _ more is = tt

-- ---- what was taken

pub status_took_what_was_given : {S : Type 0} (left : S → Option (List ℕ)) (count : S → ℕ) (limit : ℕ) (status : ExitStatus) (before after : S) → (IsOfRead status → ⊥)
    → GaveAtMost limit (left before) (left after) → count after ≡ count before → Took left count limit status before after
status_took_what_was_given left count limit TooLong before after other given same = absurd (other tt)
status_took_what_was_given left count limit ReadFault before after other given same = absurd (other tt)
status_took_what_was_given left count limit _ before after other given same = (given, same)

pub status_counts_reads : {S : Type 0} (left : S → Option (List ℕ)) (count : S → ℕ) (limit : ℕ) (status : ExitStatus) (before after : S)
    → Took left count limit status before after → count after ≡ source_reads_after status (count before)
status_counts_reads left count limit TooLong before after took = took.1
status_counts_reads left count limit ReadFault before after took = took.1
status_counts_reads left count limit _ before after took = took.1

pub status_took_more_than_limit : {S : Type 0} (left : S → Option (List ℕ)) (count : S → ℕ) (limit : ℕ) (status : ExitStatus) (before after : S)
    → status ≡ TooLong → Took left count limit status before after → GaveMore limit (left before) (left after)
status_took_more_than_limit left count limit TooLong before after is took = took.0
status_took_more_than_limit left count limit _ before after is took = absurd (cc)

pub status_took_at_most_limit : {S : Type 0} (left : S → Option (List ℕ)) (count : S → ℕ) (limit : ℕ) (status : ExitStatus) (before after : S)
    → status ≢ TooLong → Took left count limit status before after → GaveAtMost limit (left before) (left after)
status_took_at_most_limit left count limit TooLong before after other took = absurd (other refl)
status_took_at_most_limit left count limit _ before after other took = took.0

-- ---- what was written

pub status_wrote_by_implied_text : {K : Type 0} (contents : K → Option (List ℕ)) (count : K → ℕ) (Is More : List ℕ → Type 0) (status : ExitStatus) (before after : K)
    → ((text : List ℕ) → Is text → More text) → Wrote contents count Is status before after → Wrote contents count More status before after
status_wrote_by_implied_text contents count Is More Done before after more wrote = (wrote.0, more wrote.0 wrote.1, wrote.2, wrote.3)
status_wrote_by_implied_text contents count Is More Disagrees before after more wrote = (wrote.0, more wrote.0 wrote.1, wrote.2, wrote.3)
status_wrote_by_implied_text contents count Is More WriteFault before after more wrote = (wrote.0, more wrote.0 wrote.1, wrote.2, wrote.3)
status_wrote_by_implied_text contents count Is More _ before after more wrote = wrote

pub status_counts_writes : {K : Type 0} (contents : K → Option (List ℕ)) (count : K → ℕ) (Is : List ℕ → Type 0) (status : ExitStatus) (before after : K)
    → Wrote contents count Is status before after → count after ≡ sink_writes_after status (count before)
status_counts_writes contents count Is Done before after wrote = wrote.3
status_counts_writes contents count Is Disagrees before after wrote = wrote.3
status_counts_writes contents count Is WriteFault before after wrote = wrote.3
status_counts_writes contents count Is _ before after wrote = ap count wrote

pub status_wrote_part_of_text : {K : Type 0} (contents : K → Option (List ℕ)) (count : K → ℕ) (Is : List ℕ → Type 0) (status : ExitStatus) (before after : K)
    → Wrote contents count Is status before after → OnWriteFault status ((text : List ℕ) × Is text × WroteTextPart (contents before) (contents after) text)
status_wrote_part_of_text contents count Is WriteFault before after wrote = (wrote.0, wrote.1, wrote.2)
status_wrote_part_of_text contents count Is _ before after wrote = tt

pub status_wrote_whole_text : {K : Type 0} (contents : K → Option (List ℕ)) (count : K → ℕ) (Is : List ℕ → Type 0) (status : ExitStatus) (before after : K)
    → Wrote contents count Is status before after → OnDone status ((text : List ℕ) × Is text × Appends (contents before) (contents after) text)
status_wrote_whole_text contents count Is Done before after wrote = (wrote.0, wrote.1, wrote.2)
status_wrote_whole_text contents count Is Disagrees before after wrote = (wrote.0, wrote.1, wrote.2)
status_wrote_whole_text contents count Is _ before after wrote = tt

pub status_wrote_nothing : {K : Type 0} (contents : K → Option (List ℕ)) (count : K → ℕ) (Is : List ℕ → Type 0) (status : ExitStatus) (before after : K)
    → (Writes status → ⊥) → Wrote contents count Is status before after → after ≡ before
status_wrote_nothing contents count Is Done before after none wrote = absurd (none tt)
status_wrote_nothing contents count Is Disagrees before after none wrote = absurd (none tt)
status_wrote_nothing contents count Is WriteFault before after none wrote = absurd (none tt)
status_wrote_nothing contents count Is _ before after none wrote = wrote
