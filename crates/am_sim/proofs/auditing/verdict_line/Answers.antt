use Rattle.std.proofs.Common.{ℕ, List, ◌++◌, Option, string_bytes, ap, ◌∙◌}
use Rattle.am_audit_defs.specs.declared.verdict.Verdict.{Verdict}
use Rattle.am_audit_defs.specs.Verdicts.{verdict_of, verdict_line}
use Rattle.am_sim.proofs.Answered.{verdict_line_is_audited}
use Rattle.am_sim.proofs.auditing.verdict_line.Goals as goal

pub returns-in-Ok-clause-audited : goal.returns-in-Ok-clause-audited
returns-in-Ok-clause-audited c =
    let read = c.in_ok-found.ensures in
    let found = c.in_ok-found.found in
    verdict_line_is_audited c.args.bytes.now (string_bytes c.push_audit.new.out) read.0 read.1 (c.in-Ok.ensures
    ∙ ap (λ (bytes : List ℕ). bytes ++ verdict_line found.verdict found.void_from) c.new-line.ensures.bytes
    ∙ ap (λ (verdict : Verdict). verdict_line verdict found.void_from) read.2
    ∙ ap (λ (void_from : Option ℕ). verdict_line (verdict_of read.0) void_from) read.3)
