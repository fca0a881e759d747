use Rattle.std.proofs.Common.{ℕ, sym, ◌∙◌, ap, arith}
use Rattle.am_node_defs.specs.Reports.{reports_of}
use Rattle.am_node_defs.proofs.ReportLaws.{least_found_so_far, least_of_past_empty_place, least_of_past_member}
use Rattle.am_node_storage.specs.Measures.{measured_number}
use Rattle.am_node_storage.proofs.fronts.Fronts.least_by.Goals.{then-life-gt0, else-life-gt0}
use Rattle.am_node_storage.proofs.fronts.Fronts.least_by.Goals as goal

pub loop-place-preserved : goal.loop-place-preserved
loop-place-preserved c =
    let measure = c.args.measure in
    let number : ℕ → ℕ = λ name. measured_number measure (reports_of c.args.self.now name) in
    let lives = c.each_life-lives.result in
    let place = c.loop-place.place in
    let found = c.loop-place.found in
    let least = c.loop-place.least in
    elim c.if-life-gt0.branch [
      | then-life-gt0 w ↦
          let is = ap (measured_number measure) (sym w.at.ensures) ∙ sym w.of-number.ensures in
          let more = least_of_past_member number found least lives place w.of-number.result 4294967295 (omega arith) w.if-life-gt0.true c.loop-place.invariant.none is
          (omega arith) in
          rw (w.found-is, w.least-is, w.min-least.ensures) (record {
            rest = sym more ∙ c.loop-place.invariant.rest;
            none = λ e. absurd (cc);
          })
      | else-life-gt0 w ↦
          let same = least_of_past_empty_place number (least_found_so_far found least) lives place (omega arith) (omega arith) in
          rw (w.found-is, w.least-is) (record {
            rest = sym same ∙ c.loop-place.invariant.rest;
            none = c.loop-place.invariant.none;
          })
    ]
