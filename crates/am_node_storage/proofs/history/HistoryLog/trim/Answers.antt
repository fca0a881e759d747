use Rattle.std.proofs.Common.{refl, ap, sym, ◌∙◌, arith}
use Rattle.am_node_defs.specs.Kept.{log_above}
use Rattle.am_node_defs.proofs.Ends.{above_start_is_log}
use Rattle.am_node_storage.specs.Histories.{HistoryState}
use Rattle.am_node_storage.proofs.Rings.{trim_above_one_more}
use Rattle.am_node_storage.proofs.history.HistoryLog.trim.Goals as goal

pub loop-number-init : goal.loop-number-init
loop-number-init c =
    let start = ap (λ (h : HistoryState). h.list.start) c.self.view_is in
    record { list = sym (above_start_is_log c.args.self.now.list) ∙ ap (log_above c.args.self.now.list) (sym start); capacity = refl }

pub loop-number-preserved : goal.loop-number-preserved
loop-number-preserved c =
    let start = ap (λ (h : HistoryState). h.list.start) c.self.view_is in
    let more = trim_above_one_more c.args.self.now.list c.loop-number.self.list c.let_go.new.self.list c.loop-number._number c.loop-number.invariant.list
    c.let_go.ensures.list (omega arith) (omega arith) in
    record { list = more; capacity = c.let_go.ensures.capacity ∙ c.loop-number.invariant.capacity }
