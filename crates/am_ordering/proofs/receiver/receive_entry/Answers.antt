use Rattle.am_ordering.proofs.ReceivingWords.{refl, sym, ap, ◌∙◌, arith, top_of_log, Parts, set_of_one_name, store_numbered_entry, node_of, untrimmed_node_ends_itself, reply_with_telling}
use Rattle.am_ordering.proofs.ReceivingWords.{equal_reply_of_equal_plan, reply_quiet_with_outcome, reply_tells_one_note}
use Rattle.am_base.specs.declared.outcome.Outcome.TheVariants as said
use Rattle.am_node_parts.specs.declared.reply.Note.TheVariants as note
use Rattle.am_ordering.proofs.ReceivingRows.{receive_entry_of_stored_number, receive_entry_past_own_leave, receive_entry_above_gap, receive_entry_of_past_base, receive_entry_of_next_number}
use Rattle.am_ordering.proofs.receiver.receive_entry.Goals as goal

pub returns-then-told-top : goal.returns-then-told-top
returns-then-told-top c =
    let told = c.args.told in
    let found = c.args.found in
    let old = node_of c.args.parts.now in
    let top = c.top-top.ensures.value ∙ ap (λ (p : Parts). top_of_log p.core.log) c.parts.view_is in
    equal_reply_of_equal_plan (receive_entry_of_stored_number old told.sender told.base told.number found.known found.missing (omega arith)) c.quiet.ensures (reply_quiet_with_outcome old old _ (untrimmed_node_ends_itself old))

pub returns-then-has_own_leave : goal.returns-then-has_own_leave
returns-then-has_own_leave c =
    let told = c.args.told in
    let found = c.args.found in
    let old = node_of c.args.parts.now in
    let top = c.top-top.ensures.value ∙ ap (λ (p : Parts). top_of_log p.core.log) c.parts.view_is in
    equal_reply_of_equal_plan (receive_entry_past_own_leave old told.sender told.base told.number found.known found.missing (omega arith) (sym c.has_own_leave.ensures
    ∙ c.if-has_own_leave.true)) c.quiet-then-has_own_leave.ensures (reply_quiet_with_outcome old old _ (untrimmed_node_ends_itself old))

pub returns-then-top-told : goal.returns-then-top-told
returns-then-top-told c =
    let told = c.args.told in
    let found = c.args.found in
    let old = node_of c.args.parts.now in
    let top = c.top-top.ensures.value ∙ ap (λ (p : Parts). top_of_log p.core.log) c.parts.view_is in
    equal_reply_of_equal_plan (receive_entry_above_gap old told.sender told.base told.number c.top-top.result found.known found.missing top c.if-top-told.true
    (sym c.has_own_leave.ensures ∙ c.if-has_own_leave.false)) (c.saying.ensures ∙ ap (reply_with_telling (said.Gap _)) c.note_to-nack.ensures)
    (reply_tells_one_note old old _ (set_of_one_name told.sender) note.Nack tt (untrimmed_node_ends_itself old))

pub returns-then-parts-told : goal.returns-then-parts-told
returns-then-parts-told c =
    let told = c.args.told in
    let found = c.args.found in
    let old = node_of c.args.parts.now in
    let top = c.top-top.ensures.value ∙ ap (λ (p : Parts). top_of_log p.core.log) c.parts.view_is in
    let taken = ap (λ (p : Parts). p.core.taken) c.parts.view_is in
    equal_reply_of_equal_plan (receive_entry_of_past_base old told.sender told.base told.number found.known found.missing (omega arith) (sym c.has_own_leave.ensures
    ∙ c.if-has_own_leave.false) (omega arith)) c.quiet-then-parts-told.ensures (reply_quiet_with_outcome old old _ (untrimmed_node_ends_itself old))

pub returns-in-Some : goal.returns-in-Some
returns-in-Some c =
    let told = c.args.told in
    let found = c.args.found in
    let old = node_of c.args.parts.now in
    let top = c.top-top.ensures.value ∙ ap (λ (p : Parts). top_of_log p.core.log) c.parts.view_is in
    let taken = ap (λ (p : Parts). p.core.taken) c.parts.view_is in
    equal_reply_of_equal_plan (receive_entry_of_next_number old told.sender told.base told.number found.known found.missing (omega arith) (sym c.has_own_leave.ensures
    ∙ c.if-has_own_leave.false) (omega arith) ∙ ap (λ e. store_numbered_entry old told.sender told.number e found.missing) c.in-Some.is) refl
    (c.store.ensures found.missing)

pub returns-in-None : goal.returns-in-None
returns-in-None c =
    let told = c.args.told in
    let found = c.args.found in
    let old = node_of c.args.parts.now in
    let top = c.top-top.ensures.value ∙ ap (λ (p : Parts). top_of_log p.core.log) c.parts.view_is in
    let taken = ap (λ (p : Parts). p.core.taken) c.parts.view_is in
    equal_reply_of_equal_plan (receive_entry_of_next_number old told.sender told.base told.number found.known found.missing (omega arith) (sym c.has_own_leave.ensures
    ∙ c.if-has_own_leave.false) (omega arith) ∙ ap (λ e. store_numbered_entry old told.sender told.number e found.missing) c.in-None.is)
    (c.saying-in-None.ensures ∙ ap (reply_with_telling found.missing) c.note_to.ensures)
    (reply_tells_one_note old old _ (set_of_one_name told.sender) note.Nack tt (untrimmed_node_ends_itself old))
