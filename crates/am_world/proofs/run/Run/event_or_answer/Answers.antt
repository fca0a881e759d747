use Rattle.am_world.proofs.Words.{◌≡◌, ◌++◌, Some, None, sym, ap, ◌∙◌, option_copied, letters_of_records, letter_at, state_of, flag_of, first_bytes}
use Rattle.am_world.proofs.Words.{heard_of}
use Rattle.am_base.specs.declared.event.NodeEvent.TheVariants as does
use Rattle.am_base.specs.declared.outcome.Outcome.TheVariants as said
use Rattle.am_journal.specs.declared.asked.Asked.TheVariants as asked
use Rattle.am_world.proofs.Heard.{hears_without_packet, hears_packet_for_others, hears_of_stopped_name, hears_packet_bytes, found_letter_is_packet, call_is_asked_as_event, call_spells_no_packet, hearing_comes_in_replay}
use Rattle.am_world.proofs.Goes.{asked_event_comes_in_replay, if_ok_with_both}
use Rattle.am_world.proofs.run.Run.event_or_answer.Goals as goal

pub returns-in_default-clause-comes : goal.returns-in_default-clause-comes
returns-in_default-clause-comes c =
    let w = c.self.inside in
    let e = c.args.event.now in
    let letters = letters_of_records w.journal.records in
    let nothing : heard_of e.act ≡ None = sym c.heard_by.ensures ∙ c.in_default.is in
    if_ok_with_both c.call_or_answer.result _ _ _ (λ r is _. asked_event_comes_in_replay c.args.self.now w.journal.founding w.nodes.items w.lives w.stopped w.journal.records
    w.group.items e (state_of c.node.result.now) c.status.result
    c.has_departed-has_departed.result c.name_at-name.result r c.self.view_is c.self.invariant c.name_at-name.ensures c.node.ensures c.status.ensures
    c.has_departed-has_departed.ensures
    (is ∙ call_is_asked_as_event letters w.stopped c.has_departed-has_departed.result c.name_at-name.result e.act nothing)
    (call_spells_no_packet letters e.act r nothing))
    c.call_or_answer.ensures c.call_or_answer.ensures

pub returns-in_default-packet-clause-comes : goal.returns-in_default-packet-clause-comes
returns-in_default-packet-clause-comes c =
    let w = c.self.inside in
    hearing_comes_in_replay c.args.self.now w.journal.founding w.nodes.items w.lives w.stopped w.journal.records w.group.items c.args.event.now c.in-Some.heard
    c.name_at-name.result (asked.Answer said.NoPacket) c.self.view_is c.self.invariant c.name_at-name.ensures (sym c.heard_by.ensures ∙ c.in-Some.is)
    (hears_without_packet _ _ _ _ (sym c.packet.ensures ∙ ap option_copied c.in_default-packet.is)) tt

pub returns-then-not-is_for-clause-comes : goal.returns-then-not-is_for-clause-comes
returns-then-not-is_for-clause-comes c =
    let w = c.self.inside in
    let there = sym c.packet.ensures ∙ ap option_copied c.in-Some-packet.is in
    hearing_comes_in_replay c.args.self.now w.journal.founding w.nodes.items w.lives w.stopped w.journal.records w.group.items c.args.event.now c.in-Some.heard
    c.name_at-name.result (asked.Answer said.NotAddressed) c.self.view_is c.self.invariant c.name_at-name.ensures (sym c.heard_by.ensures ∙ c.in-Some.is)
    (hears_packet_for_others _ _ _ _ c.in-Some-packet.letter.now there (sym c.is_for.ensures ∙ c.if-not-is_for.true)) tt

pub returns-then-is_stopped-clause-comes : goal.returns-then-is_stopped-clause-comes
returns-then-is_stopped-clause-comes c =
    let w = c.self.inside in
    let there = sym c.packet.ensures ∙ ap option_copied c.in-Some-packet.is in
    hearing_comes_in_replay c.args.self.now w.journal.founding w.nodes.items w.lives w.stopped w.journal.records w.group.items c.args.event.now c.in-Some.heard
    c.name_at-name.result (asked.Answer said.IsStopped) c.self.view_is c.self.invariant c.name_at-name.ensures (sym c.heard_by.ensures ∙ c.in-Some.is)
    (hears_of_stopped_name _ _ _ _ c.in-Some-packet.letter.now there (sym c.is_for.ensures ∙ c.if-not-is_for.false) (sym c.is_stopped.ensures ∙ c.if-is_stopped.true))
    tt

pub returns-clause-comes : goal.returns-clause-comes
returns-clause-comes c =
    let w = c.self.inside in
    let h = c.in-Some.heard in
    let letter = c.in-Some-packet.letter.now in
    let found = letter_at (letters_of_records w.journal.records) h.packet in
    let there : found ≡ Some letter = sym c.packet.ensures ∙ ap option_copied c.in-Some-packet.is in
    let bytes = c.of.ensures ∙ c.in_ok-extend_from_slice.ensures.items ∙ ap (λ xs. xs ++ c.first_bytes.result.now) c.clear.ensures.items
    ∙ c.first_bytes.ensures ∙ ap (first_bytes h.keep) c.bytes.ensures.value in
    let heard = hears_packet_bytes h.keep c.name_at-name.result (flag_of w.stopped c.name_at-name.result) found letter c.of.result there
    (sym c.is_for.ensures ∙ c.if-not-is_for.false) (sym c.is_stopped.ensures ∙ c.if-is_stopped.false) bytes in
    hearing_comes_in_replay c.args.self.now w.journal.founding w.nodes.items w.lives w.stopped w.journal.records w.group.items c.args.event.now h
    c.name_at-name.result (asked.Step (does.Hear c.of.result)) c.self.view_is c.self.invariant c.name_at-name.ensures
    (sym c.heard_by.ensures ∙ c.in-Some.is) heard (λ l is. found_letter_is_packet found letter l there c.bytes.ensures.packet is)
