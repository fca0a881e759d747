use Rattle.am_node_parts.proofs.Words.{List, ℕ, Option, option_map, sym, ap, ◌∙◌, with_letter, node_of}
use Rattle.am_node_parts.specs.declared.owning.WaitingSend.{WaitingSend}
use Rattle.am_node_parts.specs.Replies.{own_letters}
use Rattle.am_step_end.proofs.owning.hand_out.Goals as goal

abbrev parts_of : Option WaitingSend → Option (ℕ × List ℕ)
parts_of send = option_map {U = ℕ × List ℕ} (λ (s : WaitingSend). (s.req, s.body)) send

pub returns-in_default-clause-letters : goal.returns-in_default-clause-letters
returns-in_default-clause-letters c =
    c.requires.empty ∙ ap (λ w. own_letters c.args.to c.args.letter w (node_of c.end.new.self))
    (ap parts_of (sym c.in_default.is) ∙ c.next_send-waits.ensures.value)

pub returns-clause-letters : goal.returns-clause-letters
returns-clause-letters c =
    c.put.ensures ∙ (λ k. with_letter c.args.to (c.own_packet.ensures.value k) (c.requires.empty k))
    ∙ ap (λ w. own_letters c.args.to c.args.letter w (node_of c.end.new.self))
    (ap parts_of (sym c.in-Some.is) ∙ c.next_send-waits.ensures.value)
