use Rattle.std.proofs.Common.{sym, subst}
use Rattle.am_race_laws.specs.Boxes.{Boxed}
use Rattle.am_race_laws.specs.Lawful.{IsSent}
use Rattle.am_race_laws.proofs.Boxing.{open_box_sees_more_records}
use Rattle.am_race_laws.proofs.Turning.{sent_letter_stays_sent, sent_letter_is_there, found_letter_is_heard}
use Rattle.am_calls.proofs.node_box.NodeBox.letter.Goals as goal

pub invariant_of-self : goal.invariant_of-self
invariant_of-self g c = open_box_sees_more_records _ _ _ _ _ _ _ _ _ _ _ c.self.view_is c.self.invariant c.requires.open_ c.read.ensures.sees c.read.ensures.lawful

pub unreachable-requires : goal.unreachable-requires
unreachable-requires g c =
    sent_letter_is_there _ _ _ c.read.result c.read.ensures.letter
    (sent_letter_stays_sent _ _ _ _ c.read.ensures.sees.goes.begins (subst (λ (b : Boxed). IsSent b.seen b.name c.args.number) (sym c.self.view_is) c.requires.sent))
    c.in-None.is

pub returns-clause-hears : goal.returns-clause-hears
returns-clause-hears g c =
    found_letter_is_heard _ _ _ c.read.result c.in-Some.letter c.read.ensures.letter
    (sent_letter_stays_sent _ _ _ _ c.read.ensures.sees.goes.begins (subst (λ (b : Boxed). IsSent b.seen b.name c.args.number) (sym c.self.view_is) c.requires.sent))
    c.in-Some.is
    c.bytes-bytes.ensures.packet
