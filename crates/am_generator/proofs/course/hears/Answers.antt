use Rattle.am_world.proofs.Words.{◌++◌, None, sym, ap, ◌∙◌, option_copied, letter_at, flag_of}
use Rattle.am_generator.specs.Courses.{no_flags}
use Rattle.am_generator.proofs.Courses.{no_name_is_flagged, heard_letter_spells_packet}
use Rattle.am_world.proofs.Heard.{hears_without_packet, hears_packet_for_others, hears_packet_bytes}
use Rattle.am_generator.proofs.course.hears.Goals as goal

pub returns-in_default-clause-asks : goal.returns-in_default-clause-asks
returns-in_default-clause-asks c = hears_without_packet None c.args.name (flag_of no_flags c.args.name) (letter_at c.args.letters.now c.args.number) (sym c.letter_at.ensures ∙ ap option_copied c.in_default.is)

pub returns-then-not-is_for-clause-asks : goal.returns-then-not-is_for-clause-asks
returns-then-not-is_for-clause-asks c =
    let there = sym c.letter_at.ensures ∙ ap option_copied c.in-Some.is in
    hears_packet_for_others None c.args.name (flag_of no_flags c.args.name) (letter_at c.args.letters.now c.args.number) c.in-Some.letter.now there (sym c.is_for.ensures ∙ c.if-not-is_for.true)

pub returns-clause-asks : goal.returns-clause-asks
returns-clause-asks c =
    let there = sym c.letter_at.ensures ∙ ap option_copied c.in-Some.is in
    let bytes = c.of.ensures ∙ c.in_ok-extend_from_slice.ensures.items ∙ ap (λ xs. xs ++ c.bytes.result.now) c.clear.ensures.items
    ∙ c.bytes.ensures.value in
    hears_packet_bytes None c.args.name (flag_of no_flags c.args.name) (letter_at c.args.letters.now c.args.number) c.in-Some.letter.now c.of.result there
    (sym c.is_for.ensures ∙ c.if-not-is_for.false) (no_name_is_flagged c.args.name) bytes

pub returns-clause-spells : goal.returns-clause-spells
returns-clause-spells c =
    heard_letter_spells_packet c.args.letters.now c.args.number c.in-Some.letter.now (sym c.letter_at.ensures ∙ ap option_copied c.in-Some.is) c.bytes.ensures.packet
