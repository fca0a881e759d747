use Rattle.std.proofs.Common.{◌∙◌, arith}
use Rattle.std.specs.Fmt.{WritesInCalls}
use Rattle.std.proofs.Common.{subst}
use Rattle.am_script_defs.proofs.Digits.{encode_lower_is_hex_bytes}
use Rattle.am_report.proofs.Digits.{hex_digits_are_utf8}
use Rattle.am_report.proofs.entry.push_chunk.Goals as goal

pub unreachable-requires : goal.unreachable-requires
unreachable-requires g c = (c.in_default.ensures.cases).0 (hex_digits_are_utf8 c.args.bytes.now c.encode_to_slice.new.output (rw c.unwrap.ensures at c.encode_to_slice.ensures.written))

pub returns : goal.returns
returns g c =
    let digits = (c.in-Ok.ensures.cases).0 ∙ (rw c.unwrap.ensures at c.encode_to_slice.ensures.written) ∙ encode_lower_is_hex_bytes c.args.bytes.now (λ i. omega (arith, c.type_inv.bytes i)) in
    subst (λ words. WritesInCalls g.O.Writer.writes c.args.out.now words c.put.new.self) digits c.put.ensures
