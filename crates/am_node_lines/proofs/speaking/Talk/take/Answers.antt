use Rattle.std.proofs.Common.{◌≡◌, ◌==◌, false, arith}
use Rattle.std.proofs.lemmas.Bool.Decides.{nat_tests}
use Rattle.am_node_lines.proofs.Talks.{talk_goes_on_with_byte, talk_goes_on_past_limit}
use Rattle.am_node_lines.proofs.speaking.Talk.take.Goals as goal

pub returns-then-len-le-MOST_LINE-clause-talks : goal.returns-then-len-le-MOST_LINE-clause-talks
returns-then-len-le-MOST_LINE-clause-talks g c =
    let ne = c.if-byte-eq10.false in
    let other : (c.args.byte == 10) ≡ false = grind (arith, nat_tests) in
    λ rules first start given t. talk_goes_on_with_byte rules first start _ given _ _ _ c.args.byte other (omega (arith, c.len.ensures, c.if-len-le-MOST_LINE.true, c.args.self.now.line.ok)) c.push_reserved.ensures.items t

pub returns-else-len-le-MOST_LINE-clause-talks : goal.returns-else-len-le-MOST_LINE-clause-talks
returns-else-len-le-MOST_LINE-clause-talks g c =
    let ne = c.if-byte-eq10.false in
    let other : (c.args.byte == 10) ≡ false = grind (arith, nat_tests) in
    λ rules first start given t. talk_goes_on_past_limit rules first start _ given _ _ c.args.byte other (omega (arith, c.len.ensures, c.if-len-le-MOST_LINE.false, c.args.self.now.line.ok)) t
