use Rattle.std.proofs.Common.{◌^◌, ◌≤◌, arith}
use Rattle.std.proofs.Math.Nat.{pow-le-pow_right}
use Rattle.am_packet.proofs.Numbers.{big_number-lt}
use Rattle.am_directory.proofs.field.uint_in.Goals as goal

pub overflow_cast-number : goal.overflow_cast-number
overflow_cast-number c =
    let below = big_number-lt c.args.count c.args.bytes.now (λ i. omega (arith, c.type_inv.bytes i)) in
    let most : 256 ^ c.args.count ≤ 256 ^ 4 = pow-le-pow_right (omega arith) c.requires.1 in
    omega (arith, c.read_uint-number.ensures, below, most)
