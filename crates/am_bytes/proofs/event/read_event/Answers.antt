use Rattle.std.proofs.Common.{◌≡◌, length, sym, arith, rules}
use Rattle.std.proofs.lemmas.Grind.{common_steps}
use Rattle.am_bytes.proofs.Cuts.{event_of_no_bytes}
use Rattle.am_bytes.proofs.event.read_event.Goals as goal

pub returns-then-is_empty : goal.returns-then-is_empty
returns-then-is_empty c =
    let none : length c.args.bytes.now ≡ 0 = first_of (search rules, grind (arith, common_steps)) in
    sym (event_of_no_bytes c.args.bytes.now none)
