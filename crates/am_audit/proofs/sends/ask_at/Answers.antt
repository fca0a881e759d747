use Rattle.std.proofs.Common.{ℕ, ◌<◌, ◌==◌, Some, cond, ap, ◌∙◌, arith}
use Rattle.std.specs.Ordering.{nat_cmp}
use Rattle.std.specs.BTreeMap.{get}
use Rattle.am_audit.specs.Keeping.{send_key}
use Rattle.am_audit.proofs.Keys.{send_key_is_injective, on_ok_by_implied_claim}
use Rattle.am_audit.proofs.sends.ask_at.Goals as goal

pub returns : goal.returns
returns c = on_ok_by_implied_claim c.put.result c.put.ensures (λ put from req low.
    let few : c.args.send.now.number < 4294967296 = omega arith in
    let key = c.send_key.ensures ∙ ap (λ (n : ℕ). send_key n c.args.send.now.number) c.of_byte.ensures in
    put (send_key from req)
    ∙ ap (λ b. cond b (Some c.args.at) (get nat_cmp c.args.map.now (send_key from req)))
    (ap (λ (k : ℕ). k == send_key from req) key ∙ send_key_is_injective c.args.send.now.name c.args.send.now.number from req few low))
