use Rattle.std.proofs.Common.{ℕ, ◌<◌, ap, ◌∙◌, arith}
use Rattle.std.specs.Ordering.{nat_cmp}
use Rattle.std.specs.BTreeMap.{get}
use Rattle.am_audit_defs.specs.Verdicts.{is_at}
use Rattle.am_audit.specs.Views.{texts_in}
use Rattle.am_audit.specs.Keeping.{send_key}
use Rattle.am_audit.proofs.Keys.{stands_by_keys_is_stands}
use Rattle.am_audit.proofs.lists.stands_there.Goals as goal

pub returns : goal.returns
returns c =
    let low : c.args.answer.now.req < 4294967296 = omega arith in
    c.is_at.ensures ∙ ap (λ (key : ℕ). is_at c.args.answer.now.number (get nat_cmp c.args.map.now key)) c.send_key.ensures
    ∙ ap (is_at c.args.answer.now.number) (c.requires (send_key c.args.answer.now.name c.args.answer.now.req)
    ∙ stands_by_keys_is_stands 1 c.args.answer.now.name c.args.answer.now.req (texts_in c.args.group.now) low)
