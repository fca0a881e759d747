use Rattle.std.proofs.Common.{◌≡◌, ℕ, length, List, ◌++◌, Vec, Global}
use Rattle.std.proofs.Common.{sym, ap, ◌∙◌, subst, arith}
use Rattle.am_service_defs.specs.declared.setting.Setting.{Setting}
use Rattle.am_service_defs.specs.Values.{IsKey}
use Rattle.am_service_defs.specs.Contents.{Contents}
use Rattle.am_directory.specs.Kept.{contents_in}
use Rattle.am_service_defs.specs.Snapshots.{head_bytes, setting_bytes, snapshot_of}
use Rattle.am_directory.proofs.Loops.{SnapshotIsWrittenUpTo, snapshot_written_before_first, key_to_write_is_key, snapshot_written_with_setting, snapshot_is_all_written}
use Rattle.am_directory.proofs.directory.Directory.snapshot.Goals as goal

pub loop-key-init : goal.loop-key-init
loop-key-init c =
    let head : c.push_head.new.bytes.items ≡ head_bytes c.args.join (length c.args.self.now) = c.in_ok-push_head.ensures
    ∙ ap (λ (b : List ℕ). b ++ head_bytes c.args.join c.len.result) c.new-bytes.ensures.items ∙ ap (λ (n : ℕ). head_bytes c.args.join n) c.len.ensures.len in
    let all : contents_in c.into_iter-key-iterator.result ≡ c.args.self.now = ap (λ (es : List (Vec ℕ Global × Setting)). contents_in es)
    c.into_iter-key-iterator.ensures.into_iter_gives ∙ c.iter-key-items.ensures.rest in
    subst (λ (rest : Contents). SnapshotIsWrittenUpTo c.push_head.new.bytes.items rest (snapshot_of c.args.self.now c.args.join)) (sym all)
    (snapshot_written_before_first c.args.self.now c.args.join c.push_head.new.bytes.items c.iter-key-items.ensures.within head)

pub push_setting-requires : goal.push_setting-requires
push_setting-requires c =
    let w = subst (λ (es : List (Vec ℕ Global × Setting)). SnapshotIsWrittenUpTo c.loop-key.bytes.items (contents_in es) (snapshot_of c.args.self.now c.args.join))
    c.in-Some.ensures.steps c.loop-key.invariant in
    subst (λ (key : List ℕ). IsKey key) (sym c.as_slice.ensures.value)
    (key_to_write_is_key c.loop-key.bytes.items c.in-Some.key.now.items c.in-Some.setting.now (contents_in c.next.new.self) (snapshot_of c.args.self.now
    c.args.join) w)

pub loop-key-preserved : goal.loop-key-preserved
loop-key-preserved c =
    let w = subst (λ (es : List (Vec ℕ Global × Setting)). SnapshotIsWrittenUpTo c.loop-key.bytes.items (contents_in es) (snapshot_of c.args.self.now c.args.join))
    c.in-Some.ensures.steps c.loop-key.invariant in
    snapshot_written_with_setting c.loop-key.bytes.items c.in-Some.key.now.items c.in-Some.setting.now (contents_in c.next.new.self) (snapshot_of c.args.self.now
    c.args.join) c.push_setting.new.bytes.items w
    (c.in_ok-push_setting.ensures ∙ ap (λ (key : List ℕ). c.loop-key.bytes.items ++ setting_bytes (key, c.in-Some.setting.now)) c.as_slice.ensures.value)

pub returns-clause-value : goal.returns-clause-value
returns-clause-value c =
    let w = subst (λ (es : List (Vec ℕ Global × Setting)). SnapshotIsWrittenUpTo c.loop-key.bytes.items (contents_in es) (snapshot_of c.args.self.now c.args.join))
    c.in-None.ensures.steps.0 c.loop-key.invariant in
    snapshot_is_all_written c.loop-key.bytes.items (snapshot_of c.args.self.now c.args.join) w

pub returns-clause-fits : goal.returns-clause-fits
returns-clause-fits c = omega (arith, c.loop-key.invariant.room)
