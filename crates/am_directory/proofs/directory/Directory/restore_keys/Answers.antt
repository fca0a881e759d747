use Rattle.std.proofs.Common.{◌≡◌, Bool, cond}
use Rattle.std.proofs.Common.{Some, None, sym, ap, ◌∙◌, subst, inr}
use Rattle.std.specs.Option.{option_copied}
use Rattle.am_service_defs.specs.Contents.{Contents}
use Rattle.am_service_defs.specs.Commands.{is_empty}
use Rattle.am_directory.specs.Reading.{setting_read}
use Rattle.am_service_defs.proofs.Limits.{setting_read_is_within}
use Rattle.am_directory.proofs.Loops.{SettingsAreRestoredUpTo, settings_restored_before_first, settings_in_without_next, settings_restored_with_next, settings_in_are_all_restored, restored_contents_have_room, is_empty_is_length_zero}
use Rattle.am_directory.proofs.directory.Directory.restore_keys.Goals as goal
use Rattle.am_directory.proofs.directory.Directory.restore_keys.Goals.{then-is_empty, else-is_empty}

pub loop-init : goal.loop-init
loop-init c = subst (λ (d : Contents). SettingsAreRestoredUpTo c.args.count c.args.bytes.now 0 None c.args.bytes.now d) (sym c.new-directory.ensures) (settings_restored_before_first
    c.args.count c.args.bytes.now)

pub returns-in_default : goal.returns-in_default
returns-in_default c = settings_in_without_next c.args.count c.args.bytes.now c.loop.counter (option_copied c.loop.last) c.loop.rest.now c.loop.directory
    c.loop.invariant c.loop-test.true (sym c.in_default.ensures)

pub set-requires-clause-key : goal.set-requires-clause-key
set-requires-clause-key c = (setting_read_is_within (option_copied c.loop.last) c.loop.rest.now (setting_read c.in-Some.read) (sym c.in-Some.ensures)).key

pub set-requires-clause-value : goal.set-requires-clause-value
set-requires-clause-value c = (setting_read_is_within (option_copied c.loop.last) c.loop.rest.now (setting_read c.in-Some.read) (sym c.in-Some.ensures)).value

pub set-requires-clause-room : goal.set-requires-clause-room
set-requires-clause-room c = inr (restored_contents_have_room c.args.count c.args.bytes.now c.loop.counter (option_copied c.loop.last) c.loop.rest.now c.loop.directory
    c.loop.invariant c.loop-test.true c.requires)

pub loop-preserved : goal.loop-preserved
loop-preserved c = settings_restored_with_next c.args.count c.args.bytes.now c.loop.counter (option_copied c.loop.last) c.loop.rest.now c.loop.directory c.set.new.self
    (setting_read c.in-Some.read) c.loop.invariant c.loop-test.true (sym c.in-Some.ensures) c.in_ok-set.ensures.set

pub returns : goal.returns
returns c =
    let all = settings_in_are_all_restored c.args.count c.args.bytes.now c.loop.counter (option_copied c.loop.last) c.loop.rest.now c.loop.directory c.loop.invariant
    c.loop-test.false in
    let test : c.is_empty.result ≡ is_empty c.loop.rest.now = c.is_empty.ensures ∙ is_empty_is_length_zero c.loop.rest.now in
    elim c.if-is_empty.branch [
      | then-is_empty w ↦ w.result-is ∙ ap (λ (b : Bool). cond b (Some c.loop.directory) None) (sym w.if-is_empty.true ∙ test) ∙ all
      | else-is_empty w ↦ w.result-is ∙ ap (λ (b : Bool). cond b (Some c.loop.directory) None) (sym w.if-is_empty.false ∙ test) ∙ all
    ]
