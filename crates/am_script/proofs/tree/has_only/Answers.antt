use Rattle.std.proofs.Common.{ap, sym, ◌∙◌}
use Rattle.std.specs.List.{list_all}
use Rattle.am_script_defs.specs.Keys.{is_among, has_only}
use Rattle.am_script.specs.Seen.{seen}
use Rattle.am_script.proofs.Seeing.{has_only_of_json_data}
use Rattle.am_script.proofs.tree.has_only.Goals as goal

pub returns-in-Object : goal.returns-in-Object
returns-in-Object c =
    c.are_known.ensures ∙ ap (list_all (λ m. is_among c.args.keys.now m.0.now)) c.as_slice.ensures.value ∙ has_only_of_json_data c.args.keys.now c.in-Object.members
    ∙ ap (λ t. has_only c.args.keys.now (seen t)) (sym c.in-Object.is)
