use Rattle.json.specs.Value.{value_view}
use Rattle.am_script.proofs.Seeing.{get_of_json_data}
use Rattle.am_script.proofs.tree.at.Goals as goal

pub returns : goal.returns
returns c = get_of_json_data c.get.result (λ v. value_view v.now) _ _ (value_view c.args.value.now) c.word.ensures c.get.ensures
