use Rattle.am_model_laws.proofs.Rows.{data_row_goes_on}
use Rattle.am_model_laws.proofs.laws.rows.Goals as goal

pub returns-clause-data : goal.returns-clause-data
returns-clause-data c = data_row_goes_on
