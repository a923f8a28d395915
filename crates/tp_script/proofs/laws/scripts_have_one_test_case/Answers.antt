-- So it is.
use Rattle.tp_script.proofs.OneTestCase.{scripts_have_one_test_case}
use Rattle.tp_script.proofs.laws.scripts_have_one_test_case.Goals as goal

pub returns : goal.returns
returns c = scripts_have_one_test_case
