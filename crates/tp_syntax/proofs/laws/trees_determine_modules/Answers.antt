-- A module is read back from its tree.
use Rattle.tp_syntax.proofs.SameModules.{modules_told}
use Rattle.tp_syntax.proofs.laws.trees_determine_modules.Goals as goal

pub returns : goal.returns
returns c = modules_told
