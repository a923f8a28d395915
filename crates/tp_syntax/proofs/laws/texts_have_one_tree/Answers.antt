-- A text has one tree.
use Rattle.tp_syntax.proofs.WholeTexts.{one_text_tree}
use Rattle.tp_syntax.proofs.laws.texts_have_one_tree.Goals as goal

pub returns : goal.returns
returns c = one_text_tree
