-- What is spelled is read, and what is read is spelled.
use Rattle.tp_syntax.proofs.WholeTexts.{told}
use Rattle.tp_syntax.proofs.laws.one_token_tells.Goals as goal

pub returns : goal.returns
returns c = told
