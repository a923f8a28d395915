-- No text goes on with the refused token, and some text begins with those before it.
use Rattle.tp_syntax.proofs.WholeTexts.{refusal}
use Rattle.tp_syntax.proofs.laws.refusals_are_first.Goals as goal

pub returns : goal.returns
returns c = refusal
