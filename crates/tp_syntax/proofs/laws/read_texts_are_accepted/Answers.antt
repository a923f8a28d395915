-- A text that is read as a module is not refused.
use Rattle.tp_syntax.proofs.AcceptedTexts.{read_texts_are_accepted}
use Rattle.tp_syntax.proofs.laws.read_texts_are_accepted.Goals as goal

pub returns : goal.returns
returns c = read_texts_are_accepted
