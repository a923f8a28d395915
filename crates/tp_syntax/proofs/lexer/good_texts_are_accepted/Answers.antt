-- A text with tokens within the limits is refused only because memory ran out.
use Rattle.tp_syntax.proofs.AcceptedTokenTexts.{good_texts_are_accepted}
use Rattle.tp_syntax.proofs.lexer.good_texts_are_accepted.Goals as goal

pub returns : goal.returns
returns c = good_texts_are_accepted
