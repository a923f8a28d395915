-- A word is found exactly by its spelling.
use Rattle.tp_syntax.proofs.ReservedWordsByLength.{words_are_spelled}
use Rattle.tp_syntax.proofs.lexer.words_are_spelled.Goals as goal

pub returns : goal.returns
returns c = words_are_spelled
