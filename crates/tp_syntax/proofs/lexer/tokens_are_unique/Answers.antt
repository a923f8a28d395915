-- Two lists of tokens of one text are the same list.
use Rattle.tp_syntax.proofs.UniqueTokens.{tokens_are_unique}
use Rattle.tp_syntax.proofs.lexer.tokens_are_unique.Goals as goal

pub returns : goal.returns
returns c = tokens_are_unique
