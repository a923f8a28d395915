-- The line lies where the rest begins.
use Rattle.std.proofs.Common.{arith}
use Rattle.tp_judge.proofs.LineSpansInText.{piece_is, span_within}
use Rattle.tp_judge.proofs.referee.reading.span_of.Goals as goal

pub returns-clause-piece : goal.returns-clause-piece
returns-clause-piece c = piece_is c.args.text.now c.args.rest.now c.args.line.now _ _ c.requires.left c.requires.front (omega arith) (omega arith)

pub returns-clause-within : goal.returns-clause-within
returns-clause-within c = span_within c.args.text.now c.args.rest.now c.args.line.now _ _ c.requires.left c.requires.front (omega arith) (omega arith)
