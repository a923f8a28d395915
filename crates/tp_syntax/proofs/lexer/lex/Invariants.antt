-- The pieces so far are cut off the front of the text, with their tokens and their lines.
use Rattle.std.proofs.Common.{◌+◌, ◌≤◌, length, map}
use Rattle.tp_syntax.specs.Lexeme.{placed_lexeme}
use Rattle.tp_syntax.proofs.CutPieceGrowth.{IsCutSoFar}
use Rattle.tp_syntax.proofs.lexer.lex.Given as goal

abbrev pub invariant-pieces : goal.invariant-pieces
invariant-pieces l = record {
  so_far : IsCutSoFar l.fn.text l.rest (map placed_lexeme l.tokens.items) l.line;
  bound : l.line + length l.rest ≤ 1 + length l.fn.text;
  within : length l.rest ≤ length l.fn.text;
  short : length l.fn.text ≤ 1048576;
}

abbrev pub decreases-pieces : goal.decreases-pieces
decreases-pieces l = length l.rest
