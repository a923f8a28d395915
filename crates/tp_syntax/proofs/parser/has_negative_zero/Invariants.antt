-- No `-` stands directly before a 0 so far: what holds of the tokens that are left holds of all.
use Rattle.std.proofs.Common.{◌≡◌, false, drop, map}
use Rattle.tp_syntax.specs.Lexeme.{placed_lexeme}
use Rattle.tp_syntax.specs.SettledTokens.{has_negative_zero}
use Rattle.tp_syntax.proofs.parser.has_negative_zero.Given as goal

abbrev pub invariant-loop-placed : goal.invariant-loop-placed
invariant-loop-placed l =
    has_negative_zero l.after_minus (map placed_lexeme (drop l.placed-index l.tokens)) ≡ has_negative_zero false (map placed_lexeme l.tokens)
