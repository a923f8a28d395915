-- The line is that of the token there.
use Rattle.std.proofs.Common.{◌≡◌, ◌-◌, drop, length, map, ap, ◌∙◌, arith}
use Rattle.tp_syntax.specs.Lexeme.{placed_lexeme}
use Rattle.tp_syntax.specs.Faults.{fault_line}
use Rattle.tp_syntax.proofs.CutTokens.{line_there}
use Rattle.tp_syntax.proofs.parser.line_at.Goals as goal

pub returns-in-Some : goal.returns-in-Some
returns-in-Some c =
    let place : c.saturating_sub.result ≡ length c.args.tokens.now - c.args.left = grind arith in
    line_there _ _ c.args.last_line c.in-Some.placed.now c.in-Some.ensures.lookup.3.0 c.in-Some.ensures.lookup.1
    ∙ ap (λ k. fault_line (drop k (map placed_lexeme c.args.tokens.now)) c.args.last_line) place
