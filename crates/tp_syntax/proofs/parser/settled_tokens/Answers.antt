-- If no `-` stands directly before a 0, the tokens are settled as they are.
use Rattle.std.proofs.Common.{◌≡◌, false, List, None, map, ap, sym, ◌∙◌}
use Rattle.tp_syntax.specs.declared.token.Placed.{Placed}
use Rattle.tp_syntax.specs.Lexeme.{placed_lexeme}
use Rattle.tp_syntax.specs.SettledTokens.{has_negative_zero}
use Rattle.tp_syntax.proofs.SettledTokens.{none_left_out}
use Rattle.tp_syntax.proofs.parser.settled_tokens.Goals as goal

pub returns : goal.returns
returns c =
    let none : has_negative_zero false (map placed_lexeme c.args.tokens.items) ≡ false =
    ap (λ (ps : List Placed). has_negative_zero false (map placed_lexeme ps)) (sym c.deref.ensures.value)
    ∙ (sym c.has_negative_zero.ensures ∙ c.if-has_negative_zero.false) in
    sym (none_left_out None (map placed_lexeme c.args.tokens.items) none)
