-- At each place a `-` stands directly before a 0, or what holds of the tokens after it holds of all.
use Rattle.std.proofs.Common.{◌≡◌, ◌+◌, Bool, false, ◌&&◌, List, map, drop, ap, sym, ◌∙◌}
use Rattle.std.proofs.lemmas.Bool.{and_left, and_right}
use Rattle.std.proofs.lemmas.List.{drop_all}
use Rattle.tp_syntax.specs.declared.token.Placed.{Placed}
use Rattle.tp_syntax.specs.Lexeme.{lexeme_of, placed_lexeme}
use Rattle.tp_syntax.specs.SettledTokens.{has_negative_zero, is_zero}
use Rattle.tp_syntax.proofs.SettledTokens.{found_here, not_here}
use Rattle.tp_syntax.proofs.parser.has_negative_zero.Goals as goal
use Rattle.tp_syntax.proofs.parser.has_negative_zero.Goals.{else-after_minus-via-then-after_minus+else-is_zero, else-after_minus-via-else-after_minus}

pub returns-then-is_zero : goal.returns-then-is_zero
returns-then-is_zero c =
    found_here c.loop-placed.after_minus c.args.tokens.now c.loop-placed.placed-index c.placed-item.result c.loop-placed-test.true c.placed-item.is
    c.if-after_minus.true (sym c.is_zero.ensures ∙ c.if-is_zero.true)
    ∙ c.loop-placed.invariant

pub loop-placed-preserved : goal.loop-placed-preserved
loop-placed-preserved c =
    let none : (c.loop-placed.after_minus && is_zero (lexeme_of c.placed-item.result.token)) ≡ false = elim c.else-after_minus.branch [
      | else-after_minus-via-then-after_minus+else-is_zero w ↦ and_right _ _ (sym w.is_zero.ensures ∙ w.if-is_zero.false)
      | else-after_minus-via-else-after_minus w ↦ and_left _ _ w.if-after_minus.false
    ] in
    ap (λ (b : Bool). has_negative_zero b (map placed_lexeme (drop (c.loop-placed.placed-index + 1) c.args.tokens.now))) c.is_minus-after_minus.ensures
    ∙ (not_here c.loop-placed.after_minus c.args.tokens.now c.loop-placed.placed-index c.placed-item.result c.loop-placed-test.true c.placed-item.is none
    ∙ c.loop-placed.invariant)

pub returns : goal.returns
returns c =
    ap (λ (ps : List Placed). has_negative_zero c.loop-placed.after_minus (map placed_lexeme ps))
    (sym (drop_all c.loop-placed.placed-index c.args.tokens.now c.loop-placed-test.false))
    ∙ c.loop-placed.invariant
