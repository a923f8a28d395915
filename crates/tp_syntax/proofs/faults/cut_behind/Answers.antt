-- What is kept is those passed and the one after them, brought within the limits.
use Rattle.std.proofs.Common.{◌≡◌, List, [], ◌∷◌, ◌++◌, Some, map, ap, ◌∙◌}
use Rattle.tp_syntax.specs.declared.token.Placed.{Placed}
use Rattle.tp_syntax.specs.Lexeme.{Lexeme, PlacedLexeme, lexeme_of, placed_lexeme}
use Rattle.tp_syntax.specs.Faults.{brought_within}
use Rattle.tp_syntax.proofs.CutTokens.{last_kept, last_set, taken_to}
use Rattle.tp_syntax.proofs.faults.cut_behind.Goals as goal

pub returns : goal.returns
returns c =
    λ passed rest t e all.
    let kept : map placed_lexeme c.truncate.new.self.items ≡ passed ++ t ∷ [] =
    ap (λ (ps : List Placed). map placed_lexeme ps) c.truncate.ensures.items ∙ taken_to c.args.tokens.items passed rest t c.args.place e all in
    let last : placed_lexeme c.index.result.now ≡ t = last_kept _ passed t c.args.place c.index.result.now kept all c.index.ensures in
    let also : placed_lexeme c.index_mut.result.now ≡ t = last_kept _ passed t c.args.place c.index_mut.result.now kept all c.index_mut.ensures.value in
    let token : lexeme_of c.bring_within.new.token ≡ brought_within c.args.is_signed t.token =
    c.bring_within.ensures ∙ ap (λ (u : PlacedLexeme). brought_within c.args.is_signed u.token) also in
    let line : c.index_mut.result.now.line ≡ t.line = ap (λ (u : PlacedLexeme). u.line) also in
    let made : placed_lexeme (record { token = c.bring_within.new.token; line = c.index_mut.result.now.line })
    ≡ record { token = brought_within c.args.is_signed t.token; line = t.line } =
    ap (λ (x : Lexeme). record { token = x; line = c.index_mut.result.now.line }) token
    ∙ ap (λ n. record { token = brought_within c.args.is_signed t.token; line = n }) line in (
      last_set _ passed t c.args.place (record { token = c.bring_within.new.token; line = c.index_mut.result.now.line }) kept all
          ∙ ap (λ (u : PlacedLexeme). passed ++ u ∷ []) made,
      ap (λ (u : PlacedLexeme). Some u.line) last,
    )
