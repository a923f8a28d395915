-- The next piece is cut off after the others, and a fault there is the first in the text.
use Rattle.std.proofs.Common.{◌≡◌, ◌<◌, ◌≤◌, [], length, map, sym, ap, subst, ◌∙◌, append-nil, arith}
use Rattle.std.proofs.lemmas.Bool.{false≢true}
use Rattle.std.proofs.lemmas.List.{nil_from_length}
use Rattle.std.proofs.lemmas.Result.{err_from_is_err_and}
use Rattle.tp_syntax.specs.declared.byte.Kind.TheVariants.{Blank}
use Rattle.tp_syntax.specs.Lexeme.{placed_lexeme}
use Rattle.tp_syntax.specs.Cut.{Cuts, newlines, piece_bytes}
use Rattle.tp_syntax.specs.TextFaults.{AreWithinLimits}
use Rattle.tp_syntax.proofs.CutPieceGrowth.{one_piece}
use Rattle.tp_syntax.proofs.PieceAtFront.{blank_at}
use Rattle.tp_syntax.proofs.TokenFaults.{first_fault, starts_kind}
use Rattle.tp_syntax.proofs.TokensWithoutLineEnds.{piece_lines}
use Rattle.tp_syntax.proofs.lexer.lex.Goals as goal

pub lines_in-line-requires : goal.lines_in-line-requires
lines_in-line-requires c =
    let size : length c.split_at.result.0.now ≤ length c.pieces.rest.now = omega (arith, c.split_at.ensures.front_len, c.split_at.ensures.back_len) in
    record { short = omega (arith, size, c.pieces.invariant.within, c.pieces.invariant.short); token = λ is. absurd (false≢true is) }

pub pieces-preserved-in-Blank : goal.pieces-preserved-in-Blank
pieces-preserved-in-Blank c =
    let some : 0 < length c.pieces.rest.now = grind arith in
    let begins = starts_kind Blank c.pieces.rest.now some (sym c.in-Blank.is ∙ c.byte_kind.ensures) in
    record {
      so_far = one_piece c.pieces.invariant.so_far (blank_at c.pieces.rest.now begins) tt c.split_at.ensures.front c.split_at.ensures.back
          c.lines_in-line.ensures.value (sym (append-nil (map placed_lexeme c.pieces.tokens.items)));
      bound = omega (arith, c.pieces.invariant.bound, c.lines_in-line.ensures.bound, c.split_at.ensures.front_len, c.split_at.ensures.back_len);
      within = omega (arith, c.pieces.invariant.within, c.split_at.ensures.back_len);
      short = c.pieces.invariant.short;
    }

pub lines_in-line-requires-in-pieces : goal.lines_in-line-requires-in-pieces
lines_in-line-requires-in-pieces c =
    let size : length c.split_at-in-pieces.result.0.now ≤ length c.pieces.rest.now =
    omega (arith, c.split_at-in-pieces.ensures.front_len, c.split_at-in-pieces.ensures.back_len) in
    let h = c.in_ok-found.ensures.piece in
    let front : c.split_at-in-pieces.result.0.now ≡ piece_bytes h.piece = c.split_at-in-pieces.ensures.front ∙ sym h.spelled in
    record {
      short = omega (arith, size, c.pieces.invariant.within, c.pieces.invariant.short);
      token = λ yes. ap newlines front ∙ piece_lines c.pieces.rest.now c.in_ok-found.found c.in_ok-found.size h (sym c.is_some-is_token.ensures ∙ yes);
    }

pub pieces-preserved : goal.pieces-preserved
pieces-preserved c = record {
  so_far = one_piece c.pieces.invariant.so_far c.in_ok-found.ensures.piece c.in_ok-found.ensures.limits c.split_at-in-pieces.ensures.front c.split_at-in-pieces.ensures.back
      c.lines_in-line-in-pieces.ensures.value c.in_ok-add.ensures.added;
  bound = omega (arith, c.pieces.invariant.bound, c.lines_in-line-in-pieces.ensures.bound, c.split_at-in-pieces.ensures.front_len, c.split_at-in-pieces.ensures.back_len);
  within = omega (arith, c.pieces.invariant.within, c.split_at-in-pieces.ensures.back_len);
  short = c.pieces.invariant.short;
}

pub returns-clause-tokens : goal.returns-clause-tokens
returns-clause-tokens c =
    let so_far = c.pieces.invariant.so_far in
    let none : length c.pieces.rest.now ≡ 0 = grind arith in
    let empty : c.pieces.rest.now ≡ [] = nil_from_length c.pieces.rest.now none in
    (so_far.front, subst (λ x. Cuts so_far.front c.args.text.now x) empty so_far.cut, so_far.are)

pub returns-in_err-found-clause-refused : goal.returns-in_err-found-clause-refused
returns-in_err-found-clause-refused c =
    let p = err_from_is_err_and c.from_residual.result c.from_residual.ensures.1 in
    let so_far = c.pieces.invariant.so_far in
    rw (p.1, p.2) (first_fault c.args.text.now c.pieces.rest.now so_far.front c.pieces.line c.in_err-found.field-0.0 c.pieces.invariant.short so_far.cut
    (subst (λ ts. AreWithinLimits ts) so_far.are so_far.limits) so_far.at c.in_err-found.ensures.refused)
