-- The characters between the quotes are the token, and a text that isn't closed is refused.
use Rattle.std.proofs.Common.{sym}
use Rattle.std.proofs.lemmas.Result.{err_from_is_err_and}
use Rattle.tp_syntax.proofs.TokenFaults.{refused_text}
use Rattle.tp_syntax.proofs.QuotedTextSpelling.{text_at}
use Rattle.tp_syntax.proofs.PieceAtFront.{starts_some, starts_quote}
use Rattle.tp_syntax.proofs.piece.text.Goals as goal

pub split_at-requires : goal.split_at-requires
split_at-requires c = starts_some _ _ c.requires

pub returns-clause-token : goal.returns-clause-token
returns-clause-token c =
    text_at c.args.bytes.now c.in_ok-characters.characters.items c.in_ok-characters.size (starts_some _ _ c.requires) (starts_quote _ c.requires)
    (rw (sym c.split_at.ensures.back) c.in_ok-characters.ensures.within) (rw (sym c.split_at.ensures.back) c.in_ok-characters.ensures.spelled)
    (rw (sym c.split_at.ensures.back) c.in_ok-characters.ensures.closed) c.in_ok-characters.ensures.printable

pub returns-in_err-characters-clause-refused : goal.returns-in_err-characters-clause-refused
returns-in_err-characters-clause-refused c =
    let p = err_from_is_err_and c.from_residual.result c.from_residual.ensures.1 in
    rw (p.1, p.2) (refused_text c.args.bytes.now c.args.line c.in_err-characters.field-0.0 c.requires
    (rw (sym c.split_at.ensures.back) c.in_err-characters.ensures.refused))
