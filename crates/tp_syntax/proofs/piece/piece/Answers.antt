-- Where a `_` stands at the front, or a byte that begins no symbol, no piece can stand.
use Rattle.tp_syntax.specs.declared.byte.Kind.TheVariants.{Underscore, Other}
use Rattle.tp_syntax.proofs.TokenFaults.{no_underscore, no_symbol, refused_syntax, starts_kind}
use Rattle.tp_syntax.proofs.piece.piece.Goals as goal

pub returns-in-Underscore-clause-refused : goal.returns-in-Underscore-clause-refused
returns-in-Underscore-clause-refused c =
    refused_syntax c.args.bytes.now c.args.line c.syntax.result c.syntax.ensures
    (no_underscore c.args.bytes.now (starts_kind Underscore c.args.bytes.now c.requires c.in-Underscore.ensures))

pub returns-in-None-clause-refused : goal.returns-in-None-clause-refused
returns-in-None-clause-refused c = refused_syntax c.args.bytes.now c.args.line c.syntax-in-None.result c.syntax-in-None.ensures
    (no_symbol c.args.bytes.now (starts_kind Other c.args.bytes.now c.requires c.in-Other.ensures) c.if-bytes-eq47.false c.in-None.ensures.none)
