-- A comment ends with its line or at the first `*/`; what else begins with a `/` is refused.
use Rattle.std.proofs.Common.{arith, sym, ◌∙◌, ap}
use Rattle.std.specs.List.{prefix_len}
use Rattle.tp_syntax.proofs.TokenFaults.{refused_syntax, slash_alone, slash_other, slash_open}
use Rattle.tp_syntax.proofs.PieceAtFront.{line_at, block_at}
use Rattle.tp_syntax.specs.Byte.{is_in_line}
use Rattle.tp_syntax.proofs.piece.comment.Goals as goal

pub returns-in-47-clause-piece : goal.returns-in-47-clause-piece
returns-in-47-clause-piece c =
    line_at c.args.bytes.now c.line_comment.result (omega arith) c.requires.slash c.in-47.is
    (c.line_comment.ensures.value ∙ ap (prefix_len is_in_line) c.split_at.ensures.back)

pub returns-in-Some-clause-piece : goal.returns-in-Some-clause-piece
returns-in-Some-clause-piece c = block_at c.args.bytes.now c.in-Some.n (omega arith) c.requires.slash c.in-42.is
    (rw (sym c.split_at.ensures.back) c.in-Some.ensures.within) (rw (sym c.split_at.ensures.back) c.in-Some.ensures.mark)
    (rw (sym c.split_at.ensures.back) c.in-Some.ensures.first)

pub returns-then-bytes-lt2-clause-refused : goal.returns-then-bytes-lt2-clause-refused
returns-then-bytes-lt2-clause-refused c = refused_syntax c.args.bytes.now c.args.line c.syntax.result c.syntax.ensures
    (slash_alone c.args.bytes.now c.requires.some c.if-bytes-lt2.true c.requires.slash)

pub returns-in-None-clause-refused : goal.returns-in-None-clause-refused
returns-in-None-clause-refused c = refused_syntax c.args.bytes.now c.args.line c.syntax-in-None.result c.syntax-in-None.ensures
    (slash_open c.args.bytes.now (omega arith) c.requires.slash c.in-42.is (rw (sym c.split_at.ensures.back) c.in-None.ensures.none))

pub returns-in_default-clause-refused : goal.returns-in_default-clause-refused
returns-in_default-clause-refused c = refused_syntax c.args.bytes.now c.args.line c.syntax-in_default.result c.syntax-in_default.ensures
    (slash_other c.args.bytes.now (omega arith) c.requires.slash (omega arith) (omega arith))
