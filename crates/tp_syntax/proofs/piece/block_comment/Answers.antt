-- The first `*/` that is met is the first that there is; where none is met, there is none.
use Rattle.std.proofs.Common.{arith, add-one}
use Rattle.tp_syntax.proofs.TokenFaults.{no_end_all}
use Rattle.tp_syntax.proofs.PieceAtFront.{no_end}
use Rattle.tp_syntax.proofs.piece.block_comment.Goals as goal

pub returns-then-bytes-n-eq47-clause-first : goal.returns-then-bytes-n-eq47-clause-first
returns-then-bytes-n-eq47-clause-first c = no_end c.loop-n.n c.args.bytes.now (omega arith) (λ k lt p q. c.loop-n.invariant.none k lt p (rw add-one q))

pub returns-clause-none : goal.returns-clause-none
returns-clause-none c = no_end_all c.args.bytes.now (λ k lt p q. c.loop-n.invariant.none k (omega arith) p (rw add-one q))
