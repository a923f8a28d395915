-- The rows have the sendings so far.
use Rattle.tp_judge.specs.Sendings.{AreSendingRows}
use Rattle.tp_judge.proofs.sendings.gather_sendings.Given as goal

abbrev pub invariant-loop-place : goal.invariant-loop-place
invariant-loop-place l = AreSendingRows l.trace l.place l.rows.items
