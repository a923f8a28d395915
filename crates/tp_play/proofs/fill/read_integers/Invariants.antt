-- Each of the integers so far is known to have 64 bits.
use Rattle.std.proofs.Common.{take, FitsSigned, w64, All}
use Rattle.tp_play.proofs.fill.read_integers.Given as goal

abbrev pub invariant-loop-place : goal.invariant-loop-place
invariant-loop-place l = All (FitsSigned w64) (take l.place l.integers)
