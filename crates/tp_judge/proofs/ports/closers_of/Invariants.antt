-- Of the first sections it is known which line closes them.
use Rattle.std.proofs.Common.{take}
use Rattle.tp_judge.specs.PortRows.{AreClosers}
use Rattle.tp_judge.proofs.ports.closers_of.Given as goal

abbrev pub invariant-loop-row : goal.invariant-loop-row
invariant-loop-row l = AreClosers (take l.row-index l.closing) l.closers.items
