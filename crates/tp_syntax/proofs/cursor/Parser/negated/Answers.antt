-- A number after a `-` is at least 1.
use Rattle.std.proofs.Common.{◌-◌, arith}
use Rattle.std.proofs.lemmas.Int.{ints}
use Rattle.tp_syntax.proofs.cursor.Parser.negated.Goals as goal

pub returns-then-found-clause-sign : goal.returns-then-found-clause-sign
returns-then-found-clause-sign c = (c.in_ok-found.found - 1, omega (arith, ints))
