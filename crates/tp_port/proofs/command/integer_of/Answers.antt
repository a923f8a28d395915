-- The decimal form of an integer begins as one.
use Rattle.std.proofs.Common.{sym, subst, arith, List, ℕ}
use Rattle.tp_port.specs.QueueLine.{BeginsAsInteger}
use Rattle.tp_port.proofs.IntegerTextRoundTrip.{integer_begins}
use Rattle.tp_port.proofs.command.integer_of.Goals as goal

pub returns-else-begins_as_integer : goal.returns-else-begins_as_integer
returns-else-begins_as_integer c =
    λ n fits is.
    let begins = subst (λ (l : List ℕ). BeginsAsInteger l) (sym is) (integer_begins n fits) in
    absurd (grind (arith, c.begins_as_integer.ensures.1 begins, c.if-begins_as_integer.false))
