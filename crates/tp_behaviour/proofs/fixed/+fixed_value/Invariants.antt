-- How many of the values are known to be fixed.
use Rattle.std.proofs.Common.{take}
use Rattle.std.specs.Prelude.{All}
use Rattle.tp_behaviour.specs.Fixed.{IsFixedValue}
use Rattle.tp_behaviour.proofs.fixed.+fixed_value.Given as goal

abbrev pub invariant-are_fixed_values-loop-value : goal.invariant-are_fixed_values-loop-value
invariant-are_fixed_values-loop-value l = All IsFixedValue (take l.value-index l.values)
