-- How many of the templates are known to be fixed.
use Rattle.std.proofs.Common.{take}
use Rattle.std.specs.Prelude.{All}
use Rattle.tp_behaviour.specs.Fixed.{IsFixed}
use Rattle.tp_behaviour.proofs.fixed.+fixed_template.Given as goal

abbrev pub invariant-are_fixed-loop-template : goal.invariant-are_fixed-loop-template
invariant-are_fixed-loop-template l = All IsFixed (take l.template-index l.templates)
