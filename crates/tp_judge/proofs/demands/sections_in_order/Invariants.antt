-- The sections so far are in order.
use Rattle.std.proofs.Common.{◌≡◌}
use Rattle.tp_judge.specs.Demands.{from_each, section_demands}
use Rattle.tp_judge.proofs.demands.sections_in_order.Given as goal

abbrev pub invariant-loop-component : goal.invariant-loop-component
invariant-loop-component l = l.demands.items ≡ from_each (section_demands l.trace) l.component
