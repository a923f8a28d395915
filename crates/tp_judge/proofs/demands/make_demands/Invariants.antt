-- The routes so far are in order, after the sections.
use Rattle.std.proofs.Common.{◌≡◌, ◌++◌}
use Rattle.tp_judge.specs.Demands.{from_each, route_demands, section_demands}
use Rattle.tp_judge.proofs.demands.make_demands.Given as goal

abbrev pub invariant-loop-route : goal.invariant-loop-route
invariant-loop-route l =
    l.demands.items ≡ from_each (section_demands l.trace) l.trace.components ++ from_each (route_demands l.trace) l.route
