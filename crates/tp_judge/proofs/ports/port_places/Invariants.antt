-- Of each of the ports so far that isn't lawful there is one place.
use Rattle.tp_judge.specs.Lawful.{IsLawfulAt, IsUnlawfulAt}
use Rattle.tp_judge.specs.ToldOf.{OneForEach}
use Rattle.tp_judge.proofs.ports.port_places.Given as goal

abbrev pub invariant-loop-port : goal.invariant-loop-port
invariant-loop-port l = OneForEach (IsLawfulAt l.trace) (IsUnlawfulAt l.trace) l.port l.places.items
