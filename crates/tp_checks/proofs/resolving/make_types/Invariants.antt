-- The types so far are made, each under its own name.
use Rattle.std.proofs.Common.{map, take}
use Rattle.std.specs.List.{AllZip}
use Rattle.tp_checks.specs.Resolved.{IsNamedType}
use Rattle.tp_checks.proofs.resolving.make_types.Given as goal

abbrev pub invariant-loop-defined : goal.invariant-loop-defined
invariant-loop-defined l = AllZip (IsNamedType l.names) (map (λ x. x.now) (take l.defined-index l.definitions)) l.types
