-- The definitions of the kind so far are sorted out, with their names.
use Rattle.std.proofs.Common.{map, take}
use Rattle.tp_checks.specs.Sorted.{AreOfKind}
use Rattle.tp_checks.proofs.sorted.sort_kind.Given as goal

abbrev pub invariant-loop-definition : goal.invariant-loop-definition
invariant-loop-definition g l =
    AreOfKind g.K.DefinitionKind.as_kind g.K.DefinitionKind.name (take l.definition-index l.definitions) l.names (map (λ x. x.now) l.sorted.items)
