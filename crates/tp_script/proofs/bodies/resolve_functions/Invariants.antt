-- Each function among the definitions so far has its body, in the order of the text.
use Rattle.std.proofs.Common.{take}
use Rattle.std.specs.List.{AllZip}
use Rattle.tp_checks.specs.Definitions.{of_kind, function_of}
use Rattle.tp_script.specs.{Instances.known_in, Scopes.IsFunctionBody}
use Rattle.tp_script.proofs.bodies.resolve_functions.Given as goal

abbrev pub invariant-loop-definition : goal.invariant-loop-definition
invariant-loop-definition l = AllZip (IsFunctionBody (known_in l.prepared)) (of_kind function_of (take l.definition-index l.definitions)) l.bodies.items
