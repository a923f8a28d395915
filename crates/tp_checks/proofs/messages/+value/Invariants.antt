-- What the values so far stand for is made, each in its turn or at the place of its field.
use Rattle.std.proofs.Common.{take}
use Rattle.tp_checks.specs.{Named.texts, Messages.AreElements, Messages.AreFields, BrokenValues.IsValueOf, Scoping.stands_here}
use Rattle.tp_checks.proofs.EntriesInDeclaredOrder.{Entered}
use Rattle.tp_checks.proofs.messages.+value.Given as goal

abbrev pub invariant-resolve_elements-loop-value : goal.invariant-resolve_elements-loop-value
invariant-resolve_elements-loop-value l = AreElements l.context.scope.now.types.now (texts l.context.turns.now) l.ty (take l.value-index l.values) l.made

abbrev pub invariant-resolve_fields-loop-index : goal.invariant-resolve_fields-loop-index
invariant-resolve_fields-loop-index l =
    AreFields l.context.scope.now.types.now (texts l.context.turns.now) (take l.index l.fields) (take l.index l.values) l.made

abbrev pub invariant-resolve_named-loop-index : goal.invariant-resolve_named-loop-index
invariant-resolve_named-loop-index l =
    Entered (λ x. x.name) (stands_here IsValueOf l.context) l.entries l.fields l.places.items l.index l.made.items
