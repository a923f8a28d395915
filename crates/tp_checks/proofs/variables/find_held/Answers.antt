-- A name that is no type's, and that is a component type's.
use Rattle.tp_checks.specs.Scoping.{visible_in}
use Rattle.tp_checks.proofs.DefinitionLines.{held_component}
use Rattle.tp_checks.proofs.variables.find_held.Goals as goal

pub returns-in_ok-find-in-Named-clause-there : goal.returns-in_ok-find-in-Named-clause-there
returns-in_ok-find-in-Named-clause-there c =
    held_component (visible_in c.args.scope.now) c.args.name.now c.in-Named.name c.in_ok-find-in-Named.field-0 c.in-Named.is c.in_default.ensures.absent
    (rw c.as_str.ensures at c.in_ok-find-in-Named.ensures.there)
