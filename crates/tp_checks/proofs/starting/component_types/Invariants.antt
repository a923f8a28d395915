-- The types are that of `mtc` and those of the components that are made so far.
use Rattle.std.proofs.Common.{◌≡◌, ◌∷◌, map, take}
use Rattle.tp_tree.specs.declared.tree.Creation.{Creation}
use Rattle.tp_checks.specs.Components.{creations}
use Rattle.tp_checks.proofs.starting.component_types.Given as goal

abbrev pub invariant-loop-setup : goal.invariant-loop-setup
invariant-loop-setup l =
    map (λ t. t.now) l.types.items
    ≡ l.case.runs_on ∷ map (λ (c : Creation). c.type_name) (creations (take l.setup-index l.setup-items))
