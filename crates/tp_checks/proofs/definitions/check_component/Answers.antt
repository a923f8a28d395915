-- A component type is refused for an unknown port type first, and else for too many ports.
use Rattle.std.proofs.Common.{◌≡◌, ◌≤◌, ◌∙◌, ℕ, Bool, true, false, List, arith, inl, inr, length, sym}
use Rattle.tp_checks.specs.declared.fault.{ModuleRule.TheVariants.Unknown, ModuleRule.TheVariants.Limit, ModuleFault.ModuleFault}
use Rattle.tp_checks.specs.declared.fault.ModuleFault.TheVariants.{Refused}
use Rattle.tp_tree.specs.declared.tree.ComponentType.{ComponentType}
use Rattle.tp_checks.specs.{Definitions.declared_ports, Rules.IsComponentFault, Rules.has_known_ports}
use Rattle.tp_checks.proofs.definitions.check_component.Goals as goal

module _ (names : List (List ℕ)) (x : ComponentType) (line : ℕ) (fault : ModuleFault) where
  -- the type of a port is unknown
  of_unknown : has_known_ports names x ≡ false → fault ≡ Refused Unknown line → IsComponentFault names x line fault
  of_unknown isnt is = inl (λ h. absurd (cc), is)

  -- the types of all ports are known, and there are too many
  of_many : (few : Bool) → has_known_ports names x ≡ true → (length (declared_ports x.ports) ≤ 64 → few ≡ true) → few ≡ false
      → fault ≡ Refused Limit line → IsComponentFault names x line fault
  of_many few known most isnt is = inr (known, grind (arith, most, isnt), is)

pub returns-then-not-are_ports_known-clause-refused : goal.returns-then-not-are_ports_known-clause-refused
returns-then-not-are_ports_known-clause-refused c =
    let known = rw c.as_slice.ensures at c.are_ports_known.ensures in
    of_unknown c.args.port_types.now c.args.component.now c.args.line c.refused.result (sym known ∙ c.if-not-are_ports_known.true) c.refused.ensures

pub returns-then-not-are_ports_few-clause-refused : goal.returns-then-not-are_ports_few-clause-refused
returns-then-not-are_ports_few-clause-refused c =
    let known = rw c.as_slice.ensures at c.are_ports_known.ensures in
    let few = rw c.as_slice-2.ensures at c.are_ports_few.ensures in
    of_many c.args.port_types.now c.args.component.now c.args.line c.refused-then-not-are_ports_few.result c.are_ports_few.result
    (sym known ∙ c.if-not-are_ports_known.false) few.1 c.if-not-are_ports_few.true c.refused-then-not-are_ports_few.ensures
