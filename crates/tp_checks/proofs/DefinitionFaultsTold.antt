-- A definition that breaks a rule.
use Rattle.std.proofs.Common.{◌≡◌, ◌<◌, inl, inr, ℕ, ◌+◌, Option, List, All, length, take, drop, get_or, refl, sym, subst, arith}
use Rattle.tp_tree.specs.declared.tree.{ComponentType.ComponentType, Defined.Defined, Definition.Definition}
use Rattle.tp_tree.specs.declared.tree.Defined.TheVariants as d
use Rattle.tp_checks.specs.declared.fault.ModuleFault.{ModuleFault}
use Rattle.tp_checks.specs.Refused.{Tells, TellsAt}
use Rattle.tp_checks.specs.BrokenDefinitions.{DefinitionBreaks, DefinitionsBreak, many_ports, unknown_port_type}
use Rattle.tp_checks.specs.Rules.{ArePortTypesKnown, HasFewPorts, IsComponentFault, IsSound}
use Rattle.tp_checks.proofs.KnownNamesByLookup.{each_known, each_there, messages_there}
use Rattle.tp_checks.proofs.{NameFaultsTold.split_here, RuleFaultPropagation.told_from, SoundDefinitionRules.soundness}
use Rattle.tp_checks.specs.BrokenDefinitions as b

module _ (types ports components : List (List ℕ)) (system : Option (List ℕ)) where
  -- a component type that is refused
  pub component_type_told : (x : Defined) (c : ComponentType) (line : ℕ) (fault : ModuleFault) → x ≡ d.Component c → IsComponentFault ports c line fault
      → TellsAt line (DefinitionBreaks types ports components system x) fault
  component_type_told x c line fault e (inl isnt) =
      rw isnt.1 (refl, unknown_port_type (λ h. isnt.0 (each_there ports (λ p. p.type_name) c.ports (subst (ArePortTypesKnown ports) e h))))
  component_type_told x c line fault e (inr many) =
      rw many.2 (
        refl,
        many_ports (subst (ArePortTypesKnown ports) (sym e) (each_known ports (λ p. p.type_name) c.ports many.0))
            (λ h. let few : HasFewPorts (d.Component c) = subst HasFewPorts e h in omega (arith, few, many.1)),
      )

  -- the next definition breaks a rule after those before it
  pub definition_among : (xs : List Definition) (i : ℕ) (x : Definition) (f : ModuleFault) → i < length xs → x ≡ get_or xs i x
      → All (λ (y : Definition). IsSound types ports components system y.defined) (take i xs)
      → TellsAt x.line (DefinitionBreaks types ports components system x.defined) f → Tells (DefinitionsBreak types ports components system xs) f
  definition_among xs i x f lt is each told =
      told_from x.line (DefinitionBreaks types ports components system x.defined) (DefinitionsBreak types ports components system xs) f (λ rule b. record {
        before = take i xs;
        definition = x;
        after = drop (i + 1) xs;
        split = split_here xs i x lt is;
        sound = each;
        breaks = b;
        line_is = refl;
      }) told

-- the same, under other names for the lists
pub told_all : (t u p q c d : List (List ℕ)) (system : Option (List ℕ)) (xs : List Definition) (f : ModuleFault) → t ≡ u → p ≡ q → c ≡ d
    → Tells (DefinitionsBreak t p c system xs) f → Tells (DefinitionsBreak u q d system xs) f
told_all t u p q c d system xs f e g h told = rw (← e, ← g, ← h) told

pub ruleset definitions = (soundness, b.unknown_type, b.unknown_component_type, component_type_told, messages_there)
