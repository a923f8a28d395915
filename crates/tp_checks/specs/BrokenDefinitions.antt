-- Which rule on definitions a module breaks, and at which line (ES 201 873-1, 6 and 16).
use Rattle.std.specs.Prelude.{◌≡◌, ℕ, Option, List, ◌∷◌, ◌++◌, All}
use Rattle.tp_tree.specs.declared.tree.{Module.Module, Definition.Definition, Defined.Defined, TestCase.TestCase}
use Rattle.tp_checks.specs.declared.fault.ModuleRule.{ModuleRule}
use Rattle.tp_checks.specs.declared.fault.ModuleRule.TheVariants.{Unknown, Limit, NotInSut}
use Rattle.tp_checks.specs.Definitions.{component_type_names, port_type_names, type_names}
use Rattle.tp_checks.specs.Rules.{AreComponentTypesKnown, ArePortTypesKnown, AreTypesKnown, HasFewPorts, IsSound}
use Rattle.tp_checks.specs.Rules.{PlaysSystem}

-- a definition breaks this rule, given the names of the types, port types and component types, and the name after
-- `system`
pub data DefinitionBreaks (types ports components : List (List ℕ)) (system : Option (List ℕ)) (x : Defined)
    : ModuleRule → Type 0 where
  -- a type of fields, elements or messages is unknown (11)
  unknown_type : ¬ AreTypesKnown types x → DefinitionBreaks types ports components system x Unknown
  -- the type of a port is unknown (11)
  unknown_port_type : ¬ ArePortTypesKnown ports x → DefinitionBreaks types ports components system x Unknown
  -- a component type after `runs on` or `system`, or of a parameter, is unknown (11)
  unknown_component_type : ¬ AreComponentTypesKnown components x
      → DefinitionBreaks types ports components system x Unknown
  -- the port types are known, and a component type has more than 64 ports (15)
  many_ports : ArePortTypesKnown ports x → ¬ HasFewPorts x → DefinitionBreaks types ports components system x Limit
  -- the component types are known, and a function `sut` can't play the system under test (16)
  no_system : AreComponentTypesKnown components x → ¬ PlaysSystem system x
      → DefinitionBreaks types ports components system x NotInSut

-- one of these definitions, at this line, breaks this rule, and those before it break none
pub record DefinitionsBreak (types ports components : List (List ℕ)) (system : Option (List ℕ)) (list : List Definition)
    (rule : ModuleRule) (line : ℕ) : Type 0 where
  pub before : List Definition
  pub definition : Definition
  pub after : List Definition
  pub split : list ≡ before ++ definition ∷ after
  pub sound : All (λ (x : Definition). IsSound types ports components system x.defined) before
  pub breaks : DefinitionBreaks types ports components system definition.defined rule
  pub line_is : line ≡ definition.line

-- a definition of the module with this test case breaks this rule, and those before it break none
abbrev pub DefinitionsOfBreak : Module → TestCase → ModuleRule → ℕ → Type 0
DefinitionsOfBreak m case =
    DefinitionsBreak (type_names m) (port_type_names m) (component_type_names m) case.system
    m.definitions
