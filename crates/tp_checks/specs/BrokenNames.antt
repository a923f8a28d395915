-- Which rule on names a module breaks, and at which line (ES 201 873-1, 5.2.2).
use Rattle.std.specs.Prelude.{◌≡◌, ◌≢◌, ◌<◌, ◌≤◌, ℕ, List, [], ◌∷◌, ◌++◌, Contains, length, map}
use Rattle.std.specs.List.{flat_map}
use Rattle.tp_tree.specs.declared.tree.{Module.Module, Definition.Definition, Defined.Defined}
use Rattle.tp_tree.specs.declared.tree.{DeclaredName.DeclaredName, PortDeclaration.PortDeclaration}
use Rattle.tp_tree.specs.declared.tree.Defined.TheVariants as defined
use Rattle.tp_checks.specs.declared.fault.ModuleRule.{ModuleRule}
use Rattle.tp_checks.specs.declared.fault.ModuleRule.TheVariants.{Unknown, Duplicate, Limit}
use Rattle.tp_checks.specs.{Tables.IsNumbered, Rules.AreNamed}
use Rattle.tp_checks.specs.Definitions.{of_kind, case_of, declared, inner_names, name_of, test_cases}

-- adding the name after these breaks this rule
pub data NameBreaks (names : List (List ℕ)) (name : List ℕ) : ModuleRule → Type 0 where
  -- it is one of them (12)
  already_given : Contains names name → NameBreaks names name Duplicate
  -- there are 4,294,967,295 others (15)
  crowded : (Contains names name → ⊥) → 4294967295 ≤ length names → NameBreaks names name Limit

-- one of the declared names, at this line, can't be added after the old ones and those before it, which can
pub record DeclaringBreaks (old : List (List ℕ)) (list : List DeclaredName) (rule : ModuleRule) (line : ℕ)
    : Type 0 where
  pub before : List DeclaredName
  pub name : DeclaredName
  pub after : List DeclaredName
  pub split : list ≡ before ++ name ∷ after
  pub numbered : IsNumbered (old ++ map declared before)
  pub breaks : NameBreaks (old ++ map declared before) (declared name) rule
  pub line_is : line ≡ name.line

-- the names of the ports, with the lines of their declarations
abbrev pub port_name_list : List PortDeclaration → List DeclaredName
port_name_list ports = flat_map (λ (p : PortDeclaration). p.names) ports

-- the fields, ports or parameters of a definition, with the lines of their declarations
abbrev pub inner_declared : Defined → List DeclaredName
inner_declared (defined.Record r) = map (λ f. f.name) r.fields
inner_declared (defined.List l) = []
inner_declared (defined.Port p) = []
inner_declared (defined.Component c) = port_name_list c.ports
inner_declared (defined.Function f) = map (λ p. p.name) f.parameters
inner_declared (defined.TestCase c) = []

-- the names of these definitions
abbrev pub names_before : List Definition → List (List ℕ)
names_before definitions = map (λ (x : Definition). name_of x.defined) definitions

-- the names that a definition declares break a rule, if it comes after definitions of these names
pub data GivenNamesBreak (names : List (List ℕ)) (x : Definition) : ModuleRule → ℕ → Type 0 where
  -- its own name can't be added after these (12, 15)
  own_name : (rule : ModuleRule) → NameBreaks names (name_of x.defined) rule → GivenNamesBreak names x rule x.line
  -- its own can, and one of its fields, ports or parameters can't be added after those before it (12, 15)
  inner_name : (rule : ModuleRule) (line : ℕ) → IsNumbered (names ++ name_of x.defined ∷ [])
      → DeclaringBreaks [] (inner_declared x.defined) rule line → GivenNamesBreak names x rule line

-- a definition after these breaks a rule on names
pub data DefinedNameBreaks (before : List Definition) (x : Definition) : ModuleRule → ℕ → Type 0 where
  -- a name that it declares can't be added (12, 15)
  given : (rule : ModuleRule) (line : ℕ) → GivenNamesBreak (names_before before) x rule line
      → DefinedNameBreaks before x rule line
  -- its names can, and it is the second test case (12)
  second_case : IsNumbered (names_before before ++ name_of x.defined ∷ []) → IsNumbered (inner_names x.defined)
      → 1 < length (of_kind case_of (before ++ x ∷ [])) → DefinedNameBreaks before x Duplicate x.line

-- one of the definitions breaks a rule on names, and those before it obey the rules
pub record DefinitionNamesBreak (list : List Definition) (rule : ModuleRule) (line : ℕ) : Type 0 where
  pub before : List Definition
  pub definition : Definition
  pub after : List Definition
  pub split : list ≡ before ++ definition ∷ after
  pub obey : AreNamed before
  pub breaks : DefinedNameBreaks before definition rule line

-- the module breaks a rule on names
pub data NamesBreak (m : Module) : ModuleRule → ℕ → Type 0 where
  -- it has no test case (11)
  no_test_case : test_cases m ≡ [] → NamesBreak m Unknown m.line
  -- it has one, and a definition breaks a rule (12, 15)
  in_definition : (rule : ModuleRule) (line : ℕ) → test_cases m ≢ []
      → DefinitionNamesBreak m.definitions rule line → NamesBreak m rule line
