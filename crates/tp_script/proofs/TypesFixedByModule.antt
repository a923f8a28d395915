-- What bodies may speak of is fixed by the module: its types, and the ports of its component types.
use Rattle.std.proofs.Common.{◌≡◌, ℕ, List, [], ◌∷◌, Contains, slice_get, sym, ap, ◌∙◌}
use Rattle.std.proofs.lemmas.Option.{same_Some}
use Rattle.tp_tree.specs.declared.message.TypeName.{TypeName}
use Rattle.tp_tree.specs.declared.tree.{Module.Module, Defined.Defined, FieldType.FieldType, Function.Function, TestCase.TestCase}
use Rattle.tp_tree.specs.declared.tree.Defined.TheVariants as definition
use Rattle.tp_value.specs.declared.types.{Ty.Ty, Field.Field, TypeDef.TypeDef, Types.Types}
use Rattle.tp_value.specs.declared.types.TypeDef.TheVariants as type_def
use Rattle.tp_config.specs.{Setup.PortDecl, Shape.ports_of}
use Rattle.tp_checks.specs.{Tables.AreDistinct, Rules.HasUniqueNames}
use Rattle.tp_checks.specs.Definitions.{component_types, definition_names, function_of, functions, port_types, test_cases, type_definitions, type_names}
use Rattle.tp_checks.specs.Resolved.{AreTypes, IsComponentType, IsField, IsNamedType, IsTypeDef, IsTypeNamed}
use Rattle.tp_checks.proofs.UniqueZipsAndPlaces.{same_named, zip_same, zip_seen}
use Rattle.tp_checks.proofs.UniqueComponentTypes.{component_same, ports_apart}
use Rattle.tp_checks.proofs.DistinctNamesInParts.{distinct_among, function_named}
use Rattle.tp_script.specs.TestCases.{AreKinds}

-- of one name there is one function
pub one_function_named : (m : Module) (f g : Function) → AreDistinct (definition_names m) → Contains (functions m) f → Contains (functions m) g
    → f.name ≡ g.name → f ≡ g
one_function_named m f g apart = same_named (λ (f : Function). f.name) (functions m) f g (distinct_among function_of (λ (f : Function). f.name) function_named m.definitions apart)

-- a module with one test case has this one
pub one_case : (m : Module) (x y : TestCase) → test_cases m ≡ x ∷ [] → test_cases m ≡ y ∷ [] → x ≡ y
one_case m x y e f = same_Some x y (ap (λ l. slice_get l 0) (sym e ∙ f))

type_fixed : (types : List (List ℕ)) (x : TypeName) (a b : Ty) → IsTypeNamed types x a → IsTypeNamed types x b → a ≡ b
type_fixed types x a b h k = same_Some a b (sym h ∙ k)

abbrev field : List ℕ → Ty → Field
field n t = record { name = n; ty = t }

field_fixed : (types : List (List ℕ)) (x : FieldType) (a b : Field) → IsField types x a → IsField types x b → a ≡ b
field_fixed types x a b h k =
    ap (λ n. field n a.ty) (h.0 ∙ sym k.0) ∙ ap (λ t. field b.name t) (type_fixed types x.type_name a.ty b.ty h.1 k.1)

definition_fixed : (types : List (List ℕ)) (x : Defined) (a b : TypeDef) → IsTypeDef types x a → IsTypeDef types x b → a ≡ b
definition_fixed types (definition.Record r) (type_def.Record xs) (type_def.Record ys) h k =
    ap type_def.Record (zip_same (IsField types) (field_fixed types) r.fields xs ys h k)
definition_fixed types (definition.Record r) (type_def.Record xs) (type_def.ListOf t) h k = absurd k
definition_fixed types (definition.List l) (type_def.ListOf s) (type_def.Record ys) h k = absurd k
definition_fixed types (definition.List l) (type_def.ListOf s) (type_def.ListOf t) h k = ap type_def.ListOf (type_fixed types l.element s t h k)
definition_fixed _ _ _ _ h _ = absurd h

abbrev under : List ℕ → TypeDef → List ℕ × TypeDef
under n d = (n, d)

named_type_fixed : (types : List (List ℕ)) (x : Defined) (a b : List ℕ × TypeDef) → IsNamedType types x a → IsNamedType types x b → a ≡ b
named_type_fixed types x a b h k =
    ap (λ n. under n a.1) (h.0 ∙ sym k.0) ∙ ap (λ d. under b.0 d) (definition_fixed types x a.1 b.1 h.1 k.1)

-- a module has these record and record-of types alone
pub types_fixed : (m : Module) (a b : Types) → AreTypes m a → AreTypes m b → a ≡ b
types_fixed m a b = zip_same (IsNamedType (type_names m)) (named_type_fixed (type_names m)) (type_definitions m) a b

-- the component types of a module have these ports alone
pub kinds_fixed : (m : Module) → HasUniqueNames m → (a b : List (List PortDecl)) → AreKinds m a → AreKinds m b → a ≡ b
kinds_fixed m unique a b h k =
    h.kinds_are
    ∙ zip_seen (IsComponentType (type_names m) (port_types m)) ports_of (component_same (type_names m) (port_types m) (ports_apart m unique))
    (component_types m) h.types k.types h.of_module k.of_module
    ∙ sym k.kinds_are
