-- The types and component types that definitions stand for (ES 201 873-1, 6.2).
use Rattle.std.specs.Prelude.{◌≡◌, ℕ, Bool, true, false, if◌then◌else◌, Option, Some, List, [], ◌++◌, Contains}
use Rattle.std.specs.{Prelude.map, Prelude.option_map, List.AllZip, List.flat_map}
use Rattle.tp_tree.specs.declared.tree.{Module.Module, Defined.Defined, FieldType.FieldType, Way.Way, PortType.PortType}
use Rattle.tp_tree.specs.declared.tree.{Direction.Direction, PortDeclaration.PortDeclaration, DeclaredName.DeclaredName}
use Rattle.tp_tree.specs.declared.tree.ComponentType.{ComponentType}
use Rattle.tp_tree.specs.declared.tree.Defined.TheVariants as defined
use Rattle.tp_tree.specs.declared.message.TypeName.{TypeName}
use Rattle.tp_tree.specs.declared.message.TypeName.TheVariants as type_name
use Rattle.tp_tree.specs.declared.tree.Way.TheVariants as way
use Rattle.tp_value.specs.declared.types.{Ty.Ty, Field.Field, TypeDef.TypeDef, Types.Types}
use Rattle.tp_value.specs.declared.types.Ty.TheVariants as ty
use Rattle.tp_value.specs.declared.types.TypeDef.TheVariants as type_def
use Rattle.tp_config.specs.declared.port_type.{CompType.CompType, PortType.PortType as PortLists}
use Rattle.tp_config.specs.{Setup.PortDecl, Shape.ports_of}
use Rattle.tp_checks.specs.Tables.{place_of_name}
use Rattle.tp_checks.specs.Definitions.{name_of, type_definitions, type_names, port_types, component_types, declared}

-- the type that a type name names, given the names of the record and record-of types
abbrev pub ty_of : List (List ℕ) → TypeName → Option Ty
ty_of types type_name.Integer = Some ty.Integer
ty_of types type_name.Boolean = Some ty.Boolean
ty_of types type_name.Charstring = Some ty.Charstring
ty_of types (type_name.Named name) = option_map ty.Named (place_of_name types name)

-- a type name names this type
abbrev pub IsTypeNamed : List (List ℕ) → TypeName → Ty → Type 0
IsTypeNamed types name ty = ty_of types name ≡ Some ty

-- if the old types are those of some names, the new ones are those of the same names followed by these
abbrev pub Appends : List (List ℕ) → List TypeName → List Ty → List Ty → Type 0
Appends types names old new =
    (before : List TypeName) → AllZip (IsTypeNamed types) before old → AllZip (IsTypeNamed types) (before ++ names) new

-- a field of a record type, with its own name
abbrev pub IsField : List (List ℕ) → FieldType → Field → Type 0
IsField types f field = (field.name ≡ declared f.name) × IsTypeNamed types f.type_name field.ty

-- a record type has its fields in declared order, a record-of type its elements' type
abbrev pub IsTypeDef : List (List ℕ) → Defined → TypeDef → Type 0
IsTypeDef types (defined.Record r) (type_def.Record fields) = AllZip (IsField types) r.fields fields
IsTypeDef types (defined.Record r) (type_def.ListOf element) = ⊥
IsTypeDef types (defined.List l) (type_def.Record fields) = ⊥
IsTypeDef types (defined.List l) (type_def.ListOf element) = IsTypeNamed types l.element element
IsTypeDef types (defined.Port p) made = ⊥
IsTypeDef types (defined.Component c) made = ⊥
IsTypeDef types (defined.Function f) made = ⊥
IsTypeDef types (defined.TestCase c) made = ⊥

-- a type under its own name
abbrev pub IsNamedType : List (List ℕ) → Defined → List ℕ × TypeDef → Type 0
IsNamedType types x made = (made.0 ≡ name_of x) × IsTypeDef types x made.1

-- whether a port receives messages in this direction, and whether it sends them; with `inout` it does both
abbrev pub goes_in : Way → Bool
goes_in way.In = true
goes_in way.Out = false
goes_in way.InOut = true

abbrev pub goes_out : Way → Bool
goes_out way.In = false
goes_out way.Out = true
goes_out way.InOut = true

-- the message types of a direction that a port of the type receives, and those that it sends
abbrev pub received_types : Direction → List TypeName
received_types x = if goes_in x.way then x.types else []

abbrev pub sent_types : Direction → List TypeName
sent_types x = if goes_out x.way then x.types else []

-- the types that a port of the type receives, and those that it sends
abbrev pub IsPortType : List (List ℕ) → PortType → List Ty → List Ty → Type 0
IsPortType types p ins outs =
    AllZip (IsTypeNamed types) (flat_map received_types p.directions) ins
    × AllZip (IsTypeNamed types) (flat_map sent_types p.directions) outs

abbrev pub IsMade : List (List ℕ) → PortType → PortLists → Type 0
IsMade types p made = IsPortType types p made.ins made.outs

-- a port of this name that receives and sends these types
abbrev pub port_decl : PortLists → DeclaredName → PortDecl
port_decl made n = record { name = declared n; ins = made.ins; outs = made.outs }

-- the ports that the declarations declare: their names and the names of their types, in declared order
abbrev pub port_list : List PortDeclaration → List (List ℕ × List ℕ)
port_list ports =
    flat_map (λ (p : PortDeclaration). map (λ n. (declared n, p.type_name)) p.names) ports

-- the types that a port type of this name receives and sends
pub record IsMadeOf (types : List (List ℕ)) (ports : List PortType) (name : List ℕ) (made : PortLists) : Type 0 where
  pub port_type : PortType
  pub there : Contains ports port_type
  pub named : port_type.name ≡ name
  pub lists : IsMade types port_type made

-- a port has its declared name, and receives and sends what its port type does
pub record IsPortDecl (types : List (List ℕ)) (ports : List PortType) (x : List ℕ × List ℕ) (port : PortDecl)
    : Type 0 where
  pub name : port.name ≡ x.0
  pub lists : IsMadeOf types ports x.1 (record { ins = port.ins; outs = port.outs })

-- a component type has its ports in declared order
abbrev pub IsComponentType : List (List ℕ) → List PortType → ComponentType → CompType → Type 0
IsComponentType types ports c made = AllZip (IsPortDecl types ports) (port_list c.ports) (ports_of made)

-- the types are the record and record-of types of the module
abbrev pub AreTypes : Module → Types → Type 0
AreTypes m types = AllZip (IsNamedType (type_names m)) (type_definitions m) types

-- the component types are those of the module
abbrev pub AreComponentTypes : Module → List CompType → Type 0
AreComponentTypes m made = AllZip (IsComponentType (type_names m) (port_types m)) (component_types m) made
