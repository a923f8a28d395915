-- What contracts see of the fields of a configuration.
use Rattle.std.specs.Prelude.{ℕ, List, map}
use Rattle.std.specs.String.{string_bytes}
use Rattle.std.specs.declared.string.String.{String}
use Rattle.tp_value.specs.declared.types.Ty.{Ty}
use Rattle.tp_config.specs.declared.port_type.Role.{Role}
use Rattle.tp_config.specs.declared.port_type.PortRef.{PortRef}
use Rattle.tp_config.specs.declared.port_type.CompType.{CompType}
use Rattle.tp_config.specs.declared.port_type.PortType.{PortType}
use Rattle.tp_config.specs.declared.component.Component.{Component}
use Rattle.tp_config.specs.Setup.{Setup, PortDecl, Member}

-- a port of a component type
abbrev pub decl_of : {A : Type 0} → String A × PortType → PortDecl
decl_of e = record { name = string_bytes e.0; ins = e.1.ins; outs = e.1.outs }

-- the ports of a component type, in declared order
unfoldable pub ports_of : CompType → List PortDecl
ports_of t = map decl_of t.ports.entries

-- a component of this name, with the type at this place
abbrev pub member : List ℕ → ℕ → Role → Member
member name kind role = record { name = name; kind = kind; role = role }

-- what contracts see of a component
unfoldable pub member_of : Component → Member
member_of c = member (string_bytes c.name) c.kind c.role

-- the partners of each port of a component
abbrev pub links_of : Component → List (List PortRef)
links_of c = c.links

-- what a port type receives and sends
abbrev pub types_of_port_type : PortType → List Ty × List Ty
types_of_port_type t = (t.ins, t.outs)

-- what a declared port receives and sends
abbrev pub types_of_decl : PortDecl → List Ty × List Ty
types_of_decl d = (d.ins, d.outs)

-- what contracts see of a configuration
abbrev pub setup_of : List CompType → List Component → List (PortRef × PortRef) → List (PortRef × PortRef) → Setup
setup_of types components connected mapped =
    record { types = map ports_of types; components = map member_of components; connected = connected; mapped = mapped }
