-- What an entry keeps of a message's type, and which envelopes, types and routes it has room for.
use Rattle.std.specs.Prelude.{ℕ, ◌<◌, ◌^◌}
use Rattle.tp_common.specs.declared.event.Env.{Env}
use Rattle.tp_value.specs.declared.message.Message.{Message}
use Rattle.tp_value.specs.declared.types.Ty.{Ty}
use Rattle.tp_value.specs.declared.types.Ty.TheVariants as ty
use Rattle.tp_config.specs.declared.port_type.RouteId.{RouteId}
use Rattle.tp_inbox.specs.declared.note_fault.NoteFault.{NoteFault}
use Rattle.tp_inbox.specs.declared.note_fault.NoteFault.TheVariants as note_fault
use Rattle.tp_inbox.specs.declared.type_kind.TypeKind.{TypeKind}
use Rattle.tp_inbox.specs.declared.type_kind.TypeKind.TheVariants as kind

-- the type of this kind; a named type has this number
abbrev pub type_of : TypeKind → ℕ → Ty
type_of kind.Integer named = ty.Integer
type_of kind.Boolean named = ty.Boolean
type_of kind.Charstring named = ty.Charstring
type_of kind.Named named = ty.Named named

-- an entry has room for this type: the number of a named type has at most 16 bits
abbrev pub IsShortType : Ty → Type 0
IsShortType (ty.Named number) = number < 2 ^ 16
IsShortType _ = Unit {0}

-- an entry has room for this envelope: for its sender, its number and its message's type
abbrev pub IsShortEnvelope : Env Message → Type 0
IsShortEnvelope env = (env.sender < 2 ^ 8) × (env.number < 2 ^ 32) × IsShortType env.msg.ty

-- an entry has room for this route
abbrev pub IsShortRoute : RouteId → Type 0
IsShortRoute route = (route.source.0 < 2 ^ 8) × (route.to.comp.0 < 2 ^ 8) × (route.to.port < 2 ^ 8)

-- why something isn't noted that has room under this condition: it has none; or it has, and memory ran out
abbrev pub NoteCause : Type 0 → NoteFault → Type 0
NoteCause has_room note_fault.NoRoom = ¬ has_room
NoteCause has_room note_fault.Memory = has_room
