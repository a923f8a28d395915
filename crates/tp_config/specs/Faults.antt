-- The refusals that report the faults.
use Rattle.tp_common.specs.declared.refusal.Refusal.{Refusal}
use Rattle.tp_common.specs.declared.refusal.Refusal.TheVariants as refusal
use Rattle.tp_config.specs.declared.creating.CreateFault.{CreateFault}
use Rattle.tp_config.specs.declared.creating.CreateFault.TheVariants as create_fault
use Rattle.tp_config.specs.declared.connecting.ConnectFault.{ConnectFault}
use Rattle.tp_config.specs.declared.connecting.ConnectFault.TheVariants as connect_fault
use Rattle.tp_config.specs.declared.mapping.MapFault.{MapFault}
use Rattle.tp_config.specs.declared.mapping.MapFault.TheVariants as map_fault
use Rattle.tp_config.specs.declared.routes.RouteFault.{RouteFault}
use Rattle.tp_config.specs.declared.routes.RouteFault.TheVariants as route_fault

-- the refusal of a create
abbrev pub create_refusal : CreateFault → Refusal
create_refusal create_fault.Duplicate = refusal.Duplicate
create_refusal create_fault.Limit = refusal.Limit
create_refusal create_fault.Memory = refusal.Memory

-- the refusal of a connect
abbrev pub connect_refusal : ConnectFault → Refusal
connect_refusal connect_fault.SystemPort = refusal.SystemPort
connect_refusal connect_fault.SamePort = refusal.SamePort
connect_refusal connect_fault.Already = refusal.Already
connect_refusal connect_fault.Mixed = refusal.Mixed
connect_refusal connect_fault.TwoPortsOfOne = refusal.TwoPortsOfOne
connect_refusal connect_fault.Directions = refusal.Directions
connect_refusal connect_fault.Memory = refusal.Memory

-- the refusal of a map
abbrev pub map_refusal : MapFault → Refusal
map_refusal map_fault.NotSystem = refusal.NotSystem
map_refusal map_fault.Mixed = refusal.Mixed
map_refusal map_fault.NotOneToOne = refusal.NotOneToOne
map_refusal map_fault.MapDirections = refusal.MapDirections
map_refusal map_fault.Memory = refusal.Memory

-- the refusal of a send without a route
abbrev pub route_refusal : RouteFault → Refusal
route_refusal route_fault.NoRoute = refusal.NoRoute
route_refusal route_fault.NeedsTo = refusal.NeedsTo
