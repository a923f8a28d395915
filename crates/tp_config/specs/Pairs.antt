-- Pairs of ports. A pair has no order.
use Rattle.std.specs.Prelude.{Bool, ◌&&◌, ◌==◌, cond, Option, Some, None, List}
use Rattle.std.specs.List.{filter_map}
use Rattle.tp_config.specs.declared.port_type.PortRef.{PortRef}

-- whether the two are the same port
abbrev pub same_port : PortRef → PortRef → Bool
same_port p q = (p.comp.0 == q.comp.0) && (p.port == q.port)

-- the port with which p forms the pair
abbrev pub partner : PortRef → PortRef × PortRef → Option PortRef
partner p pair = cond (same_port p pair.0) (Some pair.1) (cond (same_port p pair.1) (Some pair.0) None)

-- the ports with which p forms a pair of the list, in the order of the list
abbrev pub partners : List (PortRef × PortRef) → PortRef → List PortRef
partners pairs p = filter_map (partner p) pairs
