-- The partners of each port of each component, as they are kept: the ports with which it forms a pair.
use Rattle.std.specs.Prelude.{ℕ, zero, suc, List, [], ◌∷◌, ◌++◌, map}
use Rattle.std.specs.List.{slice_index_or, slice_set}
use Rattle.tp_config.specs.declared.port_type.CompId.{CompId}
use Rattle.tp_config.specs.declared.port_type.PortRef.{PortRef}
use Rattle.tp_config.specs.declared.port_type.RouteId.{RouteId}
use Rattle.tp_config.specs.Routes.{route_to}

-- the partners of each port of a component
abbrev pub row : List (List (List PortRef)) → CompId → List (List PortRef)
row links c = slice_index_or links c.0 []

-- the partners of a port
abbrev pub links_at : List (List (List PortRef)) → PortRef → List PortRef
links_at links p = slice_index_or (row links p.comp) p.port []

-- the lists with these partners for the port p
abbrev pub with_links : List (List (List PortRef)) → PortRef → List PortRef → List (List (List PortRef))
with_links links p beside = slice_set links p.comp.0 (slice_set (row links p.comp) p.port beside)

-- the lists with q added at the end of p's partners, and then p at the end of q's
abbrev pub links_joined : List (List (List PortRef)) → PortRef → PortRef → List (List (List PortRef))
links_joined links p q = with_links (with_links links p (links_at links p ++ q ∷ [])) q (links_at links q ++ p ∷ [])

-- the routes to the first n ports of the component, by the partners of these ports
abbrev pub routes_kept : List (List (List PortRef)) → CompId → ℕ → List RouteId
routes_kept links c zero = []
routes_kept links c (suc n) =
    let p : PortRef = record { comp = c; port = n } in
    routes_kept links c n ++ map (λ q. route_to q p) (links_at links p)
