-- Ports and routes of which `==` says that they are the same.
use Rattle.std.proofs.Common.{◌≡◌, ◌≢◌, Bool, true, List, eqb, eq-eqb, ap}
use Rattle.std.specs.Prelude.{AllPairs}
use Rattle.std.specs.List.{IsDistinct}
use Rattle.std.proofs.lemmas.Bool.{and_from, and_parts, eqb-true}
use Rattle.std.proofs.lemmas.Map.Made.{AllPairs-from_IsDistinct}
use Rattle.tp_judge.specs.declared.referee.tables.PortKey.{PortKey}
use Rattle.tp_judge.specs.declared.referee.tables.RouteKey.{RouteKey}
use Rattle.tp_judge.specs.contracts.referee.tables.PortKeyPartialEq.TheImpl.{eq-value as port_value}
use Rattle.tp_judge.specs.contracts.referee.tables.RouteKeyPartialEq.TheImpl.{eq-value as route_value}

-- what `==` answers
abbrev pub port_eq : PortKey → PortKey → Bool
port_eq = port_value.it

abbrev pub route_eq : RouteKey → RouteKey → Bool
route_eq = route_value.it

pub port_same : (p q : PortKey) → port_eq p q ≡ true → p ≡ q
port_same p q e =
    let h = and_parts (eqb p.component q.component) (eqb p.name q.name) e in
    let a : p.component ≡ q.component = eqb-true p.component q.component h.0 in
    let b : p.name ≡ q.name = eqb-true p.name q.name h.1 in
    λ i. record { component = a i; name = b i }

port_one : (p q : PortKey) → p ≡ q → port_eq p q ≡ true
port_one p q e =
    and_from (eqb p.component q.component) (eqb p.name q.name)
    (eq-eqb p.component q.component (ap (λ (r : PortKey). r.component) e)) (eq-eqb p.name q.name (ap (λ (r : PortKey). r.name) e))

pub route_same : (p q : RouteKey) → route_eq p q ≡ true → p ≡ q
route_same p q e =
    let h = and_parts (eqb p.sender q.sender) (eqb p.port q.port) e in
    let a : p.sender ≡ q.sender = eqb-true p.sender q.sender h.0 in
    let b : p.port ≡ q.port = eqb-true p.port q.port h.1 in
    λ i. record { sender = a i; port = b i }

route_one : (p q : RouteKey) → p ≡ q → route_eq p q ≡ true
route_one p q e =
    and_from (eqb p.sender q.sender) (eqb p.port q.port)
    (eq-eqb p.sender q.sender (ap (λ (r : RouteKey). r.sender) e)) (eq-eqb p.port q.port (ap (λ (r : RouteKey). r.port) e))

pub ports_apart : (ps : List PortKey) → IsDistinct port_eq ps → AllPairs (λ p q. p ≢ q) ps
ports_apart = AllPairs-from_IsDistinct (λ p q. (port_same p q, port_one p q))

pub routes_apart : (rs : List RouteKey) → IsDistinct route_eq rs → AllPairs (λ p q. p ≢ q) rs
routes_apart = AllPairs-from_IsDistinct (λ p q. (route_same p q, route_one p q))
