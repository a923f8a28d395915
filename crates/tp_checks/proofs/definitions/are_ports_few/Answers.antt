-- Where a declaration has no room after those before it, all the ports are more than 64.
use Rattle.std.proofs.Common.{◌+◌, ◌≤◌, ◌<◌, ◌≡◌, ℕ, List, arith, get_or, length, map, refl, subst, sym, take}
use Rattle.std.proofs.{lemmas.List.length-map, lemmas.List.Folds.length-flat_map-take}
use Rattle.std.specs.List.{flat_map}
use Rattle.tp_tree.specs.declared.tree.PortDeclaration.{PortDeclaration}
use Rattle.tp_checks.specs.Definitions.{declared, declared_ports}
use Rattle.tp_checks.proofs.definitions.are_ports_few.Goals as goal

-- the ports up to a declaration, and its own, are among all
among_all : (ports : List PortDeclaration) (i : ℕ) (p : PortDeclaration) → i < length ports → p ≡ get_or ports i p
    → length (declared_ports (take i ports)) + length p.names ≤ length (declared_ports ports)
among_all ports i p lt is =
    let each : PortDeclaration → List (List ℕ) = λ x. map declared x.names in
    let whole : length (flat_map each (take i ports)) + length (each p) ≤ length (flat_map each ports) =
    subst (λ x. length (flat_map each (take i ports)) + length (each x) ≤ length (flat_map each ports)) (sym is) (length-flat_map-take each ports i p lt) in
    let own : length (each p) ≡ length p.names = simp length-map refl in
    subst (λ n. length (flat_map each (take i ports)) + n ≤ length (flat_map each ports)) own whole

pub returns-then-not-has_room : goal.returns-then-not-has_room
returns-then-not-has_room c =
    let all = among_all c.args.ports.now c.loop-port.port-index c.port-item.result (omega arith) c.port-item.is in
    (λ h. absurd (cc), λ h. grind (arith, all, h, c.has_room.ensures, c.if-not-has_room.true, c.len.ensures, c.loop-port.invariant.count))
