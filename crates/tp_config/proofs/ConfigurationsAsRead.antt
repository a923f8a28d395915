-- A configuration by its types and components, as they were read.
use Rattle.std.proofs.Common.{◌≡◌, List, ap, map, ◌∙◌}
use Rattle.tp_config.specs.declared.port_type.PortRef.{PortRef}
use Rattle.tp_config.specs.declared.port_type.CompType.{CompType}
use Rattle.tp_config.specs.declared.component.Component.{Component}
use Rattle.tp_config.specs.Setup.{PortDecl, Member}
use Rattle.tp_config.specs.Shape.{links_of, member_of, ports_of}

-- what is said of the types, the components and their lists that were read is said of those that are there
pub seen : {X : Type 0} (F : List (List PortDecl) → List Member → List (List (List PortRef)) → X) (t u : List CompType) (c d : List Component) → t ≡ u
    → c ≡ d → F (map ports_of t) (map member_of c) (map links_of c) ≡ F (map ports_of u) (map member_of d) (map links_of d)
seen F t u c d a b =
    ap (λ x. F (map ports_of x) (map member_of c) (map links_of c)) a ∙ ap (λ x. F (map ports_of u) (map member_of x) (map links_of x)) b
