-- The route that a search of the ports beside p finds.
use Rattle.std.proofs.Common.{◌≡◌, Bool, true, false, cond, ◌==◌, Some, None, List, [], ◌∷◌, map, refl, ap, sym, ◌∙◌, subst}
use Rattle.std.specs.Prelude.{Contains, ◌≢◌, find}
use Rattle.std.specs.Bool.{Decides}
use Rattle.std.proofs.lemmas.Option.{same_Some}
use Rattle.std.proofs.lemmas.Bool.Decides.{not_from_Decides}
use Rattle.std.proofs.lemmas.List.Elements.{All-nil, All-cons}
use Rattle.tp_config.specs.declared.port_type.CompId.{CompId}
use Rattle.tp_config.specs.declared.port_type.PortRef.{PortRef}
use Rattle.tp_config.specs.declared.port_type.RouteId.{RouteId}
use Rattle.tp_config.specs.declared.routes.RouteFault.TheVariants.{NoRoute}
use Rattle.tp_config.specs.Routes.{route_to, IsRouteOf, RouteCauseOf}
use Rattle.tp_config.proofs.CreateTestsDecideCauses.{comp_decides, Contains-here, Contains-later}

at_comp : CompId → PortRef
at_comp c = record { comp = c; port = 0 }

to_decides : (c : CompId) (r : PortRef) → Decides (r.comp.0 == c.0) (r.comp ≡ c)
unfolding at_comp
to_decides c r = comp_decides r (at_comp c)

found_at : (b : Bool) (p x : PortRef) (qs : List PortRef) (c : CompId) (q : PortRef) → (x.comp.0 == c.0) ≡ b
    → (Some q ≡ find (λ r. r.comp.0 == c.0) qs → IsRouteOf (map (route_to p) qs) (Some c) (route_to p q))
    → Some q ≡ cond b (Some x) (find (λ r. r.comp.0 == c.0) qs) → IsRouteOf (map (route_to p) (x ∷ qs)) (Some c) (route_to p q)
found_at true p x qs c q t later h =
    let same : q ≡ x = same_Some q x h in (
      subst (λ y. Contains (map (route_to p) (x ∷ qs)) (route_to p y)) (sym same) (Contains-here (route_to p x) (map (route_to p) qs)),
      ap (λ (y : PortRef). y.comp) same ∙ (to_decides c x).0 t,
    )
found_at false p x qs c q t later h =
    let rest : IsRouteOf (map (route_to p) qs) (Some c) (route_to p q) = later h in
    (Contains-later (route_to p q) (route_to p x) (map (route_to p) qs) rest.0, rest.1)

pub found_to : (p : PortRef) (qs : List PortRef) (c : CompId) (q : PortRef) → Some q ≡ find (λ r. r.comp.0 == c.0) qs
    → IsRouteOf (map (route_to p) qs) (Some c) (route_to p q)
found_to p [] c q h = absurd (cc)
found_to p (x ∷ qs) c q h = found_at (x.comp.0 == c.0) p x qs c q refl (found_to p qs c q) h

none_at : (b : Bool) (p x : PortRef) (qs : List PortRef) (c : CompId) → (x.comp.0 == c.0) ≡ b
    → (None ≡ find (λ r. r.comp.0 == c.0) qs → RouteCauseOf (map (route_to p) qs) (Some c) NoRoute)
    → None ≡ cond b (Some x) (find (λ r. r.comp.0 == c.0) qs) → RouteCauseOf (map (route_to p) (x ∷ qs)) (Some c) NoRoute
none_at true p x qs c t later h = absurd (cc)
none_at false p x qs c t later h =
    All-cons (λ (r : RouteId). r.to.comp ≢ c) (route_to p x) (map (route_to p) qs) (not_from_Decides (x.comp.0 == c.0) (to_decides c x) t) (later h)

pub none_to : (p : PortRef) (qs : List PortRef) (c : CompId) → None ≡ find (λ r. r.comp.0 == c.0) qs → RouteCauseOf (map (route_to p) qs) (Some c) NoRoute
none_to p [] c h = All-nil (λ (r : RouteId). r.to.comp ≢ c)
none_to p (x ∷ qs) c h = none_at (x.comp.0 == c.0) p x qs c refl (none_to p qs c) h
