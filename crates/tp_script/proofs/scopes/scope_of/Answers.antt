-- The scope shows what is known, and the ports of its component type.
use Rattle.std.proofs.Common.{◌≡◌, ◌∙◌, List, Some, ap, option_map, slice_get, subst, sym}
use Rattle.std.proofs.lemmas.Option.{slice_get-map}
use Rattle.tp_config.specs.{Setup.PortDecl, Shape.ports_of}
use Rattle.tp_script.specs.{Instances.known_in, Scopes.visible_to}
use Rattle.tp_script.proofs.ScopesFixedByKnown.{ports_seen}
use Rattle.tp_script.proofs.scopes.scope_of.Goals as goal

pub returns-clause-scope : goal.returns-clause-scope
returns-clause-scope c =
    let component = c.in-Some-kind_at.component_type.now in
    record {
      kind = c.in-Some.place;
      kind_known = sym c.in-Some.ensures.place;
      ports = ports_of component;
      ports_known = subst (λ (l : List (List PortDecl)). slice_get l c.in-Some.place ≡ Some (ports_of component)) c.types.ensures
          (slice_get-map ports_of c.types.result.now c.in-Some.place ∙ ap (option_map ports_of) (sym c.in-Some-kind_at.ensures));
      scope_is = ap (λ p. record (visible_to (known_in c.args.prepared.now) c.args.behaviour (ports_of component) c.args.parameters.now) { ports = p })
          (ports_seen component);
    }
