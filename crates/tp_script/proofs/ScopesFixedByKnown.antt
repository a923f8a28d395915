-- What a behaviour may use is fixed by what is known, and is as sound.
use Rattle.std.proofs.Common.{◌≡◌, ◌≤◌, ℕ, List, [], ◌∷◌, length, map, slice_get, string_bytes, refl, sym, ap, ◌∙◌, subst, arith}
use Rattle.std.proofs.{lemmas.List.length-map, lemmas.Option.same_Some}
use Rattle.std.specs.declared.string.String.{String}
use Rattle.std.specs.declared.alloc.Global.{Global}
use Rattle.tp_config.specs.declared.port_type.{PortType.PortType, CompType.CompType}
use Rattle.tp_config.specs.{Setup.PortDecl, Shape.decl_of, Shape.ports_of}
use Rattle.tp_checks.specs.declared.scope.BehaviourKind.{BehaviourKind}
use Rattle.tp_checks.specs.Scoping.{IsSoundScope, Ports, Visible, ports_in}
use Rattle.tp_checks.proofs.StartLookups.{all_got}
use Rattle.tp_script.specs.Scopes.{IsScope, IsSoundKnown, Known, port_of_decl, visible_ports, visible_to}

abbrev ports_with : List (List ℕ) → List PortType → Ports
ports_with names types = record { names = names; types = types }

seen_names : (es : List (String Global × PortType)) → map (λ e. string_bytes e.0) es ≡ map (λ (d : PortDecl). d.name) (map decl_of es)
seen_names [] = refl
seen_names (e ∷ es) = ap (λ l. string_bytes e.0 ∷ l) (seen_names es)

seen_types : (es : List (String Global × PortType)) → map (λ e. e.1) es ≡ map port_of_decl (map decl_of es)
seen_types [] = refl
seen_types (e ∷ es) = ap (λ l. e.1 ∷ l) (seen_types es)

-- the ports of a component type, as a body sees them
pub ports_seen : (c : CompType) → ports_in c ≡ visible_ports (ports_of c)
unfolding ports_of
ports_seen c =
    let es = c.ports.entries in
    ap (λ names. ports_with names (map (λ e. e.1) es)) (seen_names es) ∙ ap (ports_with (map (λ (d : PortDecl). d.name) (map decl_of es))) (seen_types es)

module _ (known : Known) (plays : BehaviourKind) (runs_on : List ℕ) (names : List (List ℕ)) where
  pub scope_fixed : (s t : Visible) → IsScope known plays runs_on names s → IsScope known plays runs_on names t → s ≡ t
  scope_fixed s t h k =
      let kind = same_Some h.kind k.kind (sym h.kind_known ∙ k.kind_known) in
      let ports = same_Some h.ports k.ports (sym h.ports_known ∙ ap (slice_get known.ports) kind ∙ k.ports_known) in
      h.scope_is ∙ ap (λ ports. visible_to known plays ports names) ports ∙ sym k.scope_is

  pub sound_scope : (scope : Visible) → IsSoundKnown known → IsScope known plays runs_on names scope → IsSoundScope scope
  sound_scope scope sound is =
      let few : length is.ports ≤ 64 =
      all_got (λ (ports : List PortDecl). length ports ≤ 64) known.ports is.kind is.ports sound.few_ports is.ports_known in
      subst IsSoundScope (sym is.scope_is) (record {
        few_ports = omega (arith, few, length-map is.ports (λ (d : PortDecl). d.name));
        own_names = sound.own_names;
      })
