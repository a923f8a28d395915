-- The names of components, ports and types.
use Rattle.std.proofs.Common.{◌≡◌, ℕ, zero, suc, List, [], ◌∷◌, Option, Some, map, get_or, refl, ap, sym, ◌∙◌, subst, inl, inr}
use Rattle.std.specs.Prelude.{String, slice_get, IsSome}
use Rattle.std.specs.Option.{option_map_or}
use Rattle.std.specs.String.{string_bytes}
use Rattle.std.proofs.lemmas.Bool.{false≢true}
use Rattle.std.proofs.lemmas.Option.{get_or_from_slice_get, slice_get_cases}
use Rattle.tp_config.specs.declared.port_type.CompId.{CompId}
use Rattle.tp_config.specs.declared.port_type.CompType.{CompType}
use Rattle.tp_config.specs.declared.port_type.PortRef.{PortRef}
use Rattle.tp_config.specs.declared.port_type.PortType.{PortType}
use Rattle.tp_config.specs.Setup.{Setup, Member, PortDecl, IsComponent, IsPort, decl_at, names_of_components, ports_at}
use Rattle.tp_config.specs.Shape.{decl_of, ports_of}
use Rattle.tp_report.specs.ReportWords.{component_name, port_name}

pub component_is : (s : Setup) (c : CompId) (x : List ℕ) → slice_get (names_of_components s) c.0 ≡ Some x → x ≡ component_name s c
unfolding component_name
component_is s c x e = sym (get_or_from_slice_get (names_of_components s) c.0 x [] e)

-- a port is one of a component
pub component_of : (s : Setup) (p : PortRef) → IsPort s p → IsComponent s p.comp
unfolding decl_at ports_at
component_of s p h =
    elim ((slice_get_cases s.components p.comp.0).1) [
      | inl w ↦ w.1
      | inr w ↦ absurd
          (false≢true (subst (λ (o : Option Member). IsSome (slice_get (option_map_or (λ (m : Member). get_or s.types m.kind []) o []) p.port)) w.1 h))
    ]

named : {A : Type 0} (es : List (String A × PortType)) (k : ℕ) → get_or (map (λ (d : PortDecl). d.name) (map decl_of es)) k [] ≡ option_map_or
    (λ e. string_bytes e.0) (slice_get es k) []
named [] k = refl
named (e ∷ es) zero = refl
named (e ∷ es) (suc k) = named es k

pub port_is : (t : CompType) (s : Setup) (p : PortRef) → ports_of t ≡ ports_at s.types s.components p.comp
    → option_map_or (λ e. string_bytes e.0) (slice_get t.ports.entries p.port) [] ≡ port_name s p
unfolding port_name ports_of
port_is t s p e = sym (named t.ports.entries p.port) ∙ ap (λ (ds : List PortDecl). get_or (map (λ (d : PortDecl). d.name) ds) p.port []) e
