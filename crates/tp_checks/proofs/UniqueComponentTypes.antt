-- The component types that a module defines are determined, as far as their ports go.
use Rattle.std.proofs.Common.{◌≡◌, ℕ, List, [], ◌∷◌, Some, map, refl, sym, ap, ◌∙◌, subst}
use Rattle.std.proofs.lemmas.Option.{same_Some}
use Rattle.std.specs.List.{AllZip, flat_map}
use Rattle.tp_tree.specs.declared.message.TypeName.{TypeName}
use Rattle.tp_tree.specs.declared.tree.{ComponentType.ComponentType, Defined.Defined, Definition.Definition, Module.Module}
use Rattle.tp_tree.specs.declared.tree.PortType.{PortType}
use Rattle.tp_tree.specs.declared.tree.Defined.TheVariants as defined
use Rattle.tp_value.specs.declared.types.Ty.{Ty}
use Rattle.tp_config.specs.declared.port_type.CompType.{CompType}
use Rattle.tp_config.specs.{Setup.PortDecl, Shape.ports_of}
use Rattle.tp_checks.specs.{Tables.AreDistinct, Tables.IsNumbered, Components.HaveDistinctPorts, Defining.IsDefined, Rules.HasUniqueNames}
use Rattle.tp_checks.specs.Configuring.{AreOwnPorts, AreSoundVariables, CanSetUp, IsConfigBySetup, names_of_ports}
use Rattle.tp_checks.specs.Definitions.{component_type_of, component_type_names, component_types, declared_ports, functions, inner_names, port_type_of, port_type_names, port_types, test_cases, type_names}
use Rattle.tp_checks.specs.{Prepared.IsWellDeclared, Sorted.component_types_in, Sorted.functions_in, Starting.AreStarts}
use Rattle.tp_checks.specs.Resolved.{IsComponentType, IsPortDecl, IsTypeNamed, port_list, received_types, sent_types}
use Rattle.tp_checks.specs.declared.definitions.Definitions.{Definitions}
use Rattle.tp_checks.specs.declared.starts.Starts.{Starts}
use Rattle.tp_checks.proofs.DistinctNamesInParts.{all_among, numbered_among, port_named}
use Rattle.tp_checks.proofs.UniqueZipsAndPlaces.{same_named, zip_same, zip_seen}
use Rattle.tp_checks.proofs.PortTypesAsDeclared.{ports_named}

own_ports : (x : Defined) (c : ComponentType) → component_type_of x ≡ Some c → inner_names x ≡ declared_ports c.ports
own_ports (defined.Component d) c e = ap (λ (c : ComponentType). declared_ports c.ports) (same_Some d c e)
own_ports _ c e = absurd (cc)

-- the port types have names of their own
pub ports_apart : (m : Module) → HasUniqueNames m → AreDistinct (port_type_names m)
ports_apart m unique = (numbered_among port_type_of (λ (p : PortType). p.name) port_named m.definitions unique.definitions).distinct

-- and so have the ports of each component type
pub ports_numbered : (m : Module) → HasUniqueNames m → HaveDistinctPorts (component_types m)
ports_numbered m unique =
    all_among component_type_of (λ (c : ComponentType). IsNumbered (declared_ports c.ports)) (λ (x : Definition). IsNumbered (inner_names x.defined))
    (λ x c e h. subst IsNumbered (own_ports x.defined c e) h) m.definitions unique.inner

module _ (types : List (List ℕ)) (ports : List PortType) where
  lists : List Ty → List Ty → List ℕ → PortDecl
  lists ins outs name = record { name = name; ins = ins; outs = outs }

  types_same : (names : List TypeName) (xs ys : List Ty) → AllZip (IsTypeNamed types) names xs → AllZip (IsTypeNamed types) names ys → xs ≡ ys
  types_same = zip_same (IsTypeNamed types) (λ n x y e f. same_Some x y (sym e ∙ f))

  port_same : AreDistinct (map (λ (p : PortType). p.name) ports) → (x : List ℕ × List ℕ) (p q : PortDecl) → IsPortDecl types ports x p
      → IsPortDecl types ports x q → p ≡ q
  unfolding lists
  port_same apart x p q first second =
      let one : first.lists.port_type ≡ second.lists.port_type =
      same_named (λ (p : PortType). p.name) ports first.lists.port_type second.lists.port_type apart first.lists.there second.lists.there
      (first.lists.named ∙ sym second.lists.named) in
      let ins : p.ins ≡ q.ins =
      types_same (flat_map received_types second.lists.port_type.directions) p.ins q.ins
      (subst (λ (t : PortType). AllZip (IsTypeNamed types) (flat_map received_types t.directions) p.ins) one first.lists.lists.0) second.lists.lists.0 in
      let outs : p.outs ≡ q.outs =
      types_same (flat_map sent_types second.lists.port_type.directions) p.outs q.outs
      (subst (λ (t : PortType). AllZip (IsTypeNamed types) (flat_map sent_types t.directions) p.outs) one first.lists.lists.1) second.lists.lists.1 in
      ap (λ l. lists l p.outs p.name) ins ∙ ap (λ l. lists q.ins l p.name) outs ∙ ap (lists q.ins q.outs) (first.name ∙ sym second.name)

  pub component_same : AreDistinct (map (λ (p : PortType). p.name) ports) → (c : ComponentType) (t u : CompType) → IsComponentType types ports c t
      → IsComponentType types ports c u → ports_of t ≡ ports_of u
  component_same apart c t u first second = zip_same (IsPortDecl types ports) (port_same apart) (port_list c.ports) (ports_of t) (ports_of u) first second

pub names_made : (types : List (List ℕ)) (ports : List PortType) (cs : List ComponentType) (made : List CompType)
    → AllZip (IsComponentType types ports) cs made → map names_of_ports (map ports_of made) ≡ map (λ (c : ComponentType). declared_ports c.ports) cs
names_made types ports [] [] each = refl
names_made types ports (c ∷ cs) (t ∷ ts) each =
    ap (λ n. n ∷ map names_of_ports (map ports_of ts)) (ports_named types ports c.ports (ports_of t) each.0)
    ∙ ap (λ l. declared_ports c.ports ∷ l) (names_made types ports cs ts each.1)
names_made _ _ _ _ each = absurd each

module _ (m : Module) (d : Definitions) (made : IsDefined m d) where
  -- the component types that were made have the ports that are declared
  pub own_made : HasUniqueNames m → AreOwnPorts (component_types_in d.sorted) (map ports_of d.component_types.items)
  own_made unique =
      subst (λ l. AreOwnPorts l (map ports_of d.component_types.items)) (sym made.sorted.components.items_are)
      (record {
        same = names_made (type_names m) (port_types m) (component_types m) d.component_types.items made.components;
        numbered = ports_numbered m unique;
      })

  -- what a module that obeys the rules says of what is sorted and made
  pub declared_part : test_cases m ≡ d.case.case.now ∷ [] → IsWellDeclared m
      → CanSetUp d.sorted.component_names (component_types_in d.sorted) (map ports_of d.component_types.items) d.case.case.now
      × ((starts : Starts) × AreStarts (functions_in d.sorted) d.case.case.now starts)
  declared_part one r =
      let case : r.case ∷ [] ≡ d.case.case.now ∷ [] = sym r.one_test_case ∙ one in
      let same : r.case ≡ d.case.case.now = cc in
      let ports : map ports_of r.connections.types ≡ map ports_of d.component_types.items =
      zip_seen (IsComponentType (type_names m) (port_types m)) ports_of
      (component_same (type_names m) (port_types m) (ports_apart m r.names)) (component_types m) r.connections.types d.component_types.items
      r.connections.types_are made.components in (
        record {
          variables = subst (λ n. AreSoundVariables n (component_types_in d.sorted) d.case.case.now) (sym made.sorted.components.names_are)
              (subst (λ l. AreSoundVariables (component_type_names m) l d.case.case.now) (sym made.sorted.components.items_are)
              (subst (AreSoundVariables (component_type_names m) (component_types m)) same r.variables));
          config = r.config;
          is_set_up = subst (λ n. IsConfigBySetup n (map ports_of d.component_types.items) d.case.case.now r.config) (sym made.sorted.components.names_are)
              (subst (λ p. IsConfigBySetup (component_type_names m) p d.case.case.now r.config) ports
              (subst (λ c. IsConfigBySetup (component_type_names m) (map ports_of r.connections.types) c r.config) same r.connections.set_up));
        },
        (
          r.started,
          subst (λ l. AreStarts l d.case.case.now r.started) (sym made.sorted.functions.items_are)
              (subst (λ c. AreStarts (functions m) c r.started) same r.starts),
        ),
      )
