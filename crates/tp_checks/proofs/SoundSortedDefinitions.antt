-- The definitions that were sorted out obey the rules of their kinds, where all obey the rules.
use Rattle.std.proofs.Common.{◌≡◌, List, Option, Some, All, map, sym, ap, subst, refl}
use Rattle.std.proofs.lemmas.Option.{same_Some}
use Rattle.std.specs.Prelude.{IsSome}
use Rattle.tp_tree.specs.declared.tree.{Module.Module, Definition.Definition, Defined.Defined, PortType.PortType, TestCase.TestCase}
use Rattle.tp_tree.specs.declared.tree.ComponentType.{ComponentType}
use Rattle.tp_tree.specs.declared.tree.Defined.TheVariants as d
use Rattle.tp_checks.specs.declared.sorted.Sorted.{Sorted}
use Rattle.tp_checks.specs.Tables.{IsNumbered}
use Rattle.tp_checks.specs.Definitions.{component_type_of, component_type_names, inner_names, name_of, port_type_of, port_type_names, type_names, type_of}
use Rattle.tp_checks.specs.Rules.{AreMessagesKnown, ArePortTypesKnown, AreTypesKnown, HasFewPorts, HasUniqueNames, IsSoundComponent}
use Rattle.tp_checks.specs.Sorted.{AreSorted, AreSound, HasSoundDefinitions, IsSortedSound, IsSoundIn}
use Rattle.tp_checks.proofs.DistinctNamesInParts.{all_among, numbered_among, type_named}
use Rattle.tp_checks.proofs.SoundDefinitionRules.{sound_all}

pub type_itself : (x y : Defined) → type_of x ≡ Some y → x ≡ y
type_itself (d.Record r) y e = same_Some (d.Record r) y e
type_itself (d.List l) y e = same_Some (d.List l) y e
type_itself _ y e = absurd (cc)

port_itself : (x : Defined) (y : PortType) → port_type_of x ≡ Some y → x ≡ d.Port y
port_itself (d.Port p) y e = ap d.Port (same_Some p y e)
port_itself _ y e = absurd (cc)

component_itself : (x : Defined) (y : ComponentType) → component_type_of x ≡ Some y → x ≡ d.Component y
component_itself (d.Component c) y e = ap d.Component (same_Some c y e)
component_itself _ y e = absurd (cc)

pub sorted_sound : (m : Module) (s : Sorted) (case : TestCase) → AreSorted m s → HasUniqueNames m → HasSoundDefinitions m case → IsSortedSound s
sorted_sound m s case sorted unique sound =
    let system = case.system in
    let all = m.definitions in
    let each : AreSound s system all =
    sound_all (type_names m) s.type_names (port_type_names m) s.port_names (component_type_names m) s.component_names system all
    (sym sorted.types.names_are) (sym sorted.ports.names_are) (sym sorted.components.names_are) sound in
    let rule : Definition → Type 0 = λ x. IsSoundIn s system x in
    let named : Definition → Type 0 = λ x. rule x × IsNumbered (inner_names x.defined) in
    let both : All named all = λ k e below. (each k e below, unique.inner k e below) in
    let kind : Defined → Type 0 = λ y. IsSome (type_of y) in
    record {
      types = record {
        kinds = subst (All kind) (sym sorted.types.items_are)
            (all_among type_of kind rule
            (λ x y e q. subst kind (type_itself x.defined y e) (subst (λ (o : Option Defined). IsSome o) (sym e) refl)) all each);
        known = subst (All (AreTypesKnown s.type_names)) (sym sorted.types.items_are)
            (all_among type_of (AreTypesKnown s.type_names) rule
            (λ x y e q. subst (AreTypesKnown s.type_names) (type_itself x.defined y e) q.types_known) all each);
        names = subst (λ (l : List Defined). IsNumbered (map name_of l)) (sym sorted.types.items_are)
            (numbered_among type_of name_of type_named all unique.definitions);
      };
      ports = subst (All (AreMessagesKnown s.type_names)) (sym sorted.ports.items_are)
          (all_among port_type_of (AreMessagesKnown s.type_names) rule
          (λ x y e q. subst (AreTypesKnown s.type_names) (port_itself x.defined y e) q.types_known) all each);
      components = subst (All (IsSoundComponent s.port_names)) (sym sorted.components.items_are)
          (all_among component_type_of (IsSoundComponent s.port_names) named
          (λ x y e q. let here = component_itself x.defined y e in record {
            known = subst (ArePortTypesKnown s.port_names) here q.0.port_types_known;
            few = subst HasFewPorts here q.0.few_ports;
            distinct = (subst (λ (z : Defined). IsNumbered (inner_names z)) here q.1).distinct;
          }) all both);
    }
