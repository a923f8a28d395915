-- A definition that obeys the rules.
use Rattle.std.proofs.Common.{◌≡◌, ◌≤◌, inl, inr, arith, subst, ℕ, true, List, [], Option, Some, All, Contains, IfSome, is_some, length}
use Rattle.std.specs.List.{list_all}
use Rattle.tp_tree.specs.declared.tree.{Definition.Definition, Defined.Defined, RecordType.RecordType, ListType.ListType, PortType.PortType}
use Rattle.tp_tree.specs.declared.tree.{ComponentType.ComponentType, Function.Function, TestCase.TestCase}
use Rattle.tp_tree.specs.declared.tree.Defined.TheVariants as d
use Rattle.tp_checks.specs.declared.fault.ModuleFault.{ModuleFault}
use Rattle.tp_checks.specs.{Tables.place_of_name, Definitions.declared_ports, Resolved.ty_of}
use Rattle.tp_checks.specs.Rules.{ArePortTypesKnown, AreTypesKnown, HasFewPorts, IsComponentFault, IsSound, NamesType, has_known_messages, sut}
use Rattle.tp_checks.proofs.KnownNamesByLookup.{each_known, each_there, messages_known, messages_there}

module _ (types ports components : List (List ℕ)) (system : Option (List ℕ)) (x : Defined) where
  pub sound_record : (r : RecordType) → x ≡ d.Record r → All (λ f. NamesType types f.type_name) r.fields → IsSound types ports components system x
  sound_record r e known = rw e (record { types_known = known; port_types_known = tt; component_types_known = tt; few_ports = tt; plays_system = tt })

  pub sound_list : (l : ListType) → x ≡ d.List l → is_some (ty_of types l.element) ≡ true → IsSound types ports components system x
  sound_list l e known = rw e (record { types_known = known; port_types_known = tt; component_types_known = tt; few_ports = tt; plays_system = tt })

  pub sound_port : (p : PortType) → x ≡ d.Port p → has_known_messages types p.directions ≡ true → IsSound types ports components system x
  sound_port p e known =
      rw e (record { types_known = messages_known types p.directions known; port_types_known = tt; component_types_known = tt; few_ports = tt; plays_system = tt })

  pub sound_component : (c : ComponentType) → x ≡ d.Component c → list_all (λ p. is_some (place_of_name ports p.type_name)) c.ports ≡ true
      → length (declared_ports c.ports) ≤ 64 → IsSound types ports components system x
  sound_component c e known few =
      rw e (record {
        types_known = tt;
        port_types_known = each_known ports (λ p. p.type_name) c.ports known;
        component_types_known = tt;
        few_ports = few;
        plays_system = tt;
      })

  pub sound_function : (f : Function) → x ≡ d.Function f → Contains components f.runs_on
      → list_all (λ p. is_some (place_of_name components p.type_name)) f.parameters ≡ true
      → (f.name ≡ sut → (f.parameters ≡ []) × (system ≡ Some f.runs_on)) → IsSound types ports components system x
  sound_function f e runs known plays =
      rw e (record {
        types_known = tt;
        port_types_known = tt;
        component_types_known = (runs, each_known components (λ p. p.type_name) f.parameters known);
        few_ports = tt;
        plays_system = plays;
      })

  pub sound_case : (c : TestCase) → x ≡ d.TestCase c → Contains components c.runs_on
      → IfSome c.system (λ s. Contains components s) → IsSound types ports components system x
  sound_case c e runs known =
      rw e (record { types_known = tt; port_types_known = tt; component_types_known = (runs, known); few_ports = tt; plays_system = tt })

  -- a component type that is refused, and a port type with an unknown message type
  pub unsound_component : (c : ComponentType) (line : ℕ) (fault : ModuleFault) → x ≡ d.Component c → IsComponentFault ports c line fault
      → IsSound types ports components system x → ⊥
  unsound_component c line fault e (inl isnt) h =
      isnt.0 (each_there ports (λ p. p.type_name) c.ports (subst (ArePortTypesKnown ports) e h.port_types_known))
  unsound_component c line fault e (inr many) h =
      let few : HasFewPorts (d.Component c) = subst HasFewPorts e h.few_ports in
      omega (arith, few, many.1)

  pub unsound_port : (p : PortType) → x ≡ d.Port p → ¬ (has_known_messages types p.directions ≡ true) → IsSound types ports components system x → ⊥
  unsound_port p e isnt h = isnt (messages_there types p.directions (subst (AreTypesKnown types) e h.types_known))

pub ruleset soundness = (sound_record, sound_list, sound_port, sound_component, sound_function, sound_case, unsound_port)

-- the same rules, under other names for the lists
pub sound_all : (t u p q c d : List (List ℕ)) (system : Option (List ℕ)) (xs : List Definition) → t ≡ u → p ≡ q → c ≡ d
    → All (λ (x : Definition). IsSound t p c system x.defined) xs → All (λ (x : Definition). IsSound u q d system x.defined) xs
sound_all t u p q c d system xs e f g each = rw (← e, ← f, ← g) each
