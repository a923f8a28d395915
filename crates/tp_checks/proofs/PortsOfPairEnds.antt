-- A setup statement names its ports, and what is refused of two ports.
use Rattle.std.proofs.Common.{◌≡◌, ℕ, ◌<◌, ◌≤◌, ◌⊎◌, inl, inr, List, [], Option, None, Some, Contains, length, get_or, slice_get, sym, ap, ◌∙◌, subst, arith}
use Rattle.std.proofs.{lemmas.Bool.cases_lt, Math.ListN.get_or-eq_default, lemmas.Option.same_Some}
use Rattle.std.specs.Option.{option_map_or}
use Rattle.tp_checks.specs.declared.fault.ModuleFault.{ModuleFault}
use Rattle.tp_tree.specs.declared.tree.PairEnd.{PairEnd}
use Rattle.tp_config.specs.declared.port_type.{CompId.CompId, PortRef.PortRef}
use Rattle.tp_config.specs.declared.connecting.ConnectFault.{ConnectFault}
use Rattle.tp_config.specs.declared.connecting.ConnectFault.TheVariants as connect_fault
use Rattle.tp_config.specs.declared.mapping.MapFault.{MapFault}
use Rattle.tp_config.specs.declared.mapping.MapFault.TheVariants as map_fault
use Rattle.tp_config.specs.{Setup.Setup, Setup.PortDecl, Setup.Member, Setup.port_names, Setup.ports_at, Allowed.CanConnect, Allowed.CanMap}
use Rattle.tp_config.specs.{Causes.ConnectRefused, Causes.MapRefused, Faults.connect_refusal, Faults.map_refusal}
use Rattle.tp_checks.specs.{Refused.IsRefusedBy, Tables.AreDistinct, Told.fault_refusal}
use Rattle.tp_checks.specs.Configuring.{Connects, HaveOwnPorts, IsPortOfEnd, Maps, end_component_number, names_of_ports}
use Rattle.tp_checks.proofs.{MemoryRefusals.told_memory, ModuleRefusalPropagation.breaks_part, ListPrefixGrowth.contains_at}
use Rattle.tp_checks.proofs.UniqueZipsAndPlaces.{once}

no_names : AreDistinct []
no_names i j d less below = absurd (omega (arith, below))

-- no two ports of a component have one name
own_names : (types : List (List PortDecl)) (members : List Member) (c : CompId) → HaveOwnPorts types → AreDistinct (names_of_ports (ports_at types members c))
unfolding ports_at
own_names types members c own = by (slice_get members c.0) where
  kind : (k : ℕ) → (k < length types) ⊎ (length types ≤ k) → AreDistinct (names_of_ports (get_or types k []))
  kind k (inl below) = own k [] below
  kind k (inr past) = subst (λ (ports : List PortDecl). AreDistinct (names_of_ports ports)) (sym (get_or-eq_default types [] past)) no_names

  by : (o : Option Member) → AreDistinct (names_of_ports (option_map_or (λ (m : Member). get_or types m.kind []) o []))
  by None = no_names
  by (Some m) = kind m.kind (cases_lt m.kind (length types))

abbrev port_at : ℕ → ℕ → PortRef
port_at i j = record { comp = record { 0 = i }; port = j }

module _ (s : Setup) (names : List (List ℕ)) (system : Option ℕ) where
  -- a setup statement names one port
  pub same_end : HaveOwnPorts s.types → (x : PairEnd) (p q : PortRef) → IsPortOfEnd s names system x p → IsPortOfEnd s names system x q → p ≡ q
  same_end own x p q first second =
      let comp : p.comp.0 ≡ q.comp.0 = same_Some p.comp.0 q.comp.0 (sym first.component_known ∙ second.component_known) in
      let there : slice_get (port_names s q.comp) p.port ≡ Some x.port =
      subst (λ i. slice_get (port_names s (port_at i p.port).comp) p.port ≡ Some x.port) comp first.port_known in
      let port : p.port ≡ q.port =
      once (port_names s q.comp) x.port p.port q.port (own_names s.types s.components q.comp own) there second.port_known in
      ap (λ i. port_at i p.port) comp ∙ ap (port_at q.comp.0) port

  -- a port that is unknown
  pub no_port : (x : PairEnd) (comp : CompId) → end_component_number names system x.component ≡ Some comp.0
      → (Contains (port_names s comp) x.port → ⊥) → (p : PortRef) × IsPortOfEnd s names system x p → ⊥
  no_port x comp known unknown r =
      let same : r.0.comp.0 ≡ comp.0 = same_Some r.0.comp.0 comp.0 (sym r.1.component_known ∙ known) in
      unknown (contains_at (port_names s comp) r.0.port x.port
      (subst (λ i. slice_get (port_names s (port_at i r.0.port).comp) r.0.port ≡ Some x.port) same r.1.port_known))

  module _ (own : HaveOwnPorts s.types) (x y : PairEnd) (p q : PortRef) (first : IsPortOfEnd s names system x p) (second : IsPortOfEnd s names system y q)
      (fault : ModuleFault) where
    connect_told : (f : ConnectFault) → ConnectRefused s p q f → fault_refusal fault ≡ connect_refusal f → IsRefusedBy (CanConnect s p q) fault
    connect_told connect_fault.Memory h e = inl (told_memory fault e)
    connect_told connect_fault.SystemPort h e = inr h.1
    connect_told connect_fault.SamePort h e = inr h.1
    connect_told connect_fault.Already h e = inr h.1
    connect_told connect_fault.Mixed h e = inr h.1
    connect_told connect_fault.TwoPortsOfOne h e = inr h.1
    connect_told connect_fault.Directions h e = inr h.1

    map_told : (f : MapFault) → MapRefused s p q f → fault_refusal fault ≡ map_refusal f → IsRefusedBy (CanMap s p q) fault
    map_told map_fault.Memory h e = inl (told_memory fault e)
    map_told map_fault.NotSystem h e = inr h.1
    map_told map_fault.Mixed h e = inr h.1
    map_told map_fault.NotOneToOne h e = inr h.1
    map_told map_fault.MapDirections h e = inr h.1

    -- a connect that is refused
    pub connect_broken : (f : ConnectFault) → ConnectRefused s p q f → fault_refusal fault ≡ connect_refusal f → IsRefusedBy ((t : Setup) × Connects s names system x y t) fault
    connect_broken f h e =
        breaks_part ((t : Setup) × Connects s names system x y t) (CanConnect s p q) fault
        (λ w. subst (λ a. CanConnect s a q) (same_end own x w.1.p p w.1.first first)
        (subst (λ b. CanConnect s w.1.p b) (same_end own y w.1.q q w.1.second second) w.1.can))
        (connect_told f h e)

    -- a map that is refused
    pub map_broken : (f : MapFault) → MapRefused s p q f → fault_refusal fault ≡ map_refusal f → IsRefusedBy ((t : Setup) × Maps s names system x y t) fault
    map_broken f h e =
        breaks_part ((t : Setup) × Maps s names system x y t) (CanMap s p q) fault
        (λ w. subst (λ a. CanMap s a q) (same_end own x w.1.p p w.1.first first)
        (subst (λ b. CanMap s w.1.p b) (same_end own y w.1.q q w.1.second second) w.1.can))
        (map_told f h e)
