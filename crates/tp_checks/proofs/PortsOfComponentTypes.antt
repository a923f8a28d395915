-- The ports of component types, by their names.
use Rattle.std.proofs.Common.{List, None, Option, Some, ap, arith, get_or, length, map, option_map, refl, slice_get, subst, sym, ℕ, ◌<◌, ◌∙◌, ◌≡◌}
use Rattle.std.proofs.lemmas.List.{get_or-map, length-map}
use Rattle.std.proofs.lemmas.Option.{same_Some, slice_get-get_or, slice_get-map}
use Rattle.tp_tree.specs.declared.tree.{ComponentType.ComponentType, TestCase.TestCase}
use Rattle.tp_config.specs.Setup.{PortDecl}
use Rattle.tp_checks.specs.{Tables.AreDistinct, Tables.IsNumbered, Definitions.declared_ports}
use Rattle.tp_checks.specs.Components.{HasPorts, HasSoundVariables, creations}
use Rattle.tp_checks.specs.Configuring.{AreOwnPorts, CanSetUp, CanSetUpBeside, HaveOwnPorts, HavePorts, most_variables, names_of_ports}
use Rattle.tp_checks.proofs.{StartLookups.all_got, UniqueZipsAndPlaces.same_named}

-- component types whose ports have names of their own have these ports
pub have_ports : (types : List ComponentType) (names : List (List ℕ)) (made : List (List PortDecl))
    → names ≡ map (λ (c : ComponentType). c.name) types → AreOwnPorts types made → HavePorts names made
have_ports types names made named h = record {
  typed = omega (arith, count, ap length named, length-map types (λ (c : ComponentType). c.name));
  own = own;
} where
  count : length made ≡ length types
  count = omega (arith, ap length h.same, length-map made names_of_ports, length-map types (λ (c : ComponentType). declared_ports c.ports))

  own : HaveOwnPorts made
  own k d below =
      let inside : k < length types = omega (arith, below, count) in
      let no_type : List (List ℕ) = names_of_ports d in
      let here : get_or (map names_of_ports made) k no_type ≡ names_of_ports (get_or made k d) = get_or-map names_of_ports made k d no_type below in
      let there = slice_get-get_or (map (λ (c : ComponentType). declared_ports c.ports) types) k no_type
      (omega (arith, inside, length-map types (λ (c : ComponentType). declared_ports c.ports))) in
      at (slice_get types k) refl
      (sym (slice_get-map (λ (c : ComponentType). declared_ports c.ports) types k) ∙ there
      ∙ ap (λ l. Some (get_or l k no_type)) (sym h.same) ∙ ap (λ (l : List (List ℕ)). Some l) here)
    where
      at : (o : Option ComponentType) → slice_get types k ≡ o
          → option_map (λ (c : ComponentType). declared_ports c.ports) o ≡ Some (names_of_ports (get_or made k d))
          → AreDistinct (names_of_ports (get_or made k d))
      at None e f = absurd (cc)
      at (Some c) e f =
          subst AreDistinct (same_Some (declared_ports c.ports) (names_of_ports (get_or made k d)) f)
          (all_got (λ (c : ComponentType). IsNumbered (declared_ports c.ports)) types k c h.numbered e).distinct

-- the ports of the component type of a name are determined
pub ports_same : (types : List ComponentType) (names : List (List ℕ)) (name : List ℕ) (p q : List (List ℕ))
    → names ≡ map (λ (c : ComponentType). c.name) types → AreDistinct names → HasPorts types name p → HasPorts types name q → p ≡ q
ports_same types names name p q named apart first second =
    first.ports_are
    ∙ ap (λ (c : ComponentType). declared_ports c.ports)
    (same_named (λ (c : ComponentType). c.name) types first.component second.component (subst AreDistinct named apart) first.there second.there
    (first.named ∙ sym second.named))
    ∙ sym second.ports_are

-- a test case that can be set up can be beside the ports that were found
pub can_beside : (types : List ComponentType) (names ports : List (List ℕ)) (made : List (List PortDecl)) (case : TestCase)
    → names ≡ map (λ (c : ComponentType). c.name) types → AreDistinct names → HasPorts types case.runs_on ports
    → CanSetUp names types made case → CanSetUpBeside names ports made case
can_beside types names ports made case named apart found r = record {
  sound = subst (λ p. HasSoundVariables names p (most_variables case) (creations case.setups))
      (ports_same types names case.runs_on r.variables.ports ports named apart r.variables.has_ports found) r.variables.sound;
  config = r.config;
  is_set_up = r.is_set_up;
}
