-- The first fault of the setup statements, told of the test case.
use Rattle.std.proofs.Common.{◌≡◌, ◌⊎◌, inl, inr, ℕ, ◌+◌, Bool, true, false, if◌then◌else◌, Option, List, [], ◌∷◌, ◌++◌, Contains, length, map, codes, is_some, refl, sym, ap, ◌∙◌, subst, arith}
use Rattle.std.proofs.lemmas.List.{length-map, map-append}
use Rattle.std.proofs.lemmas.List.Elements.{Contains-append_cases, Contains-append_left, Contains-append_right, Contains-push_cases, filter_map-append}
use Rattle.std.specs.Option.{option_map}
use Rattle.tp_tree.specs.declared.tree.{ComponentType.ComponentType, SetupStatement.SetupStatement, TestCase.TestCase}
use Rattle.tp_tree.specs.declared.tree.Defined.TheVariants as defined
use Rattle.tp_config.specs.Setup.{Setup, PortDecl, Member, empty_setup, names_of_components}
use Rattle.tp_checks.specs.declared.fault.{ModuleRule.ModuleRule, ModuleFault.ModuleFault}
use Rattle.tp_checks.specs.{Refused.Tells, Configuring.HavePorts, Configuring.Makes, Configuring.most_variables, Definitions.declared_ports}
use Rattle.tp_checks.specs.Additions.{AwaitsInterface, HasRoomForVariables, InterfaceBreaks, StopsCreating, interface_named}
use Rattle.tp_checks.specs.BrokenSetup.{CarriesOut, CaseSetupBreaks, CreationBreaks, PairBreaks, PairsBreak, SetupBreaks, StartsWith, a_pair, a_var, interface_behind, interface_taken}
use Rattle.tp_checks.specs.Components.{AddsAll, CanAdd, HasPorts, HasSoundVariables, created, creation_of, creations, interface, main_component, variable_name, variables}
use Rattle.tp_checks.specs.Rules.{AreComponentTypesKnown}
use Rattle.tp_checks.proofs.{AddableComponents.names_created, RuleFaultPropagation.told_from, RuleFaultPropagation.told_on}
use Rattle.tp_checks.proofs.RulesOfAddedComponents.{most_small, no_system, tests}

abbrev most_of : Bool → ℕ
most_of b = if b then 62 else 63

most_here : (b : Bool) → b ≡ true → most_of b ≡ 62
most_here true e = refl
most_here false e = absurd (cc)

sizes_apart : (m n : ℕ) → m ≡ 3 → n ≡ 6 → m ≡ n → ⊥
sizes_apart m n e f g = omega (arith, e, f, g)

-- `mtc` can be added
pub main_free : (names : List (List ℕ)) (made : List (List PortDecl)) (case : TestCase) (s : Setup) → HavePorts names made
    → Contains names case.runs_on → s ≡ empty_setup made → CanAdd names (main_component case) s
main_free names made case s have known empty = rw empty (record {
  typed = have.typed;
  known = known;
  new_name = λ h. absurd (omega (arith, h.1));
  one_interface = λ e. absurd (cc);
  room = omega arith;
})

named_one : {A : Type 0} (f : A → List ℕ) (xs : List A) (name : List ℕ) → Contains (map f xs) name → (x : A) × Contains xs x × (f x ≡ name)
named_one f [] name h = absurd (omega (arith, h.1))
named_one {A} f (x ∷ xs) name h = by (Contains-append_cases (f x ∷ []) (map f xs) name h) (named_one f xs name) where
  first : Contains [] name ⊎ (f x ≡ name) → (y : A) × Contains (x ∷ xs) y × (f y ≡ name)
  first (inl none) = absurd (omega (arith, none.1))
  first (inr e) = (x, (0, omega arith, refl), e)

  by : Contains (f x ∷ []) name ⊎ Contains (map f xs) name → (Contains (map f xs) name → (y : A) × Contains xs y × (f y ≡ name))
      → (y : A) × Contains (x ∷ xs) y × (f y ≡ name)
  by (inl one) rest = first (Contains-push_cases [] (f x) name one)
  by (inr more) rest = let r = rest more in (r.0, Contains-append_right (x ∷ []) xs r.0 r.1, r.2)

-- the component type of a known name has ports
pub ports_there : (types : List ComponentType) (names : List (List ℕ)) (name : List ℕ) → names ≡ map (λ (c : ComponentType). c.name) types
    → Contains names name → (ports : List (List ℕ)) × HasPorts types name ports
ports_there types names name named known =
    let r = named_one (λ (c : ComponentType). c.name) types name (subst (λ l. Contains l name) named known) in
    (declared_ports r.0.ports, record { component = r.0; there = r.1; named = r.2; ports_are = refl })

-- there is room for the components of a test case after `mtc`
pub room_first : (names : List (List ℕ)) (case : TestCase) (types : List (List PortDecl)) (s : Setup) (most : ℕ) → HavePorts names s.types
    → AddsAll names (main_component case ∷ []) (empty_setup types) s → most ≡ most_variables case → HasRoomForVariables names (codes "mtc" ∷ []) [] most s
room_first names case types s most have main limit = record {
  typed = have.typed;
  named = main.names_more;
  few = omega arith;
  room = omega (arith, limit, most_small case);
}

module _ (names ports : List (List ℕ)) (types : List (List PortDecl)) (case : TestCase) (line : ℕ) (made : List SetupStatement)
    (sound : HasSoundVariables names ports (most_variables case) (creations made)) (first : Setup)
    (added : AddsAll names (main_component case ∷ map created (creations made)) (empty_setup types) first) where
  names_first : names_of_components first ≡ codes "mtc" ∷ variables made
  names_first = added.names_more ∙ ap (λ l. codes "mtc" ∷ l) (names_created (creations made))

  count_first : length first.components ≡ length (creations made) + 1
  count_first =
      omega (arith, ap length names_first, length-map first.components (λ (m : Member). m.name), length-map (creations made) variable_name)

  -- the test system interface can be added after them, but for its name
  pub awaits : HavePorts names types → AreComponentTypesKnown names (defined.TestCase case) → AwaitsInterface names case first
  awaits have known = record {
    typed = have.typed ∙ ap length (sym added.types_stay);
    known = known.1;
    tests = no_system names (main_component case ∷ map created (creations made)) first.components (tests case (creations made)) (added.components [] tt);
    room = λ some. let limit : most_variables case ≡ 62 = most_here (is_some case.system) some in omega (arith, limit, sound.few, count_first);
  }

  -- it is refused for its name
  pub interface_breaks : (after : List SetupStatement) → case.setups ≡ made ++ after → (rule : ModuleRule) → InterfaceBreaks case first rule
      → SetupBreaks names ports types case line rule line
  interface_breaks after split rule (interface_named some there) = interface_taken some (subst (λ l. Contains l (codes "system")) (sym all) within) where
    all : variables case.setups ≡ variables made ++ variables after
    all = ap variables split ∙ ap (map variable_name) (filter_map-append creation_of made after) ∙ map-append variable_name (creations made) (creations after)

    other : Contains [] (codes "system") ⊎ (codes "mtc" ≡ codes "system") → Contains (variables made) (codes "system")
    other (inl none) = absurd (omega (arith, none.1))
    other (inr same) = absurd (sizes_apart (length (codes "mtc")) (length (codes "system")) refl refl (ap length same))

    by : Contains (codes "mtc" ∷ []) (codes "system") ⊎ Contains (variables made) (codes "system") → Contains (variables made) (codes "system")
    by (inl main) = other (Contains-push_cases [] (codes "mtc") (codes "system") main)
    by (inr h) = h

    within : Contains (variables made ++ variables after) (codes "system")
    within =
        Contains-append_left (variables made) (variables after) (codes "system")
        (by (Contains-append_cases (codes "mtc" ∷ []) (variables made) (codes "system") (subst (λ l. Contains l (codes "system")) names_first there)))

  module _ (s : Setup) (last : AddsAll names (interface case) first s) (system : Option ℕ) (number : system ≡ option_map (λ _. length first.components) case.system) where
    starts : StartsWith names types case made s
    starts = record {
      types_are = last.types_stay ∙ added.types_stay;
      components_are = last.components (main_component case ∷ map created (creations made)) (added.components [] tt);
      not_connected = last.connected_stay ∙ added.connected_stay;
      not_mapped = last.mapped_stay ∙ added.mapped_stay;
    }

    numbered : system ≡ interface_behind case made
    numbered = number ∙ ap (λ n. option_map (λ _. n) case.system) count_first

    carries : (before : List SetupStatement) (config : Setup) → Makes system s before config → CarriesOut names ports types case made before config
    carries before config makes = record {
      sound = sound;
      start = s;
      starts_with = starts;
      makes = subst (λ n. Makes n s before config) numbered makes;
    }

    -- a `connect` or a `map` is refused
    pub pairs_told : (after : List SetupStatement) (f : ModuleFault) → case.setups ≡ made ++ after → Tells (PairsBreak system s made) f
        → Tells (SetupBreaks names ports types case line) f
    pairs_told after f split told =
        told_on (PairsBreak system s made) (SetupBreaks names ports types case line) f (λ rule at b.
        subst (λ l. SetupBreaks names ports types case line rule l) (sym b.line_is)
        (a_pair made after b.before b.statement b.after b.config rule split b.split (carries b.before b.config b.makes)
        (subst (λ n. PairBreaks b.config (variables b.before) n b.statement.action rule) numbered b.breaks))) told

    -- the statements before the `var` at which making the components stopped are carried out, and it is refused
    pub stopped_told : (t : Setup) (f : ModuleFault) → StopsCreating names ports (codes "mtc" ∷ []) (most_variables case) case.setups made f
        → Makes system s made t → Tells (SetupBreaks names ports types case line) f
    stopped_told t f stops makes =
        told_from stops.statement.line (CreationBreaks names ports (codes "mtc" ∷ []) (variables made) (most_variables case) stops.creation)
        (SetupBreaks names ports types case line) f
        (λ rule b. a_var made stops.statement stops.after stops.creation t rule stops.split stops.makes (carries made t makes) b) stops.told

-- over the ports that were found
pub beside_told : (names ports : List (List ℕ)) (types : List ComponentType) (made : List (List PortDecl)) (case : TestCase) (line : ℕ)
    → HasPorts types case.runs_on ports → (f : ModuleFault) → Tells (SetupBreaks names ports made case line) f
    → Tells (CaseSetupBreaks names types made case line) f
beside_told names ports types made case line found f told =
    told_on (SetupBreaks names ports made case line) (CaseSetupBreaks names types made case line) f
    (λ rule at b. record { ports = ports; has_ports = found; breaks = b }) told
