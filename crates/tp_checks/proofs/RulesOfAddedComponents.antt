-- What the rules on setup say of the components that are added one after the other.
use Rattle.std.proofs.Common.{◌≡◌, ◌≤◌, ℕ, Bool, true, false, if◌then◌else◌, Option, None, Some, option_map, codes, List, [], ◌∷◌, ◌++◌, All, Contains, is_some, length, map, slice_get, refl, sym, ap, ◌∙◌, subst, arith, append-nil, true≢false}
use Rattle.std.proofs.lemmas.List.{length-append, length-map, map-append}
use Rattle.std.proofs.lemmas.List.Elements.{All-cons, All-map, All-nil, Contains-append_left, filter_map-append}
use Rattle.std.proofs.lemmas.Option.{same_Some, slice_get-get_or}
use Rattle.std.specs.{Option.option_to_list, List.AllZip}
use Rattle.tp_tree.specs.declared.tree.{ComponentType.ComponentType, Creation.Creation, SetupStatement.SetupStatement, TestCase.TestCase}
use Rattle.tp_config.specs.declared.port_type.PortRef.{PortRef}
use Rattle.tp_config.specs.declared.port_type.Role.TheVariants as role
use Rattle.tp_config.specs.Setup.{Setup, PortDecl, Member, empty_setup, is_system_role, names_of_components}
use Rattle.tp_config.specs.{Shape.member, Causes.HasSystem}
use Rattle.tp_checks.specs.Tables.{AreDistinct, IsNumbered}
use Rattle.tp_checks.specs.Components.{Adds, AddsAll, CanAdd, CanAddAll, Declared, HasSoundVariables, IsMember, component_list, HasStopped, created, creation_of, creations, interface, main_component, variable_name, variables}
use Rattle.tp_checks.specs.Configuring.{CanSetUp, CanSetUpBeside, HasFirst, HavePorts, IsConfigBySetup, Makes, interface_number, most_variables}
use Rattle.tp_checks.proofs.{NameSetLookups.place_known, AddableComponents.names_created, StartLookups.all_got, ListPrefixGrowth.zip_at}
use Rattle.tp_checks.proofs.{DistinctNamesInParts.distinct_first, CreatedComponentGrowth.adds_more, CreatedComponentGrowth.adds_none}
use Rattle.tp_checks.proofs.SetupStatementOutcomes.{adds_append}
use Rattle.tp_checks.proofs.UniqueZipsAndPlaces.{not_before, zip_middle, zip_same}

pub most_small : (case : TestCase) → most_variables case ≤ 63
most_small case = by (is_some case.system) where
  by : (b : Bool) → (if b then 62 else 63) ≤ 63
  by true = omega arith
  by false = omega arith

-- the variables of setup statements that obey the rules
pub numbered_variables : (names ports : List (List ℕ)) (case : TestCase) (xs : List SetupStatement)
    → HasSoundVariables names ports (most_variables case) (creations xs) → IsNumbered (variables xs)
numbered_variables names ports case xs sound = record {
  few = omega (arith, sound.few, most_small case, length-map (creations xs) variable_name);
  distinct = sound.distinct;
}

-- a component of the configuration is determined
pub member_one : (names : List (List ℕ)) (x : Declared) (m n : Member) → IsMember names x m → IsMember names x n → m ≡ n
member_one names x m n first second =
    ap (λ a. member a m.kind m.role) (first.name ∙ sym second.name)
    ∙ ap (λ k. member n.name k m.role) (same_Some m.kind n.kind (sym first.kind ∙ second.kind))
    ∙ ap (λ r. member n.name n.kind r) (first.role ∙ sym second.role)

kind_known : (names : List (List ℕ)) (xs more : List Declared) (x : Declared) (ms : List Member) → AllZip (IsMember names) (xs ++ x ∷ more) ms
    → Contains names x.type_name
kind_known names xs more x ms each =
    let at = zip_middle (IsMember names) xs x more ms each in
    place_known names x.type_name at.0.kind (sym at.1.kind)

pub tests : (case : TestCase) (cs : List Creation) → All (λ (x : Declared). x.role ≡ role.Test) (main_component case ∷ map created cs)
tests case cs =
    All-cons (λ (x : Declared). x.role ≡ role.Test) (main_component case) (map created cs) refl
    (All-map (λ (x : Declared). x.role ≡ role.Test) created cs (λ k d below. refl))

-- test components alone have no test system interface among them
pub no_system : (names : List (List ℕ)) (xs : List Declared) (ms : List Member) → All (λ (x : Declared). x.role ≡ role.Test) xs → AllZip (IsMember names) xs ms
    → HasSystem ms → ⊥
no_system names xs ms each zipped (m, (k, below, is), system) =
    let there : slice_get ms k ≡ Some m = slice_get-get_or ms k m below ∙ ap (λ (m : Member). Some m) is in
    let at = zip_at (IsMember names) xs ms k m zipped there in
    let test : m.role ≡ role.Test = at.2.role ∙ all_got (λ (x : Declared). x.role ≡ role.Test) xs k at.0 each at.1 in
    true≢false (sym system ∙ ap is_system_role test)

abbrev face : List ℕ → Declared
face s = record { name = codes "system"; type_name = s; role = role.System }

abbrev whole : List (List PortDecl) → List Member → List (PortRef × PortRef) → List (PortRef × PortRef) → Setup
whole types components connected mapped = record { types = types; components = components; connected = connected; mapped = mapped }

-- configurations with the same parts are the same
pub same_setup : (s t : Setup) → s.types ≡ t.types → s.components ≡ t.components → s.connected ≡ t.connected → s.mapped ≡ t.mapped → s ≡ t
same_setup s t types components connected mapped =
    ap (λ l. whole l s.components s.connected s.mapped) types ∙ ap (λ l. whole t.types l s.connected s.mapped) components
    ∙ ap (λ l. whole t.types t.components l s.mapped) connected ∙ ap (whole t.types t.components t.connected) mapped

module _ (names : List (List ℕ)) (made : List (List PortDecl)) (case : TestCase) (config : Setup) (r : IsConfigBySetup names made case config) where
  -- `mtc` can be added
  pub main_can : HavePorts names made → (s : Setup) → s ≡ empty_setup made → CanAdd names (main_component case) s
  main_can have s empty = rw empty (record {
    typed = have.typed;
    known = kind_known names [] (map created (creations case.setups) ++ interface case) (main_component case) r.start.components r.components_are;
    new_name = λ h. absurd (omega (arith, h.1));
    one_interface = λ e. absurd (cc);
    room = omega arith;
  })

  pub names_split : (before rest : List SetupStatement) → case.setups ≡ before ++ rest
      → component_list case ≡ ((main_component case ∷ map created (creations before)) ++ map created (creations rest)) ++ interface case
  names_split before rest split =
      ap (λ l. (main_component case ∷ l) ++ interface case)
      (ap (λ l. map created (creations l)) split ∙ ap (map created) (filter_map-append creation_of before rest)
      ∙ map-append created (creations before) (creations rest))

  -- the test components can be added after `mtc`
  pub all_can : HavePorts names made → (s : Setup) → length (creations case.setups) ≤ most_variables case
      → AddsAll names (main_component case ∷ []) (empty_setup made) s → CanAddAll names (variables case.setups) s
  all_can have s few added =
      let all : map (λ (x : Declared). x.name) (component_list case)
      ≡ (names_of_components s ++ variables case.setups) ++ map (λ (x : Declared). x.name) (interface case) =
      map-append (λ (x : Declared). x.name) (main_component case ∷ map created (creations case.setups)) (interface case)
      ∙ ap (λ l. (codes "mtc" ∷ l) ++ map (λ (x : Declared). x.name) (interface case)) (names_created (creations case.setups))
      ∙ ap (λ l. (l ++ variables case.setups) ++ map (λ (x : Declared). x.name) (interface case)) (sym added.names_more) in
      record {
        typed = have.typed ∙ ap length (sym added.types_stay);
        distinct = distinct_first (names_of_components s ++ variables case.setups) (map (λ (x : Declared). x.name) (interface case)) (subst AreDistinct all r.apart);
        room = omega (
          arith,
          ap length added.names_more,
          length-map s.components (λ (m : Member). m.name),
          length-map (creations case.setups) variable_name,
          few,
          most_small case,
        );
      }

  -- the test system interface can be added after the first of them
  pub interface_can : HavePorts names made → (s : Setup) → length (creations case.setups) ≤ most_variables case → (before rest : List SetupStatement)
      → case.setups ≡ before ++ rest → AddsAll names (main_component case ∷ map created (creations before)) (empty_setup made) s
      → All (λ x. CanAdd names x s) (interface case)
  interface_can have s few before rest split added = by case.system refl where
    by : (o : Option (List ℕ)) → case.system ≡ o → All (λ x. CanAdd names x s) (option_to_list (option_map face o))
    by None e = All-nil (λ x. CanAdd names x s)
    by (Some f) e =
        let A : List Declared = main_component case ∷ map created (creations before) in
        let B : List Declared = map created (creations rest) in
        let last : interface case ≡ face f ∷ [] = ap (λ (o : Option (List ℕ)). option_to_list (option_map face o)) e in
        let all : component_list case ≡ (A ++ B) ++ face f ∷ [] = names_split before rest split ∙ ap (λ l. (A ++ B) ++ l) last in
        let named : map (λ (x : Declared). x.name) (component_list case)
        ≡ (map (λ (x : Declared). x.name) A ++ map (λ (x : Declared). x.name) B) ++ codes "system" ∷ [] =
        ap (map (λ (x : Declared). x.name)) all ∙ map-append (λ (x : Declared). x.name) (A ++ B) (face f ∷ [])
        ∙ ap (λ l. l ++ codes "system" ∷ []) (map-append (λ (x : Declared). x.name) A B) in
        let most : most_variables case ≡ 62 = ap (λ (o : Option (List ℕ)). if is_some o then 62 else 63) e in
        All-cons (λ x. CanAdd names x s) (face f) []
        (record {
          typed = have.typed ∙ ap length (sym added.types_stay);
          known = kind_known names (A ++ B) [] (face f) r.start.components
              (subst (λ l. AllZip (IsMember names) l r.start.components) all r.components_are);
          new_name = λ h. not_before (map (λ (x : Declared). x.name) A ++ map (λ (x : Declared). x.name) B) [] (codes "system")
              (subst AreDistinct named r.apart)
              (Contains-append_left (map (λ (x : Declared). x.name) A) (map (λ (x : Declared). x.name) B) (codes "system")
              (subst (λ l. Contains l (codes "system")) added.names_more h));
          one_interface = λ _. no_system names A s.components (tests case (creations before)) (added.components [] tt);
          room = omega (
            arith,
            ap length added.names_more,
            length-map s.components (λ (m : Member). m.name),
            length-map A (λ (x : Declared). x.name),
            length-map (creations before) created,
            few,
            most,
            ap (λ l. length (creations l)) split,
            ap length (filter_map-append creation_of before rest),
            length-append (creations before) (creations rest),
          );
        })
        (All-nil (λ x. CanAdd names x s))

  -- a configuration with the components that are declared is that of the rule
  pub start_same : (s : Setup) → AddsAll names (component_list case) (empty_setup made) s → r.start ≡ s
  start_same s added =
      same_setup r.start s (r.types_are ∙ sym added.types_stay)
      (zip_same (IsMember names) (member_one names) (component_list case) r.start.components s.components r.components_are (added.components [] tt))
      (r.not_connected ∙ sym added.connected_stay) (r.not_mapped ∙ sym added.mapped_stay)

  -- so the setup statements can be done in it
  pub all_made : (s : Setup) (system : Option ℕ) → AddsAll names (component_list case) (empty_setup made) s → system ≡ interface_number case
      → (t : Setup) × Makes system s case.setups t
  all_made s system added number = (
    config,
    subst (λ n. Makes n s case.setups config) (sym number)
        (subst (λ z. Makes (interface_number case) z case.setups config) (start_same s added) r.makes),
  )

-- the number of the test system interface is the number of components before it
pub number_is : (names : List (List ℕ)) (case : TestCase) (old s : Setup) (system : Option ℕ) → old.components ≡ []
    → AddsAll names (main_component case ∷ map created (creations case.setups)) old s
    → system ≡ option_map (λ _. length s.components) case.system → system ≡ interface_number case
number_is names case old s system none added number =
    number ∙ ap (λ n. option_map (λ _. n) case.system)
    (omega (
      arith,
      ap length added.names_more,
      length-map s.components (λ (m : Member). m.name),
      length-append (names_of_components old) (map (λ (x : Declared). x.name) (main_component case ∷ map created (creations case.setups))),
      length-map old.components (λ (m : Member). m.name),
      ap length none,
      length-map (map created (creations case.setups)) (λ (x : Declared). x.name),
      length-map (creations case.setups) created,
    ))

-- after `mtc`, the components of the first of the setup statements
pub has_first : (names : List (List ℕ)) (case : TestCase) (setups before : List SetupStatement) (old s : Setup) → setups ≡ case.setups
    → AddsAll names (main_component case ∷ []) (empty_setup old.types) old → HasStopped names setups before old s → HasFirst names case before s
has_first names case setups before old s statements main stopped = record {
  rest = stopped.rest;
  all = sym statements ∙ stopped.all;
  added = subst (λ t. AddsAll names (main_component case ∷ map created (creations before)) (empty_setup t) s) (sym stopped.added.types_stay)
      (adds_append names (main_component case ∷ []) (map created (creations before)) (empty_setup old.types) old s main stopped.added);
}

-- a test case that can be set up has sound variables, whose components can be added after `mtc`
pub beside_can : (names ports : List (List ℕ)) (made : List (List PortDecl)) (case : TestCase) (s : Setup) (setups : List SetupStatement) (most : ℕ)
    → setups ≡ case.setups → most ≡ most_variables case → HavePorts names made
    → AddsAll names (main_component case ∷ []) (empty_setup made) s → CanSetUpBeside names ports made case
    → HasSoundVariables names ports most (creations setups) × CanAddAll names (variables setups) s
beside_can names ports made case s setups most statements limit have main r =
    rw (statements, limit) (r.sound, all_can names made case r.config r.is_set_up have s r.sound.few main)

-- `mtc` alone was added
pub main_added : (names : List (List ℕ)) (main : Declared) (old new : Setup) → old ≡ empty_setup old.types → Adds names main old new
    → AddsAll names (main ∷ []) (empty_setup new.types) new
main_added names main old new empty one =
    let added : AddsAll names (main ∷ []) old new = adds_more names [] main old old new (adds_none names old) one in
    subst (λ t. AddsAll names (main ∷ []) t new) (empty ∙ ap empty_setup (sym added.types_stay)) added

module _ (names : List (List ℕ)) (types : List ComponentType) (made : List (List PortDecl)) (case : TestCase) (r : CanSetUp names types made case) where
  pub interface_ready : HavePorts names made → (old s : Setup) → old ≡ empty_setup made
      → AddsAll names (main_component case ∷ map created (creations case.setups)) old s → All (λ x. CanAdd names x s) (interface case)
  interface_ready have old s empty added =
      interface_can names made case r.config r.is_set_up have s r.variables.sound.few case.setups [] (sym (append-nil case.setups))
      (subst (λ z. AddsAll names (main_component case ∷ map created (creations case.setups)) z s) empty added)

  -- all setup statements can be done where all components are there
  pub all_ready : (old mid s : Setup) (system : Option ℕ) (setups : List SetupStatement) → old ≡ empty_setup made → setups ≡ case.setups
      → AddsAll names (main_component case ∷ map created (creations case.setups)) old mid → AddsAll names (interface case) mid s
      → system ≡ option_map (λ _. length mid.components) case.system
      → ((t : Setup) × Makes system s setups t) × IsNumbered (variables setups)
  all_ready old mid s system setups empty statements inner last number =
      rw statements (
        all_made names made case r.config r.is_set_up s system
            (subst (λ z. AddsAll names (component_list case) z s) empty
            (adds_append names (main_component case ∷ map created (creations case.setups)) (interface case) old mid s inner last))
            (number_is names case old mid system (ap (λ (z : Setup). z.components) empty) inner number),
        numbered_variables names r.variables.ports case case.setups r.variables.sound,
      )
