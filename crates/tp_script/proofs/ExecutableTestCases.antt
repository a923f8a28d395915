-- The test case of a module that obeys the rules can be executed.
use Rattle.std.proofs.Common.{◌≡◌, ◌⊎◌, inl, inr, ℕ, zero, suc, ◌+◌, ◌<◌, ◌≤◌, true, true≢false, List, [], ◌∷◌, ◌++◌, Option, None, Some, All, Contains, length, map, get_or, slice_get, option_map, codes, refl, sym, ap, ◌∙◌, subst, arith, add-one}
use Rattle.std.proofs.{Math.ListN.get_or-eq_default, lemmas.Bool.cases_lt, lemmas.List.length-map, lemmas.List.length-append}
use Rattle.std.proofs.lemmas.List.Elements.{All-nil, All-cons, All-append, All-contains}
use Rattle.std.proofs.lemmas.Option.{slice_get-get_or, slice_get-map, slice_get_within, get_or_from_slice_get, same_Some}
use Rattle.std.proofs.lemmas.Slice.Zip.{AllZip-long}
use Rattle.std.specs.{List.AllZip, Option.option_map_or, Option.option_to_list}
use Rattle.tp_tree.specs.declared.tree.{Module.Module, TestCase.TestCase, Function.Function, Definition.Definition, Defined.Defined}
use Rattle.tp_tree.specs.declared.tree.{ComponentStart.ComponentStart, Creation.Creation, Variable.Variable, Statement.Statement}
use Rattle.tp_tree.specs.declared.tree.Parameter.{Parameter}
use Rattle.tp_tree.specs.declared.tree.Defined.TheVariants as definition
use Rattle.tp_config.specs.declared.port_type.CompId.{CompId}
use Rattle.tp_config.specs.declared.port_type.Role.TheVariants as role
use Rattle.tp_config.specs.Setup.{Setup, Member, PortDecl, is_system_member, is_system_role, ports_at}
use Rattle.tp_checks.specs.{Tables.AreDistinct, Tables.place_of_name, Rules.IsSound, Rules.sut, Configuring.interface_number, Bodies.IsBody}
use Rattle.tp_checks.specs.Definitions.{of_kind, component_type_names, declared, function_of, functions, port_type_names, type_names}
use Rattle.tp_checks.specs.Components.{Declared, IsMember, component_list, creations, created, interface, main_component, variable_name, variables}
use Rattle.tp_checks.specs.Starting.{HasParameterType, IsStartPlace, IsStartOf, started_names, type_names_of}
use Rattle.tp_checks.specs.{Sorted.HasSoundDefinitions, Prepared.IsWellDeclared}
use Rattle.tp_checks.proofs.{NameSetLookups.place_there, DistinctNamesInParts.all_among, UniqueConfigurations.makes_leaves}
use Rattle.tp_checks.proofs.{ListPrefixGrowth.zip_at, ListPrefixGrowth.zip_beside, BodiesCanBePlayed.body_played, UniqueZipsAndPlaces.once}
use Rattle.tp_play.specs.declared.body.Body.{Body}
use Rattle.tp_checks.specs.declared.scope.BehaviourKind.{BehaviourKind}
use Rattle.tp_play.specs.{Playable.IsPlayable, Behaviours.Behaviour, TestCases.Made, Ready.CanDo, Ready.IsReady, Ready.port_count}
use Rattle.tp_script.specs.{Scopes.Known, Scopes.IsBodyInScope, Scopes.visible_to, Behaviours.Does, Behaviours.AreReferences}
use Rattle.tp_script.specs.TestCases.{IsTestCaseOf, known_of}
use Rattle.tp_script.specs.Behaviours as d
use Rattle.tp_script.proofs.TestCaseFromPasses.{mapped_from}

-- the ports that a component has by its type
ports_by_kind : (config : Setup) (k : ℕ) (m : Member) (ports : List PortDecl) → slice_get config.components k ≡ Some m
    → slice_get config.types m.kind ≡ Some ports
    → ports_at config.types config.components (record { 0 = k }) ≡ ports
unfolding ports_at
ports_by_kind config k m ports here there =
    ap (λ o. option_map_or (λ (m : Member). get_or config.types m.kind []) o []) here ∙ get_or_from_slice_get config.types m.kind ports [] there

-- a name that has a place stands nowhere else
placed_once : (names : List (List ℕ)) (name : List ℕ) (j k : ℕ) → AreDistinct names → place_of_name names name ≡ Some j → slice_get names k ≡ Some name → j ≡ k
placed_once names name j k apart first there = once names name j k apart (place_there names name j (sym first)) there

by_none : {A B : Type 0} {x : A} → None ≡ Some x → B
by_none e = absurd (cc)

-- a place that is read is there
at_place : {A : Type 0} (xs : List (Option A)) (k : ℕ) (x : A) → get_or xs k None ≡ Some x → slice_get xs k ≡ Some (Some x)
at_place {A} xs k x e = by (cases_lt k (length xs)) where
  by : (k < length xs) ⊎ (length xs ≤ k) → slice_get xs k ≡ Some (Some x)
  by (inl below) = slice_get-get_or xs k None below ∙ ap Some e
  by (inr past) = by_none (sym (get_or-eq_default xs None past) ∙ e)

-- a function among the definitions
pub function_defined : (x : Defined) (f : Function) → function_of x ≡ Some f → x ≡ definition.Function f
function_defined (definition.Function g) f e = ap definition.Function (same_Some g f e)
function_defined _ f e = absurd (cc)

-- the function that stands among the definitions obeys their rules
function_sound : (P : Defined → Type 0) (xs : List Definition) (f : Function) → All (λ (x : Definition). P x.defined) xs → Contains (of_kind function_of xs) f
    → P (definition.Function f)
function_sound P xs f each =
    All-contains (λ g. P (definition.Function g)) (of_kind function_of xs) f
    (all_among function_of (λ g. P (definition.Function g)) (λ (x : Definition). P x.defined)
    (λ x g e h. subst P (function_defined x.defined g e) h) xs each)

-- what stands at a place of two lists, one after the other
left_at : {A : Type 0} (xs ys : List A) (k : ℕ) (x : A) → slice_get xs k ≡ Some x → slice_get (xs ++ ys) k ≡ Some x
left_at [] ys k x e = by_none e
left_at (a ∷ xs) ys zero x e = e
left_at (a ∷ xs) ys (suc k) x e = left_at xs ys k x e

from_left : {A : Type 0} (xs ys : List A) (k : ℕ) (x : A) → slice_get (xs ++ ys) k ≡ Some x → k < length xs → slice_get xs k ≡ Some x
from_left [] ys k x e below = absurd (omega (arith, below))
from_left (a ∷ xs) ys zero x e below = e
from_left (a ∷ xs) ys (suc k) x e below = from_left xs ys k x e (omega (arith, below))

last_at : {A : Type 0} (xs : List A) (y : A) → slice_get (xs ++ y ∷ []) (length xs) ≡ Some y
last_at [] y = refl
last_at (x ∷ xs) y = last_at xs y

-- there is one test system interface at most
few_interfaces : (case : TestCase) → length (interface case) ≤ 1
few_interfaces case = by case.system where
  by : (o : Option (List ℕ)) → length (interface (record case { system = o })) ≤ 1
  by None = omega arith
  by (Some s) = omega arith

module _ (m : Module) (made : Made) (rules : IsWellDeclared m) (of : IsTestCaseOf m made) where
  abbrev case : TestCase
  case = of.case

  abbrev config : Setup
  config = made.config

  abbrev known : Known
  known = known_of m case config made.types

  abbrev count : ℕ
  count = length (creations case.setups)

  abbrev IsKnown : ℕ → Type 0
  IsKnown c = c < length config.components

  same_case : rules.case ≡ case
  same_case = same_Some rules.case case (ap (λ l. slice_get l 0) (sym rules.one_test_case ∙ of.one_test_case))

  members : AllZip (IsMember (component_type_names m)) (component_list case) config.components
  members = subst (AllZip (IsMember (component_type_names m)) (component_list case))
      (sym (makes_leaves (interface_number case) of.config.set_up.start case.setups config of.config.set_up.makes).1) of.config.set_up.components_are

  -- `mtc` and those that are made
  abbrev tested : List Declared
  tested = main_component case ∷ map created (creations case.setups)

  pub all_of_them : length config.components ≡ count + 1 + length (interface case)
  all_of_them =
      let long = AllZip-long (IsMember (component_type_names m)) (component_list case) config.components members in
      omega (arith, long, length-append tested (interface case), length-map (creations case.setups) created)

  variable_count : length (variables case.setups) ≡ count
  variable_count = length-map (creations case.setups) variable_name

  -- a component can play what stands for a body that runs on its type, where there are as many references as the body's scope has
  can_play : (k : ℕ) (x : Declared) (plays : BehaviourKind) (runs_on : List ℕ) (parameters : List (List ℕ)) (vs : List Variable)
      (statements : List Statement) (body : Body) (references : List ℕ)
      → slice_get (component_list case) k ≡ Some x → x.type_name ≡ runs_on → IsBodyInScope known plays runs_on parameters vs statements body
      → length references ≡ length parameters + count + 2 → IsPlayable made.types (port_count config k) (length references) body
  can_play k x plays runs_on parameters vs statements body references here same s long =
      subst (λ n. IsPlayable made.types n (length references) body) ports_are
      (subst (λ n. IsPlayable made.types (length (map (λ (d : PortDecl). d.name) s.is_scope.ports)) n body) references_are
      (body_played (visible_to known plays s.is_scope.ports parameters) vs statements body
      (subst (λ v. IsBody v vs statements body) s.is_scope.scope_is s.is_body)))
    where
      member : (y : Member) × (slice_get config.components k ≡ Some y) × IsMember (component_type_names m) x y
      member = zip_beside (IsMember (component_type_names m)) (component_list case) config.components k x members here

      same_kind : member.0.kind ≡ s.is_scope.kind
      same_kind = same_Some member.0.kind s.is_scope.kind (sym member.2.kind ∙ ap (place_of_name (component_type_names m)) same ∙ s.is_scope.kind_known)

      ports_are : length (map (λ (d : PortDecl). d.name) s.is_scope.ports) ≡ port_count config k
      ports_are =
          length-map s.is_scope.ports (λ (d : PortDecl). d.name)
          ∙ sym (ap length (ports_by_kind config k member.0 s.is_scope.ports member.1 (ap (slice_get config.types) same_kind ∙ s.is_scope.ports_known)))

      references_are : length parameters + length known.components + 2 ≡ length references
      references_are = omega (arith, variable_count, long)

  reference_length : (itself : ℕ) (arguments references : List ℕ) → AreReferences itself arguments (length known.components) references
      → length references ≡ length arguments + count + 2
  reference_length itself arguments references h = omega (arith, ap length h.all, length-append (0 ∷ itself ∷ arguments) h.variables, h.as_many, variable_count)

  -- the references of a body name components of the configuration, where its arguments do
  are_known : (itself : ℕ) (arguments references : List ℕ) → AreReferences itself arguments (length known.components) references → IsKnown itself
      → All IsKnown arguments → All IsKnown references
  are_known itself arguments references h here each =
      subst (All IsKnown) (sym h.all)
      (All-append IsKnown (0 ∷ itself ∷ arguments) h.variables
      (All-cons IsKnown 0 (itself ∷ arguments) (omega (arith, all_of_them)) (All-cons IsKnown itself arguments here each)) made_known)
    where
      made_known : All IsKnown h.variables
      made_known k d below =
          let early : k < length known.components = omega (arith, below, h.as_many) in
          subst IsKnown (sym (get_or_from_slice_get h.variables k (k + 1) d (h.numbered k early))) (omega (arith, all_of_them, variable_count, early))

  -- an argument has the type of its parameter, and so is there
  arguments_known : (ps : List Parameter) (cs : List CompId) → AllZip (HasParameterType (type_names_of case)) ps cs → All IsKnown (map (λ c. c.0) cs)
  arguments_known [] [] h = All-nil IsKnown
  arguments_known (p ∷ ps) (c ∷ cs) h =
      All-cons IsKnown c.0 (map (λ c. c.0) cs)
      (omega (
        arith,
        all_of_them,
        slice_get_within (type_names_of case) c.0 p.type_name h.0,
        length-map (creations case.setups) (λ (c : Creation). c.type_name),
      ))
      (arguments_known ps cs h.1)
  arguments_known _ _ h = absurd h

  -- a component that is made, by the place of its variable
  made_at : (k : ℕ) (c : Creation) → slice_get (creations case.setups) k ≡ Some c → slice_get (component_list case) (k + 1) ≡ Some (created c)
  made_at k c e =
      rw add-one (left_at (map created (creations case.setups)) (interface case) k (created c)
      (slice_get-map created (creations case.setups) k ∙ ap (option_map created) e))

  type_name_at : (k : ℕ) (name : List ℕ) → slice_get (type_names_of case) (k + 1) ≡ Some name
      → (c : Creation) × (slice_get (creations case.setups) k ≡ Some c) × (c.type_name ≡ name)
  type_name_at k name e = mapped_from (λ (c : Creation). c.type_name) (creations case.setups) k name (rw add-one at e)

  -- the test system interface, and its number
  interface_at : (n : ℕ) (runs_on : List ℕ) → interface_number case ≡ Some n → case.system ≡ Some runs_on
      → (x : Declared) × (slice_get (component_list case) n ≡ Some x) × (x.type_name ≡ runs_on)
  interface_at n runs_on number same = by case.system number same where
    by : (o : Option (List ℕ)) → option_map (λ _. count + 1) o ≡ Some n → o ≡ Some runs_on
        → (x : Declared)
        × (slice_get
        (tested ++ option_to_list (option_map (λ s. record { name = codes "system"; type_name = s; role = role.System }) o)) n ≡ Some x)
        × (x.type_name ≡ runs_on)
    by None e f = by_none e
    by (Some s) e f =
        let x : Declared = record { name = codes "system"; type_name = s; role = role.System } in
        let long : length tested ≡ n = omega (arith, length-map (creations case.setups) created, same_Some (count + 1) n e) in
        (x, ap (slice_get (tested ++ x ∷ [])) (sym long) ∙ last_at tested x, same_Some s runs_on f)

  -- a function named `sut` has no parameters, and runs on the type after `system`
  plays_system : (f : Function) → Contains (functions m) f → f.name ≡ sut
      → (f.parameters ≡ []) × (case.system ≡ Some f.runs_on)
  plays_system f there named =
      (function_sound (IsSound (type_names m) (port_type_names m) (component_type_names m) case.system) m.definitions f
      (subst (HasSoundDefinitions m) same_case rules.definitions) there).plays_system named

  -- what a component does, it can do
  does_can : (k : ℕ) (o : Option Behaviour) (w : Behaviour) → o ≡ Some w → IsKnown k → Does known (functions m) case of.starts k o → CanDo config made.types k w
  does_can k o w e here (d.main x is refs) =
      subst (CanDo config made.types 0) (same_Some x w e)
      (record {
        playable =
            can_play 0 (main_component case) _ case.runs_on [] case.variables case.statements x.body x.references refl refl is
            (reference_length 0 [] x.references refs);
        known = are_known 0 [] x.references refs here (All-nil IsKnown);
      })
  does_can k o w e here (d.started j place x f y there start function is refs) =
      subst (CanDo config made.types (j + 1)) (same_Some y w e)
      (record {
        playable =
            can_play (j + 1) (created creation.0) _ f.runs_on (map (λ p. declared p.name) f.parameters) f.variables
            f.statements y.body y.references
            (made_at j creation.0 creation.1) creation.2 is long;
        known =
            are_known (j + 1) (map (λ c. c.0) x.arguments.items) y.references refs here
            (arguments_known begun.2.function.parameters x.arguments.items begun.2.arguments_fit);
      })
    where
      begun :
          (s : ComponentStart) × (slice_get case.starts place ≡ Some s) × IsStartOf (functions m) (variables case.setups) (type_names_of case) s x
      begun =
          zip_at (IsStartOf (functions m) (variables case.setups) (type_names_of case)) case.starts of.starts.starts.items place x
          of.starts_are.starts start

      placed : (v : List ℕ) × (slice_get (variables case.setups) j ≡ Some v) × IsStartPlace (started_names case.starts) v place
      placed = zip_at (IsStartPlace (started_names case.starts)) (variables case.setups) of.starts.places.items j place of.starts_are.all there

      -- the start is that of the component's own variable
      same_variable : begun.0.component ≡ placed.0
      same_variable =
          same_Some begun.0.component placed.0
          (sym (slice_get-map (λ (s : ComponentStart). s.component) case.starts place
          ∙ ap (option_map (λ (s : ComponentStart). s.component)) begun.1)
          ∙ place_there (started_names case.starts) placed.0 place (sym placed.2))

      own : begun.2.variable ≡ j
      own = placed_once (variables case.setups) placed.0 begun.2.variable j
          (subst (λ (c : TestCase). AreDistinct (variables c.setups)) same_case rules.variables.sound.distinct)
          (ap (place_of_name (variables case.setups)) (sym same_variable) ∙ begun.2.variable_known) placed.1

      same_function : begun.2.function ≡ f
      same_function = same_Some begun.2.function f (sym begun.2.function_known ∙ function)

      creation : (c : Creation) × (slice_get (creations case.setups) j ≡ Some c) × (c.type_name ≡ f.runs_on)
      creation = type_name_at j f.runs_on
          (ap (λ n. slice_get (type_names_of case) (n + 1)) (sym own) ∙ begun.2.runs_on ∙ ap (λ (g : Function). Some g.runs_on) same_function)

      long : length y.references ≡ length (map (λ p. declared p.name) f.parameters) + count + 2
      long = omega (
        arith,
        reference_length (j + 1) (map (λ c. c.0) x.arguments.items) y.references refs,
        length-map x.arguments.items (λ (c : CompId). c.0),
        AllZip-long (HasParameterType (type_names_of case)) begun.2.function.parameters x.arguments.items begun.2.arguments_fit,
        ap (λ (g : Function). length g.parameters) same_function,
        length-map f.parameters (λ (p : Parameter). declared p.name),
      )
  does_can k o w e here (d.system n f x number there named is refs) =
      let plays = plays_system f there named in
      let at = interface_at n f.runs_on number plays.1 in
      let none : length (map (λ (p : Parameter). declared p.name) f.parameters) ≡ 0 =
      length-map f.parameters (λ (p : Parameter). declared p.name) ∙ ap length plays.0 in
      subst (CanDo config made.types n) (same_Some x w e)
      (record {
        playable =
            can_play n at.0 _ f.runs_on (map (λ p. declared p.name) f.parameters) f.variables f.statements x.body x.references
            at.1 at.2 is (omega (arith, none, reference_length n [] x.references refs));
        known = are_known n [] x.references refs here (All-nil IsKnown);
      })
  does_can k o w e here (d.nobody n number absent) = by_none e

  -- all but the last are no test system interfaces
  tested_roles : (k : ℕ) (x : Declared) → slice_get tested k ≡ Some x → x.role ≡ role.Test
  tested_roles zero x e = ap (λ (x : Declared). x.role) (sym (same_Some (main_component case) x e))
  tested_roles (suc k) x e = let c = mapped_from created (creations case.setups) k x e in ap (λ (x : Declared). x.role) (sym c.2)

  is_last : (k : ℕ) (y : Member) → slice_get config.components k ≡ Some y → is_system_member y ≡ true → k + 1 ≡ length config.components
  is_last k y here system = by (cases_lt k (length tested)) where
    x : (x : Declared) × (slice_get (component_list case) k ≡ Some x) × IsMember (component_type_names m) x y
    x = zip_at (IsMember (component_type_names m)) (component_list case) config.components k y members here

    by : (k < length tested) ⊎ (length tested ≤ k) → k + 1 ≡ length config.components
    by (inl early) =
        let role = x.2.role ∙ tested_roles k x.0 (from_left tested (interface case) k x.0 x.1 early) in
        absurd (true≢false (sym system ∙ ap is_system_role role))
    by (inr late) =
        omega (arith, late, slice_get_within config.components k y here, all_of_them, few_interfaces case, length-map (creations case.setups) created)

  pub ready : IsReady made
  ready = record {
    main = let member = zip_beside (IsMember (component_type_names m)) (component_list case) config.components 0 (main_component case) members refl in
        record { member = member.0; there = member.1; name = member.2.name; role = member.2.role };
    system_last = is_last;
    everyone = of.everyone;
    can_do = λ k w e. let there = at_place made.behaviours k w e in
        does_can k (Some w) w refl (omega (arith, of.everyone, slice_get_within made.behaviours k (Some w) there)) (of.does k (Some w) there);
  }
