-- From what the passes make to the test case.
use Rattle.std.proofs.Common.{◌≡◌, ℕ, ◌+◌, List, ◌∷◌, Option, None, Some, IsSome, is_some, if◌then◌else◌, Contains, length, map, slice_get, option_map, refl, sym, ap, ◌∙◌, subst, arith}
use Rattle.std.proofs.{lemmas.List.length-map, lemmas.List.length-append, lemmas.Option.slice_get-map, lemmas.Option.same_Some}
use Rattle.std.proofs.lemmas.Slice.Zip.{AllZip-long}
use Rattle.std.specs.List.{AllZip}
use Rattle.tp_tree.specs.declared.tree.{Module.Module, TestCase.TestCase, Function.Function}
use Rattle.tp_config.specs.Shape.{ports_of}
use Rattle.tp_checks.proofs.{NameSetLookups.place_there, NameSetLookups.place_unknown, UniqueConfigurations.makes_leaves}
use Rattle.tp_checks.proofs.ListPrefixGrowth.{contains_at, zip_at, zip_beside}
use Rattle.tp_checks.specs.declared.prepared.Prepared.{Prepared}
use Rattle.tp_checks.specs.{Definitions.component_type_names, Definitions.functions, Rules.sut, Configuring.interface_number}
use Rattle.tp_checks.specs.Components.{IsMember, component_list, creations, created, interface, main_component, variable_name, variables}
use Rattle.tp_checks.specs.Starting.{IsStartPlace, IsStartOf, started_names, type_names_of}
use Rattle.tp_checks.specs.Prepared.{IsPreparedOf}
use Rattle.tp_play.specs.declared.body.Body.{Body}
use Rattle.tp_play.specs.declared.bodies.Bodies.{Bodies}
use Rattle.tp_play.specs.declared.instance.Instance.{Instance}
use Rattle.tp_script.specs.{Scopes.IsMainBody, Scopes.IsFunctionBody, Behaviours.Does}
use Rattle.tp_script.specs.Instances.{known_in, IsInstance, AreInstances, instance_count}
use Rattle.tp_script.specs.TestCases.{known_of, AreKinds, IsTestCaseOf}
use Rattle.tp_script.specs.Behaviours as d
use Rattle.tp_play.specs.{Behaviours.Behaviour, Instances.body_in, Instances.behaviour_of}
use Rattle.tp_script.specs.Instances as instances

-- what an item of a list was made of
pub mapped_from : {A B : Type 0} (f : A → B) (xs : List A) (k : ℕ) (y : B) → slice_get (map f xs) k ≡ Some y → (x : A) × (slice_get xs k ≡ Some x) × (f x ≡ y)
mapped_from {A} {B} f xs k y e = by (slice_get xs k) refl (sym (slice_get-map f xs k) ∙ e) where
  by : (o : Option A) → slice_get xs k ≡ o → option_map f o ≡ Some y → (x : A) × (slice_get xs k ≡ Some x) × (f x ≡ y)
  by None is made = absurd (cc)
  by (Some x) is made = (x, is, same_Some (f x) y made)

interface_length : (case : TestCase) → length (interface case) ≡ (if is_some case.system then 1 else 0)
interface_length case = by case.system where
  by : (o : Option (List ℕ)) → length (interface (record case { system = o })) ≡ (if is_some o then 1 else 0)
  by None = refl
  by (Some s) = refl

module _ (m : Module) (p : Prepared) (of : IsPreparedOf m p) where
  -- the names are those of the module
  pub known_is : known_in p ≡ known_of m p.case.case.now p.config p.types
  known_is =
      ap (λ (n : List (List ℕ)). record { types = p.types; component_types = n; ports = p.config.types; components = p.variables })
      of.sorted.components.names_are
      ∙ ap (λ (v : List (List ℕ)). record { types = p.types; component_types = component_type_names m; ports = p.config.types; components = v })
      of.variables_are

  pub kinds_are : p.config.types ≡ map ports_of of.config.types
  kinds_are =
      (makes_leaves (interface_number p.case.case.now) of.config.set_up.start p.case.case.now.setups p.config of.config.set_up.makes).0
      ∙ of.config.set_up.types_are

  pub kinds : AreKinds m p.config.types
  kinds = record { types = of.config.types; of_module = of.config.types_are; kinds_are = kinds_are }

  places_count : length p.starts.places.items ≡ length (creations p.case.case.now.setups)
  places_count =
      AllZip-long (IsStartPlace (started_names p.case.case.now.starts)) (variables p.case.case.now.setups) p.starts.places.items of.starts.all
      ∙ length-map (creations p.case.case.now.setups) variable_name

  pub everyone : length p.config.components ≡ instance_count p
  everyone =
      let kept = ap length (makes_leaves (interface_number p.case.case.now) of.config.set_up.start p.case.case.now.setups p.config of.config.set_up.makes).1 in
      let listed =
      AllZip-long (IsMember (component_type_names m)) (component_list p.case.case.now) of.config.set_up.start.components of.config.set_up.components_are in
      let first = length-map (creations p.case.case.now.setups) created in
      let both = length-append (main_component p.case.case.now ∷ map created (creations p.case.case.now.setups)) (interface p.case.case.now) in
      omega (arith, kept, listed, first, both, interface_length p.case.case.now, places_count)

  numbered : (n : ℕ) → IsSome p.case.case.now.system → n ≡ length p.starts.places.items + 1 → interface_number p.case.case.now ≡ Some n
  numbered n there is = by p.case.case.now.system there where
    by : (o : Option (List ℕ)) → IsSome o → option_map (λ _. length (creations p.case.case.now.setups) + 1) o ≡ Some n
    by None h = absurd (cc)
    by (Some s) h = ap (λ k. Some (k + 1)) (sym places_count) ∙ ap Some (sym is)

  module _ (bodies : Bodies) (own : IsMainBody (known_in p) p.case.case.now bodies.main)
      (others : AllZip (IsFunctionBody (known_in p)) (functions m) bodies.functions.items) where
    -- a instance whose body is known makes this behaviour
    made_of : (x : Instance) (b : Body) → body_in bodies x.which_body ≡ Some b
        → behaviour_of bodies (Some x) ≡ Some (record { body = b; references = map (λ c. c.0) x.references.items })
    made_of x b e = ap (option_map (λ (b : Body). record { body = b; references = map (λ c. c.0) x.references.items })) e

    instance_does : (k : ℕ) (x : Option Instance) → IsInstance p k x → Does (known_in p) (functions m) p.case.case.now p.starts k (behaviour_of bodies x)
    instance_does k x (instances.main instance src refs) =
        subst (Does (known_in p) (functions m) p.case.case.now p.starts 0) (sym (made_of instance bodies.main (ap (body_in bodies) src)))
        (d.main (record { body = bodies.main; references = map (λ c. c.0) instance.references.items }) own refs)
    instance_does k x (instances.started j place s instance there start src refs) =
        let begun =
        zip_at (IsStartOf (functions m) (variables p.case.case.now.setups) (type_names_of p.case.case.now)) p.case.case.now.starts
        p.starts.starts.items place s of.starts.starts start in
        let found = zip_beside (IsFunctionBody (known_in p)) (functions m) bodies.functions.items s.function begun.2.function others begun.2.function_known in
        subst (Does (known_in p) (functions m) p.case.case.now p.starts (j + 1)) (sym (made_of instance found.0 (ap (body_in bodies) src ∙ found.1)))
        (d.started j place s begun.2.function (record { body = found.0; references = map (λ c. c.0) instance.references.items }) there start
        begun.2.function_known
        found.2 refs)
    instance_does k x (instances.system n place instance there is placed src refs) =
        let named =
        mapped_from (λ (f : Function). f.name) (functions m) place sut
        (ap (λ l. slice_get l place) (sym of.sorted.functions.names_are) ∙ place_there p.sorted.function_names sut place (sym placed)) in
        let found = zip_beside (IsFunctionBody (known_in p)) (functions m) bodies.functions.items place named.0 others named.1 in
        subst (Does (known_in p) (functions m) p.case.case.now p.starts n) (sym (made_of instance found.0 (ap (body_in bodies) src ∙ found.1)))
        (d.system n named.0 (record { body = found.0; references = map (λ c. c.0) instance.references.items }) (numbered n there is)
        (contains_at (functions m) place named.0 named.1) named.2 found.2 refs)
    instance_does k x (instances.nobody n there is absent) =
        d.nobody n (numbered n there is)
        (λ h. place_unknown p.sorted.function_names sut (sym absent) (subst (λ l. Contains l sut) (sym of.sorted.functions.names_are) h))

    pub does : (list : List (Option Instance)) → AreInstances p list → (k : ℕ) (behaviour : Option Behaviour) → slice_get (map (behaviour_of bodies) list) k
        ≡ Some behaviour
        → Does (known_of m p.case.case.now p.config p.types) (functions m) p.case.case.now p.starts k behaviour
    does list each k behaviour e =
        let from = mapped_from (behaviour_of bodies) list k behaviour e in
        subst (λ kn. Does kn (functions m) p.case.case.now p.starts k behaviour) known_is
        (subst (Does (known_in p) (functions m) p.case.case.now p.starts k) from.2 (instance_does k from.0 (each k from.0 from.1)))

    -- what the passes made is the test case of the module
    pub test_case_of : (list : List (Option Instance)) → AreInstances p list → length list ≡ instance_count p
        → IsTestCaseOf m (record { config = p.config; types = p.types; behaviours = map (behaviour_of bodies) list })
    test_case_of list each count = record {
      case = p.case.case.now;
      one_test_case = of.one_test_case;
      types = of.types;
      kinds = kinds;
      config = of.config;
      starts = p.starts;
      starts_are = of.starts;
      everyone = length-map list (behaviour_of bodies) ∙ count ∙ sym everyone;
      does = does list each;
    }
