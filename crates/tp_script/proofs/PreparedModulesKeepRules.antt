-- What a module that obeys the rules has, is had by what was made of it.
use Rattle.std.proofs.Common.{◌≡◌, ◌<◌, ◌≤◌, List, Option, All, length, map, sum, get_or, sym, ap, ◌∙◌, subst, arith}
use Rattle.std.proofs.{lemmas.List.length-map, lemmas.Option.slice_get-get_or, lemmas.Option.slice_get_within, lemmas.Slice.Zip.AllZip-long}
use Rattle.std.specs.List.{AllZip}
use Rattle.tp_tree.specs.declared.tree.{Module.Module, TestCase.TestCase, ComponentStart.ComponentStart}
use Rattle.tp_value.specs.declared.types.Types.{Types}
use Rattle.tp_config.specs.Setup.{PortDecl}
use Rattle.tp_checks.proofs.{RulesOfAddedComponents.most_small, NameSetLookups.place_there, ListPrefixGrowth.zip_at}
use Rattle.tp_checks.specs.declared.prepared.Prepared.{Prepared}
use Rattle.tp_checks.specs.{Definitions.component_type_names, Definitions.functions, Prepared.IsPreparedOf, Prepared.IsWellDeclared}
use Rattle.tp_checks.specs.Components.{creations, variable_name, variables}
use Rattle.tp_checks.specs.Starting.{IsStartPlace, IsStartOf, started_names, type_names_of}
use Rattle.tp_play.specs.declared.bodies.Bodies.{Bodies}
use Rattle.tp_play.specs.declared.instance.Instance.{Instance}
use Rattle.tp_play.specs.{Behaviours.size_of_behaviour, Instances.behaviour_of, TestCases.Made}
use Rattle.tp_script.specs.Instances.{AreFew, AreInstances, instance_count, known_in}
use Rattle.tp_script.specs.Scopes.{HasBodies, IsFunctionBody, IsMainBody, Known}
use Rattle.tp_script.specs.TestCases.{HasSoundBodies, WellFormed, known_of, size_of_test_case}
use Rattle.tp_script.proofs.TestCaseFromPasses.{kinds, known_is, test_case_of}
use Rattle.tp_script.proofs.TypesFixedByModule.{kinds_fixed, one_case, types_fixed}
use Rattle.tp_script.proofs.OneTestCase.{test_case_fixed}

module _ (m : Module) (p : Prepared) (of : IsPreparedOf m p) (rules : IsWellDeclared m) where
  abbrev speaks : TestCase → List (List PortDecl) → Types → Known
  speaks case ports types =
      record { types = types; component_types = component_type_names m; ports = ports; components = variables case.setups }

  -- what bodies may speak of is what was made
  same_known : (h : HasSoundBodies m) → known_of m h.case h.config h.types ≡ known_in p
  same_known h =
      ap (λ c. speaks c h.config.types h.types) (one_case m h.case p.case.case.now h.one_test_case of.one_test_case)
      ∙ ap (λ k. speaks p.case.case.now k h.types) (kinds_fixed m rules.names h.config.types p.config.types h.kinds (kinds m p of))
      ∙ ap (λ t. speaks p.case.case.now p.config.types t) (types_fixed m h.types p.types h.types_are of.types)
      ∙ sym (known_is m p of)

  -- so that there are bodies of that
  pub has_bodies : WellFormed m → HasBodies (known_in p) p.case.case.now (functions m)
  has_bodies whole =
      let h = whole.bodies in
      record {
        main = h.main;
        main_body =
            subst (λ k. IsMainBody k p.case.case.now h.main) (same_known h)
            (subst (λ c. IsMainBody (known_of m h.case h.config h.types) c h.main) (one_case m h.case p.case.case.now h.one_test_case of.one_test_case) h.main_body);
        bodies = h.bodies;
        function_bodies = subst (λ k. AllZip (IsFunctionBody k) (functions m) h.bodies) (same_known h) h.function_bodies;
      }

  -- there are few component variables, and each is started
  pub are_few : AreFew p
  are_few = record {
    few =
        let same = one_case m rules.case p.case.case.now rules.one_test_case of.one_test_case in
        omega (
          arith,
          ap length of.variables_are,
          length-map (creations p.case.case.now.setups) variable_name,
          ap (λ (c : TestCase). length (creations c.setups)) same,
          rules.variables.sound.few,
          most_small rules.case,
        );
    as_many =
        AllZip-long (IsStartPlace (started_names p.case.case.now.starts)) (variables p.case.case.now.setups) p.starts.places.items of.starts.all
        ∙ ap length (sym of.variables_are);
    started = started;
  } where
    started : All (λ place. place < length p.starts.starts.items) p.starts.places.items
    started k d below =
        let names = started_names p.case.case.now.starts in
        let place = get_or p.starts.places.items k d in
        let v = zip_at (IsStartPlace names) (variables p.case.case.now.setups) p.starts.places.items k place of.starts.all
        (slice_get-get_or p.starts.places.items k d below) in
        omega (
          arith,
          slice_get_within names place v.0 (place_there names v.0 place (sym v.2)),
          length-map p.case.case.now.starts (λ (x : ComponentStart). x.component),
          AllZip-long (IsStartOf (functions m) (variables p.case.case.now.setups) (type_names_of p.case.case.now)) p.case.case.now.starts
              p.starts.starts.items of.starts.starts,
        )

  -- what the components do is as small as in any test case of the module
  pub is_small : (bodies : Bodies) → IsMainBody (known_in p) p.case.case.now bodies.main
      → AllZip (IsFunctionBody (known_in p)) (functions m) bodies.functions.items → (list : List (Option Instance)) → AreInstances p list
      → length list ≡ instance_count p → WellFormed m → sum (map size_of_behaviour (map (behaviour_of bodies) list)) ≤ 100000
  is_small bodies own others list each count whole =
      let made : Made = record { config = p.config; types = p.types; behaviours = map (behaviour_of bodies) list } in
      subst (λ n. n ≤ 100000)
      (ap size_of_test_case (test_case_fixed m rules.names whole.small.made made whole.small.test_case (test_case_of m p of bodies own others list each count)))
      whole.small.few
