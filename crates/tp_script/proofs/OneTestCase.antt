-- A module has one test case, and so has a text; and a right text is accepted.
use Rattle.std.proofs.Common.{◌≡◌, List, Option, length, map, get_or, refl, sym, ap, ◌∙◌, subst, arith}
use Rattle.std.proofs.{lemmas.List.same_lists, lemmas.Option.slice_get-get_or}
use Rattle.tp_syntax.proofs.{AcceptedTexts.read_texts_are_accepted, SameModules.readings_are_unique}
use Rattle.tp_tree.specs.declared.tree.{Module.Module, TestCase.TestCase}
use Rattle.tp_value.specs.declared.types.Types.{Types}
use Rattle.tp_config.specs.{Setup.Setup, Shape.ports_of}
use Rattle.tp_checks.specs.Definitions.{component_type_names, component_types, functions, port_types, type_names}
use Rattle.tp_checks.specs.{Components.IsMember, Components.component_list, Prepared.IsConfigOf, Rules.HasUniqueNames, Starting.AreStarts}
use Rattle.tp_checks.specs.Configuring.{HaveOwnPorts, Makes, interface_number}
use Rattle.tp_checks.proofs.{PortsOfComponentTypes.have_ports, UniqueComponentTypes.names_made, UniqueComponentTypes.ports_numbered}
use Rattle.tp_checks.proofs.{UniqueConfigurations.makes_same, UniqueZipsAndPlaces.zip_same}
use Rattle.tp_checks.proofs.RulesOfAddedComponents.{member_one, same_setup}
use Rattle.tp_play.specs.{Behaviours.Behaviour, TestCases.Made}
use Rattle.tp_script.specs.{Accepted.ScriptsAreAccepted, Accepted.ScriptsHaveOneTestCase, Behaviours.Does}
use Rattle.tp_script.specs.TestCases.{IsTestCaseOf, WellFormed, known_of}
use Rattle.tp_script.specs.declared.fault.ScriptRule.TheVariants as script_rule
use Rattle.tp_script.specs.declared.fault.TestCaseFault.TheVariants as test_case_fault
use Rattle.tp_script.proofs.{BehavioursFixedByModule.does_fixed, SoundBodyScopes.own_names}
use Rattle.tp_script.proofs.TypesFixedByModule.{kinds_fixed, one_case, types_fixed}

abbrev made_of : Setup → Types → List (Option Behaviour) → Made
made_of config types behaviours = record { config = config; types = types; behaviours = behaviours }

module _ (m : Module) (unique : HasUniqueNames m) where
  -- the setup statements of a test case make one configuration
  config_fixed : (case : TestCase) (a b : Setup) → IsConfigOf m case a → IsConfigOf m case b → a ≡ b
  config_fixed case a b h k =
      makes_same (interface_number case) k.set_up.start own case.setups case.setups a b
      (subst (λ s. Makes (interface_number case) s case.setups a) same h.set_up.makes) k.set_up.makes refl
    where
      types : h.set_up.start.types ≡ k.set_up.start.types
      types =
          h.set_up.types_are
          ∙ kinds_fixed m unique (map ports_of h.types) (map ports_of k.types)
          (record { types = h.types; of_module = h.types_are; kinds_are = refl }) (record { types = k.types; of_module = k.types_are; kinds_are = refl })
          ∙ sym k.set_up.types_are

      components : h.set_up.start.components ≡ k.set_up.start.components
      components =
          zip_same (IsMember (component_type_names m)) (member_one (component_type_names m)) (component_list case) h.set_up.start.components
          k.set_up.start.components h.set_up.components_are k.set_up.components_are

      same : h.set_up.start ≡ k.set_up.start
      same =
          same_setup h.set_up.start k.set_up.start types components (h.set_up.not_connected ∙ sym k.set_up.not_connected)
          (h.set_up.not_mapped ∙ sym k.set_up.not_mapped)

      own : HaveOwnPorts k.set_up.start.types
      own =
          subst HaveOwnPorts (sym k.set_up.types_are)
          (have_ports (component_types m) (component_type_names m) (map ports_of k.types) refl
          (record { same = names_made (type_names m) (port_types m) (component_types m) k.types k.types_are; numbered = ports_numbered m unique })).own

  -- what runs look at is fixed: a module has one test case
  pub test_case_fixed : (x y : Made) → IsTestCaseOf m x → IsTestCaseOf m y → x ≡ y
  test_case_fixed x y h k =
      ap (λ c. made_of c x.types x.behaviours) config ∙ ap (λ t. made_of y.config t x.behaviours) types ∙ ap (made_of y.config y.types) behaviours
    where
      case : h.case ≡ k.case
      case = one_case m h.case k.case h.one_test_case k.one_test_case

      config : x.config ≡ y.config
      config = config_fixed k.case x.config y.config (subst (λ c. IsConfigOf m c x.config) case h.config) k.config

      types : x.types ≡ y.types
      types = types_fixed m x.types y.types h.types k.types

      known : known_of m h.case x.config x.types ≡ known_of m k.case y.config y.types
      known = ap (λ c. known_of m c x.config x.types) case ∙ ap (λ c. known_of m k.case c x.types) config ∙ ap (known_of m k.case y.config) types

      long : length x.behaviours ≡ length y.behaviours
      long = h.everyone ∙ ap (λ (s : Setup). length s.components) config ∙ sym k.everyone

      behaviours : x.behaviours ≡ y.behaviours
      behaviours =
          same_lists x.behaviours y.behaviours long
          (λ i d below. does_fixed m unique.definitions.distinct (known_of m k.case y.config y.types) (own_names m y.types k.types unique.inner) k.case h.starts k.starts
          (subst (λ c. AreStarts (functions m) c h.starts) case h.starts_are) k.starts_are i (get_or x.behaviours i d) (get_or y.behaviours i d)
          (subst (λ c. Does (known_of m k.case y.config y.types) (functions m) c h.starts i (get_or x.behaviours i d)) case
          (subst (λ n. Does n (functions m) h.case h.starts i (get_or x.behaviours i d)) known (h.does i (get_or x.behaviours i d) (slice_get-get_or x.behaviours i d below))))
          (k.does i (get_or y.behaviours i d) (slice_get-get_or y.behaviours i d (omega (arith, below, long)))))

pub scripts_have_one_test_case : ScriptsHaveOneTestCase
scripts_have_one_test_case text x y h k =
    test_case_fixed k.parsed k.well_formed.declared.names x y (subst (λ m. IsTestCaseOf m x) (readings_are_unique text h.parsed k.parsed h.read k.read) h.test_case) k.test_case

-- ---- a right text is accepted

pub scripts_are_accepted : ScriptsAreAccepted
scripts_are_accepted text parsed (test_case_fault.Refused (script_rule.Text rule) line) is right unread = read_texts_are_accepted text parsed rule line is unread
scripts_are_accepted text parsed (test_case_fault.Refused (script_rule.Module rule) line) is right told =
    told.2 (subst WellFormed (readings_are_unique text parsed told.0 is told.1) right)
scripts_are_accepted text parsed (test_case_fault.Memory m) is right h = tt
