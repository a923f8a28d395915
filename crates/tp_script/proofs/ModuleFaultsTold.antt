-- What is told of a part is told of the module.
use Rattle.std.proofs.Common.{◌≡◌, ◌<◌, ◌≤◌, ◌⊎◌, inl, inr, ℕ, ◌+◌, List, Option, Some, Result, IfErr, length, map, sum, take, drop, get_or, sym, ap, subst, arith}
use Rattle.std.proofs.{lemmas.Bool.cases_lt, lemmas.List.length-map, lemmas.Result.IfErr-weaker, lemmas.Slice.Zip.AllZip-long}
use Rattle.std.specs.List.{AllZip}
use Rattle.tp_tree.specs.declared.tree.{ComponentType.ComponentType, Definition.Definition, Function.Function, Module.Module}
use Rattle.tp_tree.specs.declared.tree.{Statement.Statement, TestCase.TestCase, Variable.Variable}
use Rattle.tp_config.specs.Shape.{ports_of}
use Rattle.tp_checks.specs.declared.fault.{ModuleRule.ModuleRule, ModuleFault.ModuleFault}
use Rattle.tp_checks.specs.declared.fault.ModuleRule.TheVariants as module_rule
use Rattle.tp_checks.specs.{Refused.Tells, Refused.TellsAt, Prepared.IsPreparedOf, Prepared.IsWellDeclared, Resolved.IsComponentType}
use Rattle.tp_checks.specs.Definitions.{of_kind, component_types, function_of, functions, port_types, type_names}
use Rattle.tp_checks.specs.{Rules.AreComponentTypesKnown, Sorted.HasSoundDefinitions, BrokenBodies.BodyBreaks}
use Rattle.tp_checks.specs.Scoping.{IsSoundScope, Visible}
use Rattle.tp_checks.specs.declared.prepared.Prepared.{Prepared}
use Rattle.tp_checks.proofs.{NameFaultsTold.split_here, PreparationFaultsTold.case_known}
use Rattle.tp_checks.proofs.RuleFaultPropagation.{told_from, told_on}
use Rattle.tp_play.specs.declared.bodies.Bodies.{Bodies}
use Rattle.tp_play.specs.declared.body.Body.{Body}
use Rattle.tp_play.specs.declared.instance.Instance.{Instance}
use Rattle.tp_play.specs.{Behaviours.size_of_behaviour, Instances.behaviour_of, TestCases.Made}
use Rattle.tp_checks.specs.declared.scope.BehaviourKind.{BehaviourKind}
use Rattle.tp_script.specs.BrokenModules.{BodiesBreak, BreaksIn, FunctionBreaks, FunctionsBreak, IsCaseOf, ModuleBreaks, bodies, size}
use Rattle.tp_script.specs.{Instances.AreInstances, Instances.instance_count, Instances.known_in, TestCases.HasSoundBodies}
use Rattle.tp_script.specs.Scopes.{CanAllRun, CanRun, IsFunctionBody, IsMainBody, IsScope, IsSoundKnown, Known}
use Rattle.tp_script.proofs.TestCaseFromPasses.{kinds, kinds_are, known_is, test_case_of}
use Rattle.tp_script.proofs.{TypesFixedByModule.one_case, ExecutableTestCases.function_defined, ScopesFixedByKnown.sound_scope}

-- a body breaks a rule in the scope that was made for it
pub body_told : (known : Known) (plays plays_so : BehaviourKind) (runs_on runs_so : List ℕ) (names named : List (List ℕ)) (begins : ℕ) (s : Visible)
    (xs ys : List Variable) (statements stated : List Statement) (r : Result Body ModuleFault) → plays ≡ plays_so → runs_on ≡ runs_so → names ≡ named
    → xs ≡ ys → statements ≡ stated → IsSoundKnown known → IsScope known plays runs_on names s
    → (IsSoundScope s → IfErr r (Tells (BodyBreaks s begins xs statements))) → IfErr r (Tells (BreaksIn known plays_so runs_so named begins ys stated))
body_told known plays plays_so runs_on runs_so names named begins s xs ys statements stated r e f g h i sound is told =
    rw (← e, ← f, ← g, ← h, ← i)
    (IfErr-weaker r (Tells (BodyBreaks s begins xs statements)) (Tells (BreaksIn known plays runs_on names begins xs statements))
    (λ y. told_on (BodyBreaks s begins xs statements) (BreaksIn known plays runs_on names begins xs statements) y
    (λ rule line b. record { scope = s; is_scope = is; breaks = b })) (told (sound_scope known plays runs_on names s sound is)))

module _ (known : Known) (xs : List Definition) (i : ℕ) (x : Definition) (f : Function) (lt : i < length xs) (is : x ≡ get_or xs i x)
    (found : Some f ≡ function_of x.defined) where
  -- the function runs on a component type that there is
  pub can_run : CanAllRun known xs → CanRun known f.runs_on
  can_run run =
      let here : AreComponentTypesKnown known.component_types x.defined =
      subst (λ (d : Definition). AreComponentTypesKnown known.component_types d.defined) (sym is) (run.there i x lt) in
      record {
        there = (subst (AreComponentTypesKnown known.component_types) (function_defined x.defined f (sym found)) here).0;
        typed = run.typed;
      }

  -- its body breaks a rule, and those before it stand for something
  pub function_told : (before : List Body) (fault : ModuleFault) → AllZip (IsFunctionBody known) (of_kind function_of (take i xs)) before
      → Tells (FunctionBreaks known f x.line) fault → Tells (FunctionsBreak known xs) fault
  function_told before fault each told =
      told_on (FunctionBreaks known f x.line) (FunctionsBreak known xs) fault (λ rule line b. record {
        before = take i xs;
        definition = x;
        after = drop (i + 1) xs;
        function = f;
        bodies = before;
        split = split_here xs i x lt is;
        is = sym found;
        obey = each;
        breaks = b;
      }) told

-- what isn't at most as many is more
pub above : (n : ℕ) → (n ≤ 100000 → ⊥) → 100000 < n
above n many = by (cases_lt 100000 n) where
  by : (100000 < n) ⊎ (n ≤ 100000) → 100000 < n
  by (inl more) = more
  by (inr few) = absurd (many few)

module _ (m : Module) (p : Prepared) (of : IsPreparedOf m p) (rules : IsWellDeclared m) where
  is_case : IsCaseOf m p.case.case.now p.case.line p.config p.types
  is_case = record { one_test_case = of.one_test_case; begins_at = of.begins; config_is = of.config; types_are = of.types }

  typed : length p.sorted.component_names ≡ length p.config.types
  typed =
      omega (
        arith,
        ap length of.sorted.components.names_are,
        length-map (component_types m) (λ (c : ComponentType). c.name),
        AllZip-long (IsComponentType (type_names m) (port_types m)) (component_types m) of.config.types of.config.types_are,
        ap length (kinds_are m p of),
        length-map of.config.types ports_of,
      )

  -- all bodies run on component types that there are
  pub all_run : CanAllRun (known_in p) m.definitions
  all_run = record {
    there = λ k d below.
        subst (λ n. AreComponentTypesKnown n (get_or m.definitions k d).defined) (sym of.sorted.components.names_are)
        (rules.definitions k d below).component_types_known;
    typed = typed;
  }

  pub main_runs : CanRun (known_in p) p.case.case.now.runs_on
  main_runs =
      let same = one_case m rules.case p.case.case.now rules.one_test_case of.one_test_case in
      record {
        there = (case_known m p.sorted.component_names p.case.case.now p.case.line of.sorted.components.names_are of.begins
            (subst (λ (c : TestCase). HasSoundDefinitions m c) same rules.definitions)).0;
        typed = typed;
      }

  -- a body breaks a rule
  pub bodies_told : (fault : ModuleFault) → Tells (BodiesBreak (known_in p) p.case.case.now p.case.line m.definitions) fault
      → Tells (ModuleBreaks m) fault
  bodies_told fault told =
      told_on (BodiesBreak (known_in p) p.case.case.now p.case.line m.definitions) (ModuleBreaks m) fault
      (λ rule line b. bodies p.case.case.now p.case.line p.config p.types rule line rules is_case
      (subst (λ k. BodiesBreak k p.case.case.now p.case.line m.definitions rule line) (known_is m p of) b)) told

  module _ (made : Bodies) (main : IsMainBody (known_in p) p.case.case.now made.main)
      (others : AllZip (IsFunctionBody (known_in p)) (functions m) made.functions.items) where
    sound_bodies : HasSoundBodies m
    sound_bodies = record {
      case = p.case.case.now;
      one_test_case = of.one_test_case;
      types = p.types;
      types_are = of.types;
      config = p.config;
      kinds = kinds m p of;
      main = made.main;
      main_body = subst (λ k. IsMainBody k p.case.case.now made.main) (known_is m p of) main;
      bodies = made.functions.items;
      function_bodies = subst (λ k. AllZip (IsFunctionBody k) (functions m) made.functions.items) (known_is m p of) others;
    }

    -- there are too many statements
    pub size_told : (list : List (Option Instance)) → AreInstances p list → length list ≡ instance_count p → (fault : ModuleFault)
        → TellsAt p.case.line (λ rule. (rule ≡ module_rule.Limit) × (100000 < sum (map size_of_behaviour (map (behaviour_of made) list)))) fault
        → Tells (ModuleBreaks m) fault
    size_told list each count fault told =
        let all : Made = record { config = p.config; types = p.types; behaviours = map (behaviour_of made) list } in
        told_from p.case.line (λ rule. (rule ≡ module_rule.Limit) × (100000 < sum (map size_of_behaviour (map (behaviour_of made) list)))) (ModuleBreaks m)
        fault
        (λ rule b. subst (λ (r : ModuleRule). ModuleBreaks m r p.case.line) (sym b.0)
        (size p.case.case.now p.case.line all rules sound_bodies is_case (test_case_of m p of made main others list each count) b.1)) told
