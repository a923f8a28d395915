-- What the passes made is the test case of a module that obeys the rules, and can be executed.
use Rattle.std.proofs.Common.{◌≤◌, sym, subst}
use Rattle.std.specs.List.{AllZip}
use Rattle.tp_checks.specs.{Definitions.functions, Refused.Tells, Broken.DeclarationsBreak}
use Rattle.tp_script.specs.{Scopes.IsMainBody, Scopes.IsFunctionBody, TestCases.IsTestCaseOf, TestCases.size_of_test_case}
use Rattle.tp_script.specs.BrokenModules.{ModuleBreaks, declarations}
use Rattle.tp_script.proofs.TestCaseFromPasses.{kinds, known_is, test_case_of}
use Rattle.tp_script.proofs.ExecutableTestCases.{ready}
use Rattle.tp_checks.proofs.{ModuleFaultPropagation.handed, RuleFaultPropagation.told_on}
use Rattle.tp_script.proofs.checking.check.Goals as goal

-- the module obeys the rules, so that its test case can be executed
pub assemble-requires : goal.assemble-requires
assemble-requires c =
    let made = c.in_ok-behaviours.ensures in
    ready c.args.parsed.now _ c.in_ok-prepared.ensures.rules
    (test_case_of c.args.parsed.now c.in_ok-prepared.prepared c.in_ok-prepared.ensures.made c.in_ok-behaviours.behaviours.bodies made.main made.functions
    c.in_ok-behaviours.behaviours.instances.items made.instances made.count)

pub returns-clause-made : goal.returns-clause-made
returns-clause-made c =
    let made = c.in_ok-behaviours.ensures in
    subst (IsTestCaseOf c.args.parsed.now) (sym c.assemble.ensures)
    (test_case_of c.args.parsed.now c.in_ok-prepared.prepared c.in_ok-prepared.ensures.made c.in_ok-behaviours.behaviours.bodies made.main made.functions
    c.in_ok-behaviours.behaviours.instances.items made.instances made.count)

pub returns-clause-well_formed : goal.returns-clause-well_formed
returns-clause-well_formed c =
    let m = c.args.parsed.now in
    let p = c.in_ok-prepared.prepared in
    let of = c.in_ok-prepared.ensures.made in
    let bodies = c.in_ok-behaviours.behaviours.bodies in
    record {
      declared = c.in_ok-prepared.ensures.rules;
      bodies = record {
        case = p.case.case.now;
        one_test_case = of.one_test_case;
        types = p.types;
        types_are = of.types;
        config = p.config;
        kinds = kinds m p of;
        main = bodies.main;
        main_body = subst (λ k. IsMainBody k p.case.case.now bodies.main) (known_is m p of) c.in_ok-behaviours.ensures.main;
        bodies = bodies.functions.items;
        function_bodies = subst (λ k. AllZip (IsFunctionBody k) (functions m) bodies.functions.items) (known_is m p of) c.in_ok-behaviours.ensures.functions;
      };
      small = record {
        made = c.assemble.result;
        test_case = returns-clause-made c;
        few = subst (λ t. size_of_test_case t ≤ 100000) (sym c.assemble.ensures) c.in_ok-behaviours.ensures.few;
      };
    }

pub returns-in_err-prepared-clause-told : goal.returns-in_err-prepared-clause-told
returns-in_err-prepared-clause-told c =
    let m = c.args.parsed.now in
    handed (Tells (ModuleBreaks m)) c.from_residual.result _ c.from_residual.ensures.1
    (told_on (DeclarationsBreak m) (ModuleBreaks m) c.in_err-prepared.field-0.0 (λ rule line b. declarations rule line b)
    c.in_err-prepared.ensures.told)

pub returns-in_err-behaviours-clause-told : goal.returns-in_err-behaviours-clause-told
returns-in_err-behaviours-clause-told c =
    handed (Tells (ModuleBreaks c.args.parsed.now)) c.from_residual-in_err-behaviours.result _ c.from_residual-in_err-behaviours.ensures.1
    (c.in_err-behaviours.ensures.told c.in_ok-prepared.ensures.made c.in_ok-prepared.ensures.rules)
