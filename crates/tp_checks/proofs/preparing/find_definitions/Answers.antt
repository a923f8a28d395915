-- A module that is refused for its names or its test case isn't well declared.
use Rattle.tp_checks.specs.{Prepared.IsWellDeclared, Refused.Tells, Broken.DeclarationsBreak, Broken.definitions, Broken.names}
use Rattle.tp_checks.specs.{BrokenDefinitions.DefinitionsOfBreak, BrokenNames.NamesBreak}
use Rattle.tp_checks.proofs.{ModuleRefusalPropagation.handed_on, PreparationFaultsTold.begins_kept, ModuleFaultPropagation.handed}
use Rattle.tp_checks.proofs.RuleFaultPropagation.{told_on}
use Rattle.std.proofs.lemmas.Result.{IfErr-weaker}
use Rattle.tp_checks.proofs.preparing.find_definitions.Goals as goal

pub returns-in_err-case-clause-refused : goal.returns-in_err-case-clause-refused
returns-in_err-case-clause-refused c =
    handed_on c.from_residual.result _ c.from_residual.ensures.1 c.in_err-case.ensures.refused
    (λ (h : IsWellDeclared c.args.parsed.now). (h.names, (h.case, h.one_test_case)))

pub returns-in_err-case-clause-told : goal.returns-in_err-case-clause-told
returns-in_err-case-clause-told c =
    let m = c.args.parsed.now in
    handed (Tells (DeclarationsBreak m)) c.from_residual.result _ c.from_residual.ensures.1
    (told_on (NamesBreak m) (DeclarationsBreak m) c.in_err-case.field-0.0 (λ rule line b. names rule line b) c.in_err-case.ensures.told)

pub returns-clause-told : goal.returns-clause-told
returns-clause-told c =
    let m = c.args.parsed.now in
    let case = c.in_ok-case.case.case.now in
    IfErr-weaker c.define.result (Tells (DefinitionsOfBreak m case)) (Tells (DeclarationsBreak m))
    (λ f told. told_on (DefinitionsOfBreak m case) (DeclarationsBreak m) f
    (λ rule line b. definitions case rule line c.in_ok-case.ensures.names c.in_ok-case.ensures.case b) told)
    (c.define.ensures.told c.in_ok-case.ensures.names)

pub returns-clause-begins : goal.returns-clause-begins
returns-clause-begins c =
    begins_kept c.define.result c.args.parsed.now.definitions c.in_ok-case.case.case.now c.in_ok-case.case.line c.in_ok-case.ensures.begins
    c.define.ensures.case c.define.ensures.begins
