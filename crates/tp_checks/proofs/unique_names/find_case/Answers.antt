-- The next definition has a new name and none twice in it, and is a test case or not.
use Rattle.std.proofs.Common.{All, IfSome, [], ap, arith, drop, inr, map, subst, sym, take, ◌++◌, ◌+◌, ◌∙◌, ◌∷◌}
use Rattle.std.proofs.lemmas.List.{map_push, take_all}
use Rattle.std.specs.Option.{option_to_list}
use Rattle.tp_tree.specs.declared.tree.Definition.{Definition}
use Rattle.tp_checks.specs.{Tables.IsNumbered, Cases.cases_of, Refused.Tells, BrokenNames.DefinitionNamesBreak, BrokenNames.GivenNamesBreak}
use Rattle.tp_checks.specs.Definitions.{BeginsAmong, of_kind, case_of, inner_names, name_of}
use Rattle.tp_checks.specs.Rules.{AreNamed}
use Rattle.tp_checks.proofs.{TestCaseFaultsTold.begins_more, TestCaseFaultsTold.given_told, ModuleFaultPropagation.handed}
use Rattle.tp_checks.proofs.{DistinctNamesInParts.many_cases, DistinctNamesInParts.numbered_first, RuleFaultPropagation.told_on}
use Rattle.tp_checks.proofs.ModuleRefusalPropagation.{all_at, handed_on, mapped_behind}
use Rattle.tp_checks.proofs.ListPrefixGrowth.{all_more, kept_more, pushed}
use Rattle.tp_checks.proofs.unique_names.find_case.Goals as goal

pub loop-definition-preserved : goal.loop-definition-preserved
loop-definition-preserved c =
    let i = c.loop-definition.definition-index in
    let items = c.args.definitions.now in
    let x = c.definition-item.result in
    record {
      names = c.in_ok-check_name.ensures.names
          ∙ ap (λ l. l ++ name_of x.defined ∷ []) c.loop-definition.invariant.names
          ∙ sym (map_push (λ (d : Definition). name_of d.defined) (take i items) x)
          ∙ ap (map (λ (d : Definition). name_of d.defined)) (pushed items i x (omega arith) c.definition-item.is);
      numbered = c.in_ok-check_name.ensures.numbered;
      case = kept_more (λ (d : Definition). case_of d.defined) items i x (omega arith) c.definition-item.is
          ∙ ap (λ l. l ++ option_to_list (case_of x.defined)) c.loop-definition.invariant.case ∙ sym c.in_ok-case.ensures.case;
      inner = all_more (λ (d : Definition). IsNumbered (inner_names d.defined)) items i x (omega arith) c.definition-item.is c.loop-definition.invariant.inner
          c.in_ok-check_name.ensures.inner;
      begins = begins_more items i x (omega arith) c.definition-item.is c.loop-definition.case c.in_ok-case.case c.loop-definition.invariant.begins
          c.in_ok-case.ensures.begins;
    }

pub returns-clause-begins : goal.returns-clause-begins
returns-clause-begins c =
    subst (λ l. IfSome c.loop-definition.case (λ found. BeginsAmong l found.case.now found.line))
    (take_all c.loop-definition.definition-index c.args.definitions.now (omega arith)) c.loop-definition.invariant.begins

pub returns-clause-case : goal.returns-clause-case
returns-clause-case c =
    sym c.loop-definition.invariant.case ∙ ap (of_kind case_of) (take_all c.loop-definition.definition-index c.args.definitions.now (omega arith))

pub returns-clause-names : goal.returns-clause-names
returns-clause-names c =
    subst IsNumbered
    (c.loop-definition.invariant.names
    ∙ ap (map (λ (d : Definition). name_of d.defined)) (take_all c.loop-definition.definition-index c.args.definitions.now (omega arith)))
    c.loop-definition.invariant.numbered

pub returns-clause-inner : goal.returns-clause-inner
returns-clause-inner c =
    subst (All (λ (d : Definition). IsNumbered (inner_names d.defined))) (take_all c.loop-definition.definition-index c.args.definitions.now (omega arith))
    c.loop-definition.invariant.inner

pub returns-in_err-check_name-clause-refused : goal.returns-in_err-check_name-clause-refused
returns-in_err-check_name-clause-refused c =
    let i = c.loop-definition.definition-index in
    let items = c.args.definitions.now in
    let x = c.definition-item.result in
    handed_on c.from_residual.result _ c.from_residual.ensures.1 c.in_err-check_name.ensures.refused
    (λ (h : AreNamed items). (
      numbered_first _ (map (λ (d : Definition). name_of d.defined) (drop (i + 1) items))
          (subst IsNumbered
          (mapped_behind (λ (d : Definition). name_of d.defined) [] c.loop-definition.names items i x (omega arith) c.definition-item.is
          c.loop-definition.invariant.names) h.names),
      all_at (λ (d : Definition). IsNumbered (inner_names d.defined)) items i x (omega arith) c.definition-item.is h.inner,
    ))

pub returns-in_err-case-clause-refused : goal.returns-in_err-case-clause-refused
returns-in_err-case-clause-refused c =
    handed _ c.from_residual-in_err-case.result _ c.from_residual-in_err-case.ensures.1
    (inr (λ (h : AreNamed c.args.definitions.now). many_cases c.args.definitions.now c.loop-definition.definition-index c.definition-item.result (cases_of c.loop-definition.case) (omega arith)
    c.definition-item.is c.loop-definition.invariant.case c.in_err-case.ensures.refused h.one_case))

pub returns-in_err-check_name-clause-told : goal.returns-in_err-check_name-clause-told
returns-in_err-check_name-clause-told c =
    let items = c.args.definitions.now in
    let x = c.definition-item.result in
    let before = c.loop-definition.invariant in
    handed (Tells (DefinitionNamesBreak items)) c.from_residual.result _ c.from_residual.ensures.1
    (told_on (GivenNamesBreak c.loop-definition.names x) (DefinitionNamesBreak items) c.in_err-check_name.field-0.0
    (given_told items c.loop-definition.definition-index x (omega arith) c.definition-item.is c.loop-definition.names c.loop-definition.case before.names
    before.numbered before.case before.inner) c.in_err-check_name.ensures.told)
