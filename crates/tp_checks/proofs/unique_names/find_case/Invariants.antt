-- No name so far is given twice, and what was found is the only test case so far, if any.
use Rattle.std.proofs.Common.{◌≡◌, map, take, All, IfSome}
use Rattle.tp_tree.specs.declared.tree.Definition.{Definition}
use Rattle.tp_checks.specs.{Tables.IsNumbered, Cases.cases_of}
use Rattle.tp_checks.specs.Definitions.{BeginsAmong, of_kind, case_of, name_of, inner_names}
use Rattle.tp_checks.proofs.unique_names.find_case.Given as goal

abbrev pub invariant-loop-definition : goal.invariant-loop-definition
invariant-loop-definition l = record {
  names : l.names ≡ map (λ (x : Definition). name_of x.defined) (take l.definition-index l.definitions);
  numbered : IsNumbered l.names;
  case : of_kind case_of (take l.definition-index l.definitions) ≡ cases_of l.case;
  inner : All (λ (x : Definition). IsNumbered (inner_names x.defined)) (take l.definition-index l.definitions);
  begins : IfSome l.case (λ found. BeginsAmong (take l.definition-index l.definitions) found.case.now found.line);
}
