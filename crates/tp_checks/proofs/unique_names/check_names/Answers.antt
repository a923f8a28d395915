-- No two definitions of the module have one name, nor any two names within a definition.
use Rattle.std.proofs.Common.{◌≡◌, ◌∷◌, [], ◌∙◌, All, ap, arith, inr, length, map, subst, sym}
use Rattle.tp_tree.specs.declared.tree.Definition.{Definition}
use Rattle.tp_checks.specs.{Tables.IsNumbered, Definitions.of_kind, Definitions.case_of, Definitions.inner_names, Definitions.name_of}
use Rattle.tp_checks.specs.Rules.{AreNamed, HasOneTestCase, HasUniqueNames}
use Rattle.tp_checks.proofs.{DistinctNamesInParts.no_case, ModuleRefusalPropagation.handed_on}
use Rattle.tp_checks.proofs.unique_names.check_names.Goals as goal

pub returns-in-Some-clause-names : goal.returns-in-Some-clause-names
returns-in-Some-clause-names c = record {
  definitions = subst IsNumbered (ap (map (λ (d : Definition). name_of d.defined)) c.as_slice-2.ensures) c.in_ok-found.ensures.names;
  inner = subst (All (λ (d : Definition). IsNumbered (inner_names d.defined))) c.as_slice-2.ensures c.in_ok-found.ensures.inner;
}

pub returns-then-not-has_case-clause-refused : goal.returns-then-not-has_case-clause-refused
returns-then-not-has_case-clause-refused c =
    let none : of_kind case_of c.args.parsed.now.definitions ≡ [] =
    no_case c.args.parsed.now.definitions (rw c.as_slice.ensures at (sym c.has_case.ensures ∙ c.if-not-has_case.true)) in
    inr (λ h. let other : [] ≡ h.1.0 ∷ [] = sym none ∙ h.1.1 in absurd (cc))

pub returns-in_err-found-clause-refused : goal.returns-in_err-found-clause-refused
returns-in_err-found-clause-refused c =
    let m = c.args.parsed.now in
    handed_on c.from_residual.result _ c.from_residual.ensures.1 c.in_err-found.ensures.refused
    (λ (h : HasUniqueNames m × HasOneTestCase m). subst AreNamed (sym c.as_slice-2.ensures) (record {
      names = h.0.definitions;
      inner = h.0.inner;
      one_case = omega (arith, ap length h.1.1);
    }))
