-- A name that is there can't have a number of its own.
use Rattle.std.proofs.Common.{◌∙◌, Contains, inr, map, refl, subst}
use Rattle.tp_checks.proofs.DistinctNamesInParts.{repeated}
use Rattle.tp_checks.proofs.resolving.add_type.Goals as goal

pub returns-in-Err-Duplicate-clause-refused : goal.returns-in-Err-Duplicate-clause-refused
returns-in-Err-Duplicate-clause-refused c =
    let there = (rw c.in-Err-Duplicate.field-0-is at c.in-Err-Duplicate.ensures.duplicate).0 refl in
    inr (λ h. repeated (map (λ t. t.0) c.args.types.now) _
    (subst (Contains (map (λ t. t.0) c.args.types.now)) (c.in_ok-name.ensures.ok ∙ c.defined_name.ensures) there) h.2.distinct)
