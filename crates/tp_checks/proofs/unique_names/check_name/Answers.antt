-- The name of the definition can't be given, or one in it.
use Rattle.tp_checks.specs.{BrokenNames.GivenNamesBreak, BrokenNames.NameBreaks, BrokenNames.own_name, Definitions.name_of}
use Rattle.tp_checks.proofs.{ModuleFaultPropagation.name_told, RuleFaultPropagation.told_from}
use Rattle.tp_checks.proofs.unique_names.check_name.Goals as goal

pub returns-in-Err-clause-told : goal.returns-in-Err-clause-told
returns-in-Err-clause-told c =
    let x = c.args.definition.now in
    told_from x.line (NameBreaks c.args.names.now (name_of x.defined)) (GivenNamesBreak c.args.names.now x) c.at.result (λ rule b. own_name rule b)
    (name_told c.args.names.now (name_of x.defined) x.line c.in-Err.fault c.at.result c.at.ensures.duplicate c.at.ensures.limit c.at.ensures.memory
    (rw c.defined_name.ensures at c.in-Err.ensures.duplicate) c.in-Err.ensures.limit)
