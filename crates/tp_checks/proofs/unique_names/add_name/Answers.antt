-- A name that isn't added tells why.
use Rattle.tp_checks.specs.Definitions.{declared}
use Rattle.tp_checks.proofs.ModuleFaultPropagation.{name_told}
use Rattle.tp_checks.proofs.unique_names.add_name.Goals as goal

pub returns-in-Err-clause-told : goal.returns-in-Err-clause-told
returns-in-Err-clause-told c =
    name_told c.args.names.now (declared c.args.name.now) c.args.name.now.line c.in-Err.fault c.at.result c.at.ensures.duplicate c.at.ensures.limit
    c.at.ensures.memory (rw c.as_str.ensures at c.in-Err.ensures.duplicate) c.in-Err.ensures.limit
