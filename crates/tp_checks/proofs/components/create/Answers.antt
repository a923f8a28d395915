-- Why the component of a `var` is refused.
use Rattle.std.proofs.Common.{arith}
use Rattle.tp_checks.specs.{Refused.TellsAt, Additions.HasRoomForVariables, BrokenSetup.CreationBreaks}
use Rattle.tp_checks.proofs.ModuleFaultPropagation.{handed}
use Rattle.tp_checks.proofs.components.create.Goals as goal

pub returns-in_err-check_variable-clause-told : goal.returns-in_err-check_variable-clause-told
returns-in_err-check_variable-clause-told c = λ others (room : HasRoomForVariables _ _ _ _ _).
    let rules = c.args.rules.now in
    handed (TellsAt c.args.at.line (CreationBreaks rules.type_names.now rules.port_names.now others c.args.variables.now rules.most c.args.at.creation.now))
    c.from_residual.result _ c.from_residual.ensures.1 (c.in_err-check_variable.ensures.told others (omega (arith, room.few, room.room)))
