-- Where making the components stopped, the first fault is told.
use Rattle.std.proofs.Common.{subst, codes, sym, ◌∷◌, []}
use Rattle.tp_checks.specs.{Configuring.CanSetUpBeside, Configuring.HavePorts, Refused.Tells, Additions.StopsCreating}
use Rattle.tp_checks.specs.BrokenSetup.{SetupBreaks}
use Rattle.tp_checks.proofs.{RulesOfAddedComponents.beside_can, RulesOfAddedComponents.has_first, ModuleRefusalPropagation.breaks_part}
use Rattle.tp_checks.proofs.SetupFaultsTold.{room_first}
use Rattle.tp_checks.proofs.setup.create_beside.Goals as goal

pub first_fault-requires : goal.first_fault-requires
first_fault-requires c =
    let stay = c.in-Err.ensures.stopped.added.types_stay in
    let case = c.args.case.case.now in
    record {
      first = has_first c.args.types.now case c.as_slice.result.now c.in-Err.stopped.before.now c.args.config.now c.create_components.new.config
          c.as_slice.ensures c.requires.main c.in-Err.ensures.stopped;
      broken = λ have. breaks_part _ _ c.in-Err.stopped.fault
          (λ r. beside_can c.args.types.now c.args.ports.now c.args.config.now.types case c.args.config.now c.as_slice.result.now c.most_variables.result
          c.as_slice.ensures c.most_variables.ensures (subst (HavePorts c.args.types.now) stay have) c.requires.main
          (subst (λ t. CanSetUpBeside c.args.types.now c.args.ports.now t case) stay r)) c.in-Err.ensures.refused;
    }

pub returns-in-Err-clause-told : goal.returns-in-Err-clause-told
returns-in-Err-clause-told c = λ have known.
    let names = c.args.types.now in
    let case = c.args.case.case.now in
    let stay = c.in-Err.ensures.stopped.added.types_stay in
    let stops : StopsCreating names c.args.ports.now (codes "mtc" ∷ []) c.most_variables.result c.as_slice.result.now c.in-Err.stopped.before.now
    c.in-Err.stopped.fault =
    c.in-Err.ensures.told (codes "mtc" ∷ [])
    (room_first names case c.args.config.now.types c.args.config.now c.most_variables.result have c.requires.main c.most_variables.ensures) in
    subst (λ t. Tells (SetupBreaks names c.args.ports.now t case c.args.case.line) c.first_fault.result) stay
    (c.first_fault.ensures.told (subst (HavePorts names) (sym stay) have) known
    (rw (c.most_variables.ensures, c.as_slice.ensures) at stops))
