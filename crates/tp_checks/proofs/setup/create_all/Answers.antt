-- The ports of the main component are those of its type.
use Rattle.std.proofs.{lemmas.Result.IfErr-weaker, Common.List, Common.ℕ}
use Rattle.tp_checks.specs.{Sorted.component_types_in, Refused.Tells, BrokenSetup.CaseSetupBreaks, BrokenSetup.SetupBreaks}
use Rattle.tp_checks.specs.Components.{HasPorts}
use Rattle.tp_checks.proofs.ModuleRefusalPropagation.{breaks_part, handed_on}
use Rattle.tp_checks.proofs.PortsOfComponentTypes.{can_beside, have_ports}
use Rattle.tp_checks.proofs.SetupFaultsTold.{beside_told, ports_there}
use Rattle.tp_checks.proofs.ModuleFaultPropagation.{handed, memory_left, tells_memory}
use Rattle.tp_checks.proofs.setup.create_all.Goals as goal

pub returns-in_err-ports-clause-refused : goal.returns-in_err-ports-clause-refused
returns-in_err-ports-clause-refused c = λ own.
    handed_on c.from_residual.result _ c.from_residual.ensures.1 (c.in_err-ports.ensures.refused own.numbered)
    (λ r. rw c.as_str-runs_on.ensures (r.variables.ports, r.variables.has_ports))

pub returns-clause-refused : goal.returns-clause-refused
returns-clause-refused c = λ own.
    let types = component_types_in c.args.sorted.now in
    let names = c.args.sorted.now.component_names in
    IfErr-weaker c.create_beside.result _ _
    (λ f. breaks_part _ _ f
    (can_beside types names c.in_ok-ports.ports c.args.config.now.types c.args.case.case.now c.requires.named c.in_ok-ports.ensures.distinct
    (rw c.as_str-runs_on.ensures at c.in_ok-ports.ensures.ports)))
    (c.create_beside.ensures.refused (have_ports types names c.args.config.now.types c.requires.named own))

pub returns-in_err-ports-clause-told : goal.returns-in_err-ports-clause-told
returns-in_err-ports-clause-told c = λ own known.
    let types = component_types_in c.args.sorted.now in
    let names = c.args.sorted.now.component_names in
    let case = c.args.case.case.now in
    let P = CaseSetupBreaks names types c.args.config.now.types case c.args.case.line in
    handed (Tells P) c.from_residual.result _ c.from_residual.ensures.1
    (tells_memory P c.in_err-ports.field-0.0
    (memory_left ((ports : List (List ℕ)) × HasPorts types case.runs_on ports) c.in_err-ports.field-0.0
    (rw c.as_str-runs_on.ensures at (c.in_err-ports.ensures.refused own.numbered))
    (ports_there types names case.runs_on c.requires.named known.0)))

pub returns-clause-told : goal.returns-clause-told
returns-clause-told c = λ own known.
    let types = component_types_in c.args.sorted.now in
    let names = c.args.sorted.now.component_names in
    let case = c.args.case.case.now in
    let made = c.args.config.now.types in
    IfErr-weaker c.create_beside.result (Tells (SetupBreaks names c.in_ok-ports.ports made case c.args.case.line))
    (Tells (CaseSetupBreaks names types made case c.args.case.line))
    (beside_told names c.in_ok-ports.ports types made case c.args.case.line (rw c.as_str-runs_on.ensures at c.in_ok-ports.ensures.ports))
    (c.create_beside.ensures.told (have_ports types names made c.requires.named own) known)
