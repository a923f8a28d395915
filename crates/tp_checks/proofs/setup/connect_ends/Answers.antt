-- A connect is refused where the two ports can't be connected.
use Rattle.tp_checks.specs.Components.{component_number}
use Rattle.tp_checks.proofs.PortsOfPairEnds.{connect_broken}
use Rattle.tp_checks.proofs.setup.connect_ends.Goals as goal

pub returns-in-Err-clause-refused : goal.returns-in-Err-clause-refused
returns-in-Err-clause-refused c = λ few own. connect_broken c.args.config.now c.args.known.now (component_number c.args.system) own c.args.ends.0.now
    c.args.ends.1.now c.in_ok-p.p c.in_ok-p.q c.in_ok-p.ensures.first c.in_ok-p.ensures.second c.connect_fault_at.result
    c.in-Err.fault c.in-Err.ensures.err.1 c.connect_fault_at.ensures.told
