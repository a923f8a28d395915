-- A map is refused where the two ports can't be mapped.
use Rattle.tp_checks.specs.Components.{component_number}
use Rattle.tp_checks.proofs.PortsOfPairEnds.{map_broken}
use Rattle.tp_checks.proofs.setup.map_ends.Goals as goal

pub returns-in-Err-clause-refused : goal.returns-in-Err-clause-refused
returns-in-Err-clause-refused c = λ few own. map_broken c.args.config.now c.args.known.now (component_number c.args.system) own c.args.ends.0.now
    c.args.ends.1.now c.in_ok-p.p c.in_ok-p.q c.in_ok-p.ensures.first c.in_ok-p.ensures.second c.map_fault_at.result
    c.in-Err.fault c.in-Err.ensures.err.1 c.map_fault_at.ensures.told
