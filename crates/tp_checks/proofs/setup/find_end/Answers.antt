-- The component has no port of this name.
use Rattle.std.proofs.Common.{inr}
use Rattle.tp_checks.specs.Components.{component_number}
use Rattle.tp_checks.proofs.PortsOfPairEnds.{no_port}
use Rattle.tp_checks.proofs.setup.find_end.Goals as goal

pub returns-in_default-port_of-clause-refused : goal.returns-in_default-port_of-clause-refused
returns-in_default-port_of-clause-refused c = λ few. inr (no_port c.args.config.now c.args.known.now (component_number c.args.system) c.args.end.now
    c.in-Some.comp c.in-Some.ensures.known
    (λ there. absurd (let h = c.in_default-port_of.ensures.known.1 (rw c.as_str.ensures there) in cc h)))
