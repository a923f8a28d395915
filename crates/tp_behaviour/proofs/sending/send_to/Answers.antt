-- The route that the configuration names has a sender; where it names none, its fault is the cause.
use Rattle.tp_behaviour.specs.Workers.{role_of, values_of}
use Rattle.tp_behaviour.proofs.SendOutcomes.{cause_route, sends_one}
use Rattle.tp_behaviour.proofs.sending.send_to.Goals as goal

-- a route from a port of the component has a sender
pub send_on-requires-clause-known : goal.send_on-requires-clause-known
send_on-requires-clause-known g c κs within = c.requires.consistent.ends.from_ports c.args.sending.now.port c.in-Ok.route c.in-Ok.ensures.among

pub fail-requires-clause-cause : goal.fail-requires-clause-cause
fail-requires-clause-cause g c =
    cause_route (role_of c.args.execution.now.task.now) (values_of c.args.frame.now) c.args.sending.now c.args.message c.args.named c.in-Err.fault
    c.args.worker.now.desk.log
    c.requires.started c.requires.sent c.requires.named c.in-Err.ensures.route

pub returns-in_ok-send_on-in-Ok-clause-sends : goal.returns-in_ok-send_on-in-Ok-clause-sends
returns-in_ok-send_on-in-Ok-clause-sends g c =
    sends_one (role_of c.args.execution.now.task.now) (values_of c.args.frame.now) c.args.sending.now c.args.message c.args.named c.in-Ok.route
    c.args.worker.now.desk c.send_on.new.worker.desk.log
    c.requires.started c.requires.sent c.requires.named c.in-Ok.ensures.route c.in_ok-send_on-in-Ok.ensures.trace
