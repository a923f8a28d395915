-- What has arrived makes no moment, and the worker stays consistent.
use Rattle.tp_behaviour.specs.Workers.{role_of}
use Rattle.tp_behaviour.proofs.WorkerInvariantOnArrivals.{drained}
use Rattle.tp_behaviour.proofs.looking.drain.Goals as goal

pub returns-clause-consistent : goal.returns-clause-consistent
returns-clause-consistent g c =
    let e = c.drain_some.ensures in
    (drained (role_of c.args.task.now) c.args.worker.now c.drain_some.new.self c.drain_some.new.desk e.moved.0 c.requires e.inbox e.moved.1 e.moved.2 e.arrivals
    e.drained.routed).1

pub returns-clause-trace : goal.returns-clause-trace
returns-clause-trace g c =
    let e = c.drain_some.ensures in
    (drained (role_of c.args.task.now) c.args.worker.now c.drain_some.new.self c.drain_some.new.desk e.moved.0 c.requires e.inbox e.moved.1 e.moved.2 e.arrivals
    e.drained.routed).0
