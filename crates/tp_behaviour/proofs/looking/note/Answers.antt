-- An entry of the behaviour's own makes one moment, and the worker stays consistent.
use Rattle.tp_behaviour.specs.Workers.{role_of}
use Rattle.tp_behaviour.proofs.WorkerInvariantOnActions.{noted, plain_timely}
use Rattle.tp_behaviour.proofs.looking.note.Goals as goal

pub returns-clause-consistent : goal.returns-clause-consistent
returns-clause-consistent c =
    (noted (role_of c.args.task.now) c.args.worker.now c.note.new.self c.args.entry c.requires.consistent c.in-Ok.ensures.ok c.requires.plain c.requires.own).1

pub returns-clause-trace : goal.returns-clause-trace
returns-clause-trace c =
    (noted (role_of c.args.task.now) c.args.worker.now c.note.new.self c.args.entry c.requires.consistent c.in-Ok.ensures.ok c.requires.plain c.requires.own).0

-- no stamp of it could come too late
pub note-requires-clause-timely : goal.note-requires-clause-timely
note-requires-clause-timely c = plain_timely c.args.worker.now.desk.log c.args.entry c.requires.plain
