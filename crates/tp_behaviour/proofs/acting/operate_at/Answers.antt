-- An operation on a port makes one moment, and the worker stays consistent.
use Rattle.std.proofs.Common.{ap, sym, subst}
use Rattle.tp_inbox.specs.Desks.{Journal}
use Rattle.tp_behaviour.specs.Fresh.{HasOwn}
use Rattle.tp_behaviour.specs.Paths.{operated}
use Rattle.tp_behaviour.specs.Workers.{role_of}
use Rattle.tp_behaviour.proofs.PortOperationOutcomes.{own_more, plain_operated}
use Rattle.tp_behaviour.proofs.WorkerInvariantOnActions.{noted}
use Rattle.tp_behaviour.proofs.acting.operate_at.Goals as goal

-- the operation neither sends nor takes what arrives, and sees all that the component has sent to itself
pub returns-clause-consistent : goal.returns-clause-consistent
returns-clause-consistent g c =
    let e = operated c.args.operation c.args.port in
    (noted (role_of c.args.task.now) c.args.worker.now c.operate.new.desk e c.requires.consistent c.in_ok-operate.ensures
    (plain_operated c.args.operation c.args.port) (λ _. c.requires.own)).1

pub returns-clause-trace : goal.returns-clause-trace
returns-clause-trace g c =
    let e = operated c.args.operation c.args.port in
    (noted (role_of c.args.task.now) c.args.worker.now c.operate.new.desk e c.requires.consistent c.in_ok-operate.ensures
    (plain_operated c.args.operation c.args.port) (λ _. c.requires.own)).0

pub returns-clause-own : goal.returns-clause-own
returns-clause-own g c =
    subst (HasOwn c.args.task.now.comp) (sym (ap (λ (j : Journal). j.log) c.in_ok-operate.ensures))
    (own_more c.args.task.now.comp c.args.worker.now.desk.log (operated c.args.operation c.args.port)
    (plain_operated c.args.operation c.args.port) c.requires.own)
