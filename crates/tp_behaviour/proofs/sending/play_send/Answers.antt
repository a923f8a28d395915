-- A send that fails stops the behaviour.
use Rattle.std.proofs.Common.{subst, sym}
use Rattle.tp_play.specs.declared.body.ResolvedStatement.TheVariants as b
use Rattle.tp_behaviour.specs.Outcomes.{Stepped}
use Rattle.tp_behaviour.specs.Workers.{role_of, values_of}
use Rattle.tp_behaviour.proofs.StatementOutcomes.{failed}
use Rattle.tp_behaviour.proofs.sending.play_send.Goals as goal

-- the behaviour ends by the refusal that the send met
pub returns-in-Some-clause-ended : goal.returns-in-Some-clause-ended
returns-in-Some-clause-ended g c =
    failed (role_of c.args.execution.now.task.now) (values_of c.args.frame.now) c.args.sending.now c.in-Some.fault c.args.worker.now.desk.log
    c.send.new.worker.desk.log
    (rw c.in-Some.is at c.in_ok-send.ensures.sends)

-- it goes on
pub returns-in-None-clause-ended : goal.returns-in-None-clause-ended
returns-in-None-clause-ended g c =
    subst (λ o. Stepped c.args.execution.now.task.now (b.Send c.args.sending.now) o c.args.worker.now c.args.frame.now c.send.new.worker c.args.frame.now)
    (sym c.requires.goes_on) (rw c.in-None.is at c.in_ok-send.ensures.sends)
