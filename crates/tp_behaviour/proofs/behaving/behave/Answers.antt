-- The history follows the body from its first statement.
use Rattle.std.proofs.Common.{length, ap, subst, sym}
use Rattle.tp_play.specs.Playable.{CanPlayAll}
use Rattle.tp_behaviour.specs.Lasting.{AreLasting}
use Rattle.tp_behaviour.specs.Outcomes.{stage_at}
use Rattle.tp_behaviour.specs.Workers.{role_of}
use Rattle.tp_behaviour.proofs.BehaviourStartAndEnd.{has_ended, held_unset}
use Rattle.tp_behaviour.proofs.UnchangedWorkerPorts.{waits_from}
use Rattle.tp_behaviour.proofs.behaving.behave.Goals as goal

pub execute-requires-clause-held : goal.execute-requires-clause-held
execute-requires-clause-held g c κs within = held_unset c.args.task.now.behaviour.body.now c.in_ok-frame.frame.variables.items c.in_ok-frame.ensures.variables

-- no loop variable is around the statements of a body
pub execute-requires-clause-can : goal.execute-requires-clause-can
execute-requires-clause-can g c κs within =
    subst (λ n. CanPlayAll (stage_at c.args.task.now) n c.as_slice-statements.result.now) (sym (ap length c.in_ok-frame.ensures.turns))
    (subst (CanPlayAll (stage_at c.args.task.now) 0) (sym c.as_slice-statements.ensures) c.requires.can.statements)

-- what lasts of the body was made at its beginning
pub execute-requires-clause-lasting : goal.execute-requires-clause-lasting
execute-requires-clause-lasting g c κs within = subst (AreLasting c.as_slice-statements.result.now) (sym c.as_slice.ensures) c.in_ok-lasting.ensures

pub returns-clause-ended : goal.returns-clause-ended
returns-clause-ended g c =
    has_ended (role_of c.args.task.now) c.args.task.now.behaviour.body.now c.execute.new.outcome c.in_ok-frame.frame.turns.items
    c.in_ok-frame.frame.variables.items
    c.as_slice-statements.result.now c.execute.new.frame.variables.items c.args.worker.now.desk.log c.execute.new.worker.desk.log
    c.in_ok-frame.ensures.turns c.in_ok-frame.ensures.variables c.as_slice-statements.ensures c.requires.begun c.in_ok-execute.ensures.ended

pub returns-clause-within : goal.returns-clause-within
returns-clause-within g c =
    waits_from c.args.task.now c.execute.new.worker c.args.worker.now c.execute.new.outcome c.in_ok-execute.ensures.consistent c.requires.consistent
    c.in_ok-execute.ensures.within
