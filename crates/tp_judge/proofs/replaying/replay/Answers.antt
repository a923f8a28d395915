-- One line more is replayed, or breaks a rule after those that were.
use Rattle.tp_judge.proofs.BrokenPortReplays.{broken_here, replayed_more}
use Rattle.tp_judge.proofs.replaying.replay.Goals as goal

pub returns-in-Some : goal.returns-in-Some
returns-in-Some c =
    broken_here c.args.events.now c.loop-line.line-index _ c.in-Some.rule c.loop-line-test.true c.loop-line.invariant.lawful
    ((rw c.in-Some.is at c.in_ok-step.ensures) _ c.loop-line.invariant)

pub loop-line-preserved : goal.loop-line-preserved
loop-line-preserved c =
    replayed_more c.args.events.now c.loop-line.line-index _ _ c.loop-line-test.true
    ((rw c.in-None.is at c.in_ok-step.ensures) _ c.loop-line.invariant)
