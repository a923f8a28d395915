-- A mode answers by what its function may print: by a search without lemmas, which ends soon where that isn't so.
use Rattle.tpr.proofs.answer.Goals as goal

pub returns-in-Queue-clause-answer : goal.returns-in-Queue-clause-answer
returns-in-Queue-clause-answer g c = rw c.in-Queue.is (search depth 0)

pub returns-in-Check-clause-answer : goal.returns-in-Check-clause-answer
returns-in-Check-clause-answer g c = rw c.in-Check.is (search depth 0)

pub returns-in-Run-clause-answer : goal.returns-in-Run-clause-answer
returns-in-Run-clause-answer g c = rw c.in-Run.is (search depth 0)

pub returns-in-Trace-clause-answer : goal.returns-in-Trace-clause-answer
returns-in-Trace-clause-answer g c = rw c.in-Trace.is (search depth 0)

pub returns-in-Judge-clause-answer : goal.returns-in-Judge-clause-answer
returns-in-Judge-clause-answer g c = rw c.in-Judge.is (search depth 0)

pub returns-in-Verdicts-clause-answer : goal.returns-in-Verdicts-clause-answer
returns-in-Verdicts-clause-answer g c = rw c.in-Verdicts.is (search depth 0)
