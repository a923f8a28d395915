-- A component that has nothing to do has done it.
use Rattle.tp_exec.proofs.BehavioursBackFromThreads.{returned_at_once}
use Rattle.tp_exec.proofs.threads.done_at_once.Goals as goal

pub returns-clause-returned : goal.returns-clause-returned
returns-clause-returned c = λ made waits nothing. returned_at_once made c.args.worker waits nothing
