-- One variable more.
use Rattle.tp_behaviour.proofs.BehaviourStartAndEnd.{none_more}
use Rattle.tp_behaviour.proofs.behaving.begin.Goals as goal

pub loop-variable-preserved : goal.loop-variable-preserved
loop-variable-preserved g c =
    none_more c.as_slice-variable-items.result.now c.loop-variable._variable-index c.loop-variable.variables.items c.push.new.self.items
    c.loop-variable-test.true c.loop-variable.invariant c.in_ok-push.ensures.items
