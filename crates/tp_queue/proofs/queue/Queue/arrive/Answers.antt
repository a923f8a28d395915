-- The queue stands for the history with the arrival behind it.
use Rattle.std.proofs.Common.{arith, refl, ◌≡◌, ◌∷◌, ◌++◌, []}
use Rattle.std.proofs.lemmas.Grind.{common_steps}
use Rattle.tp_common.specs.declared.event.Event.TheVariants as event
use Rattle.tp_queue.proofs.QueueStateTransitions.{arrive_stands, goes_on}
use Rattle.tp_queue.proofs.queue.Queue.arrive.Goals as goal

pub invariant_of-self-2 : goal.invariant_of-self-2
invariant_of-self-2 g c =
    let queue : c.push_back.new.self.items ≡ c.self.inside.entries.items ++ c.args.env ∷ [] = grind (arith, common_steps) in
    goes_on (event.Arrive c.args.env) c.self.invariant (arrive_stands _ _ _ _ _ _ refl queue)

pub returns-clause-ok : goal.returns-clause-ok
returns-clause-ok g c =
    let queue : c.push_back.new.self.items ≡ c.self.inside.entries.items ++ c.args.env ∷ [] = grind (arith, common_steps) in
    arrive_stands _ _ _ _ _ _ c.self.view_is queue
