-- A halt puts the mark of a started port behind all that is queued, and moves no other mark.
use Rattle.std.proofs.Common.{refl, ◌∙◌}
use Rattle.tp_common.specs.declared.event.Event.TheVariants as event
use Rattle.tp_queue.proofs.QueueStateTransitions.{halt_stands, halt_again_stands, count_again, goes_on}
use Rattle.tp_queue.proofs.queue.Queue.halt.Goals as goal

pub invariant_of-self : goal.invariant_of-self
invariant_of-self g c =
    goes_on event.Halted c.self.invariant
    (halt_stands _ _ _ _ _ refl c.in-Started.is (c.len-self-inside.ensures ∙ c.self.inside.entries.ok.0))

pub returns-in-Started-clause-after : goal.returns-in-Started-clause-after
returns-in-Started-clause-after g c =
    halt_stands _ _ _ _ _ c.self.view_is c.in-Started.is (c.len-self-inside.ensures ∙ c.self.inside.entries.ok.0)

pub returns-in-Halted : goal.returns-in-Halted
returns-in-Halted g c =
    record {
      count = count_again _ _ _ _ c.self.view_is c.in-Halted.is;
      after = halt_again_stands _ _ _ _ c.self.view_is c.in-Halted.is;
    }
