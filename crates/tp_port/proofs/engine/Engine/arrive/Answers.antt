-- The message has its sender's number and the number of arrivals before it, and is queued.
use Rattle.std.proofs.Common.{subst, refl, ◌∷◌, ◌++◌, []}
use Rattle.std.specs.Prelude.{ℤ}
use Rattle.std.proofs.lemmas.Int.{to_z-of_z}
use Rattle.tp_common.specs.declared.event.Event.TheVariants as event
use Rattle.tp_queue.specs.Queues.{StandsFor}
use Rattle.tp_port.proofs.ReplayedLineOutcomes.{carries_arrive}
use Rattle.tp_port.proofs.engine.Engine.arrive.Goals as goal

pub returns-in_ok-push_str-in-Ok : goal.returns-in_ok-push_str-in-Ok
returns-in_ok-push_str-in-Ok c =
    carries_arrive c.args.self.now _ c.args.name.now c.args.value c.in_ok-sender.sender c.in_ok-sender.ensures.seen
    c.in_ok-sender.ensures.number
    (λ h s.
    subst
    (λ (v : ℤ). StandsFor c.arrive.new.self (h ++ event.Arrive (record { sender = c.in_ok-sender.sender; number = c.args.self.now.arrivals; msg = v }) ∷ []))
    (to_z-of_z _ c.args.value c.ranges.value) (c.in-Ok.ensures.ok h s))
    c.in_ok-push_str-in-Ok.ensures.bytes c.in_ok-sender.ensures.few refl
