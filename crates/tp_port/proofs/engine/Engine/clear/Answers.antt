-- With a `clear` nothing arrives, and the answer counts what was queued.
use Rattle.std.proofs.Common.{◌∙◌, ap, refl, ◌++◌, arith}
use Rattle.std.specs.Prelude.{codes, string_bytes}
use Rattle.tp_common.specs.declared.event.Event.TheVariants as event
use Rattle.tp_port.specs.QueueLine.{clear}
use Rattle.tp_port.specs.Replay.{counted_text}
use Rattle.tp_port.proofs.ReplayedLineOutcomes.{carries_quiet, quiet_one}
use Rattle.tp_port.proofs.engine.Engine.clear.Goals as goal

pub returns : goal.returns
returns c =
    carries_quiet _ _ clear (λ s. quiet_one event.Cleared refl) refl (omega arith) refl
    (λ s come. c.clear-count.ensures.after s.history come.queue)
    (λ s come.
    c.in_ok-write_count.ensures
    ∙ ap (λ n. string_bytes c.args.self.now.answers ++ counted_text (codes "cleared ") n) (c.clear-count.ensures.count s.history come.queue))
