-- The next of the queued has the next line, and the queue has all that are counted.
use Rattle.std.proofs.Common.{codes, sym, arith}
use Rattle.tp_common.specs.declared.event.Env.{Env}
use Rattle.tp_value.specs.declared.message.Message.{Message}
use Rattle.tp_config.specs.Setup.{IsComponent}
use Rattle.tp_report.specs.Lines.{envelope_line, sender_of}
use Rattle.tp_common.proofs.WatchedWriterGrowth.{nothing_yet}
use Rattle.tp_report.proofs.PiecewiseWrittenText.{all_at, not_past, one_more_at}
use Rattle.tp_report.proofs.left.write_queued.Goals.{in-Some, in_default}
use Rattle.tp_report.proofs.left.write_queued.Goals as goal

pub loop-place-init : goal.loop-place-init
loop-place-init g c = (nothing_yet g.W.Write.contents _, c.requires.kept)

pub write_envelope-requires-clause-sender : goal.write_envelope-requires-clause-sender
write_envelope-requires-clause-sender g c =
    all_at (λ (e : Env Message). IsComponent c.args.test_case.now.config (sender_of e)) c.args.queue.now.entries c.loop-place.place _ c.requires.senders
    (sym c.in-Some.ensures)

pub loop-place-preserved : goal.loop-place-preserved
loop-place-preserved g c =
    elim c.match-queued_at.branch [
      | in-Some w ↦ (
        rw (w.out-is)
            (one_more_at g.W.Write.contents (envelope_line c.args.test_case.now (codes "left") c.args.port) c.args.queue.now.entries c.loop-place.place _
            (sym w.in-Some.ensures) _ _ _ c.loop-place.invariant.0 w.write_envelope.ensures.written),
        rw (w.kept-is) w.write_envelope.ensures.kept,
      )
      | in_default w ↦ absurd (not_past c.args.queue.now.entries c.loop-place.place (sym w.in_default.ensures) (omega arith))
    ]
