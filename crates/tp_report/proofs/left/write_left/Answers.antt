-- Each port is one of the component, the senders of what is left there are components, and its lines come next.
use Rattle.std.proofs.Common.{◌<◌, ap, length, subst, sym, arith}
use Rattle.std.specs.Prelude.{All}
use Rattle.tp_common.proofs.WatchedWriterGrowth.{nothing_yet}
use Rattle.tp_queue.specs.Queues.{QueueState}
use Rattle.tp_value.specs.declared.message.Message.{Message}
use Rattle.tp_config.specs.Setup.{IsComponent, IsPort, ports_at}
use Rattle.tp_config.specs.Allowed.{IsSetup}
use Rattle.tp_config.proofs.RouteLaws.{few_at}
use Rattle.tp_report.specs.Lines.{component_port, sender_of}
use Rattle.tp_report.proofs.EntryNamesInConfiguration.{port_there, senders}
use Rattle.tp_report.proofs.PiecewiseWrittenText.{left_more}
use Rattle.tp_report.proofs.left.write_left.Goals as goal

pub overflow_cast-port : goal.overflow_cast-port
overflow_cast-port g c =
    let few = few_at c.args.test_case.now.config (subst IsSetup c.config.ensures c.len-lawful.ensures.lawful) c.args.desk.now.comp in
    omega (arith, few, c.requires.own.ports, c.port_count-place-end.ensures)

pub write_queued-requires-clause-port : goal.write_queued-requires-clause-port
write_queued-requires-clause-port g c =
    let s = c.args.test_case.now.config in
    let within : c.loop-place.place < length (ports_at s.types s.components c.args.desk.now.comp) =
    omega (arith, c.requires.own.ports, c.port_count-place-end.ensures) in
    subst (λ comp. IsPort s (component_port comp c.loop-place.place)) (sym c.comp-comp.ensures) (port_there s c.args.desk.now.comp c.loop-place.place within)

pub write_queued-requires-clause-senders : goal.write_queued-requires-clause-senders
write_queued-requires-clause-senders g c =
    let s = c.args.test_case.now.config in
    subst (All (λ e. IsComponent s (sender_of e))) (sym (ap (λ (q : QueueState Message). q.entries) c.queue.ensures.state))
    (senders s c.args.desk.now.comp c.loop-place.place c.args.desk.now.log c.requires.own.known)

pub loop-place-init : goal.loop-place-init
loop-place-init g c = (nothing_yet g.W.Write.contents _, c.requires.kept)

pub loop-place-preserved : goal.loop-place-preserved
loop-place-preserved g c = (
  left_more g.W.Write.contents c.args.test_case.now c.args.desk.now c.loop-place.place c.comp-comp.result c.queue.result.now.entries c.comp-comp.ensures
      (ap (λ (q : QueueState Message). q.entries) c.queue.ensures.state) _ _ _ c.loop-place.invariant.0 c.write_queued.ensures.written,
  c.write_queued.ensures.kept,
)
