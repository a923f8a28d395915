-- What delivery between two components means for a route, and why the trace of a report is lawful.
use Rattle.std.specs.Prelude.{◌≡◌, ◌<◌, ℕ, Some, List, map, slice_get}
use Rattle.tp_queue.specs.History.{Lawful}
use Rattle.tp_config.specs.declared.port_type.CompId.{CompId}
use Rattle.tp_config.specs.declared.port_type.RouteId.{RouteId}
use Rattle.tp_play.specs.TestCases.{Made}
use Rattle.tp_inbox.specs.declared.entry.Entry.{Entry}
use Rattle.tp_inbox.specs.Desks.{at_port}
use Rattle.tp_inbox.specs.History.{arrived_on, sent_on}
use Rattle.tp_report.specs.declared.report.CompReport.{CompReport}
use Rattle.tp_report.specs.declared.report.Report.{Report}
use Rattle.tp_exec.specs.Delivery.{IsDeliveredBetween, IsReportOf, numbers_from}
use Rattle.tp_exec.specs.CausalOrder.{NoCircle}

-- delivery between two components implies delivery on each route from one to the other
abbrev pub RoutesFollow : Type 0
RoutesFollow =
    (c d : CompId) (sent came : List Entry) (r : RouteId) → IsDeliveredBetween c d sent came
    → r.source ≡ c → r.to.comp ≡ d
    → sent_on r sent ≡ arrived_on r came

-- on this route, the messages that were sent according to the first history are those that arrived according to the
-- second, in that order and each once, and they are numbered from 0
pub record IsLawfulRoute (r : RouteId) (sent came : List Entry) : Type 0 where
  pub same : sent_on r sent ≡ arrived_on r came
  pub numbered : map (λ s. s.0) (sent_on r sent) ≡ numbers_from 0 (sent_on r sent)

-- the three rules of a lawful trace, for the histories from which the trace of a report is written: each port's history
-- is lawful; so is each route between two of the components, whether or not the configuration has it; and there is no
-- circle
pub record IsLawfulTrace (report : Report) : Type 0 where
  pub ports : (c port : ℕ) (x : CompReport) → slice_get report.components.items c ≡ Some x → port < x.desk.ports
      → Lawful (at_port x.desk port)
  pub routes : (r : RouteId) (x y : CompReport) → slice_get report.components.items r.source.0 ≡ Some x
      → slice_get report.components.items r.to.comp.0 ≡ Some y → IsLawfulRoute r x.desk.log y.desk.log
  pub order : NoCircle report

-- the trace of a run's report is lawful
abbrev pub TracesAreLawful : Type 0
TracesAreLawful = (made : Made) (report : Report) → IsReportOf made report → IsLawfulTrace report
