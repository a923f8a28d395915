-- The lines of a trace, gathered by routes.
use Rattle.std.specs.Prelude.{length}
use Rattle.tp_judge.specs.declared.line.By.TheVariants as by
use Rattle.tp_judge.specs.declared.trace.IndexedTrace.{IndexedTrace}
use Rattle.tp_judge.specs.declared.delivery.RouteRows.{RouteRows}
use Rattle.tp_judge.specs.LinesByNumber.{AreGathered}

pub record AreRouteRows (trace : IndexedTrace) (rows : RouteRows) : Type 0 where
  pub sent_are : AreGathered by.Sent (length trace.joined.items) trace.lines.items rows.sent.items
  pub came_are : AreGathered by.Came (length trace.joined.items) trace.lines.items rows.came.items
