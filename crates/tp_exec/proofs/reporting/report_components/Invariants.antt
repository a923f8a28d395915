-- The components so far are reported, and there is space for the others.
use Rattle.std.proofs.Common.{◌≤◌, ◌+◌, ◌++◌, List, length}
use Rattle.std.specs.Prelude.{All, vec_capacity}
use Rattle.std.specs.List.{AllZip}
use Rattle.std.specs.Vec.Iter.{into_iter_items}
use Rattle.tp_config.specs.Setup.{IsComponent}
use Rattle.tp_report.specs.declared.report.CompReport.{CompReport}
use Rattle.tp_exec.specs.declared.ended.EndedComponent.{EndedComponent}
use Rattle.tp_exec.specs.Reporting.{IsReportedAs}
use Rattle.tp_exec.proofs.reporting.report_components.Given as goal

abbrev pub invariant-loop-component : goal.invariant-loop-component
invariant-loop-component l =
    let rest = into_iter_items l.component-iterator in
    record {
      next : (goal.iterator-loop-component).can_next l.component-iterator;
      finite : (goal.iterator-loop-component).is_finite l.component-iterator;
      own : All (λ (e : EndedComponent). IsComponent l.config e.desk.comp) rest;
      space : length l.reports.items + length rest ≤ vec_capacity l.reports;
      whole : (more : List CompReport) → AllZip (IsReportedAs l.config) rest more → AllZip (IsReportedAs l.config) l.fn.components.items
          (l.reports.items ++ more);
    }
