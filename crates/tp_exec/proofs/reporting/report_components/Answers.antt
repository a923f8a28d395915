-- The next component is reported, and at the end none is left.
use Rattle.std.proofs.Common.{◌≡◌, [], arith}
use Rattle.std.proofs.lemmas.Grind.{common_steps}
use Rattle.std.specs.Vec.Iter.{into_iter_items}
use Rattle.std.specs.Prelude.{vec_capacity}
use Rattle.std.proofs.lemmas.List.Elements.{All-rest}
use Rattle.tp_config.specs.Setup.{IsComponent}
use Rattle.tp_exec.specs.declared.ended.EndedComponent.{EndedComponent}
use Rattle.tp_exec.specs.Reporting.{IsReportedAs}
use Rattle.tp_exec.proofs.ReportMatchesRun.{space_more, zip_all, zip_more}
use Rattle.tp_exec.proofs.reporting.report_components.Goals as goal

pub loop-component-preserved : goal.loop-component-preserved
loop-component-preserved c =
    let s = c.args.config.now in
    let was = c.loop-component.invariant in
    let steps = c.in-Some.ensures.steps.0 in
    record {
      next = tt;
      finite = tt;
      own = All-rest (λ (e : EndedComponent). IsComponent s e.desk.comp) c.in-Some.component (into_iter_items c.next.new.self)
          (into_iter_items c.loop-component.component-iterator) steps was.own;
      space = space_more (into_iter_items c.loop-component.component-iterator) (into_iter_items c.next.new.self) c.loop-component.reports.items
          c.push_reserved.new.self.items
          c.in-Some.component c.in_ok-report_component.field-0 (vec_capacity c.loop-component.reports)
          (vec_capacity c.push_reserved.new.self) steps c.push_reserved.ensures.items c.push_reserved.ensures.capacity was.space;
      whole = zip_more (IsReportedAs s) (into_iter_items c.loop-component.component-iterator) (into_iter_items c.next.new.self) c.args.components.items
          c.loop-component.reports.items c.push_reserved.new.self.items
          c.in-Some.component c.in_ok-report_component.field-0 steps c.push_reserved.ensures.items c.in_ok-report_component.ensures was.whole;
    }

pub returns : goal.returns
returns c =
    let none : into_iter_items c.loop-component.component-iterator ≡ [] = grind (arith, common_steps, c.in-None.ensures.steps) in
    zip_all (IsReportedAs c.args.config.now) (into_iter_items c.loop-component.component-iterator) c.args.components.items c.loop-component.reports.items none
    c.loop-component.invariant.whole
