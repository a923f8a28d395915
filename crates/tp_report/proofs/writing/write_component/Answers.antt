-- Its pieces, one after the other, are the text of the component.
use Rattle.tp_report.proofs.PiecewiseWrittenText.{whole_component}
use Rattle.tp_report.proofs.writing.write_component.Goals as goal

pub returns-clause-written : goal.returns-clause-written
returns-clause-written g c =
    whole_component g.W.Write.contents c.args.telling c.args.test_case.now c.args.component.now c.comp-comp.result c.log.result.now c.comp-comp.ensures c.log.ensures.history
    _ _ _ _ _ _
    c.write_heading.ensures c.write_entries.ensures.written c.write_end.ensures c.write_verdict.ensures c.write_left.ensures.written
