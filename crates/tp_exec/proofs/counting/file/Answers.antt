-- With each turn one route more is filed, up to the last.
use Rattle.std.proofs.Common.{arith}
use Rattle.tp_exec.proofs.RouteMessageCounts.{filed_next, filed_none, filed_whole}
use Rattle.tp_exec.proofs.counting.file.Goals as goal

pub loop-way-init : goal.loop-way-init
loop-way-init c = filed_none c.args.sender.now c.args.counts.now

pub loop-way-preserved : goal.loop-way-preserved
loop-way-preserved c =
    filed_next c.args.sender.now c.args.counts.now c.loop-way.counts c.insert.new.self c.loop-way.way
    (omega (arith, c.loop-way-test.true, c.ways-way-end.ensures.count)) c.loop-way.invariant c.route.result c.count.result c.route.ensures c.count.ensures
    c.in_ok-insert.ensures.updates

pub returns-clause-filed : goal.returns-clause-filed
returns-clause-filed c =
    filed_whole c.args.sender.now c.args.counts.now c.loop-way.counts c.loop-way.way
    (omega (arith, c.ways-way-end.ensures.count, c.loop-way.auto.way-end, c.loop-way-test.false)) c.loop-way.invariant

pub returns-clause-others : goal.returns-clause-others
returns-clause-others c = c.loop-way.invariant.others
