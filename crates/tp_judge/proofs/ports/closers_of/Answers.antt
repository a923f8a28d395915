-- One section more, and in the end all.
use Rattle.std.proofs.Common.{◌+◌, get_or, take, subst, sym, arith}
use Rattle.std.proofs.lemmas.List.{take_all}
use Rattle.std.proofs.lemmas.Option.{slice_get-get_or}
use Rattle.tp_judge.specs.LinesByNumber.{lines_at}
use Rattle.tp_judge.specs.Lawful.{IsCloserOf}
use Rattle.tp_judge.specs.PortRows.{AreClosers}
use Rattle.tp_judge.proofs.PairedItemsGrowth.{zip_next}
use Rattle.tp_judge.proofs.ports.closers_of.Goals as goal

pub loop-row-init : goal.loop-row-init
loop-row-init c = subst (AreClosers (take 0 c.args.closing.now)) (sym c.in_ok-closers.ensures.items) tt

pub loop-row-preserved : goal.loop-row-preserved
loop-row-preserved c =
    let n = c.loop-row.row-index in
    subst (AreClosers (take (n + 1) c.args.closing.now)) (sym c.in_ok-push.ensures.items)
    (zip_next (λ row closer. IsCloserOf (lines_at row.items) closer) c.args.closing.now c.loop-row.closers.items n
    (get_or c.args.closing.now n c.row-item.result) c.closer_of.result
    (slice_get-get_or c.args.closing.now n c.row-item.result (omega arith)) c.loop-row.invariant
    (subst (λ row. IsCloserOf (lines_at row.items) c.closer_of.result) c.row-item.is
    (subst (λ l. IsCloserOf (lines_at l) c.closer_of.result) c.deref.ensures.value c.closer_of.ensures)))

pub returns : goal.returns
returns c =
    subst (λ l. AreClosers l c.loop-row.closers.items)
    (take_all c.loop-row.row-index c.args.closing.now (omega arith)) c.loop-row.invariant
