-- A piece up to a quote, and another quote, are written as the text has them.
use Rattle.std.proofs.Common.{sym, subst}
use Rattle.tp_common.specs.Watching.{Writes}
use Rattle.tp_common.proofs.WatchedWriterGrowth.{writes_both}
use Rattle.tp_value.proofs.writing.write_text.Goals as goal

pub loop-front-preserved : goal.loop-front-preserved
loop-front-preserved g c = λ done rest.
    c.loop-front.invariant done (subst (Writes g.W.Write.contents _ _) (sym c.in-Some.ensures.cut)
    (writes_both _ _ _ _ _ _ c.write_bytes-in-Some.ensures (writes_both _ _ _ _ _ _ c.write_bytes-in-Some-2.ensures rest)))

pub returns : goal.returns
returns g c =
    let last = subst (Writes g.W.Write.contents _ _) (sym c.in_default.ensures.cut) c.write_bytes-2.ensures in
    writes_both _ _ _ _ _ _ c.write_bytes.ensures (writes_both _ _ _ _ _ _ (c.loop-front.invariant _ last) c.write_bytes-3.ensures)
