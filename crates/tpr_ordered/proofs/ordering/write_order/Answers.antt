-- The line, what came of the run, and an empty line.
use Rattle.std.proofs.Common.{◌++◌, codes, refl}
use Rattle.std.specs.Prelude.{string_bytes}
use Rattle.tp_common.proofs.WatchedWriterGrowth.{writes_both, writes_first}
use Rattle.tpr_ordered.proofs.ordering.write_order.Goals as goal

pub returns : goal.returns
returns g c =
    let run = c.write_run.ensures in
    let line = rw (c.as_bytes.ensures.value, c.as_str.ensures.value) at c.write_bytes-2.ensures in (
      codes "order " ++ string_bytes c.args.order.now.line ++ codes "\n" ++ run.0 ++ codes "\n",
      record { run = run.0; is_run = run.1; is = refl },
      writes_first g.W.Write.contents _ _ _ _
          (writes_both _ _ _ _ _ _ (writes_both _ _ _ _ _ _ (writes_both _ _ _ _ _ _ (writes_both _ _ _ _ _ _ c.write_bytes.ensures line) c.write_bytes-3.ensures) run.2) c.write_bytes-4.ensures)
          c.flush.ensures,
    )
