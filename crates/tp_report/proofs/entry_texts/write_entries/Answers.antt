-- At first nothing is written; each entry adds its text.
use Rattle.tp_common.proofs.WatchedWriterGrowth.{nothing_yet, one_more}
use Rattle.tp_report.proofs.entry_texts.write_entries.Goals as goal

pub loop-entry-init : goal.loop-entry-init
loop-entry-init g c = record { written = nothing_yet g.W.Write.contents _; kept = c.requires.kept }

pub loop-entry-preserved : goal.loop-entry-preserved
loop-entry-preserved g c =
    let done = c.write_entry.ensures in
    record {
      written = one_more g.W.Write.contents _ c.args.entries.now c.loop-entry.entry-index c.entry-item.result c.loop-entry-test.true c.entry-item.is _ _ _
          c.loop-entry.invariant.written done.written;
      kept = done.kept;
    }
