-- What the first write took, and then the rest.
use Rattle.std.proofs.Common.{subst}
use Rattle.std.proofs.lemmas.List.{take_all}
use Rattle.tp_common.specs.Watching.{Writes}
use Rattle.tp_common.proofs.WatchedWriterGrowth.{all_parts, writes_both}
use Rattle.tp_common.proofs.watched.write_bytes.Goals as goal

pub returns-then-count-bytes : goal.returns-then-count-bytes
returns-then-count-bytes g c =
    let some = c.write_some-count.ensures in
    subst (Writes g.W.Write.contents _ _) (all_parts c.args.bytes.now c.write_some-count.result some.few)
    (writes_both _ _ _ _ _ _ some.written c.write_rest.ensures)

pub returns-else-count-bytes : goal.returns-else-count-bytes
returns-else-count-bytes g c =
    subst (Writes g.W.Write.contents _ _) (take_all c.write_some-count.result c.args.bytes.now c.if-count-bytes.false) c.write_some-count.ensures.written
