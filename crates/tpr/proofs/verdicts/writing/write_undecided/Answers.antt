-- The first line, and then the second, where there is one.
use Rattle.std.proofs.Common.{subst}
use Rattle.tp_common.specs.Watching.{Writes}
use Rattle.tp_common.proofs.WatchedWriterGrowth.{writes_both}
use Rattle.tpr.proofs.SeenVerdictLines.{seen_is}
use Rattle.tpr.proofs.verdicts.writing.write_undecided.Goals as goal

pub returns-then-not-is_empty : goal.returns-then-not-is_empty
returns-then-not-is_empty g c =
    let seen = writes_both _ _ _ _ _ _ c.write_bytes-then-not-is_empty.ensures
    (writes_both _ _ _ _ _ _ c.write_words.ensures c.write_bytes-then-not-is_empty-2.ensures) in
    writes_both _ _ _ _ _ _ c.write_bytes.ensures
    (subst (Writes g.W.Write.contents c.write_bytes.new.out c.write_bytes-then-not-is_empty-2.new.out) (seen_is c.args.found.now c.if-not-is_empty.ensures) seen)
