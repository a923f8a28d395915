-- What is said of the verdicts, and then nothing more.
use Rattle.std.proofs.Common.{refl}
use Rattle.tp_common.proofs.WatchedWriterGrowth.{writes_first}
use Rattle.tpr.specs.Texts.{verdicts_status, verdicts_text}
use Rattle.tpr.proofs.AlwaysMeansEachReport.{named}
use Rattle.tpr.proofs.deciding.answer_found.Goals as goal

pub write_verdicts-requires : goal.write_verdicts-requires
write_verdicts-requires g c = rw c.config.ensures (named c.args.test_case.now c.args.verdicts.now c.requires)

pub returns : goal.returns
returns g c =
    record {
      text = verdicts_text c.args.test_case.now.config c.args.verdicts.now;
      status = verdicts_status c.args.verdicts.now;
      allowed = record { verdicts = c.args.verdicts.now; found = c.requires; code = refl; said = refl };
      written = writes_first g.W.Write.contents _ _ _ _ (rw c.config.ensures at c.write_verdicts.ensures) c.status_if_written.ensures.written;
      told = rw c.verdicts_status.ensures at c.status_if_written.ensures.told;
    }
