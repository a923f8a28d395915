-- The type is written, and then the value.
use Rattle.tp_common.proofs.WatchedWriterGrowth.{writes_both}
use Rattle.tp_report.specs.ReportWords.{message_text}
use Rattle.tp_report.proofs.words.write_message.Goals as goal

pub returns : goal.returns
unfolding message_text
returns g c = writes_both _ _ _ _ _ _ c.write_type.ensures c.write_value.ensures
