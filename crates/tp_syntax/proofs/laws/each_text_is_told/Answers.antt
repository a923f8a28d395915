-- Reading by the table ends.
use Rattle.tp_syntax.proofs.ReadingEnds.{each_ends}
use Rattle.tp_syntax.proofs.laws.each_text_is_told.Goals as goal

pub returns : goal.returns
returns c = each_ends
