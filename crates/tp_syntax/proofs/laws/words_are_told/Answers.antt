-- The word or symbol that is accepted is the one that comes.
use Rattle.tp_syntax.proofs.WantedTokensCome.{both_told}
use Rattle.tp_syntax.proofs.laws.words_are_told.Goals as goal

pub returns : goal.returns
returns c = both_told
