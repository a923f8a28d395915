-- Where only the writing failed, all lines of the text are good.
use Rattle.tp_port.proofs.LineAnswersFromFront.{says_good}
use Rattle.tp_port.proofs.replay.replay_text.Goals as goal

pub returns-then-has_failed-clause-fault : goal.returns-then-has_failed-clause-fault
returns-then-has_failed-clause-fault g c = says_good _ _ c.in-Ok.ensures.ok.1
