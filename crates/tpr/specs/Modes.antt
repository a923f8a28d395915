-- What each mode may print.
use Rattle.std.specs.Prelude.{ℕ, Option, List}
use Rattle.tp_common.specs.declared.watched.Watched.{Watched}
use Rattle.tpr.specs.declared.line.Mode.{Mode}
use Rattle.tpr.specs.declared.line.Mode.TheVariants as mode
use Rattle.tpr.specs.Checked.{IsCheckAnswer}
use Rattle.tpr.specs.Decided.{IsVerdictsAnswer}
use Rattle.tpr.specs.FaultLines.{IsQueueAnswer}
use Rattle.tpr.specs.Judged.{IsJudgeAnswer}
use Rattle.tpr.specs.Ran.{IsRunAnswer, IsTraceAnswer}

-- the mode may print this text with this status for what the reader had
abbrev pub IsAnswerOf : {R : Type 0} → Mode → (R → Option (List ℕ)) → Watched R → Watched R → List ℕ → ℕ → Type 0
IsAnswerOf mode.Queue remaining old new text status = IsQueueAnswer remaining old new text status
IsAnswerOf mode.Check remaining old new text status = IsCheckAnswer remaining old new text status
IsAnswerOf mode.Run remaining old new text status = IsRunAnswer remaining old new text status
IsAnswerOf mode.Trace remaining old new text status = IsTraceAnswer remaining old new text status
IsAnswerOf mode.Judge remaining old new text status = IsJudgeAnswer remaining old new text status
IsAnswerOf mode.Verdicts remaining old new text status = IsVerdictsAnswer remaining old new text status
