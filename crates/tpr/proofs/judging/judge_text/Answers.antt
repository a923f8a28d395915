-- What is said of a trace belongs to what was read.
use Rattle.std.proofs.Common.{List, ℕ, subst}
use Rattle.tp_judge.specs.Rulings.{IsRulingOf}
use Rattle.tpr.proofs.JudgedTraceFaults.{read_judged, untraced}
use Rattle.tpr.proofs.judging.judge_text.Goals as goal

pub returns-clause-ruling : goal.returns-clause-ruling
returns-clause-ruling g c =
    let ruling = c.in-Ok-referee.ruling in
    read_judged _ c.in-Ok.text.items ruling c.in-Ok.ensures.whole
    (subst (λ (t : List ℕ). IsRulingOf t ruling) c.as_slice.ensures.value c.in-Ok-referee.ensures.ruling)

pub returns-in-Err-referee-clause-fault : goal.returns-in-Err-referee-clause-fault
returns-in-Err-referee-clause-fault g c =
    untraced _ _ _ c.in-Ok.text.items c.in-Ok.ensures.whole c.in-Ok.ensures.short c.in-Ok.ensures.taken
    (rw (← c.as_slice.ensures.value) c.in-Err-referee.ensures.fault)
