-- The faults of a trace that is read and then judged.
use Rattle.std.proofs.Common.{◌≡◌, ℕ, ◌≤◌, inr, Option, Some, None, List, length, subst, arith}
use Rattle.std.specs.Prelude.{IfSome}
use Rattle.tp_common.specs.Reading.{TakesWithin}
use Rattle.tp_judge.specs.declared.referee.reading.TraceFault.{TraceFault}
use Rattle.tp_judge.specs.declared.referee.reading.TraceFault.TheVariants as trace
use Rattle.tp_judge.specs.Faults.{IsFaultOf}
use Rattle.tp_judge.specs.declared.referee.ruling.Ruling.{Ruling}
use Rattle.tp_judge.specs.Rulings.{IsRulingOf}
use Rattle.tpr.specs.declared.judging.JudgeFault.TheVariants as fault
use Rattle.tpr.specs.Judged.{HasJudgeFault, IsTraceFaultIn}

-- a fault of the trace, of a text that was read
trace_fault : (f : TraceFault) (text : List ℕ) (taken : ℕ) → length text ≤ 268435456 → taken ≤ 268435456 → IsFaultOf text f → IsTraceFaultIn text taken f
trace_fault (trace.BadLine line) text taken short few h = (few, h)
trace_fault trace.Limit text taken short few h = (omega (arith, few), h)
trace_fault trace.Memory text taken short few h = (few, inr short)

pub untraced : (f : TraceFault) (old new : Option (List ℕ)) (text : List ℕ) → IfSome old (λ all. text ≡ all) → length text ≤ 268435456
    → TakesWithin 268435456 old new None → IsFaultOf text f → HasJudgeFault old new (fault.Trace f)
untraced f None new text is short taken h = (taken.0, taken.1, tt)
untraced f (Some all) new text is short taken h =
    (taken.0, taken.1, subst (λ (t : List ℕ). IsTraceFaultIn t (length taken.0) f) is (trace_fault f text (length taken.0) short taken.2 h))

-- what is said of a text is said of what was read
pub read_judged : (known : Option (List ℕ)) (text : List ℕ) (ruling : Ruling) → IfSome known (λ all. text ≡ all) → IsRulingOf text ruling
    → IfSome known (λ all. IsRulingOf all ruling)
read_judged None text ruling is judged = tt
read_judged (Some all) text ruling is judged = subst (λ (t : List ℕ). IsRulingOf t ruling) is judged
