-- What is said of a script belongs to what was read.
use Rattle.std.proofs.Common.{List, ℕ, subst}
use Rattle.tp_script.specs.Scripts.{IsScriptOf}
use Rattle.tpr.proofs.CheckedScriptFaults.{checking_fault, read_right}
use Rattle.tpr.proofs.checking.check_script.Goals as goal

pub returns-clause-right : goal.returns-clause-right
returns-clause-right g c =
    let made = c.in-Ok-read_script.test_case in
    read_right _ c.in-Ok.text.items made c.in-Ok.ensures.whole
    (subst (λ (t : List ℕ). IsScriptOf t made) c.as_slice.ensures.value c.in-Ok-read_script.ensures.script)

pub returns-in-Err-read_script-clause-fault : goal.returns-in-Err-read_script-clause-fault
returns-in-Err-read_script-clause-fault g c =
    checking_fault _ _ _ c.in-Ok.text.items c.in-Ok.ensures.whole c.in-Ok.ensures.short c.in-Ok.ensures.taken
    (rw (← c.as_slice.ensures.value) c.in-Err-read_script.ensures.fault)
