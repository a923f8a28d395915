-- The faults of a script that is read and then checked.
use Rattle.std.proofs.Common.{◌≡◌, ℕ, ◌≤◌, inr, Option, Some, None, List, length, subst, arith}
use Rattle.std.specs.Prelude.{IfSome}
use Rattle.tp_common.specs.Reading.{TakesBytes}
use Rattle.tp_script.specs.declared.fault.TestCaseFault.{TestCaseFault}
use Rattle.tp_script.specs.declared.fault.TestCaseFault.TheVariants as script
use Rattle.tpr.specs.declared.checking.CheckFault.TheVariants as fault
use Rattle.tp_play.specs.TestCases.{Made}
use Rattle.tp_script.specs.Scripts.{IsScriptFaultOf, IsScriptOf}
use Rattle.tpr.specs.Checked.{HasCheckFault, IsRight, IsScriptFaultIn}

-- a fault of the checks, of a text that was read
script_fault : (f : TestCaseFault) (text : List ℕ) (taken : ℕ) → length text ≤ 1048576 → taken ≤ 1048576 → IsScriptFaultOf text f → IsScriptFaultIn text taken f
script_fault (script.Refused rule line) text taken short few h = (omega (arith, few), h)
script_fault (script.Memory m) text taken short few h = (few, inr short)

pub checking_fault : (f : TestCaseFault) (old new : Option (List ℕ)) (text : List ℕ) → IfSome old (λ all. text ≡ all) → length text ≤ 1048576
    → TakesBytes old new None → IsScriptFaultOf text f → HasCheckFault old new (fault.Script f)
checking_fault f None new text is short taken h = (taken.0, taken.1, tt)
checking_fault f (Some all) new text is short taken h =
    (taken.0, taken.1, subst (λ (t : List ℕ). IsScriptFaultIn t (length taken.0) f) is (script_fault f text (length taken.0) short taken.2 h))

-- a text that was read, and has a test case, is right
pub read_right : (known : Option (List ℕ)) (text : List ℕ) (made : Made) → IfSome known (λ all. text ≡ all) → IsScriptOf text made → IfSome known IsRight
read_right None text made is script = tt
read_right (Some all) text made is script = (made, subst (λ (t : List ℕ). IsScriptOf t made) is script)
