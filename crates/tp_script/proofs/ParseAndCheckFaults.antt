-- The faults of a script that is read and then checked.
use Rattle.std.proofs.Common.{◌≡◌, ℕ, inl, inr, Result, IfErr, List}
use Rattle.std.proofs.lemmas.Result.{err_from_is_err_and}
use Rattle.std.specs.Result.{IsErrAnd}
use Rattle.tp_syntax.specs.declared.script_fault.ScriptFault.{ScriptFault}
use Rattle.tp_syntax.specs.declared.script_fault.ScriptFault.TheVariants as script_fault
use Rattle.tp_tree.specs.declared.tree.Module.{Module}
use Rattle.tp_checks.specs.declared.fault.ModuleFault.{ModuleFault}
use Rattle.tp_checks.specs.declared.fault.ModuleFault.TheVariants as module_fault
use Rattle.tp_checks.specs.Refused.{IsRefusedBy, Tells}
use Rattle.tp_syntax.specs.ReadTexts.{IsReadAs, IsUnread}
use Rattle.tp_script.specs.declared.fault.TestCaseFault.{TestCaseFault}
use Rattle.tp_script.specs.{BrokenModules.ModuleBreaks, Scripts.IsScriptFaultOf, TestCases.WellFormed, Told.of_module, Told.of_text}

of_reading : (f : ScriptFault) (text : List ℕ) → IsUnread text f → IsScriptFaultOf text (of_text f)
of_reading (script_fault.Refused rule line) text h = h
of_reading (script_fault.Memory m) text h = tt

-- what `parse` refuses is no module
pub unread_fault : {A : Type 0} (r : Result A TestCaseFault) (f : ScriptFault) (text : List ℕ) → IsErrAnd r (λ y. y ≡ of_text f) → IsUnread text f
    → IfErr r (IsScriptFaultOf text)
unread_fault r f text is h =
    let p = err_from_is_err_and r is in
    rw (p.1, p.2) (of_reading f text h)

of_checking : (f : ModuleFault) (text : List ℕ) (parsed : Module) → IsReadAs text parsed → IsRefusedBy (WellFormed parsed) f
    → Tells (ModuleBreaks parsed) f → IsScriptFaultOf text (of_module f)
of_checking (module_fault.Refused rule line) text parsed read (inl e) told = absurd (cc)
of_checking (module_fault.Refused rule line) text parsed read (inr broken) told = (parsed, read, broken, told)
of_checking (module_fault.Memory m) text parsed read broken told = tt

-- what the checks refuse was read as a module, which doesn't obey the rules, or memory was wanting
pub checked_fault : {A : Type 0} (r : Result A TestCaseFault) (f : ModuleFault) (text : List ℕ) (parsed : Module) → IsErrAnd r (λ y. y ≡ of_module f)
    → IsReadAs text parsed → IsRefusedBy (WellFormed parsed) f → Tells (ModuleBreaks parsed) f → IfErr r (IsScriptFaultOf text)
checked_fault r f text parsed is read broken told =
    let p = err_from_is_err_and r is in
    rw (p.1, p.2) (of_checking f text parsed read broken told)
