-- The test case of a text that is read as a script, or its fault.
use Rattle.std.specs.Prelude.{ℕ, List}
use Rattle.tp_tree.specs.declared.tree.Module.{Module}
use Rattle.tp_syntax.specs.declared.script_fault.ScriptFault.TheVariants as script_fault
use Rattle.tp_syntax.specs.ReadTexts.{IsReadAs, IsUnread}
use Rattle.tp_play.specs.TestCases.{Made}
use Rattle.tp_script.specs.declared.fault.ScriptRule.TheVariants as script_rule
use Rattle.tp_script.specs.declared.fault.TestCaseFault.{TestCaseFault}
use Rattle.tp_script.specs.declared.fault.TestCaseFault.TheVariants as test_case_fault
use Rattle.tp_script.specs.{BrokenModules.ModuleBreaks, TestCases.IsTestCaseOf, TestCases.WellFormed}

-- the text is a script of this test case: it is read as a module of the grammar, within the limits of the text, of
-- names and numbers, and of open brackets; and the module obeys the rules and has that test case
pub record IsScriptOf (text : List ℕ) (made : Made) : Type 0 where
  pub parsed : Module
  pub read : IsReadAs text parsed
  pub well_formed : WellFormed parsed
  pub test_case : IsTestCaseOf parsed made

-- the text is refused with this fault: it breaks a rule of texts, as `parse` may report it; or it is read as a module,
-- within the limits, that doesn't obey the rules of modules, and that breaks this rule at this line; or memory ran out
abbrev pub IsScriptFaultOf : List ℕ → TestCaseFault → Type 0
IsScriptFaultOf text (test_case_fault.Refused (script_rule.Text rule) line) =
    IsUnread text (script_fault.Refused rule line)
IsScriptFaultOf text (test_case_fault.Refused (script_rule.Module rule) line) =
    (parsed : Module) × IsReadAs text parsed × (¬ WellFormed parsed) × ModuleBreaks parsed rule line
IsScriptFaultOf text (test_case_fault.Memory m) = Unit {0}
