-- The faults of a text and of a module as those of a script, and the refusals that report them.
use Rattle.tp_common.specs.declared.refusal.Refusal.{Refusal}
use Rattle.tp_syntax.specs.declared.script_fault.ScriptFault.{ScriptFault}
use Rattle.tp_syntax.specs.declared.script_fault.ScriptFault.TheVariants as script_fault
use Rattle.tp_syntax.specs.Told.{text_refusal}
use Rattle.tp_checks.specs.declared.fault.ModuleFault.{ModuleFault}
use Rattle.tp_checks.specs.declared.fault.ModuleFault.TheVariants as module_fault
use Rattle.tp_checks.specs.Told.{rule_refusal}
use Rattle.tp_script.specs.declared.fault.{ScriptRule.ScriptRule, TestCaseFault.TestCaseFault}
use Rattle.tp_script.specs.declared.fault.ScriptRule.TheVariants as script_rule
use Rattle.tp_script.specs.declared.fault.TestCaseFault.TheVariants as test_case_fault

-- each rule is reported by its own refusal
abbrev pub script_refusal : ScriptRule → Refusal
script_refusal (script_rule.Text rule) = text_refusal rule
script_refusal (script_rule.Module rule) = rule_refusal rule

-- a fault of the text
abbrev pub of_text : ScriptFault → TestCaseFault
of_text (script_fault.Refused rule line) = test_case_fault.Refused (script_rule.Text rule) line
of_text (script_fault.Memory m) = test_case_fault.Memory m

-- a fault of the module
abbrev pub of_module : ModuleFault → TestCaseFault
of_module (module_fault.Refused rule line) = test_case_fault.Refused (script_rule.Module rule) line
of_module (module_fault.Memory m) = test_case_fault.Memory m
