-- The refusal that reports each rule of a module.
use Rattle.std.specs.Prelude.{◌≡◌, ℕ}
use Rattle.tp_common.specs.declared.refusal.Refusal.{Refusal}
use Rattle.tp_common.specs.declared.refusal.Refusal.TheVariants as refusal
use Rattle.tp_checks.specs.declared.fault.{ModuleRule.ModuleRule, ModuleFault.ModuleFault}
use Rattle.tp_checks.specs.declared.fault.ModuleRule.TheVariants as module_rule
use Rattle.tp_checks.specs.declared.fault.ModuleFault.TheVariants as module_fault

-- each rule is reported by the refusal of the same name
abbrev pub rule_refusal : ModuleRule → Refusal
rule_refusal module_rule.Unknown = refusal.Unknown
rule_refusal module_rule.Duplicate = refusal.Duplicate
rule_refusal module_rule.WrongType = refusal.WrongType
rule_refusal module_rule.Direction = refusal.Direction
rule_refusal module_rule.Limit = refusal.Limit
rule_refusal module_rule.NotInSut = refusal.NotInSut
rule_refusal module_rule.NoDone = refusal.NoDone
rule_refusal module_rule.NotStarted = refusal.NotStarted
rule_refusal module_rule.Directions = refusal.Directions
rule_refusal module_rule.TwoPortsOfOne = refusal.TwoPortsOfOne
rule_refusal module_rule.Mixed = refusal.Mixed
rule_refusal module_rule.NotOneToOne = refusal.NotOneToOne
rule_refusal module_rule.MapDirections = refusal.MapDirections
rule_refusal module_rule.SystemPort = refusal.SystemPort
rule_refusal module_rule.SamePort = refusal.SamePort
rule_refusal module_rule.Already = refusal.Already
rule_refusal module_rule.NotSystem = refusal.NotSystem

-- a fault is reported by the refusal of its rule, or by the one for out of memory
abbrev pub fault_refusal : ModuleFault → Refusal
fault_refusal (module_fault.Refused rule line) = rule_refusal rule
fault_refusal (module_fault.Memory m) = refusal.Memory

-- a rule is broken at this line, or memory ran out, which has no line
abbrev pub IsAtLine : ℕ → ModuleFault → Type 0
IsAtLine line (module_fault.Refused rule n) = n ≡ line
IsAtLine line (module_fault.Memory m) = Unit {0}
