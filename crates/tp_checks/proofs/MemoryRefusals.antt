-- A fault that is told as out of memory is out of memory.
use Rattle.std.proofs.Common.{◌≡◌, refl}
use Rattle.tp_common.specs.declared.refusal.Refusal.TheVariants as refusal
use Rattle.tp_checks.specs.declared.fault.{ModuleRule.ModuleRule, ModuleFault.ModuleFault}
use Rattle.tp_checks.specs.declared.fault.ModuleRule.TheVariants as module_rule
use Rattle.tp_checks.specs.declared.fault.ModuleFault.TheVariants as module_fault
use Rattle.tp_checks.specs.Told.{fault_refusal, rule_refusal}

-- no rule is told as out of memory
no_rule : (rule : ModuleRule) → rule_refusal rule ≡ refusal.Memory → ⊥
no_rule module_rule.Unknown e = cc
no_rule module_rule.Duplicate e = cc
no_rule module_rule.WrongType e = cc
no_rule module_rule.Direction e = cc
no_rule module_rule.Limit e = cc
no_rule module_rule.NotInSut e = cc
no_rule module_rule.NoDone e = cc
no_rule module_rule.NotStarted e = cc
no_rule module_rule.Directions e = cc
no_rule module_rule.TwoPortsOfOne e = cc
no_rule module_rule.Mixed e = cc
no_rule module_rule.NotOneToOne e = cc
no_rule module_rule.MapDirections e = cc
no_rule module_rule.SystemPort e = cc
no_rule module_rule.SamePort e = cc
no_rule module_rule.Already e = cc
no_rule module_rule.NotSystem e = cc

pub told_memory : (fault : ModuleFault) → fault_refusal fault ≡ refusal.Memory → fault ≡ module_fault.Memory (record {})
told_memory (module_fault.Refused rule line) e = absurd (no_rule rule e)
told_memory (module_fault.Memory m) e = refl
