-- What a refusal says about the part that was checked.
use Rattle.std.specs.Prelude.{◌≡◌, ◌⊎◌, ℕ}
use Rattle.tp_checks.specs.declared.fault.{ModuleRule.ModuleRule, ModuleFault.ModuleFault}
use Rattle.tp_checks.specs.declared.fault.ModuleFault.TheVariants as module_fault

-- the fault of a check: memory ran out, or this rule isn't obeyed
abbrev pub IsRefusedBy : Type 0 → ModuleFault → Type 0
IsRefusedBy rule fault = (fault ≡ module_fault.Memory (record {})) ⊎ (rule → ⊥)

-- the fault of a check: memory ran out, or this rule is broken at this line
abbrev pub Tells : (ModuleRule → ℕ → Type 0) → ModuleFault → Type 0
Tells IsBroken (module_fault.Refused rule line) = IsBroken rule line
Tells IsBroken (module_fault.Memory m) = Unit {0}

-- the same, for a part that begins at this line
abbrev pub TellsAt : ℕ → (ModuleRule → Type 0) → ModuleFault → Type 0
TellsAt line IsBroken = Tells (λ rule at. (at ≡ line) × IsBroken rule)
