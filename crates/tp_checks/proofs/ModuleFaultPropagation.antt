-- What a fault tells, handed on.
use Rattle.std.proofs.Common.{◌≡◌, ◌≤◌, ◌↔◌, ℕ, inl, inr, List, Contains, length, Result, Err, IfErr, refl}
use Rattle.std.proofs.lemmas.Result.{err_from_is_err_and}
use Rattle.std.specs.Result.{IsErrAnd, IsErrOf}
use Rattle.tp_checks.specs.declared.fault.{ModuleRule.ModuleRule, ModuleFault.ModuleFault}
use Rattle.tp_checks.specs.declared.fault.ModuleRule.TheVariants as module_rule
use Rattle.tp_checks.specs.declared.fault.ModuleFault.TheVariants as module_fault
use Rattle.tp_checks.specs.declared.name_set.NameFault.{NameFault}
use Rattle.tp_checks.specs.declared.name_set.NameFault.TheVariants as name_fault
use Rattle.tp_checks.specs.Refused.{IsRefusedBy, Tells, TellsAt}
use Rattle.tp_checks.specs.BrokenNames.{NameBreaks, already_given, crowded}

-- a `?` hands on what is known of a fault
pub handed : {T : Type 0} (P : ModuleFault → Type 0) (r : Result T ModuleFault) (f : ModuleFault) → IsErrAnd r (λ y. y ≡ f) → P f → IfErr r P
handed P r f is h =
    let p = err_from_is_err_and r is in
    rw (p.1, p.2) h

-- out of memory tells nothing
pub tells_memory : (P : ModuleRule → ℕ → Type 0) (f : ModuleFault) → f ≡ module_fault.Memory (record {}) → Tells P f
tells_memory P f e = rw e tt

-- where the rule is obeyed, only memory can have been wanted
pub memory_left : (R : Type 0) (f : ModuleFault) → IsRefusedBy R f → R → f ≡ module_fault.Memory (record {})
memory_left R f (inl e) r = e
memory_left R f (inr h) r = absurd (h r)

-- a fault that is a rule's shows that the rule is broken
pub really_broken : (R : Type 0) (f : ModuleFault) (rule : ModuleRule) (line : ℕ) → f ≡ module_fault.Refused rule line → IsRefusedBy R f → R → ⊥
really_broken R f rule line e (inl want) r = cc
really_broken R f rule line e (inr h) r = h r

-- a name that isn't added tells why, at its line
pub name_told : (names : List (List ℕ)) (name : List ℕ) (line : ℕ) (fault : NameFault) (made : ModuleFault)
    → (fault ≡ name_fault.Duplicate → made ≡ module_fault.Refused module_rule.Duplicate line)
    → (fault ≡ name_fault.Limit → made ≡ module_fault.Refused module_rule.Limit line)
    → (fault ≡ name_fault.Memory → made ≡ module_fault.Memory (record {}))
    → (IsErrOf {T = Unit {0}} (Err fault) name_fault.Duplicate ↔ Contains names name)
    → (IsErrOf {T = Unit {0}} (Err fault) name_fault.Limit → 4294967295 ≤ length names)
    → TellsAt line (NameBreaks names name) made
name_told names name line name_fault.Duplicate made duplicate limit memory there many = rw (duplicate refl) (refl, already_given (there.0 refl))
name_told names name line name_fault.Limit made duplicate limit memory there many =
    rw (limit refl) (refl, crowded (λ h. let e = there.1 h in cc e) (many refl))
name_told names name line name_fault.Memory made duplicate limit memory there many = rw (memory refl) tt
