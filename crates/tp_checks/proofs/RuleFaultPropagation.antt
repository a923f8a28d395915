-- What a `?` tells, and a fault of a part as one of the whole.
use Rattle.std.proofs.Common.{inl, inr, ◌≡◌, ℕ, Result, IfErr, refl, sym, subst}
use Rattle.std.specs.Result.{IsErrAnd}
use Rattle.tp_checks.specs.declared.fault.{ModuleRule.ModuleRule, ModuleFault.ModuleFault}
use Rattle.tp_checks.specs.declared.fault.ModuleFault.TheVariants as module_fault
use Rattle.tp_checks.specs.Refused.{IsRefusedBy, Tells, TellsAt}
use Rattle.tp_checks.proofs.ModuleFaultPropagation.{handed}

module _ (P Q : ModuleRule → ℕ → Type 0) where
  pub told_on : (f : ModuleFault) → ((r : ModuleRule) (at : ℕ) → P r at → Q r at) → Tells P f → Tells Q f
  told_on (module_fault.Refused r at) part told = part r at told
  told_on (module_fault.Memory m) part told = told

  -- what a part tells, the whole tells
  pub tells_on : {T : Type 0} (r : Result T ModuleFault) (f : ModuleFault) → IsErrAnd r (λ y. y ≡ f) → ((r : ModuleRule) (at : ℕ) → P r at → Q r at)
      → Tells P f → IfErr r (Tells Q)
  tells_on r f is part told = handed (Tells Q) r f is (told_on f part told)

module _ (line : ℕ) (P Q : ModuleRule → Type 0) where
  pub told_at : (f : ModuleFault) → ((r : ModuleRule) → P r → Q r) → TellsAt line P f → TellsAt line Q f
  told_at f part = told_on _ _ f (λ r at told. (told.0, part r told.1))

  -- what a part tells at its line, the whole tells there
  pub tells_at : {T : Type 0} (r : Result T ModuleFault) (f : ModuleFault) → IsErrAnd r (λ y. y ≡ f) → ((r : ModuleRule) → P r → Q r) → TellsAt line P f
      → IfErr r (TellsAt line Q)
  tells_at r f is part told = handed (TellsAt line Q) r f is (told_at f part told)

module _ (line : ℕ) (P : ModuleRule → Type 0) (Q : ModuleRule → ℕ → Type 0) where
  pub told_from : (f : ModuleFault) → ((r : ModuleRule) → P r → Q r line) → TellsAt line P f → Tells Q f
  told_from f part = told_on _ Q f (λ r at told. subst (Q r) (sym told.0) (part r told.1))

  -- what a part tells at its line, a whole tells that has more lines
  pub tells_from : {T : Type 0} (r : Result T ModuleFault) (f : ModuleFault) → IsErrAnd r (λ y. y ≡ f) → ((r : ModuleRule) → P r → Q r line)
      → TellsAt line P f → IfErr r (Tells Q)
  tells_from r f is part told = handed (Tells Q) r f is (told_from f part told)

module _ (line : ℕ) (rule : ModuleRule) (Q : ModuleRule → ℕ → Type 0) where
  -- a fault of this rule at its line
  pub told_here : (f : ModuleFault) → f ≡ module_fault.Refused rule line → Q rule line → Tells Q f
  told_here f is broken = rw is broken

module _ (line : ℕ) (rule : ModuleRule) (Q : ModuleRule → Type 0) where
  pub told_rule : (f : ModuleFault) → f ≡ module_fault.Refused rule line → Q rule → TellsAt line Q f
  told_rule f is broken = rw is (refl, broken)

  pub tells_rule : {T : Type 0} (r : Result T ModuleFault) (f : ModuleFault) → IsErrAnd r (λ y. y ≡ f) → f ≡ module_fault.Refused rule line → Q rule
      → IfErr r (TellsAt line Q)
  tells_rule r f is refused broken = handed (TellsAt line Q) r f is (told_rule f refused broken)

-- where what is told shows that the rule isn't obeyed
pub broken_from : (P : ModuleRule → ℕ → Type 0) (R : Type 0) (f : ModuleFault) → ((r : ModuleRule) (at : ℕ) → P r at → R → ⊥) → Tells P f → IsRefusedBy R f
broken_from P R (module_fault.Refused r at) excludes told = inr (excludes r at told)
broken_from P R (module_fault.Memory m) excludes told = inl refl
