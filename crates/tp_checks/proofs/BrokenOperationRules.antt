-- What is told of a name that no variable has.
use Rattle.std.proofs.Common.{◌⊎◌, inl, inr, ◌≡◌, ℕ, List, Some, Contains, refl, subst}
use Rattle.tp_tree.specs.declared.tree.ComponentName.{ComponentName}
use Rattle.tp_tree.specs.declared.tree.ComponentName.TheVariants as c
use Rattle.tp_checks.specs.declared.fault.{ModuleRule.ModuleRule, ModuleFault.ModuleFault}
use Rattle.tp_checks.specs.declared.fault.ModuleRule.TheVariants as rule
use Rattle.tp_checks.specs.declared.fault.ModuleFault.TheVariants as module_fault
use Rattle.tp_checks.specs.{Named.IsAbsent, Refused.TellsAt, Scoping.IsReference, Scoping.Visible}
use Rattle.tp_checks.specs.BrokenOperations.{FromBreaks, NamesNoComponent, ReceiverBreaks}
use Rattle.tp_checks.specs.declared.scope.Variables.{Variables}
use Rattle.tp_checks.specs.Scoping as d
use Rattle.tp_checks.specs.BrokenOperations as b
use Rattle.tp_tree.specs.declared.tree.Receivers.TheVariants as destination
use Rattle.tp_checks.proofs.{NameLookupsAreUnique.absent_contained, NameLookupsAreUnique.absent_place, RuleFaultPropagation.told_rule}

-- what is no reference is a name
pub only_named : (scope : Visible) (variables : Variables) (turns : List (List ℕ)) (x : ComponentName)
    → ((k : ℕ) → IsReference scope variables turns x k → ⊥) → (n : List ℕ) × (x ≡ c.Named n)
only_named scope variables turns c.Mtc none = absurd (none 0 d.mtc)
only_named scope variables turns c.SelfComponent none = absurd (none 1 d.itself)
only_named scope variables turns (c.Named n) none = (n, refl)

module _ (scope : Visible) (variables : Variables) (turns : List (List ℕ)) (line : ℕ) (f : ModuleFault) where
  -- what is told of a name after `from` that is no reference
  pub no_reference_told : (x : ComponentName) (n : List ℕ) → x ≡ c.Named n → ((k : ℕ) → IsReference scope variables turns x k → ⊥)
      → (Contains variables.names n × (f ≡ module_fault.Refused rule.WrongType line))
      ⊎ ((Contains variables.names n → ⊥) × (f ≡ module_fault.Refused rule.Unknown line))
      → TellsAt line (FromBreaks scope variables turns (Some x)) f
  no_reference_told x n e none (inl h) = rw e (told_rule _ _ _ f h.1 (b.from_variable n h.0))
  no_reference_told x n e none (inr h) =
      rw e (told_rule _ _ _ f h.1 (b.from_nobody n h.0 (subst (λ y. (k : ℕ) → IsReference scope variables turns y k → ⊥) e none)))

  -- what is told of a component after `to` that is none
  pub nobody_told : (x : ComponentName) → ((n : List ℕ) → x ≡ c.Named n → IsAbsent turns n → Contains variables.names n → ⊥)
      → ((k : ℕ) → IsReference scope variables turns x k → ⊥) → f ≡ module_fault.Refused rule.Unknown line
      → TellsAt line (ReceiverBreaks scope variables turns (Some (destination.Component x))) f
  nobody_told c.Mtc no_variable none is = absurd (none 0 d.mtc)
  nobody_told c.SelfComponent no_variable none is = absurd (none 1 d.itself)
  nobody_told (c.Named n) no_variable none is = told_rule _ _ _ f is (b.to_nobody n (no_variable n refl) none)

module _ (scope : Visible) (variables : Variables) (turns : List (List ℕ)) where
  -- a name after `to` that a variable has
  pub variable_told : (n : List ℕ) → IsAbsent turns n → Contains variables.names n → {r : ModuleRule}
      → NamesNoComponent scope variables turns n r
      → ReceiverBreaks scope variables turns (Some (destination.Component (c.Named n))) r
  variable_told n absent there (b.no_variable_either s (b.turn k p)) = absurd (absent_place turns n k absent p)
  variable_told n absent there (b.no_variable_either s (b.parameter no_turn none other)) =
      absurd (absent_contained variables.names n none there)
  variable_told n absent there (b.no_variable_either s (b.component no_turn none other)) =
      absurd (absent_contained variables.names n none there)
  variable_told n absent there (b.no_variable_either s (b.unknown no_turn none other nor)) =
      absurd (absent_contained variables.names n none there)
  variable_told n absent there (b.holds_message k u no_turn v) = b.to_message n k u no_turn v
