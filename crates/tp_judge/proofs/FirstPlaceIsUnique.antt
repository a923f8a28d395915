-- What is first is one.
use Rattle.std.proofs.Common.{◌≡◌, inl, inr, ℕ, ◌<◌, ap, ◌∙◌}
use Rattle.std.proofs.lemmas.Bool.{cases_order}
use Rattle.tp_judge.specs.declared.place.UnlawfulPlace.{UnlawfulPlace}

-- two numbers of which neither is less are one
pub neither_less : (j k : ℕ) → (j < k → ⊥) → (k < j → ⊥) → j ≡ k
neither_less j k first second = elim (cases_order j k) [
  | inl same ↦ same
  | inr apart ↦ elim apart [ inl low ↦ absurd (first low) | inr high ↦ absurd (second high) ]
]

pub same_place : (a b : UnlawfulPlace) → a.line ≡ b.line → a.rule ≡ b.rule → a ≡ b
same_place a b e f =
    ap (λ n. record { line = n; rule = a.rule }) e ∙ ap (λ r. record { line = b.line; rule = r }) f
