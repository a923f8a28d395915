-- How a count below a number goes with its test.
use Rattle.std.proofs.Common.{◌≡◌, inl, inr, ℕ, zero, suc, ◌+◌, ◌<◌, Bool, true, false, cond, refl, sym, ap, ◌∙◌, arith}
use Rattle.std.proofs.lemmas.Bool.{cases_eq, cases_Bool}
use Rattle.tp_judge.specs.Counts.{count_below}

abbrev bit : Bool → ℕ
bit b = cond b 1 0

bit_none : (b : Bool) → bit b ≡ 0 → b ≡ false
bit_none true e = absurd (omega arith)
bit_none false e = refl

-- two tests that agree below the number
pub count_same : (n : ℕ) (p q : ℕ → Bool) → ((k : ℕ) → k < n → p k ≡ q k) → count_below p n ≡ count_below q n
count_same zero p q agree = refl
count_same (suc n) p q agree =
    let rest = count_same n p q (λ k low. agree k (omega arith)) in
    let here : bit (p n) ≡ bit (q n) = ap bit (agree n (omega arith)) in
    omega (arith, rest, here)

-- two tests that differ at one place
pub count_less : (n : ℕ) (p q : ℕ → Bool) (k : ℕ) → k < n → p k ≡ true → q k ≡ false
    → ((j : ℕ) → (j ≡ k → ⊥) → p j ≡ q j) → count_below p n ≡ count_below q n + 1
count_less zero p q k low pass fail agree = absurd (omega arith)
count_less (suc n) p q k low pass fail agree = elim (cases_eq k n) [
  | inl same ↦
      let rest = count_same n p q (λ j less. agree j (λ e. omega arith)) in
      let one : bit (p n) ≡ 1 = ap (λ i. bit (p i)) (sym same) ∙ ap bit pass in
      let none : bit (q n) ≡ 0 = ap (λ i. bit (q i)) (sym same) ∙ ap bit fail in
      omega (arith, rest, one, none)
  | inr other ↦
      let rest = count_less n p q k (omega arith) pass fail agree in
      let here : bit (p n) ≡ bit (q n) = ap bit (agree n (λ e. other (sym e))) in
      omega (arith, rest, here)
]

-- where the count is 0 the test fails everywhere
pub count_none : (n : ℕ) (p : ℕ → Bool) (k : ℕ) → count_below p n ≡ 0 → k < n → p k ≡ false
count_none zero p k none low = absurd (omega arith)
count_none (suc n) p k none low = elim (cases_eq k n) [
  | inl same ↦ ap p same ∙ bit_none (p n) (omega arith)
  | inr other ↦ count_none n p k (omega arith) (omega arith)
]

-- where it isn't 0 the test passes somewhere
pub count_some : (n : ℕ) (p : ℕ → Bool) → 0 < count_below p n → (k : ℕ) × (k < n) × (p k ≡ true)
count_some zero p some = absurd (omega arith)
count_some (suc n) p some = elim (cases_Bool (p n)) [
  | inl pass ↦ (n, omega arith, pass)
  | inr fail ↦
      let here : bit (p n) ≡ 0 = ap bit fail in
      let rest = count_some n p (omega (arith, here)) in
      (rest.0, omega (arith, rest.1), rest.2)
]
