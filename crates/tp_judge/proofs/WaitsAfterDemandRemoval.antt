-- One demand less is left.
use Rattle.std.proofs.Common.{◌≡◌, ◌≢◌, ◌⊎◌, inl, inr, ℕ, ◌+◌, ◌<◌, ◌&&◌, ◌==◌, Bool, true, false, not, eq-eqb, List}
use Rattle.std.proofs.Common.{length, set, refl, sym, ap, ◌∙◌, slice_index, arith}
use Rattle.std.proofs.lemmas.Bool.{and_parts, and_from, and_left, and_right, and_cases, cases_eq, ne_eqb, cases_lt}
use Rattle.std.proofs.lemmas.Bool.{both_ways}
use Rattle.std.proofs.lemmas.List.{length-set, get_or-set_same, get_or-set_other}
use Rattle.tp_judge.specs.declared.demand.Demand.{Demand}
use Rattle.tp_judge.specs.Places.{after_at}
use Rattle.tp_judge.specs.Counts.{count_below, AreWaits}
use Rattle.tp_judge.proofs.CountsBelowBound.{count_same, count_less, count_none}

-- the demand at this place is left no more
abbrev pub without : (ℕ → Bool) → ℕ → ℕ → Bool
without left k j = left j && not (j == k)

and_true : (b : Bool) → (b && true) ≡ b
and_true true = refl
and_true false = refl

pub without_here : (left : ℕ → Bool) (k : ℕ) → without left k k ≡ false
without_here left k = and_right (left k) (not (k == k)) (ap not (eq-eqb k k refl))

pub without_other : (left : ℕ → Bool) (k j : ℕ) → j ≢ k → without left k j ≡ left j
without_other left k j other = ap (λ b. left j && not b) (ne_eqb j k other) ∙ and_true (left j)

-- what is left was left, and is another
pub without_true : (left : ℕ → Bool) (k j : ℕ) → without left k j ≡ true → (left j ≡ true) × (j ≢ k)
without_true left k j is =
    let parts = and_parts (left j) (not (j == k)) is in
    (parts.0, λ e. both_ways (not (j == k)) (ap not (eq-eqb j k e)) parts.1)

-- what isn't left was not left, or is the one
pub without_false : (left : ℕ → Bool) (k j : ℕ) → without left k j ≡ false → (left j ≡ false) ⊎ (j ≡ k)
without_false left k j is = elim (cases_eq j k) [
  | inl same ↦ inr same
  | inr other ↦ inl (sym (without_other left k j other) ∙ is)
]

-- a number that a demand that is left has second waits
pub waits_some : (demands : List Demand) (left : ℕ → Bool) (waits : List ℕ) (k : ℕ) → AreWaits demands left waits
    → k < length demands → left k ≡ true → after_at demands k < length waits → 0 < slice_index waits (after_at demands k)
waits_some demands left waits k are low here small =
    let t = after_at demands k in
    let test : ℕ → Bool = λ j. left j && (after_at demands j == t) in
    elim (cases_lt 0 (slice_index waits t)) [
      | inl some ↦ some
      | inr less ↦
          let none : count_below test (length demands) ≡ 0 = let e = are t small in omega (arith, e, less) in
          absurd (both_ways (test k) (count_none (length demands) test k none low) (and_from (left k) (t == t) here (eq-eqb t t refl)))
    ]

-- where nothing that is left has the number second
pub waits_none : (demands : List Demand) (left : ℕ → Bool) (waits : List ℕ) (k t : ℕ) → AreWaits demands left waits
    → k < length demands → t < length waits → slice_index waits t ≡ 0 → after_at demands k ≡ t → left k ≡ false
waits_none demands left waits k t are low small zero is =
    let test : ℕ → Bool = λ j. left j && (after_at demands j == t) in
    let none : count_below test (length demands) ≡ 0 = let e = are t small in omega (arith, e, zero) in
    elim (and_cases (left k) (after_at demands k == t) (count_none (length demands) test k none low)) [
      | inl gone ↦ gone
      | inr other ↦ absurd (both_ways (after_at demands k == t) other (eq-eqb (after_at demands k) t is))
    ]

-- the number that the demand has second waits for one less, and the others for as many
pub waits_less : (demands : List Demand) (left : ℕ → Bool) (waits : List ℕ) (k v : ℕ) → AreWaits demands left waits
    → k < length demands → left k ≡ true → after_at demands k < length waits → slice_index waits (after_at demands k) ≡ v + 1
    → AreWaits demands (without left k) (set waits (after_at demands k) v)
waits_less demands left waits k v are low here small is = λ x less.
    let t = after_at demands k in
    let size = length-set waits t v in
    let old : ℕ → Bool = λ j. left j && (after_at demands j == x) in
    let new : ℕ → Bool = λ j. without left k j && (after_at demands j == x) in
    let was : slice_index waits x ≡ count_below old (length demands) = are x (omega (arith, size, less)) in
    let agree : (j : ℕ) → j ≢ k → old j ≡ new j = λ j other. ap (λ b. b && (after_at demands j == x)) (sym (without_other left k j other)) in
    let gone : new k ≡ false = and_left (without left k k) (t == x) (without_here left k) in
    elim (cases_eq x t) [
      | inl same ↦
          let one = count_less (length demands) old new k low (and_from (left k) (t == x) here (eq-eqb t x (sym same))) gone agree in
          let now : slice_index (set waits t v) x ≡ v = ap (λ y. slice_index (set waits t v) y) same ∙ get_or-set_same waits t v 0 small in
          let before : slice_index waits x ≡ v + 1 = ap (λ y. slice_index waits y) same ∙ is in
          omega (arith, one, now, before, was)
      | inr other ↦
          let none : old k ≡ false = and_right (left k) (t == x) (ne_eqb t x (λ e. other (sym e))) in
          let alike : (j : ℕ) → j < length demands → old j ≡ new j = λ j _. elim (cases_eq j k) [
            | inl at ↦ ap old at ∙ none ∙ sym gone ∙ ap new (sym at)
            | inr apart ↦ agree j apart
          ] in
          get_or-set_other waits t x v 0 other ∙ was ∙ count_same (length demands) old new alike
    ]
