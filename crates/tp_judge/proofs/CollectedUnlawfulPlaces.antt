-- Places are collected, number by number, where something doesn't hold.
use Rattle.std.proofs.Common.{◌≡◌, ◌⊎◌, inl, inr, ℕ, ◌<◌, ◌≤◌, List, [], ◌∷◌, ◌++◌, refl, sym, subst, ⊎_elim, arith}
use Rattle.std.specs.Prelude.{All, ◌↔◌}
use Rattle.std.proofs.lemmas.List.Elements.{All-head, All-nil, All-push}
use native.Mathlib.Decide.{ℕ_discrete}
use Rattle.tp_judge.specs.declared.place.UnlawfulPlace.{UnlawfulPlace}
use Rattle.tp_judge.specs.ToldOf.{OneForEach, of_none, next_lawful, next_unlawful}

-- a place was found for some number below the count
abbrev pub IsFound : ℕ → (ℕ → UnlawfulPlace → Type 0) → UnlawfulPlace → Type 0
IsFound count Q place = (k : ℕ) × (k < count) × Q k place

either : {A : Type 0} → Dec A → A ⊎ (¬ A)
either (yes e) = inl e
either (no n) = inr n

-- each was found
pub each_found : (P : ℕ → Type 0) (Q : ℕ → UnlawfulPlace → Type 0) (count n : ℕ) (places : List UnlawfulPlace) → OneForEach P Q n places
    → n ≤ count → All (IsFound count Q) places
each_found P Q count n places of_none below = All-nil (IsFound count Q)
each_found P Q count n places (next_lawful m _ rest here) below = each_found P Q count m places rest (omega arith)
each_found P Q count n places (next_unlawful m others place rest here) below =
    All-push (IsFound count Q) others place (each_found P Q count m others rest (omega arith)) (m, omega arith, here.is)

not_empty : (places : List UnlawfulPlace) (place : UnlawfulPlace) → places ++ place ∷ [] ≡ [] → ⊥
not_empty [] place e = cc
not_empty (x ∷ places) place e = cc

-- where there is no place P holds of all
none_missing : (P : ℕ → Type 0) (Q : ℕ → UnlawfulPlace → Type 0) (n : ℕ) (places : List UnlawfulPlace) → OneForEach P Q n places → places ≡ []
    → (k : ℕ) → k < n → P k
none_missing P Q n places of_none none k below = absurd (omega arith)
none_missing P Q n places (next_lawful m _ rest here) none k below = ⊎_elim
    (λ (e : k ≡ m). subst P (sym e) here)
    (λ (d : k ≡ m → ⊥). none_missing P Q m places rest none k (omega arith))
    (either (ℕ_discrete k m))
none_missing P Q n places (next_unlawful m others place rest here) none k below = absurd (not_empty others place none)

no_place : (P : ℕ → Type 0) (Q : ℕ → UnlawfulPlace → Type 0) (count : ℕ) (places : List UnlawfulPlace)
    → ((k : ℕ) (place : UnlawfulPlace) → Q k place → P k → ⊥) → All (IsFound count Q) places
    → ((k : ℕ) → k < count → P k) → places ≡ []
no_place P Q count [] apart told lawful = refl
no_place P Q count (place ∷ places) apart told lawful =
    let found = All-head (IsFound count Q) place places told in
    absurd (apart found.0 place found.2 (lawful found.0 found.1))

-- there are no places exactly where P holds of all
pub none_exactly : (P : ℕ → Type 0) (Q : ℕ → UnlawfulPlace → Type 0) (n : ℕ) (places : List UnlawfulPlace)
    → ((k : ℕ) (place : UnlawfulPlace) → Q k place → P k → ⊥) → OneForEach P Q n places
    → (places ≡ []) ↔ ((k : ℕ) → k < n → P k)
none_exactly P Q n places apart each = (
  none_missing P Q n places each,
  no_place P Q n places apart (each_found P Q n n places each (omega arith)),
)
