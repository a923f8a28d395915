-- The names of ports, one after the other.
use Rattle.std.proofs.Common.{◌⊎◌, inl, inr, ◌≡◌, ℕ, ◌+◌, ◌<◌, ◌≤◌, List, [], ◌∷◌, map, Some, position, slice_get, refl, ap, sym, ◌∙◌, arith, subst}
use Rattle.std.proofs.{lemmas.Bool.cases_lt, lemmas.Option.same_Some}
use Rattle.std.specs.Str.{bytes_eq}
use Rattle.tp_checks.specs.Named.{IsAbsent}
use Rattle.tp_config.proofs.ComponentAndPortLookups.{position_map}

-- what holds of the first names, and of one more
pub ports_more : (ports parameters : List (List ℕ)) (i : ℕ) (n : List ℕ) → slice_get ports i ≡ Some n → IsAbsent parameters n
    → ((k : ℕ) (name : List ℕ) → k < i → slice_get ports k ≡ Some name → IsAbsent parameters name)
    → (k : ℕ) (name : List ℕ) → k < i + 1 → slice_get ports k ≡ Some name → IsAbsent parameters name
ports_more ports parameters i n here absent before k name below there = by (cases_lt k i) where
  by : (k < i) ⊎ (i ≤ k) → IsAbsent parameters name
  by (inl earlier) = before k name earlier there
  by (inr later) =
      let at : k ≡ i = omega arith in
      let same : n ≡ name = same_Some n name (sym here ∙ ap (slice_get ports) (sym at) ∙ there) in
      subst (λ m. IsAbsent parameters m) same absent

-- a look-up among the keys, by what is seen of them
module _ {K V : Type 0} (v : K → List ℕ) where
  keys_shown : (es : List (K × V)) → map v (map (λ e. e.0) es) ≡ map (λ e. v e.0) es
  keys_shown [] = refl
  keys_shown (e ∷ es) = ap (λ r. v e.0 ∷ r) (keys_shown es)

  pub position_shown : (es : List (K × V)) (name : List ℕ)
      → position (λ k. bytes_eq name (v k)) (map (λ e. e.0) es) ≡ position (bytes_eq name) (map (λ e. v e.0) es)
  position_shown es name = position_map v (bytes_eq name) (map (λ e. e.0) es) ∙ ap (position (bytes_eq name)) (keys_shown es)
