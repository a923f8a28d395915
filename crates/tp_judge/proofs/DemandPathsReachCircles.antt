-- The path that goes from each number to one that comes before it, until it comes to one of its own.
use Rattle.std.proofs.Common.{◌≡◌, inl, inr, ℕ, zero, suc, ◌+◌, ◌-◌, ◌<◌, ◌≤◌, List, [], ◌∷◌, ◌++◌, length, set, drop}
use Rattle.std.proofs.Common.{replicate, reverse, All, refl, sym, subst, ◌∙◌, ap, slice_index, arith}
use Rattle.std.proofs.lemmas.Bool.{cases_eq}
use Rattle.std.proofs.lemmas.List.{length-drop, length-reverse, length_push, get_or-drop, get_or-reverse}
use Rattle.std.proofs.lemmas.List.{get_or_append_left, get_or_push, get_or-set_same, get_or-set_other}
use Rattle.std.proofs.lemmas.List.Elements.{All-from_get_or}
use Rattle.tp_judge.specs.declared.demand.Demand.{Demand}
use Rattle.tp_judge.specs.Circle.{IsCircle, IsCircleOf, IsDemandedBefore, LeadsThrough, LiesOnCircle}
use Rattle.tp_judge.proofs.OrderProgressGrowth.{zeros}

-- a path over numbers below a limit, from each to one that R has before it, and where each of them stands in it
pub record IsPath (R : ℕ → ℕ → Type 0) (limit : ℕ) (places path : List ℕ) (x : ℕ) : Type 0 where
  pub below : (i : ℕ) → i < length path → slice_index path i < limit
  pub linked : (i : ℕ) → i + 1 < length path
      → R (slice_index path (i + 1)) (slice_index path i)
  pub last : (i : ℕ) → i + 1 ≡ length path → R x (slice_index path i)
  pub placed : (y i : ℕ) → slice_index places y ≡ i + 1 → (i < length path) × (slice_index path i ≡ y)

-- it begins
pub path_begun : (R : ℕ → ℕ → Type 0) (limit n : ℕ) (places path : List ℕ) (x : ℕ) → places ≡ replicate n 0 → path ≡ []
    → IsPath R limit places path x
path_begun R limit n places path x zeroed none =
    let size = ap length none in
    record {
      below = λ i less. absurd (omega (arith, less, size));
      linked = λ i less. absurd (omega (arith, less, size));
      last = λ i is. absurd (omega (arith, is, size));
      placed = λ y i is. absurd (let all = ap (λ p. slice_index p y) zeroed ∙ zeros n y in omega (arith, is, all));
    }

-- and goes on
pub path_more : (R : ℕ → ℕ → Type 0) (limit : ℕ) (places path : List ℕ) (x y : ℕ) → IsPath R limit places path x
    → x < limit → x < length places → R y x
    → IsPath R limit (set places x (length path + 1)) (path ++ x ∷ []) y
path_more R limit places path x y was low small wanted =
    let n = length path in
    let size = length_push path x in
    let new : slice_index (path ++ x ∷ []) n ≡ x = get_or_push path x 0 n refl in
    let old : (i : ℕ) → i < n → slice_index (path ++ x ∷ []) i ≡ slice_index path i = λ i less. get_or_append_left path (x ∷ []) 0 i less in
    record {
      below = λ i less. elim (cases_eq i n) [
        | inl same ↦
            let at : slice_index (path ++ x ∷ []) i ≡ x = ap (λ j. slice_index (path ++ x ∷ []) j) same ∙ new in
            omega (arith, at, low)
        | inr other ↦
            let before : i < n = omega (arith, size, less, other) in
            let e = old i before in
            let w = was.below i before in
            omega (arith, e, w)
      ];
      linked = λ i less.
          let before : i < n = omega (arith, size, less) in
          let P : ℕ → Type 0 = λ z. R (slice_index (path ++ x ∷ []) (i + 1)) z in
          subst P (sym (old i before)) (elim (cases_eq (i + 1) n) [
            | inl same ↦
                let at : slice_index (path ++ x ∷ []) (i + 1) ≡ x = ap (λ j. slice_index (path ++ x ∷ []) j) same ∙ new in
                let Q : ℕ → Type 0 = λ z. R z (slice_index path i) in
                subst Q (sym at) (was.last i same)
            | inr other ↦
                let Q : ℕ → Type 0 = λ z. R z (slice_index path i) in
                let next : i + 1 < n = omega (arith, before, other) in
                subst Q (sym (old (i + 1) next)) (was.linked i next)
          ]);
      last = λ i is.
          let same : i ≡ n = omega (arith, size, is) in
          let at : slice_index (path ++ x ∷ []) i ≡ x = ap (λ j. slice_index (path ++ x ∷ []) j) same ∙ new in
          let P : ℕ → Type 0 = λ z. R y z in
          subst P (sym at) wanted;
      placed = λ z i is. elim (cases_eq z x) [
        | inl same ↦
            let here : slice_index (set places x (n + 1)) z ≡ n + 1 = ap (λ j. slice_index (set places x (n + 1)) j) same ∙ get_or-set_same places x (n + 1) 0 small in
            let at : i ≡ n = omega (arith, here, is) in
            (omega (arith, size, at), ap (λ j. slice_index (path ++ x ∷ []) j) at ∙ new ∙ sym same)
        | inr other ↦
            let p = was.placed z i (sym (get_or-set_other places x z (n + 1) 0 other) ∙ is) in
            (omega (arith, size, p.0), old i p.0 ∙ p.1)
      ];
    }

-- the numbers from a place of the path on, from the last to the first
abbrev pub back_from : ℕ → List ℕ → List ℕ
back_from p path = reverse (drop p path)

back_size : (p : ℕ) (path : List ℕ) → length (back_from p path) ≡ length path - p
back_size p path = length-reverse (drop p path) ∙ length-drop p path

back_at : (p : ℕ) (path : List ℕ) (i j : ℕ) → i + j + 1 ≡ length path → p ≤ j → slice_index (back_from p path) i ≡ slice_index path j
back_at p path i j is low =
    let size = length-drop p path in
    let inside : i < length (drop p path) = omega (arith, size, is, low) in
    let at : p + (length (drop p path) - 1 - i) ≡ j = omega (arith, size, is, low) in
    get_or-reverse (drop p path) i 0 inside ∙ get_or-drop p path (length (drop p path) - 1 - i) 0 ∙ ap (λ k. slice_index path k) at

-- where the path comes to the number at this place, the numbers from there on are a circle
pub path_circle : (R : ℕ → ℕ → Type 0) (limit : ℕ) (places path : List ℕ) (x p : ℕ) → IsPath R limit places path x
    → slice_index places x ≡ p + 1 → IsCircleOf R (back_from p path)
path_circle R limit places path x p was is =
    let here = was.placed x p is in
    let n = length path in
    let size = back_size p path in
    let circle = back_from p path in
    record {
      some = omega (arith, size, here.0);
      next = λ i less.
          let j = n - 2 - i in
          let one : slice_index circle i ≡ slice_index path (j + 1) = back_at p path i (j + 1) (omega (arith, size, less)) (omega (arith, size, less)) in
          let two : slice_index circle (i + 1) ≡ slice_index path j = back_at p path (i + 1) j (omega (arith, size, less)) (omega (arith, size, less)) in
          let P : ℕ → Type 0 = λ z. R z (slice_index circle (i + 1)) in
          let Q : ℕ → Type 0 = λ z. R (slice_index path (j + 1)) z in
          subst P (sym one) (subst Q (sym two) (was.linked j (omega (arith, size, less))));
      round =
          let m = length circle - 1 in
          let first : slice_index circle m ≡ x = back_at p path m p (omega (arith, size, here.0)) (omega arith) ∙ here.1 in
          let last : slice_index circle 0 ≡ slice_index path (n - 1) = back_at p path 0 (n - 1) (omega (arith, here.0)) (omega (arith, here.0)) in
          let P : ℕ → Type 0 = λ z. R z (slice_index circle 0) in
          let Q : ℕ → Type 0 = λ z. R x z in
          subst P (sym first) (subst Q (sym last) (was.last (n - 1) (omega (arith, here.0))));
    }

-- and they are below the limit
pub path_below : (R : ℕ → ℕ → Type 0) (limit : ℕ) (places path : List ℕ) (x p : ℕ) → IsPath R limit places path x
    → p < length path → All (λ y. y < limit) (back_from p path)
path_below R limit places path x p was low =
    let n = length path in
    let size = back_size p path in
    All-from_get_or (λ y. y < limit) (back_from p path) 0 (λ i less.
    let j = n - 1 - i in
    let at = back_at p path i j (omega (arith, size, less)) (omega (arith, size, less)) in
    let w = was.below j (omega (arith, size, less)) in
    omega (arith, at, w))

-- each number of a circle leads to the first
leads_home : (demands : List Demand) (circle : List ℕ) → IsCircle demands circle → (further i : ℕ) → i + further + 1 ≡ length circle
    → LeadsThrough demands further (slice_index circle i) (slice_index circle 0)
leads_home demands circle is zero i at =
    let last : length circle - 1 ≡ i = omega (arith, at) in
    let P : ℕ → Type 0 = λ k. IsDemandedBefore demands (slice_index circle k) (slice_index circle 0) in
    subst P last is.round
leads_home demands circle is (suc further) i at =
    (slice_index circle (i + 1), is.next i (omega (arith, at)), leads_home demands circle is further (i + 1) (omega (arith, at)))

pub lies_first : (demands : List Demand) (circle : List ℕ) → IsCircle demands circle → LiesOnCircle demands (slice_index circle 0)
lies_first demands circle is =
    let some = is.some in
    (length circle - 1, leads_home demands circle is (length circle - 1) 0 (omega (arith, some)))

-- what the walk ends with, where the number that it came to has a place
pub path_ends : (R : ℕ → ℕ → Type 0) (limit : ℕ) (places path : List ℕ) (x q : ℕ) → IsPath R limit places path x
    → q ≡ slice_index places x → (q ≡ 0 → ⊥)
    → (q - 1 < length path) × IsCircleOf R (back_from (q - 1) path) × All (λ y. y < limit) (back_from (q - 1) path)
path_ends R limit places path x q was is some =
    let at : slice_index places x ≡ q - 1 + 1 = omega (arith, is, some) in
    let here = was.placed x (q - 1) at in
    (here.0, path_circle R limit places path x (q - 1) was at, path_below R limit places path x (q - 1) was here.0)
